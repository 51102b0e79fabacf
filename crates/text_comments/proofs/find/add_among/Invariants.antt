use Rattle.std.proofs.Common.{◌≡◌, ◌++◌, ◌-◌, length}
use Rattle.text_comments.specs.Comments.{among}
use Rattle.text_comments.proofs.find.add_among.Given as goal

abbrev pub invariant-blanks : goal.invariant-blanks
invariant-blanks l =
    l.found.items ++ among (length l.text - l.turn) l.source.comments l.source.whole.now l.between.trails l.between.leads l.ended l.rest
    ≡ l.initial.found.items ++ among (length l.text) l.source.comments l.source.whole.now l.between.trails l.between.leads l.fresh l.text
