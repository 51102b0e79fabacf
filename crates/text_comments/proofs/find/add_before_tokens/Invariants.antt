use Rattle.std.proofs.Common.{◌≡◌, ◌++◌, ◌-◌, length}
use Rattle.text_comments.specs.Comments.{before_tokens}
use Rattle.text_comments.proofs.find.add_before_tokens.Given as goal

abbrev pub invariant-tokens : goal.invariant-tokens
invariant-tokens l =
    l.found.items ++ before_tokens (length l.text - l.turn) l.source.comments l.goal l.source.whole.now l.first l.left l.rest
    ≡ l.initial.found.items ++ before_tokens (length l.text) l.source.comments l.goal l.source.whole.now l.fresh l.text l.rest
