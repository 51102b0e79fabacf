use Rattle.std.proofs.Common.{sym, ◌∙◌}
use Rattle.text_commented.specs.Places.{all_places, tight_places}
use Rattle.text_commented.proofs.Listed.{never}
use Rattle.text_commented.proofs.left.why_of.Goals as goal

pub returns-then-not-is_placed : goal.returns-then-not-is_placed
returns-then-not-is_placed c = λ ps are tight.
    (sym c.is_one_comment-is_one.ensures ∙ c.if-not-is_one.false, λ among. never c.has-is_placed.result ((c.has-is_placed.ensures (all_places ps) are).1 among) c.if-not-is_placed.true)

pub returns : goal.returns
returns c = λ ps are tight.
    (sym c.is_one_comment-is_one.ensures ∙ c.if-not-is_one.false, sym c.ends_line-ends.ensures ∙ c.if-not-ends.false, (c.has-is_tight.ensures (tight_places ps) tight).0 c.if-not-is_tight.false)
