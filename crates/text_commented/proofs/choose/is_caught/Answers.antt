use Rattle.std.proofs.Common.{sym, ◌∙◌}
use Rattle.text_commented.proofs.Listed.{never}
use Rattle.text_commented.proofs.choose.is_caught.Goals as goal

pub returns-then-not-ends_line : goal.returns-then-not-ends_line
returns-then-not-ends_line c = λ all are. (λ yes. absurd (cc), λ both. absurd (never c.ends_line.result (c.ends_line.ensures ∙ both.0) c.if-not-ends_line.true))

pub returns : goal.returns
returns c = λ all are. (λ yes. (sym c.ends_line.ensures ∙ c.if-not-ends_line.false, (c.has.ensures all are).0 yes), λ both. (c.has.ensures all are).1 both.1)
