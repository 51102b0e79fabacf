use Rattle.swc_base_alpha.proofs.Judged.{first_caught, second_caught}
use Rattle.swc_base_alpha.proofs.judging.are_caught.Goals as goal

pub returns-then-branch : goal.returns-then-branch
returns-then-branch c = λ t s here there own own_too. first_caught t s c.in_ok-is_caught.field-0 c.if-branch.true (c.in_ok-is_caught.ensures t here own)

pub returns : goal.returns
returns c = λ t s here there own own_too. second_caught t s c.in_ok-is_caught.field-0 c.is_caught-2.result c.if-branch.false (c.in_ok-is_caught.ensures t here own) (c.is_caught-2.ensures s there own_too)
