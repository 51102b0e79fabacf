use Rattle.std.proofs.Common.{ap}
use Rattle.text_commented.specs.Chosen.{within}
use Rattle.text_commented.specs.declared.remark.At.TheVariants as stand
use Rattle.text_commented.proofs.Chosen.{nearest_found}
use Rattle.text_commented.proofs.choose.found_apart.Goals as goal

pub returns-in-Some : goal.returns-in-Some
returns-in-Some c = λ text all are alone. let closes = c.in-Some.ensures all are in within alone closes.1 (ap stand.Trails closes.0)

pub returns-in-None : goal.returns-in-None
returns-in-None c = λ text all are alone. nearest_found text all c.args.comment c.nearest.result alone (c.in-None.ensures all are) (c.nearest.ensures all are)
