use Rattle.std.proofs.Common.{not}
use Rattle.swc_base_scope_checks.specs.Barriers.{barred}
use Rattle.swc_base_scope_checks.proofs.Barriers.{variables_alone}
use Rattle.swc_base_scope_checks.proofs.caught.keeps_variable.Goals as goal

pub returns : goal.returns
returns c = λ opens. variables_alone (barred c.args.barrier) c.args.program.now (not c.keeps_name.result) (c.keeps_name.ensures opens)
