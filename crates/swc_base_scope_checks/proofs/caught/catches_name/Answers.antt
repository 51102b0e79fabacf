use Rattle.std.proofs.Common.{not}
use Rattle.swc_base_scope_checks.proofs.Barriers.{names_of_both}
use Rattle.swc_base_scope_checks.proofs.caught.catches_name.Goals as goal

pub returns : goal.returns
returns c = λ opens. names_of_both c.args.program.now (not c.keeps_name-caught.result) (c.keeps_name-caught.ensures opens)
