use Rattle.swc_base_fixer_laws.proofs.second_run_changes_nothing.Goals as goal
use Rattle.swc_base_fixer_laws.proofs.BareStarts.{second_run_changes_nothing}

-- src/lib.rt
pub returns : goal.returns
returns c = second_run_changes_nothing
