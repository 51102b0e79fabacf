use Rattle.swc_base_rename_analysis.proofs.few_scopes_are_added.Goals as goal
use Rattle.swc_base_rename_analysis.proofs.Added.{adds_few}

-- src/lib.rt
pub returns : goal.returns
returns c = adds_few
