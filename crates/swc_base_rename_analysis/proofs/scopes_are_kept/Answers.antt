use Rattle.swc_base_rename_analysis.proofs.scopes_are_kept.Goals as goal
use Rattle.swc_base_rename_analysis.proofs.Kept.{keeps_scopes}

-- src/lib.rt
pub returns : goal.returns
returns c = keeps_scopes
