use Rattle.swc_base_rename_analysis_laws.proofs.layouts_are_placed.Goals as goal
use Rattle.swc_base_rename_analysis_laws.proofs.Added.{uses_in}
use Rattle.swc_base_rename_analysis_laws.proofs.Marked.{marked_out}
use Rattle.swc_base_rename_analysis_laws.proofs.Placings.{placed}
use Rattle.swc_base_rename_analysis_laws.proofs.Scoped.{paths_of}

-- src/lib.rt
pub returns : goal.returns
returns c = λ t. (paths_of (marked_out t), uses_in (marked_out t), placed t)
