use Rattle.swc_tree_sites_written.proofs.normal_form_is_left.Goals as goal
use Rattle.swc_tree_sites_written.proofs.NormalForms.{normal_left}

-- src/lib.rt
pub returns : goal.returns
returns c = normal_left
