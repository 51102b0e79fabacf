use Rattle.swc_tree_sites_kept.proofs.tame_laws.writable_normal_form_is_left.Goals as goal
use Rattle.swc_tree_sites_kept.proofs.TameModules.{normal_form_left}

-- src/tame_laws.rt
pub returns : goal.returns
returns c = normal_form_left
