use Rattle.swc_tree_sites_kept.proofs.tame_laws.writable_scripts_are_tame.Goals as goal
use Rattle.swc_tree_sites_kept.proofs.TameModules.{scripts_tame}

-- src/tame_laws.rt
pub returns : goal.returns
returns c = scripts_tame
