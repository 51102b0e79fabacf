use Rattle.swc_tree_sites_kept.proofs.tame_laws.writable_modules_are_tame.Goals as goal
use Rattle.swc_tree_sites_kept.proofs.TameModules.{modules_tame}

-- src/tame_laws.rt
pub returns : goal.returns
returns c = modules_tame
