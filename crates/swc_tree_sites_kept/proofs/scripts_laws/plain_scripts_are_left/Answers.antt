use Rattle.swc_tree_sites_kept.proofs.ScriptsLeft.{plain_scripts_are_left}
use Rattle.swc_tree_sites_kept.proofs.scripts_laws.plain_scripts_are_left.Goals as goal

-- src/scripts_laws.rt
pub returns : goal.returns
returns c = plain_scripts_are_left
