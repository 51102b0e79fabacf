use Rattle.swc_tree_sites_kept.proofs.ScriptsLeft.{fixed_scripts_lose_no_name}
use Rattle.swc_tree_sites_kept.proofs.scripts_laws.fixed_scripts_lose_no_name.Goals as goal

-- src/scripts_laws.rt
pub returns : goal.returns
returns c = fixed_scripts_lose_no_name
