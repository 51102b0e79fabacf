use Rattle.swc_base_fixer_laws.proofs.fixer_pairs_once.Goals as goal
use Rattle.swc_base_fixer_laws.proofs.AgainLaws.{all_fixer_pairs_once}

-- src/lib.rt
pub returns : goal.returns
returns c = all_fixer_pairs_once
