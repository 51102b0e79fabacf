use Rattle.swc_base_fixer_laws.proofs.no_pair_in_pair.Goals as goal
use Rattle.swc_base_fixer_laws.proofs.AgainLaws.{all_no_pair_in_pair}

-- src/lib.rt
pub returns : goal.returns
returns c = all_no_pair_in_pair
