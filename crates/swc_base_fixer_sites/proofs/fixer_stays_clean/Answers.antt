use Rattle.swc_base_fixer_sites.proofs.Clean.{fixed_clean}
use Rattle.swc_base_fixer_sites.proofs.fixer_stays_clean.Goals as goal

-- src/lib.rt
pub returns : goal.returns
returns c = fixed_clean
