use Rattle.swc_base_fixer_laws.proofs.fixed_fits.Goals as goal
use Rattle.swc_base_fixer_laws.proofs.Fixed.{fixed_fits}

-- src/lib.rt
pub returns : goal.returns
returns c = fixed_fits
