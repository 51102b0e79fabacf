use Rattle.swc_base_fixer_laws.proofs.Fixed.{fixed_fits_table}
use Rattle.swc_base_fixer_laws.proofs.fixed_fits_table.Goals as goal

-- src/lib.rt
pub returns : goal.returns
returns c = fixed_fits_table
