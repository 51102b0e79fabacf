use Rattle.swc_base_fixer_laws.proofs.stripping_keeps_writable.Goals as goal
use Rattle.swc_base_fixer_laws.proofs.Fixed.{stripping_keeps_writable}

-- src/lib.rt
pub returns : goal.returns
returns c = stripping_keeps_writable
