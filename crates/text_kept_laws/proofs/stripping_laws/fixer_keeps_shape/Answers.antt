use Rattle.text_kept_laws.proofs.stripping_laws.fixer_keeps_shape.Goals as goal
use Rattle.text_kept_laws.proofs.StrippingWhole.{fixer_shape}

-- src/stripping_laws.rt
pub returns : goal.returns
returns c = fixer_shape
