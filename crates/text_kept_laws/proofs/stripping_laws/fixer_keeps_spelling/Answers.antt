use Rattle.text_kept_laws.proofs.stripping_laws.fixer_keeps_spelling.Goals as goal
use Rattle.text_kept_laws.proofs.StrippingWhole.{fixer_spelling}

-- src/stripping_laws.rt
pub returns : goal.returns
returns c = fixer_spelling
