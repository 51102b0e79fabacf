use Rattle.text_kept_laws.proofs.stripping_laws.unparen_keeps_spelling.Goals as goal
use Rattle.text_kept_laws.proofs.StrippingWhole.{unparen_spelling}

-- src/stripping_laws.rt
pub returns : goal.returns
returns c = unparen_spelling
