use Rattle.text_kept_laws.proofs.namings_laws.hygiene_keeps_shape.Goals as goal
use Rattle.text_kept_laws.proofs.NamingsWhole.{hygiene_shape}

-- src/namings_laws.rt
pub returns : goal.returns
returns c = hygiene_shape
