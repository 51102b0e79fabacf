use Rattle.text_kept_laws.proofs.namings_laws.renaming_keeps_shape.Goals as goal
use Rattle.text_kept_laws.proofs.NamingsWhole.{renaming_shape}

-- src/namings_laws.rt
pub returns : goal.returns
returns c = renaming_shape
