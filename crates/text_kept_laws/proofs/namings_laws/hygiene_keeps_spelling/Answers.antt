use Rattle.text_kept_laws.proofs.namings_laws.hygiene_keeps_spelling.Goals as goal
use Rattle.text_kept_laws.proofs.NamingsWhole.{hygiene_spelling}

-- src/namings_laws.rt
pub returns : goal.returns
returns c = hygiene_spelling
