use Rattle.text_kept_laws.proofs.namings_laws.hygiene_gives_new_words.Goals as goal
use Rattle.text_kept_laws.proofs.NamingsWhole.{hygiene_words}

-- src/namings_laws.rt
pub returns : goal.returns
returns c = hygiene_words
