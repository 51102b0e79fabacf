use Rattle.text_kept_laws.proofs.spelling_laws.new_names_keep_spelling.Goals as goal
use Rattle.text_kept_laws.proofs.SpellingWhole.{spelling_stays}

-- src/spelling_laws.rt
pub returns : goal.returns
returns c = spelling_stays
