use Rattle.text_kept_laws.proofs.mangle_laws.short_texts_are_words.Goals as goal
use Rattle.text_kept_laws.proofs.MangleWhole.{short_words}

-- src/mangle_laws.rt
pub returns : goal.returns
returns c = short_words
