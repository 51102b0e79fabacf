use Rattle.text_checks.proofs.lax.is_sloppy_word.Goals as goal

pub returns : goal.returns
returns c = c.is_one_of.ensures
