use Rattle.mucwathi_laws.proofs.Texts.{texts_are_kept}
use Rattle.mucwathi_laws.proofs.laws.texts_are_kept.Goals as goal

pub returns : goal.returns
returns c = texts_are_kept c.hygiene_keeps_texts.ensures c.short_names_keep_texts.ensures c.fixer_keeps_texts.ensures c.unparen_keeps_texts.ensures
