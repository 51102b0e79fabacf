use Rattle.swc_base_renaming_laws.proofs.new_texts_laws.renaming_gives_normal_form_new_texts.Goals as goal
use Rattle.swc_base_renaming_laws.proofs.NewTexts.{renaming_gives_normal_form_new_texts}

-- src/new_texts_laws.rt
pub returns : goal.returns
returns c = renaming_gives_normal_form_new_texts
