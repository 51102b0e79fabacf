use Rattle.swc_base_renaming_laws.proofs.labelled_laws.labels_tell_texts.Goals as goal
use Rattle.swc_base_renaming_laws.proofs.Meant.{labels_tell_texts}

-- src/labelled_laws.rt
pub returns : goal.returns
returns c = labels_tell_texts (record {
  loses = c.stripping_answers_loses_none.ensures;
  written = c.written_out_loses_none.ensures;
  tame = c.writable_modules_are_tame.ensures;
  stays = c.normal_form_stays.ensures;
  fit = c.fixed_fits.ensures;
  fits_table = c.fixed_fits_table.ensures;
  bare = c.targets_stand_bare.ensures;
  scripts_lose = c.fixed_scripts_lose_no_name.ensures;
  modules_left = c.writable_normal_form_is_left.ensures;
  scripts_left = c.plain_scripts_are_left.ensures;
  new_names = c.normal_form_has_new_names.ensures;
}) c.texts_are_as_writable.ensures
