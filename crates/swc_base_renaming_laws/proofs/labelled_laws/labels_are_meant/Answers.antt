use Rattle.swc_base_renaming_laws.proofs.labelled_laws.labels_are_meant.Goals as goal
use Rattle.swc_base_renaming_laws.proofs.Meant.{labels_are_meant}

-- src/labelled_laws.rt
pub returns : goal.returns
returns c = labels_are_meant c.fixed_names_are_left.ensures c.fixed_fits_table.ensures c.targets_stand_bare.ensures c.fixed_scripts_lose_no_name.ensures c.texts_are_as_writable.ensures c.names_are_apart.ensures c.labels_tell_texts.ensures c.left_mean_their_ids.ensures
