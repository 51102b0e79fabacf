use Rattle.swc_base_renaming_laws.proofs.labelled_laws.loose_names_were_loose.Goals as goal
use Rattle.swc_base_renaming_laws.proofs.Loose.{loose_names_were_loose}

-- src/labelled_laws.rt
pub returns : goal.returns
returns c = loose_names_were_loose c.fixed_names_are_left.ensures c.fixed_fits_table.ensures c.targets_stand_bare.ensures c.fixed_scripts_lose_no_name.ensures c.texts_are_as_writable.ensures c.labels_are_ids.ensures
