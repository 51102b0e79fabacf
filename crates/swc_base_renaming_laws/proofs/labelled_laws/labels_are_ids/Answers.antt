use Rattle.swc_base_renaming_laws.proofs.labelled_laws.labels_are_ids.Goals as goal
use Rattle.swc_base_renaming_laws.proofs.Meant.{labels_are_ids}

-- src/labelled_laws.rt
pub returns : goal.returns
returns c = labels_are_ids c.fixed_names_are_left.ensures c.fixed_fits_table.ensures c.targets_stand_bare.ensures c.fixed_scripts_lose_no_name.ensures c.texts_are_as_writable.ensures c.labels_are_meant.ensures c.resolved_names_mean_their_ids.ensures
