use Rattle.swc_base_renaming_laws.proofs.ids_laws.renamers_keep_ids.Goals as goal
use Rattle.swc_base_renaming_laws.proofs.Join.{renamers_keep_ids}

-- src/ids_laws.rt
pub returns : goal.returns
returns c = renamers_keep_ids c.names_are_apart.ensures c.chained_is_flat.ensures c.renaming_gives_normal_form_new_texts.ensures c.writable_normal_form_is_left.ensures c.plain_scripts_are_left.ensures c.ids_are_left.ensures c.targets_stand_bare.ensures c.writable_modules_are_tame.ensures
    c.written_out_is_left.ensures c.stripped_takes_the_same.ensures c.texts_are_as_writable.ensures c.left_keeps_ids.ensures
