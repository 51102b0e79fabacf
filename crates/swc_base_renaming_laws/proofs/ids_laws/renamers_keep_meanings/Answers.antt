use Rattle.swc_base_renaming_laws.proofs.ids_laws.renamers_keep_meanings.Goals as goal
use Rattle.swc_base_renaming_laws.proofs.Join.{renamers_keep_meanings}

-- src/ids_laws.rt
pub returns : goal.returns
returns c = renamers_keep_meanings c.names_are_apart.ensures c.chained_is_flat.ensures c.renaming_gives_normal_form_new_texts.ensures c.writable_normal_form_is_left.ensures c.plain_scripts_are_left.ensures c.ids_are_left.ensures c.left_mean_their_ids.ensures
