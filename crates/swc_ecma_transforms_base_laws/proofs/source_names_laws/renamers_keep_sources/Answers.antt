use Rattle.swc_ecma_transforms_base_laws.proofs.source_names_laws.renamers_keep_sources.Goals as goal
use Rattle.swc_ecma_transforms_base_laws.proofs.SourceNamesKept.{renamers_keep_sources}

-- src/source_names_laws.rt
pub returns : goal.returns
returns c = renamers_keep_sources (record { texts = c.texts_are_as_writable.ensures; modules = c.writable_normal_form_is_left.ensures; scripts = c.plain_scripts_are_left.ensures; targets = c.targets_stand_bare.ensures; tame = c.writable_modules_are_tame.ensures; written = c.written_out_is_left.ensures; stripped_takes = c.stripped_takes_the_same.ensures }) c.names_are_apart.ensures c.chained_is_flat.ensures c.renaming_gives_normal_form_new_texts.ensures c.ids_are_left.ensures c.renamers_keep_meanings.ensures
