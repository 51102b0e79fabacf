use Rattle.swc_ecma_transforms_base_laws.proofs.source_names_laws.normal_forms_catch_none.Goals as goal
use Rattle.swc_ecma_transforms_base_laws.proofs.SourceNamesKept.{normal_forms_catch_none}

-- src/source_names_laws.rt
pub returns : goal.returns
returns c = normal_forms_catch_none (record { texts = c.texts_are_as_writable.ensures; modules = c.writable_normal_form_is_left.ensures; scripts = c.plain_scripts_are_left.ensures; targets = c.targets_stand_bare.ensures; tame = c.writable_modules_are_tame.ensures; written = c.written_out_is_left.ensures; stripped_takes = c.stripped_takes_the_same.ensures })
