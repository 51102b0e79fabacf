use Rattle.swc_ecma_transforms_base_laws.proofs.source_names_laws.normal_names_mean_their_ids.Goals as goal
use Rattle.swc_ecma_transforms_base_laws.proofs.SourceNamesKept.{normal_names_mean_their_ids}

-- src/source_names_laws.rt
pub returns : goal.returns
returns c = normal_names_mean_their_ids (record { texts = c.texts_are_as_writable.ensures; modules = c.writable_normal_form_is_left.ensures; scripts = c.plain_scripts_are_left.ensures; targets = c.targets_stand_bare.ensures; tame = c.writable_modules_are_tame.ensures; written = c.written_out_is_left.ensures; stripped_takes = c.stripped_takes_the_same.ensures })
