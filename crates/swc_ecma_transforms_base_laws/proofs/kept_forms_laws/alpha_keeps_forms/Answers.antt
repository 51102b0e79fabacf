use Rattle.swc_ecma_transforms_base_laws.proofs.Forms.{alpha_keeps_forms}
use Rattle.swc_ecma_transforms_base_laws.proofs.kept_forms_laws.alpha_keeps_forms.Goals as goal

-- src/kept_forms_laws.rt
pub returns : goal.returns
returns c = alpha_keeps_forms (record { texts = c.texts_are_as_writable.ensures; modules = c.writable_normal_form_is_left.ensures; scripts = c.plain_scripts_are_left.ensures; targets = c.targets_stand_bare.ensures; tame = c.writable_modules_are_tame.ensures; written = c.written_out_is_left.ensures; stripped_takes = c.stripped_takes_the_same.ensures }) c.normal_form_is_clean.ensures
