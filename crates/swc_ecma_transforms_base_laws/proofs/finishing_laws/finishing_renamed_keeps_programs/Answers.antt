use Rattle.swc_ecma_transforms_base_laws.proofs.finishing_laws.finishing_renamed_keeps_programs.Goals as goal
use Rattle.swc_ecma_transforms_base_laws.proofs.FinishingKept.{renamed_keeps_programs}

-- src/finishing_laws.rt
pub returns : goal.returns
returns c = renamed_keeps_programs c.renaming_stays_fitting.ensures c.renaming_stays_writable.ensures c.renaming_keeps_normal_form.ensures c.fixed_fits.ensures c.normal_form_stays.ensures
