use Rattle.swc_ecma_transforms_base_laws.proofs.finishing_laws.finishing_renamed_keeps_meanings.Goals as goal
use Rattle.swc_ecma_transforms_base_laws.proofs.FinishingKept.{renamed_keeps_meanings}

-- src/finishing_laws.rt
pub returns : goal.returns
returns c = renamed_keeps_meanings c.renaming_stays_fitting.ensures c.renaming_stays_writable.ensures c.renaming_stays_settled.ensures c.targets_stand_bare.ensures c.fixed_fits.ensures c.fixed_fits_table.ensures c.fixer_stays_clean.ensures c.fixed_scripts_lose_no_name.ensures c.normal_form_stays.ensures c.renamers_keep_meanings.ensures
