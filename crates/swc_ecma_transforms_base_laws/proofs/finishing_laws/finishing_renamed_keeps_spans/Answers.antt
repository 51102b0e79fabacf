use Rattle.swc_ecma_transforms_base_laws.proofs.finishing_laws.finishing_renamed_keeps_spans.Goals as goal
use Rattle.swc_ecma_transforms_base_laws.proofs.FinishingKept.{renamed_keeps_spans}

-- src/finishing_laws.rt
pub returns : goal.returns
returns c = renamed_keeps_spans c.renaming_stays_fitting.ensures c.renaming_keeps_spans.ensures c.normal_form_stays.ensures
