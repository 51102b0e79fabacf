use Rattle.swc_base_renaming_laws.proofs.contexts_laws.labels_carry_texts.Goals as goal
use Rattle.swc_base_renaming_laws.proofs.Labels.{labels_carry_texts}

-- src/contexts_laws.rt
pub returns : goal.returns
returns c = labels_carry_texts
