use Rattle.swc_base_renaming_laws.proofs.carried_laws.labelled_answers_are_apart.Goals as goal
use Rattle.swc_base_renaming_laws.proofs.Carried.{labelled_answers_are_apart}

-- src/carried_laws.rt
pub returns : goal.returns
returns c = labelled_answers_are_apart c.hygiene_tells_met_apart.ensures c.labels_carry_apart.ensures c.labels_tell_texts.ensures c.labels_are_ids.ensures c.loose_names_were_loose.ensures c.meetings_are_met.ensures c.pairs_meet.ensures
