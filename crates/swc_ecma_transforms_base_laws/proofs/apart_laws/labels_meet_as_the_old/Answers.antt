use Rattle.swc_ecma_transforms_base_laws.proofs.apart_laws.labels_meet_as_the_old.Goals as goal
use Rattle.swc_ecma_transforms_base_laws.proofs.Apart.{labels_meet_as_the_old}

-- src/apart_laws.rt
pub returns : goal.returns
returns c = labels_meet_as_the_old c.due_pairs_keep_meetings.ensures c.blocks_add_no_pairs.ensures c.stripping_adds_no_pairs.ensures c.programs_take_all.ensures c.substitution_keeps_meetings.ensures c.targets_stand_bare.ensures
