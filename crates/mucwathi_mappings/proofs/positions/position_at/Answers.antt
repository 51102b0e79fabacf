use Rattle.mucwathi_mappings.proofs.positions.position_at.Goals as goal

pub walk-requires-clause-here : goal.walk-requires-clause-here
walk-requires-clause-here c = c.mark_before-mark.ensures.is.placed
