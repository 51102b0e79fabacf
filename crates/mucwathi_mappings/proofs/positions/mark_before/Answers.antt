use Rattle.mucwathi_mappings.proofs.Marking.{mark_at}
use Rattle.mucwathi_mappings.proofs.positions.mark_before.Goals as goal

pub returns-then-mark-end-clause-is : goal.returns-then-mark-end-clause-is
returns-then-mark-end-clause-is c = mark_at c.args.text.now c.args.marks.now _ c.in-Some.mark.now c.in-Some.ensures.lookup.3.0 c.in-Some.ensures.lookup.1 c.requires
