use Rattle.std.proofs.Common.{map}
use Rattle.jsbase_writer.proofs.Places.{Gathers, row}
use Rattle.jsbase_writer.proofs.members.members_of.Given as goal

abbrev pub invariant-loop-field : goal.invariant-loop-field
invariant-loop-field l = Gathers l.fn.kind l.fn.nodes (map row l.field-iterator.a.rest.now) l.field-iterator.b.rest.now l.members.items
