use Rattle.std.proofs.Common.{length}
use Rattle.swc_tree_node.specs.declared.slot.Slot.TheVariants as slot
use Rattle.jsbase_reader.proofs.OneByOne.{Taking}
use Rattle.jsbase_reader.proofs.streamed.read_items.Given as goal

abbrev pub invariant-loop-content : goal.invariant-loop-content
invariant-loop-content l = Taking l.depth l.globals (slot.One l.content) l.initial.reader l.reader l.nodes

abbrev pub decreases-loop-content : goal.decreases-loop-content
decreases-loop-content l = length l.reader
