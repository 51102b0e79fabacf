-- What a text asks of a tree stays where pairs of parentheses are set in it, and blocks.
use Rattle.swc_tree_node.specs.declared.node.Node.{Node}
use Rattle.swc_tree_node.specs.declared.slot.Slot.{Slot}
use Rattle.swc_tree_node.specs.Fits.{Fits}
use Rattle.swc_tree_grammar.specs.Blocks.{with_blocks}
use Rattle.swc_tree_grammar.specs.Due.{Places, with_due_pairs}
use Rattle.text_grammar.specs.Shaped.{Shaped}
use Rattle.text_checks.specs.Spelled.{Spelled}

-- the due pairs keep lengths, leaves and names
abbrev pub DuePairsKeepShape : Type 0
DuePairsKeepShape = (place : Places) (t : Node) (s : Slot) → Fits t s → Shaped t → Shaped (with_due_pairs place t)

abbrev pub DuePairsKeepSpelling : Type 0
DuePairsKeepSpelling = (place : Places) (t : Node) (s : Slot) → Fits t s → Spelled t → Spelled (with_due_pairs place t)

-- so do blocks round first branches
abbrev pub BlocksKeepShape : Type 0
BlocksKeepShape = (t : Node) → Shaped t → Shaped (with_blocks t)

abbrev pub BlocksKeepSpelling : Type 0
BlocksKeepSpelling = (t : Node) → Spelled t → Spelled (with_blocks t)
