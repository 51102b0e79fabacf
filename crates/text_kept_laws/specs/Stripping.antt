-- What a text asks of a tree stays where pairs of parentheses are taken off, and where due ones are set in their place.
use Rattle.std.specs.Prelude.{IsTrue}
use Rattle.swc_tree_node.specs.declared.node.Node.{Node}
use Rattle.swc_tree_node.specs.declared.slot.Slot.{Slot}
use Rattle.swc_tree_node.specs.Fits.{Fits}
use Rattle.swc_tree_grammar.specs.Blocks.{with_blocks}
use Rattle.swc_tree_grammar.specs.Due.{Places}
use Rattle.swc_tree_grammar.specs.Fixed.{fixed}
use Rattle.swc_tree_grammar.specs.Places.{is_open}
use Rattle.swc_tree_grammar.specs.Stripped.{stripped}
use Rattle.swc_tree_grammar.specs.Targets.{all_bare}
use Rattle.text_grammar.specs.Shaped.{Shaped}
use Rattle.text_checks.specs.Spelled.{Spelled}

-- a tree whose parenthesised targets can stand bare keeps lengths, leaves and names without its pairs, and with blocks
abbrev pub UnparenKeepsShape : Type 0
UnparenKeepsShape = (t : Node) (s : Slot) → IsTrue (all_bare t) → Fits t s → Shaped t → Shaped (with_blocks (stripped t))

abbrev pub UnparenKeepsSpelling : Type 0
UnparenKeepsSpelling = (t : Node) (s : Slot) → IsTrue (all_bare t) → Fits t s → Spelled t → Spelled (with_blocks (stripped t))

-- and so does it with its due pairs in their place
abbrev pub FixerKeepsShape : Type 0
FixerKeepsShape = (place : Places) (t : Node) (s : Slot) → IsTrue (all_bare t) → IsTrue (is_open s) → Fits t s → Shaped t → Shaped (fixed place t)

abbrev pub FixerKeepsSpelling : Type 0
FixerKeepsSpelling = (place : Places) (t : Node) (s : Slot) → IsTrue (all_bare t) → IsTrue (is_open s) → Fits t s → Spelled t → Spelled (fixed place t)
