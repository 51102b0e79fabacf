-- Laws of the due pairs.
use Rattle.std.specs.Prelude.{true, false, IsTrue}
use Rattle.swc_tree_node.specs.declared.node.Node.{Node}
use Rattle.swc_tree_node.specs.declared.slot.Slot.{Slot}
use Rattle.swc_tree_node.specs.Fits.{Fits}
use Rattle.swc_tree_grammar.specs.Blocks.{with_blocks}
use Rattle.swc_tree_grammar.specs.Due.{Places, paired_by_level, paired_in_heads, paired_at_starts}
use Rattle.swc_tree_grammar.specs.Grammar.{FitsGrammar}
use Rattle.swc_tree_grammar.specs.Writable.{Writable}
use Rattle.swc_tree_grammar_laws.specs.Levelled.{levelled}
use Rattle.swc_tree_grammar_laws.specs.Headed.{headed}
use Rattle.swc_tree_grammar_laws.specs.Started.{started}
use Rattle.swc_tree_grammar_laws.specs.Plain.{plain}

-- each step settles what it is for, whatever tree it is given
abbrev pub LevelsAreSettled : Type 0
LevelsAreSettled = (place : Places) (t : Node) → IsTrue (levelled (paired_by_level place t) false)

abbrev pub HeadsAreSettled : Type 0
HeadsAreSettled = (place : Places) (t : Node) → IsTrue (headed (paired_in_heads place t) true)

abbrev pub StartsAreSettled : Type 0
StartsAreSettled = (place : Places) (t : Node) → IsTrue (started (paired_at_starts place t))

-- what fits the table is plain once its branches have their blocks
abbrev pub BlockedIsPlain : Type 0
BlockedIsPlain = (t : Node) (s : Slot) → Fits t s → IsTrue (plain (with_blocks t))

-- what is plain, writable and passes the tests of the three steps, the grammar derives
abbrev pub TestsAddUp : Type 0
TestsAddUp = (t : Node) → IsTrue (plain t) → Writable t → IsTrue (levelled t false) → IsTrue (headed t true) → IsTrue (started t) → FitsGrammar t
