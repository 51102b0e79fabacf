-- Laws of the pairs that are needed or stand for a reader.
use Rattle.std.specs.Prelude.{IsTrue}
use Rattle.swc_tree_node.specs.declared.node.Node.{Node}
use Rattle.swc_tree_node.specs.declared.slot.Slot.{Slot}
use Rattle.swc_tree_node.specs.Fits.{Fits}
use Rattle.swc_tree_grammar.specs.Stripped.{is_pairless}
use Rattle.swc_tree_grammar.specs.Due.{Places, paired_by_level, paired_in_heads, with_due_pairs}
use Rattle.swc_tree_grammar.specs.Fixed.{fixed}
use Rattle.swc_tree_grammar.specs.Places.{is_open}
use Rattle.swc_tree_grammar.specs.Needed.{NoIdlePair}
use Rattle.swc_tree_grammar.specs.Writable.{Writable}
use Rattle.swc_base_fixer_needs.specs.Sites.{any}
use Rattle.swc_base_fixer_needs.specs.Reasons.{Extent, Due, nothing}
use Rattle.swc_base_fixer_needs.specs.Reasons.Extent.{Reasoned, Seen, ByLevel}
use Rattle.swc_base_fixer_needs.specs.Keys.{names_constructors}

-- a pair that is seen and has a reason to stand where it does is not idle
abbrev pub ReasonsAreNeeds : Type 0
ReasonsAreNeeds = (t : Node) → Due Seen nothing any t → NoIdlePair t

-- in a tree of the table whose constructors have names, a pair that has a reason is seen, so it is not idle
abbrev pub ReasonsAreSeen : Type 0
ReasonsAreSeen = (x : Extent) (t : Node) (s : Slot) → Fits t s → IsTrue (names_constructors t) → Due x nothing any t → NoIdlePair t

-- each pair that the first step sets has a reason of its level, or the reader's table names its content
abbrev pub LevelsHaveReasons : Type 0
LevelsHaveReasons = (place : Places) (t : Node) → IsTrue (is_pairless t) → Due ByLevel nothing any (paired_by_level place t)

-- so no pair is idle after the first step
abbrev pub LevelsAreNeeded : Type 0
LevelsAreNeeded = (place : Places) (t : Node) (s : Slot) → Fits t s → IsTrue (is_pairless t) → IsTrue (names_constructors t) → NoIdlePair (paired_by_level place t)

-- with the second step each pair still has a reason, or has one of its head
abbrev pub HeadsHaveReasons : Type 0
HeadsHaveReasons = (place : Places) (t : Node) → IsTrue (is_pairless t) → Due Reasoned nothing any (paired_in_heads place (paired_by_level place t))

-- so no pair is idle after the second step
abbrev pub HeadsAreNeeded : Type 0
HeadsAreNeeded = (place : Places) (t : Node) (s : Slot) → Fits t s → IsTrue (is_pairless t) → IsTrue (names_constructors t) → NoIdlePair (paired_in_heads place (paired_by_level place t))

-- in a tree of the table that can be written down each constructor has a name as its key
abbrev pub WritableNamesConstructors : Type 0
WritableNamesConstructors = (t : Node) (s : Slot) → Fits t s → Writable t → IsTrue (names_constructors t)

-- with the third step too: of a tree of the table each due pair has a reason, or one of its head or of its start
abbrev pub StartsHaveReasons : Type 0
StartsHaveReasons = (place : Places) (t : Node) (s : Slot) → Fits t s → IsTrue (is_pairless t) → Due Reasoned nothing any (with_due_pairs place t)

-- so no due pair is idle
abbrev pub DuePairsAreNeeded : Type 0
DuePairsAreNeeded = (place : Places) (t : Node) (s : Slot) → Fits t s → IsTrue (is_pairless t) → IsTrue (names_constructors t) → NoIdlePair (with_due_pairs place t)

-- and of what can be written down no pair of the answer is idle
abbrev pub FixedIsNeeded : Type 0
FixedIsNeeded = (place : Places) (t : Node) (s : Slot) → IsTrue (is_open s) → Fits t s → Writable t → NoIdlePair (fixed place t)
