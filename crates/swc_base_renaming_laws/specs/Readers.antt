-- No step of hygiene and of the fixer adds what reads names as a program runs.
use Rattle.std.specs.Prelude.{◌≡◌, ◌≢◌, false, Some, codes}
use Rattle.swc_tree_node.specs.declared.slot.Slot.{Slot}
use Rattle.swc_tree_node.specs.declared.node.Node.{Node}
use Rattle.swc_tree_node.specs.Fits.{Fits}
use Rattle.swc_tree_scoping.specs.Readings.{by_texts}
use Rattle.swc_tree_grammar.specs.Blocks.{with_blocks}
use Rattle.swc_tree_grammar.specs.Due.{Places, with_due_pairs}
use Rattle.swc_tree_grammar.specs.Stripped.{stripped}
use Rattle.swc_tree_grammar.specs.Writable.{Writable}
use Rattle.swc_base_rename_substitution.specs.declared.place.Place.{Place}
use Rattle.swc_base_rename_substitution.specs.Identifiers.{Changes}
use Rattle.swc_base_rename_substitution.specs.Names.{Id}
use Rattle.swc_base_rename_substitution.specs.Substituted.{substituted}
use Rattle.swc_base_rename_units.specs.Eval.{HasEval}

-- with its blocks a tree reads no more
abbrev pub BlocksAddNoReader : Type 0
BlocksAddNoReader = (t : Node) → HasEval (with_blocks t) → HasEval t

-- nor with its due pairs
abbrev pub DuePairsAddNoReader : Type 0
DuePairsAddNoReader = (place : Places) (t : Node) (s : Slot) → Fits t s → HasEval (with_due_pairs place t) → HasEval t

-- nor once it is stripped, where it can be written down: each sequence in it has two items, so that none becomes the name `eval`
abbrev pub StrippingAddsNoReader : Type 0
StrippingAddsNoReader = (t : Node) (s : Slot) → Fits t s → Writable t → HasEval (stripped t) → HasEval t

-- nor with new names, of which none is `eval`, where classes don't keep theirs
abbrev pub NewNamesAddNoReader : Type 0
NewNamesAddNoReader = (m : Changes) (p : Place) (t : Node) → ((x y : Id) → m x ≡ Some y → y.0 ≢ codes "eval") → HasEval (substituted m false p t) → HasEval t

-- and contexts don't matter
abbrev pub ContextsAddNoReader : Type 0
ContextsAddNoReader = (t : Node) → HasEval (by_texts t) → HasEval t
