-- What pieces of a tree another one has.
use Rattle.std.specs.Prelude.{◌≡◌, ℕ, false, IsTrue}
use Rattle.swc_tree_marks.specs.Globals.{Table}
use Rattle.swc_tree_node.specs.declared.node.Node.{Node}
use Rattle.swc_tree_node.specs.declared.slot.Slot.{Slot}
use Rattle.swc_tree_node.specs.Fits.{Fits}
use Rattle.swc_tree_scoping.specs.Resolved.{Resolved}
use Rattle.swc_tree_renaming.specs.Apart.{is_goal}
use Rattle.swc_tree_grammar.specs.Due.{Places, with_due_pairs}
use Rattle.swc_tree_grammar.specs.Normal.{normal_form}
use Rattle.swc_tree_grammar.specs.Same.{SameButForBoundNames, declared_names}
use Rattle.swc_tree_grammar.specs.Writable.{is_writable}
use Rattle.swc_base_rename_substitution.specs.Identifiers.{Changes}
use Rattle.swc_base_rename_substitution.specs.Substituted.{Substituted}
use Rattle.swc_base_rename_laws.specs.Laws.{IsProgram}
use Rattle.swc_base_rename_laws.specs.NewNames.{SameButForNames}
use Rattle.text_pieces.specs.Pieces.{pieces}
use Rattle.text_kept_laws.specs.Bound.{SameButBound}
use Rattle.text_kept_laws.specs.Paired.{WithPairs}
use Rattle.text_kept_laws.specs.Unnamed.{SameButNames}

-- a resolver changes no piece
abbrev pub ResolverKeepsPieces : Type 0
ResolverKeepsPieces = (unresolved top : ℕ) (old new : Table) (source answer : Node) → Resolved unresolved top old new source answer → pieces answer ≡ pieces source

-- two trees that are the same but for the texts and the contexts of identifiers, as the normal forms of a source and of what a chain makes of
-- it, have the same pieces but for what these name
abbrev pub NamesAloneDiffer : Type 0
NamesAloneDiffer = (t u : Node) → SameButForNames t u → SameButNames (pieces t) (pieces u)

-- with all written out, two programs that have one normal form but for the names that the first one binds, as a source and what a chain makes of
-- it, have the same pieces but for these names
abbrev pub BoundNamesAloneDiffer : Type 0
BoundNamesAloneDiffer = (t u : Node) → SameButForBoundNames t u → SameButBound (declared_names t) (pieces (normal_form t)) (pieces (normal_form u))

-- so a writable program and what it becomes with names given anew, both with all written out, have
abbrev pub NewNamesKeepPieces : Type 0
NewNamesKeepPieces = (m : Changes) (tree answer : Node) → IsProgram tree → IsTrue (is_writable tree) → Substituted m false tree answer → SameButNames (pieces (normal_form tree)) (pieces (normal_form answer))

-- with its due pairs a program has its pieces, and pairs of parentheses round some of them
abbrev pub PairsAloneAreSet : Type 0
PairsAloneAreSet = (place : Places) (t : Node) (goal : Slot) → IsTrue (is_goal goal) → Fits t goal → WithPairs (pieces t) (pieces (with_due_pairs place t))
