-- What the fixer keeps of the names of a module, each with the scopes round it, and that it adds no context.
use Rattle.std.specs.Prelude.{◌≡◌, IsTrue}
use Rattle.swc_tree_node.specs.declared.kind.Class.TheVariants as class
use Rattle.swc_tree_node.specs.declared.slot.Content.TheVariants as content
use Rattle.swc_tree_node.specs.declared.slot.Slot.{Slot}
use Rattle.swc_tree_node.specs.declared.slot.Slot.TheVariants as slot
use Rattle.swc_tree_node.specs.declared.node.Node.{Node}
use Rattle.swc_tree_node.specs.Fits.{Fits}
use Rattle.swc_tree_scoping.specs.Places.{program_place}
use Rattle.swc_tree_scoping.specs.Readings.{by_texts}
use Rattle.swc_tree_scoping.specs.WellScoped.{IsClean}
use Rattle.swc_tree_grammar.specs.Due.{Places, with_due_pairs}
use Rattle.swc_tree_grammar.specs.Fixed.{fixed}
use Rattle.swc_tree_grammar.specs.Places.{is_open}
use Rattle.swc_tree_grammar.specs.Stripped.{stripped}
use Rattle.swc_tree_grammar.specs.Targets.{all_bare}
use Rattle.swc_tree_grammar.specs.Writable.{Writable}
use Rattle.swc_tree_sites.specs.Sites.{sites_of}

-- a module with its due pairs has its names and scopes
abbrev pub DuePairsKeepNames : Type 0
DuePairsKeepNames = (place : Places) (t : Node) → Fits t (slot.One (content.Node class.Module)) → sites_of program_place (with_due_pairs place t) ≡ sites_of program_place t

-- so the fixer's answer, stripped, has all names and scopes of the answer
abbrev pub StrippingAnswersLosesNone : Type 0
StrippingAnswersLosesNone = (place : Places) (t : Node) → Fits t (slot.One (content.Node class.Module)) → Writable t → sites_of program_place (stripped (fixed place t)) ≡ sites_of program_place (fixed place t)

-- the answer to a tree whose contexts were emptied has none, where each parenthesised target can stand bare
abbrev pub FixerStaysClean : Type 0
FixerStaysClean = (place : Places) (t u : Node) (s : Slot) → IsTrue (is_open s) → Fits t s → IsTrue (all_bare t) → t ≡ by_texts u → IsClean (fixed place t)
