-- What a text asks of a tree stays where a renamer gives names to a program in which nothing reads them.
use Rattle.std.specs.Prelude.{◌≡◌, ◌≢◌, ◌<◌, ◌^◌, ℕ, Some}
use Rattle.swc_tree_marks.specs.declared.ident.Ident.{Ident}
use Rattle.swc_tree_marks.specs.Globals.{Table}
use Rattle.swc_tree_node.specs.declared.kind.Kind.{Kind}
use Rattle.swc_tree_node.specs.declared.node.Node.{Node, Identifier}
use Rattle.swc_tree_node.specs.declared.slot.Slot.{Slot}
use Rattle.swc_tree_node.specs.Fits.{Fits}
use Rattle.swc_tree_scoping.specs.Places.{Path}
use Rattle.swc_tree_walk.specs.Nodes.{node_at}
use Rattle.swc_base_rename_substitution.specs.declared.config.Config.{Config}
use Rattle.swc_base_rename_analysis.specs.Named.{Renaming}
use Rattle.swc_base_rename_program.specs.Renamed.{IsHygienic, IsRead, IsRenamedBy, hygiene_renaming}
use Rattle.text_grammar.specs.Shaped.{Shaped}
use Rattle.text_checks.specs.Spelled.{Spelled}
use Rattle.text_kept_laws.specs.Spelling.{IsWord}

-- each text that an identifier of the tree may get is its own or a name that is no reserved word
abbrev pub GivesNewWords : Renaming → Node → Type 0
GivesNewWords r t = (p : Path) (k : Kind) (i : Ident) (n : ℕ) → node_at t p ≡ Some (Identifier k i) → n < 2 ^ 64 → r.text (i.sym, i.ctxt) n ≢ i.sym → IsWord (r.text (i.sym, i.ctxt) n)

-- whatever the renamer, lengths stay
abbrev pub RenamingKeepsShape : Type 0
RenamingKeepsShape = (r : Renaming) (table : Table) (config : Config) (before after : Node) (s : Slot) → Fits before s → ¬ IsRead config before → IsRenamedBy table config r before after → Shaped before → Shaped after

-- leaves and names do where the new texts are names
abbrev pub RenamingKeepsSpelling : Type 0
RenamingKeepsSpelling = (r : Renaming) (table : Table) (config : Config) (before after : Node) (s : Slot) → GivesNewWords r before → Fits before s → ¬ IsRead config before → IsRenamedBy table config r before after
    → Spelled before → Spelled after

-- hygiene keeps both, and a number behind a name makes a name
abbrev pub HygieneKeepsShape : Type 0
HygieneKeepsShape = (table : Table) (config : Config) (before after : Node) (s : Slot) → Fits before s → ¬ IsRead config before → IsHygienic table config before after → Shaped before → Shaped after

abbrev pub HygieneGivesNewWords : Type 0
HygieneGivesNewWords = (t : Node) → Spelled t → GivesNewWords hygiene_renaming t

abbrev pub HygieneKeepsSpelling : Type 0
HygieneKeepsSpelling = (table : Table) (config : Config) (before after : Node) (s : Slot) → Fits before s → ¬ IsRead config before → IsHygienic table config before after → Spelled before → Spelled after
