-- Trees in which no node of types stands, and where export lists stand in them.
use Rattle.std.specs.Prelude.{◌≡◌, ℕ, false, Some, List, [], ◌∷◌}
use Rattle.swc_tree_node.specs.declared.kind.Kind.{Kind}
use Rattle.swc_tree_node.specs.declared.kind.Kind.TheVariants as kind
use Rattle.swc_tree_node.specs.declared.node.Node.{Node, Tree}
use Rattle.swc_tree_scoping.specs.declared.places.Place.{Place}
use Rattle.swc_tree_scoping.specs.Places.{Path, place_at, program_place}
use Rattle.swc_tree_spaces.specs.Spaces.{is_of_types}

-- no node of types stands in the tree
abbrev pub NoTypes : Node → Type 0
NoTypes t = (p : Path) (w : Place) (k : Kind) (ts : List Node) → place_at program_place t p ≡ Some (w, Tree k ts) → is_of_types k ≡ false

-- no namespace stands in the tree
abbrev pub NoNamespaces : Node → Type 0
NoNamespaces t = (p : Path) (w : Place) (ts : List Node) → place_at program_place t p ≡ Some (w, Tree kind.TsModuleDecl ts) → ⊥

-- each export list of the tree is an item of the program
abbrev pub ListsAreItems : Node → Type 0
ListsAreItems t = (p : Path) (w : Place) (ts : List Node) → place_at program_place t p ≡ Some (w, Tree kind.NamedExport ts) → (n : ℕ) × (p ≡ 1 ∷ n ∷ [])
