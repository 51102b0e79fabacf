-- Two lists side by side.
use Rattle.std.specs.Prelude.{◌≡◌, ◌↔◌, List, [], ◌∷◌, length, Contains}
use Rattle.swc_tree_marks.specs.declared.ident.Ident.{Ident}
use Rattle.swc_tree_node.specs.declared.node.Node.{Node}
use Rattle.swc_tree_scoping.specs.declared.places.Standing.{Standing}
use Rattle.swc_tree_scoping.specs.Places.{program_place}
use Rattle.swc_tree_walk.specs.Sites.{sites}
use Rattle.swc_base_rename_laws.specs.NewNames.{outline}
use Rattle.swc_base_alpha_laws.specs.Alpha.{Beside}

abbrev pub Seen : Type 0
Seen = Standing × Ident

abbrev pub side : List Seen → List Seen → List (Seen × Seen)
side [] ys = []
side (x ∷ xs) [] = []
side (x ∷ xs) (y ∷ ys) = (x, y) ∷ side xs ys

-- the identifiers of two trees of one outline stand side by side in their lists exactly if at one path in the trees
abbrev pub SitesAreAligned : Type 0
SitesAreAligned = (t u : Node) → outline t ≡ outline u → (length (sites program_place t) ≡ length (sites program_place u))
    × ((r v : Standing) (a b : Ident) → Contains (side (sites program_place t) (sites program_place u)) ((r, a), (v, b)) ↔ (Beside t u r a b × (r ≡ v)))
