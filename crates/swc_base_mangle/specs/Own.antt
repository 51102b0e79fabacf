-- Ids that stand in a tree with just one mark.
use Rattle.std.specs.Prelude.{ℕ, Bool, false, ◌&&◌, List, [], ◌∷◌}
use Rattle.std.specs.List.{list_any}
use Rattle.std.specs.Str.{bytes_eq}
use Rattle.swc_tree_node.specs.declared.node.Node.{Node, fold-Node}
use Rattle.swc_tree_node.specs.declared.node.Node.TheOpen.{Node-F}
use Rattle.swc_tree_scoping.specs.BoundNames.{Id, same_id}

abbrev pub stands_step : Id → Node-F Bool → Bool
stands_step x (Node-F.Identifier k i) = same_id (i.sym, i.ctxt) x
stands_step x (Node-F.List found) = list_any (λ b. b) found
stands_step x (Node-F.Tree k found) = list_any (λ b. b) found
stands_step x _ = false

-- an identifier of that id stands in the tree
abbrev pub stands_in : Id → Node → Bool
stands_in x t = fold-Node Bool (stands_step x) t

-- ... and the mark is all its context: of a source that was resolved, a name that the program's scope declares
abbrev pub is_own : ℕ → Node → Id → Bool
is_own top t x = bytes_eq x.1 (top ∷ []) && stands_in x t
