use Rattle.std.proofs.Common.{◌≡◌, false, take}
use Rattle.std.specs.List.{list_any}
use Rattle.swc_tree_spaces.specs.Spaces.{has_types}
use Rattle.swc_tree_has_types.proofs.search.+has_types.Given as goal

abbrev pub invariant-any_has_types-loop-tree : goal.invariant-any_has_types-loop-tree
invariant-any_has_types-loop-tree l = list_any has_types (take l.tree-index l.trees) ≡ false
