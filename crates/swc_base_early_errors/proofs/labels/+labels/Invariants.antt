use Rattle.std.proofs.Common.{◌≡◌, true, take}
use Rattle.std.specs.List.{list_all}
use Rattle.swc_tree_renaming.specs.Apart.{labels_no_function}
use Rattle.swc_base_early_errors.proofs.labels.+labels.Given as goal

abbrev pub invariant-all_label_no_function-loop-tree : goal.invariant-all_label_no_function-loop-tree
invariant-all_label_no_function-loop-tree l = list_all labels_no_function (take l.tree-index l.trees) ≡ true
