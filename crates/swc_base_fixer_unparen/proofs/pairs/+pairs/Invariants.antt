use Rattle.std.proofs.Common.{◌≡◌, ◌++◌, take}
use Rattle.std.specs.List.{flat_map}
use Rattle.swc_tree_grammar.specs.Pairs.{pairs}
use Rattle.swc_base_fixer_unparen.proofs.pairs.+pairs.Given as goal

abbrev pub invariant-add_each-loop-node : goal.invariant-add_each-loop-node
invariant-add_each-loop-node l = l.out ≡ l.initial.out ++ flat_map pairs (take l.node-index l.nodes)
