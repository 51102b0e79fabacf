use Rattle.std.proofs.Common.{◌≡◌, true, take}
use Rattle.std.specs.List.{list_all}
use Rattle.swc_tree_grammar.specs.Targets.{all_bare}
use Rattle.swc_base_fixer_unparen.proofs.targets.+bare.Given as goal

abbrev pub invariant-each_bare-loop-node : goal.invariant-each_bare-loop-node
invariant-each_bare-loop-node l = list_all all_bare (take l.node-index l.nodes) ≡ true
