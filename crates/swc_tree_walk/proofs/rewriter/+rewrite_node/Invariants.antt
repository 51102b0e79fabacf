use Rattle.std.proofs.Common.{◌≡◌, ◌++◌, take, drop, length}
use Rattle.swc_tree_scoping.specs.Below.{places_of}
use Rattle.swc_tree_scoping.specs.Folds.{each_in}
use Rattle.swc_tree_walk.specs.Rewritten.{rewritten}
use Rattle.swc_tree_walk.proofs.rewriter.+rewrite_node.Given as goal

abbrev pub invariant-rewrite_each-loop-i : goal.invariant-rewrite_each-loop-i
invariant-rewrite_each-loop-i g l = record {
  size : length l.nodes ≡ length l.initial.nodes;
  done : l.nodes ≡ each_in (rewritten (g.R.Rewriter.made l.rewriter)) (places_of l.places l.initial.nodes) (take l.i l.initial.nodes) ++ drop l.i l.initial.nodes;
}
