use Rattle.std.proofs.Common.{◌≡◌, ℕ, ◌<◌, Some}
use Rattle.std.specs.List.{slice_get}
use Rattle.swc_tree_node.specs.declared.node.Node.{Node}
use Rattle.swc_base_rename_units.specs.Eval.{HasEval}
use Rattle.swc_base_rename_units.proofs.eval.+has_eval.Given as goal

-- none of those before has one
abbrev pub invariant-any_has_eval-loop-i : goal.invariant-any_has_eval-loop-i
invariant-any_has_eval-loop-i l = (k : ℕ) (c : Node) → k < l.i → slice_get l.nodes k ≡ Some c → HasEval c → ⊥
