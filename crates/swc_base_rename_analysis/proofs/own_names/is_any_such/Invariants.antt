use Rattle.std.proofs.Common.{◌≡◌, drop}
use Rattle.std.specs.List.{list_any}
use Rattle.swc_tree_node.specs.declared.node.Node.{out-Node}
use Rattle.swc_base_rename_analysis.specs.Analysis.{parameter_is_rest_or_default}
use Rattle.swc_base_rename_analysis.proofs.own_names.is_any_such.Given as goal

abbrev pub invariant-loop-parameter : goal.invariant-loop-parameter
invariant-loop-parameter l = list_any (λ c. parameter_is_rest_or_default (out-Node c)) l.parameters ≡ list_any (λ c. parameter_is_rest_or_default (out-Node c)) (drop l.parameter-index l.parameters)
