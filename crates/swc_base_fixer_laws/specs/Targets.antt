-- Trees in which no assignment's target stands in a pair of parentheses.
use Rattle.std.specs.Prelude.{Bool, true, not}
use Rattle.swc_tree_node.specs.declared.node.Node.{Node}
use Rattle.swc_tree_node.specs.declared.node.Node.TheOpen.{Node-F}
use Rattle.swc_tree_grammar.specs.Shapes.{Assign}
use Rattle.swc_tree_grammar.specs.Kinds.{has_kind, is_paren}
use Rattle.swc_tree_grammar_laws.specs.Every.{every}

abbrev pub bare_target_in : Node-F Node → Bool
bare_target_in (Assign span op left right) = not (has_kind is_paren left)
bare_target_in _ = true

abbrev pub has_bare_targets : Node → Bool
has_bare_targets = every bare_target_in
