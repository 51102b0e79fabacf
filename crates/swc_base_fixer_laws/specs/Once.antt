-- Trees in which no pair of parentheses stands right in another.
use Rattle.std.specs.Prelude.{Bool, true, not}
use Rattle.swc_tree_node.specs.declared.node.Node.{Node}
use Rattle.swc_tree_node.specs.declared.node.Node.TheOpen.{Node-F}
use Rattle.swc_tree_grammar.specs.Shapes.{Paren}
use Rattle.swc_tree_grammar.specs.Kinds.{has_kind, is_paren}
use Rattle.swc_tree_grammar_laws.specs.Every.{every}

abbrev pub once_in : Node-F Node → Bool
once_in (Paren span expr) = not (has_kind is_paren expr)
once_in _ = true

abbrev pub paired_once : Node → Bool
paired_once = every once_in
