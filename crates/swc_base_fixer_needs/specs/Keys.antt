-- Constructors, whose key is a name.
use Rattle.std.specs.Prelude.{Bool, true, false, not}
use Rattle.swc_tree_node.specs.declared.kind.Kind.{Kind}
use Rattle.swc_tree_node.specs.declared.kind.Kind.TheVariants as kind
use Rattle.swc_tree_node.specs.declared.node.Node.{Node}
use Rattle.swc_tree_node.specs.declared.node.Node.TheOpen.{Node-F}
use Rattle.swc_tree_grammar.specs.Shapes.{Constructor}
use Rattle.swc_tree_grammar.specs.Kinds.{has_kind}
use Rattle.swc_tree_grammar_laws.specs.Every.{every}

abbrev pub is_computed : Kind → Bool
is_computed kind.ComputedPropName = true
is_computed _ = false

abbrev pub is_named_in : Node-F Node → Bool
is_named_in (Constructor span key params body) = not (has_kind is_computed key)
is_named_in _ = true

-- each constructor's key is a name, as it is in what can be written down
abbrev pub names_constructors : Node → Bool
names_constructors = every is_named_in
