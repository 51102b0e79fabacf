-- Which field of a node is looked at.
use Rattle.std.specs.Prelude.{ℕ, List, [], ◌∷◌, Option, Some, None}
use Rattle.swc_tree_node.specs.declared.kind.Kind.{Kind}
use Rattle.swc_tree_node.specs.declared.kind.Kind.TheVariants as kind
use Rattle.swc_tree_node.specs.declared.node.Node.{Node}

-- the field with the object of a member or the tag of a template
abbrev pub called_field : Kind → List Node → Option ℕ
called_field kind.MemberExpr (span ∷ obj ∷ prop ∷ []) = Some 1
called_field kind.TaggedTpl (span ∷ tag ∷ tpl ∷ []) = Some 1
called_field _ _ = None
