-- What a shorthand property of an object literal is written out as: it is a key together with a reference.
use Rattle.std.specs.Prelude.{nat_eq, codes, [], ◌∷◌, if◌then◌else◌}
use Rattle.std.specs.Cmp.Lexicographic.{pointwise}
use Rattle.swc_tree_node.specs.Lower.swc_tree_marks.specs.declared.ident.Ident.{Ident}
use Rattle.swc_tree_node.specs.declared.kind.Kind.TheVariants as kind
use Rattle.swc_tree_node.specs.declared.node.Node.{Node, Absent, Text, Span, Tree}

abbrev pub key_of : Ident → Node
key_of i = Tree kind.IdentName (Span i.span ∷ Text i.sym ∷ [])

abbrev pub computed_key : Ident → Node
computed_key i = Tree kind.ComputedPropName (Span i.span ∷ Tree kind.Str (Span i.span ∷ Text i.sym ∷ Absent ∷ []) ∷ [])

-- with the key `__proto__` a property sets the prototype, which its shorthand does not (ECMA-262, B.3.1): so that key
-- is computed
abbrev pub shorthand_key : Ident → Node
shorthand_key i = if pointwise nat_eq i.sym (codes "__proto__") then computed_key i else key_of i
