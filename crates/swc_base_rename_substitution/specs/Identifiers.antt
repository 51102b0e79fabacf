-- What stands in the place of an identifier whose text changes, and of a node that it names.
use Rattle.std.specs.Prelude.{ℕ, Bool, true, false, ◌&&◌, Option, Some, None, is_some, option_map, option_and_then, slice_get, List, [], ◌∷◌}
use Rattle.swc_tree_marks.specs.declared.ident.Ident.{Ident}
use Rattle.swc_tree_node.specs.declared.kind.Kind.{Kind}
use Rattle.swc_tree_node.specs.declared.kind.Kind.TheVariants as kind
use Rattle.swc_tree_node.specs.declared.node.Node.{Node, Span, Identifier, Tree, out-Node}
use Rattle.swc_tree_node.specs.declared.node.Node.TheOpen.{Node-F}
use Rattle.swc_tree_scoping.specs.Shorthands.{key_of, shorthand_key}
use Rattle.swc_base_rename_substitution.specs.declared.place.Place.{Place}
use Rattle.swc_base_rename_substitution.specs.declared.place.Place.TheVariants as place
use Rattle.swc_base_rename_substitution.specs.Names.{Id}

-- the new id of an id, where its text changes
abbrev pub Changes : Type 0
Changes = Id → Option Id

abbrev pub id_of : Ident → Id
id_of i = (i.sym, i.ctxt)

abbrev pub with_id : Ident → Id → Ident
with_id i n = record i { sym = n.0; ctxt = n.1 }

-- a name that is kept has the empty context
abbrev pub kept_name : Ident → Ident
kept_name i = record i { ctxt = [] }

-- the new identifier at a binding or reference place, where its text changes
abbrev pub changed : Changes → Place → Ident → Option Ident
changed m place.Other i = None
changed m place.Exported i = None
changed m place.ClassName i = None
changed m p i = option_map (with_id i) (m (id_of i))

-- what stands in the place of an identifier, given the new one where its text changes; the shorthand `{ a }`
-- becomes `{ a: a1 }`
abbrev pub identifier_to : Place → Kind → Ident → Option Ident → Node
identifier_to place.ClassName k i j = Identifier k (kept_name i)
identifier_to p k i None = Identifier k i
identifier_to place.Shorthand k i (Some j) = Tree kind.KeyValueProp (shorthand_key i ∷ Identifier k j ∷ [])
identifier_to p k i (Some j) = Identifier k j

abbrev pub identifier_in : Node-F Node → Option Ident
identifier_in (Node-F.Identifier k i) = Some i
identifier_in y = None

-- the identifier that stands in a field
abbrev pub identifier_at : List Node → ℕ → Option Ident
identifier_at ts i = option_and_then (λ t. identifier_in (out-Node t)) (slice_get ts i)

abbrev pub default_in : Ident → Node → Node → Node-F Node → Node
default_in i target value Node-F.Absent = target
default_in i target value y = Tree kind.AssignPat (Span i.span ∷ target ∷ value ∷ [])

abbrev pub with_default : Ident → Node → Node → Node
with_default i target value = default_in i target value (out-Node value)

abbrev pub kept_in : Ident → Node → Node-F Node → Node
kept_in i t Node-F.Absent = Identifier kind.Ident (kept_name i)
kept_in i t y = t

-- the other name of a specifier, or the kept one where there is none
abbrev pub or_kept : Ident → Node → Node
or_kept i t = kept_in i t (out-Node t)

-- the fields of a specifier, whose name was `i` and changed
abbrev pub with_other : Ident → List Node → List Node
with_other i (s ∷ local ∷ other ∷ []) = s ∷ local ∷ or_kept i other ∷ []
with_other i ts = ts

-- a node of that kind and with these fields, whose name, in the second field, was `i` and changed.
-- In a pattern `{ a }` becomes `{ a: a1 }` and `{ a = 1 }` becomes `{ a: a1 = 1 }`; `import { a }` becomes
-- `import { a as a1 }`, and `export { a }` becomes `export { a1 as a }`
abbrev pub written_out : Kind → Ident → List Node → Node
written_out kind.AssignPatProp i (s ∷ target ∷ value ∷ []) = Tree kind.KeyValuePatProp (key_of i ∷ with_default i target value ∷ [])
written_out kind.ImportNamedSpecifier i ts = Tree kind.ImportNamedSpecifier (with_other i ts)
written_out kind.ExportNamedSpecifier i ts = Tree kind.ExportNamedSpecifier (with_other i ts)
written_out k i ts = Tree k ts

-- the kinds that write a changed name out
abbrev pub writes_out : Kind → Bool
writes_out kind.AssignPatProp = true
writes_out kind.ImportNamedSpecifier = true
writes_out kind.ExportNamedSpecifier = true
writes_out k = false

-- whether a node of that kind with these fields has a name to write out
abbrev pub writes_name : Kind → List Node → Bool
writes_name k ts = writes_out k && is_some (identifier_at ts 1)

abbrev pub written_out_if : Kind → Option Ident → List Node → Node
written_out_if k None ts = Tree k ts
written_out_if k (Some i) ts = written_out k i ts
