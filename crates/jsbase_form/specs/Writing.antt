-- The JSON of a tree.
use Rattle.std.specs.Prelude.{ℕ, List, [], ◌∷◌, map, codes, decimal}
use Rattle.std.specs.Ordering.{nat_cmp, match_ordering}
use Rattle.std.specs.Cmp.Lexicographic.{slice_cmp}
use Rattle.json.specs.Json.{Json, null, boolean, number, string, array, object, Members, no_members, member}
use Rattle.json.specs.Value.{items_of}
use Rattle.swc_tree_marks.specs.declared.span.Span.{Span}
use Rattle.swc_tree_marks.specs.declared.ident.Ident.{Ident}
use Rattle.swc_tree_node.specs.declared.kind.Kind.{Kind}
use Rattle.swc_tree_node.specs.declared.slot.Slot.{Slot}
use Rattle.swc_tree_node.specs.declared.slot.Role.{Role}
use Rattle.swc_tree_node.specs.declared.node.Node.{Node, fold-Node}
use Rattle.swc_tree_node.specs.declared.node.Node.TheOpen.{Node-F}
use Rattle.swc_tree_node.specs.Table.{fields_of, name_of, spelling_of}

abbrev pub natural : ℕ → Json
natural n = number (decimal n)

abbrev pub numbers_json : List ℕ → Json
numbers_json ns = array (items_of (map natural ns))

abbrev pub span_json : Span → Json
span_json s = numbers_json (s.lo ∷ s.hi ∷ [])

-- members in the byte order of their keys, with one more
abbrev pub put : List ℕ → Json → Members → Members
put k d no_members = member k d no_members
put k d (member l e ms) = match_ordering (slice_cmp nat_cmp k l) (member k d (member l e ms)) (member l d ms) (member l e (put k d ms))

-- the member that names the kind
abbrev pub typed : Kind → Members
typed k = put (codes "type") (string (name_of k)) no_members

abbrev pub ident_json : Kind → Ident → Json
ident_json k i = object (put (codes "sym") (string i.sym) (put (codes "ctxt") (numbers_json i.ctxt) (put (codes "span") (span_json i.span) (typed k))))

-- each field's value at its key
abbrev pub fields_put : List (List ℕ × Slot × Role) → List Json → Members → Members
fields_put [] ds ms = ms
fields_put (f ∷ fs) [] ms = ms
fields_put (f ∷ fs) (d ∷ ds) ms = fields_put fs ds (put f.0 d ms)

abbrev pub json_step : Node-F Json → Json
json_step Node-F.Absent = null
json_step (Node-F.Flag b) = boolean b
json_step (Node-F.Word w) = string (spelling_of w)
json_step (Node-F.Text x) = string x
json_step (Node-F.Span s) = span_json s
json_step (Node-F.List ds) = array (items_of ds)
json_step (Node-F.Identifier k i) = ident_json k i
json_step (Node-F.Tree k ds) = object (fields_put (fields_of k) ds (typed k))

-- the value that a tree is written as
abbrev pub json : Node → Json
json = fold-Node Json json_step
