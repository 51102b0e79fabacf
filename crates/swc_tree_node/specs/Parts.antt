-- What stands in a node, form by form.
use Rattle.std.specs.Prelude.{ℕ, List, [], Bool, true, false, Option, Some, None, position, slice_get}
use Rattle.std.specs.Cmp.Lexicographic.{pointwise}
use Rattle.std.specs.Option.{option_and_then}
use Rattle.std.specs.Prelude.{nat_eq}
use Rattle.swc_tree_marks.specs.declared.span.Span.{Span}
use Rattle.swc_tree_marks.specs.declared.ident.Ident.{Ident}
use Rattle.swc_tree_node.specs.declared.kind.Kind.{Kind}
use Rattle.swc_tree_node.specs.declared.kind.Word.{Word}
use Rattle.swc_tree_node.specs.declared.node.Node.{Node, out-Node}
use Rattle.swc_tree_node.specs.declared.node.Node.TheOpen.{Node-F}
use Rattle.swc_tree_node.specs.Table.{fields_of}

abbrev pub kind_in : Node-F Node → Option Kind
kind_in (Node-F.Identifier k x) = Some k
kind_in (Node-F.Tree k ts) = Some k
kind_in _ = None

-- what struct the node is, if it is one
abbrev pub kind_of : Node → Option Kind
kind_of t = kind_in (out-Node t)

abbrev flag_in : Node-F Node → Option Bool
flag_in (Node-F.Flag b) = Some b
flag_in _ = None

-- the flag that the node is, if it is one
abbrev pub flag_of : Node → Option Bool
flag_of t = flag_in (out-Node t)

abbrev word_in : Node-F Node → Option Word
word_in (Node-F.Word w) = Some w
word_in _ = None

-- the word that the node is, if it is one
abbrev pub word_of : Node → Option Word
word_of t = word_in (out-Node t)

abbrev text_in : Node-F Node → Option (List ℕ)
text_in (Node-F.Text x) = Some x
text_in _ = None

-- the text that the node is, if it is one
abbrev pub text_of : Node → Option (List ℕ)
text_of t = text_in (out-Node t)

abbrev span_in : Node-F Node → Option Span
span_in (Node-F.Span x) = Some x
span_in _ = None

-- the span that the node is, if it is one
abbrev pub span_of : Node → Option Span
span_of t = span_in (out-Node t)

abbrev ident_in : Node-F Node → Option Ident
ident_in (Node-F.Identifier k x) = Some x
ident_in _ = None

-- the identifier that the node is, of whatever kind, if it is one
abbrev pub ident_of : Node → Option Ident
ident_of t = ident_in (out-Node t)

abbrev children_in : Node-F Node → List Node
children_in (Node-F.List ts) = ts
children_in (Node-F.Tree k ts) = ts
children_in _ = []

-- what stands right below: the items of a list, the fields of a tree
abbrev pub children_of : Node → List Node
children_of t = children_in (out-Node t)

abbrev pub has_parts_in : {X : Type 0} → Node-F X → Bool
has_parts_in (Node-F.List ts) = true
has_parts_in (Node-F.Tree k ts) = true
has_parts_in _ = false

-- whether nodes may stand below: a list or a tree
abbrev pub has_parts : Node → Bool
has_parts t = has_parts_in (out-Node t)

abbrev pub may_hold_names_in : {X : Type 0} → Node-F X → Bool
may_hold_names_in (Node-F.List ts) = true
may_hold_names_in (Node-F.Identifier k i) = true
may_hold_names_in (Node-F.Tree k ts) = true
may_hold_names_in _ = false

-- whether an identifier may stand in it: one itself, a list or a tree
abbrev pub may_hold_names : Node → Bool
may_hold_names t = may_hold_names_in (out-Node t)

-- where a key stands among the fields of a kind
abbrev pub place_of : Kind → List ℕ → Option ℕ
place_of k key = position (λ f. pointwise nat_eq f.0 key) (fields_of k)

abbrev field_in : List ℕ → Node-F Node → Option Node
field_in key (Node-F.Tree k ts) = option_and_then (slice_get ts) (place_of k key)
field_in key _ = None

-- the field of a key
abbrev pub field_of : List ℕ → Node → Option Node
field_of key t = field_in key (out-Node t)
