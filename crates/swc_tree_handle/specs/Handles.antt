-- Nodes with their class, and leaves as nodes.
use Rattle.std.specs.Prelude.{ℕ, Bool, false, List, [], ◌∷◌, Option, Some, None}
use Rattle.std.specs.List.{list_all}
use Rattle.swc_tree_marks.specs.declared.span.Span.{Span as Span'}
use Rattle.swc_tree_marks.specs.declared.ident.Ident.{Ident}
use Rattle.swc_tree_node.specs.declared.kind.Kind.{Kind}
use Rattle.swc_tree_node.specs.declared.kind.Kind.TheVariants as kind
use Rattle.swc_tree_node.specs.declared.kind.Class.{Class}
use Rattle.swc_tree_node.specs.declared.node.Node.{Node, Absent, Text, Span, List as Many, Identifier}
use Rattle.swc_tree_node.specs.Table.{kinds_of}
use Rattle.swc_tree_node.specs.Fits.{belongs}
pub use Rattle.swc_tree_node.specs.Parts.{kind_of}

abbrev pub takes : Class → Option Kind → Bool
takes c None = false
takes c (Some k) = belongs k c

-- the node is of one of the class's kinds
abbrev pub is_of : Node → Class → Bool
is_of t c = takes c (kind_of t)

-- each kind of the one class is a kind of the other
abbrev pub is_within : Class → Class → Bool
is_within c d = list_all (λ k. belongs k d) (kinds_of c)

-- what an optional place holds
abbrev pub optional_node : Option Node → Node
optional_node None = Absent
optional_node (Some t) = t

abbrev pub optional_span : Option Span' → Node
optional_span None = Absent
optional_span (Some s) = Span s

abbrev pub optional_text : Option (List ℕ) → Node
optional_text None = Absent
optional_text (Some x) = Text x

abbrev pub optional_list : Option (List Node) → Node
optional_list None = Absent
optional_list (Some ts) = Many ts

-- two texts
abbrev pub pair_node : List ℕ → List ℕ → Node
pair_node key value = Many (Text key ∷ Text value ∷ [])

abbrev pub ident_node : Ident → Node
ident_node x = Identifier kind.Ident x
