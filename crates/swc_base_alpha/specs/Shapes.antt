-- Where two trees first have other outlines, in the order of the source.
use Rattle.std.specs.Prelude.{◌≡◌, ◌<◌, ◌⊎◌, nat_eq, ◌&&◌, if◌then◌else◌, Option, Some, None, List, [], ◌∷◌}
use Rattle.swc_tree_marks.specs.declared.span.Span.{Span}
use Rattle.swc_tree_node.specs.declared.node.Node.{Node, out-Node}
use Rattle.swc_tree_node.specs.declared.node.Node.TheOpen.{Node-F}
use Rattle.swc_tree_scoping.specs.Places.{Path, child, given}
use Rattle.swc_tree_grammar.specs.Blocks.{no_span}
use Rattle.swc_base_rename_laws.specs.NewNames.{no_name}
use Rattle.swc_base_alpha.specs.declared.spans.Unplaced.{Unplaced}
use Rattle.swc_base_alpha.specs.declared.spans.Unplaced.TheVariants as unplaced

-- a node by itself: without spans, what identifiers are called, and what stands below
abbrev pub alone : Node-F Node → Node-F Node
alone (Node-F.Span s) = Node-F.Span no_span
alone (Node-F.List ts) = Node-F.List []
alone (Node-F.Identifier k i) = Node-F.Identifier k no_name
alone (Node-F.Tree k ts) = Node-F.Tree k []
alone y = y

-- what stands at a path, by itself
abbrev pub stands : Node → Path → Option (Node-F Node)
stands t [] = Some (alone (out-Node t))
stands t (i ∷ p) = given (child t i) None (λ c. stands c p)

-- the first path comes before the second: it leads to a node further up, or to the left
abbrev pub ComesBefore : Path → Path → Type 0
ComesBefore [] [] = ⊥
ComesBefore [] (n ∷ p) = Unit {0}
ComesBefore (m ∷ q) [] = ⊥
ComesBefore (m ∷ q) (n ∷ p) = (m < n) ⊎ ((m ≡ n) × ComesBefore q p)

-- at the path stands something else in each of both, or nothing in one; and before it the same
pub record FirstApart (t u : Node) (p : Path) : Type 0 where
  pub apart : ¬ (stands t p ≡ stands u p)
  pub first : (q : Path) → ComesBefore q p → stands t q ≡ stands u q

-- the span of a node itself, if it has one: of a tree it is the first field
abbrev pub field_span : Node-F Node → Option Span
field_span (Node-F.Span s) = Some s
field_span _ = None

abbrev pub first_span : List Node → Option Span
first_span [] = None
first_span (t ∷ ts) = field_span (out-Node t)

abbrev pub own_span : Node-F Node → Option Span
own_span (Node-F.Span s) = Some s
own_span (Node-F.Identifier k i) = Some i.span
own_span (Node-F.Tree k ts) = first_span ts
own_span _ = None

-- ... or that round it; of what a normal form made the span is no place
abbrev pub span_or : Unplaced → Span → Option Span → Span
span_or u round None = round
span_or unplaced.IsUnknown round (Some s) = s
span_or unplaced.IsMade round (Some s) = if nat_eq s.lo 0 && nat_eq s.hi 0 then round else s

-- the span of the last node on a path that has one
abbrev pub nearest : Unplaced → Span → Node → Path → Span
nearest u round t [] = span_or u round (own_span (out-Node t))
nearest u round t (i ∷ p) = given (child t i) (span_or u round (own_span (out-Node t))) (λ c. nearest u (span_or u round (own_span (out-Node t))) c p)

-- the spans are those of the first nodes at which two trees have other outlines, or nearest round them
pub record ShapeShows (u : Unplaced) (round around : Span) (t s : Node) (before after : Span) : Type 0 where
  pub path : Path
  pub apart : FirstApart t s path
  pub is_before : before ≡ nearest u round t path
  pub is_after : after ≡ nearest u around s path
