-- A program with its due pairs in place of those that it had: where they stand, and which comments move.
--
-- A pair that is set where the program had one stands where that one stood, and its comments stay. Which pair of the
-- program that is goes by the span of the content, so this is said of programs whose expressions differ in span.
use Rattle.std.specs.Prelude.{◌≡◌, List, [], ◌∷◌, ◌++◌, map, reverse, Bool, true, false, not, ◌&&◌, ◌==◌, IsTrue, Option, Some, if◌then◌else◌}
use Rattle.std.specs.List.{flat_map, filter, list_any}
use Rattle.swc_tree_node.specs.Lower.swc_tree_marks.specs.declared.span.Span.{Span as Range}
use Rattle.swc_tree_node.specs.declared.kind.Kind.{Kind}
use Rattle.swc_tree_node.specs.declared.kind.Kind.TheVariants as kind
use Rattle.swc_tree_node.specs.declared.kind.Class.TheVariants as class
use Rattle.swc_tree_node.specs.declared.slot.Content.{Content}
use Rattle.swc_tree_node.specs.declared.slot.Content.TheVariants as content
use Rattle.swc_tree_node.specs.declared.slot.Slot.{Slot}
use Rattle.swc_tree_node.specs.declared.node.Node.{Node, roll-Node, out-Node, fold-Node, map-Node}
use Rattle.swc_tree_node.specs.declared.node.Node.TheOpen.{Node-F}
use Rattle.swc_tree_node.specs.Table.{slots_of}
use Rattle.swc_tree_node.specs.Fits.{belongs}
use Rattle.swc_tree_comments.specs.declared.moves.Move.{Move}
use Rattle.swc_tree_grammar.specs.declared.pairs.Pair.{Pair}
use Rattle.swc_tree_grammar.specs.Stripped.{stripped}
use Rattle.swc_tree_grammar.specs.Blocks.{span_of, with_blocks}
use Rattle.swc_tree_grammar.specs.Places.{content_of}
use Rattle.swc_tree_grammar.specs.Pairs.{pairs, moves_of}
use Rattle.swc_tree_grammar.specs.Due.{Places, with_due_pairs}
use Rattle.swc_tree_grammar.specs.Spanless.{SameButForSpans}

-- a place that takes a sequence takes any expression
abbrev pub takes_expressions : Option Content → Bool
takes_expressions (Some (content.Node c)) = belongs kind.SeqExpr c
takes_expressions _ = false

-- expressions, and names that stand as patterns where an expression may stand
abbrev pub is_expression_kind : Kind → Bool
is_expression_kind kind.BindingIdent = true
is_expression_kind k = belongs k class.Expr

abbrev pub is_expression_in : Node-F Node → Bool
is_expression_in (Node-F.Identifier k i) = is_expression_kind k
is_expression_in (Node-F.Tree k ts) = is_expression_kind k
is_expression_in _ = false

-- what stands in a field: the items of a list, or one node
abbrev pub each_in : Node → Node-F Node → List Node
each_in t (Node-F.List ts) = ts
each_in t _ = t ∷ []

abbrev pub spans_at : Slot → Node → List Range
spans_at s t = if takes_expressions (content_of s) then map span_of (filter (λ u. is_expression_in (out-Node u)) (each_in t (out-Node t))) else []

-- a node, and the spans of the expressions below it
pub record Spanned : Type 0 where
  pub whole : Node
  pub below : List Range

abbrev pub spans_in : List Slot → List Spanned → List Range
spans_in (s ∷ ss) (f ∷ fs) = spans_at s f.whole ++ (f.below ++ spans_in ss fs)
spans_in _ _ = []

abbrev pub below_in : Node-F Spanned → List Range
below_in (Node-F.Tree k fs) = spans_in (slots_of k) fs
below_in (Node-F.List fs) = flat_map (λ f. f.below) fs
below_in _ = []

abbrev pub spanned_step : Node-F Spanned → Spanned
spanned_step x = record { whole = roll-Node (map-Node Spanned Node (λ f. f.whole) x); below = below_in x }

-- the spans of the expressions of a program, pairs of parentheses among them
abbrev pub expression_spans : Node → List Range
expression_spans t = (fold-Node Spanned spanned_step t).below

abbrev pub same_span : Range → Range → Bool
same_span s r = (s.lo == r.lo) && (s.hi == r.hi)

abbrev pub all_differ : List Range → Bool
all_differ [] = true
all_differ (s ∷ ss) = not (list_any (same_span s) ss) && all_differ ss

-- no two expressions have one span
abbrev pub spans_differ : Node → Bool
spans_differ t = all_differ (expression_spans t)

-- where the pair round a content stood, or, where there was none, where the content stands
abbrev pub recorded : List Pair → Places
recorded [] s = s
recorded (p ∷ ps) s = if same_span p.content s then p.whole else recorded ps s

-- the stripped program with its blocks and due pairs
abbrev pub fixed : Places → Node → Node
fixed place t = with_due_pairs place (with_blocks (stripped t))

abbrev pub is_set_in : Node → Pair → Bool
is_set_in u p = list_any (λ q. same_span p.content q.content) (pairs u)

-- the moves of those pairs of a program whose content has no pair in its answer, the last pair first
abbrev pub moves_to : Node → Node → List Move
moves_to t u = flat_map moves_of (reverse (filter (λ p. not (is_set_in u p)) (pairs t)))

-- the answer is the stripped program with its blocks and due pairs, and where spans differ each pair stands where the
-- program had it
pub record IsFixed (t u : Node) : Type 0 where
  pub due : SameButForSpans u (fixed (λ s. s) t)
  pub exact : IsTrue (spans_differ t) → u ≡ fixed (recorded (pairs t)) t
