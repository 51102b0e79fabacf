-- The span nearest to a node at a path, one step on.
use Rattle.std.proofs.Common.{◌≡◌, ℕ, suc, ◌+◌, ◌<◌, Some, None, List, [], ◌∷◌, drop, length, get_or, refl, sym, ap, ◌∙◌, arith}
use Rattle.std.specs.List.{slice_get}
use Rattle.std.proofs.Math.Seq.{drop-cons}
use Rattle.swc_tree_marks.specs.declared.span.Span.{Span}
use Rattle.swc_tree_node.specs.Parts.{children_of}
use Rattle.swc_tree_node.specs.declared.node.Node.{Node, out-Node}
use Rattle.swc_tree_node.specs.declared.node.Node.TheOpen.{Node-F}
use Rattle.swc_tree_scoping.specs.Places.{Path, child, children_in, given}
use Rattle.swc_base_alpha.specs.Shapes.{nearest, own_span, span_or}
use Rattle.swc_base_alpha.specs.declared.spans.Unplaced.TheVariants as unplaced

-- from a node on, of which the span is known
abbrev pub onward : Span → Node → Path → Span
onward near t [] = near
onward near t (i ∷ p) = given (child t i) near (λ c. nearest unplaced.IsUnknown near c p)

pub begins : (round : Span) (t : Node) (p : Path) → nearest unplaced.IsUnknown round t p ≡ onward (span_or unplaced.IsUnknown round (own_span (out-Node t))) t p
begins round t [] = refl
begins round t (i ∷ p) = refl

parts_same : (t : Node) → children_of t ≡ children_in (out-Node t)
parts_same t = by (out-Node t) refl
  where
    by : (y : Node-F Node) → out-Node t ≡ y → children_of t ≡ children_in (out-Node t)
    by (Node-F.List ts) e = rw e refl
    by (Node-F.Tree k ts) e = rw e refl
    by (Node-F.Identifier k i) e = rw e refl
    by Node-F.Absent e = rw e refl
    by (Node-F.Flag x) e = rw e refl
    by (Node-F.Word x) e = rw e refl
    by (Node-F.Text x) e = rw e refl
    by (Node-F.Span x) e = rw e refl

module _ (near : Span) (t : Node) (kids : List Node) (p : Path) (k : ℕ) (within : k < length p) (are : kids ≡ children_of t) where
  there : child t (get_or p k 0) ≡ slice_get kids (get_or p k 0)
  there = ap (λ (ts : List Node). slice_get ts (get_or p k 0)) (sym (are ∙ parts_same t))

  goes : onward near t (drop k p) ≡ given (slice_get kids (get_or p k 0)) near (λ c. nearest unplaced.IsUnknown near c (drop (k + 1) p))
  goes =
      let one_more : suc k ≡ k + 1 = omega arith in
      ap (onward near t) (drop-cons p k 0 within ∙ ap (λ n. get_or p k 0 ∷ drop n p) one_more) ∙ ap (λ o. given o near (λ c. nearest unplaced.IsUnknown near c (drop (k + 1) p))) there

  pub stops : slice_get kids (get_or p k 0) ≡ None → onward near t (drop k p) ≡ near
  stops none = goes ∙ ap (λ o. given o near (λ c. nearest unplaced.IsUnknown near c (drop (k + 1) p))) none

  pub steps : (c : Node) → slice_get kids (get_or p k 0) ≡ Some c → onward near t (drop k p) ≡ onward (span_or unplaced.IsUnknown near (own_span (out-Node c))) c (drop (k + 1) p)
  steps c is = goes ∙ ap (λ o. given o near (λ c. nearest unplaced.IsUnknown near c (drop (k + 1) p))) is ∙ begins near c (drop (k + 1) p)
