-- What may stand in a place.
use Rattle.std.proofs.Common.{◌≡◌, ℕ, Bool, true, false, not, ◌&&◌, ◌||◌, ◌==◌, IsTrue, Option, Some, None, List, [], ◌∷◌, map, refl, sym, ◌∙◌, arith}
use Rattle.std.proofs.lemmas.Bool.{eqb-true}
use Rattle.std.specs.List.{list_any, list_all}
use Rattle.swc_tree_node.specs.Lower.swc_tree_marks.specs.declared.ident.Ident.{Ident}
use Rattle.swc_tree_node.specs.declared.kind.Kind.{Kind}
use Rattle.swc_tree_node.specs.declared.kind.Class.{Class}
use Rattle.swc_tree_node.specs.declared.slot.Content.{Content}
use Rattle.swc_tree_node.specs.declared.slot.Content.TheVariants as content
use Rattle.swc_tree_node.specs.declared.slot.Slot.{Slot}
use Rattle.swc_tree_node.specs.declared.slot.Slot.TheVariants as slot
use Rattle.swc_tree_node.specs.declared.node.Node.{Node, Identifier, Tree}
use Rattle.swc_tree_node.specs.Table.{slots_of, kinds_of, kind_number, is_identifier}
use Rattle.swc_tree_node.specs.Fits.{fits, Fits, single, belongs, tree_fits, each_fits, FieldsFit}
use Rattle.swc_tree_node.proofs.Fit.{fits-Absent, fits-Flag, fits-Word, fits-Text, fits-Span, fits-List, fits-Identifier, fits-Tree, both, and_both, fields_open, fields_close, tree_opens}
use Rattle.swc_tree_grammar.specs.Places.{takes_all}
use Rattle.swc_tree_grammar.proofs.Induction.{by_children}

abbrev pub one : Class → Slot
one c = slot.One (content.Node c)

among_first : (p : ℕ → Bool) (n : ℕ) (k : Kind) (ks : List Kind) (b : Bool) → (n == kind_number k) ≡ b
    → IsTrue (b || list_any (λ x. n == kind_number x) ks) → IsTrue (p (kind_number k) && list_all (λ k. p (kind_number k)) ks)
    → (IsTrue (list_any (λ x. n == kind_number x) ks) → IsTrue (list_all (λ k. p (kind_number k)) ks) → IsTrue (p n)) → IsTrue (p n)
among_first p n k ks true e h g rest = let same : n ≡ kind_number k = eqb-true n (kind_number k) e in rw same ((both (p (kind_number k)) (list_all (λ k. p (kind_number k)) ks) g).0)
among_first p n k ks false e h g rest = rest h ((both (p (kind_number k)) (list_all (λ k. p (kind_number k)) ks) g).1)

-- what holds of each of some kinds, by their numbers, holds of the one that is among them
pub among : (p : ℕ → Bool) (n : ℕ) (ks : List Kind) → IsTrue (list_any (λ x. n == kind_number x) ks) → IsTrue (list_all (λ k. p (kind_number k)) ks) → IsTrue (p n)
among p n [] h g = absurd (grind arith)
among p n (k ∷ ks) h g = among_first p n k ks (n == kind_number k) refl h g (among p n ks)

pub belongs_too : (c d : Class) (k : Kind) → IsTrue (takes_all c d) → IsTrue (belongs k c) → IsTrue (belongs k d)
belongs_too c d k t h = among (λ n. list_any (λ x. n == kind_number x) (kinds_of d)) (kind_number k) (kinds_of c) h t

-- a single node that stands in a place of a class
pub record Stands (k : Kind) (ts : List Node) (s : Slot) : Type 0 where
  pub in_class : Class
  pub place : single s ≡ Some (content.Node in_class)
  pub no_identifier : IsTrue (not (is_identifier k))
  pub belonging : IsTrue (belongs k in_class)
  pub fields : FieldsFit (slots_of k) ts

stands_in : (k : Kind) (ts : List Node) (s : Slot) (o : Option Content) → single s ≡ o → IsTrue (tree_fits k (map fits ts) o) → Stands k ts s
stands_in k ts s None e h = absurd (grind arith)
stands_in k ts s (Some content.Span) e h = absurd (grind arith)
stands_in k ts s (Some content.Text) e h = absurd (grind arith)
stands_in k ts s (Some content.Flag) e h = absurd (grind arith)
stands_in k ts s (Some (content.Word ws)) e h = absurd (grind arith)
stands_in k ts s (Some (content.Node c)) e h =
    let p = both (not (is_identifier k)) (belongs k c && each_fits (slots_of k) (map fits ts)) h in
    let q = both (belongs k c) (each_fits (slots_of k) (map fits ts)) p.1 in
    record { in_class = c; place = e; no_identifier = p.0; belonging = q.0; fields = fields_open (slots_of k) ts q.1 }

pub stands : (k : Kind) (ts : List Node) (s : Slot) → Fits (Tree k ts) s → Stands k ts s
stands k ts s h = stands_in k ts s (single s) refl (rw (← fits-Tree k ts s) h)

pub stands_there : (k : Kind) (ts : List Node) (s : Slot) → Stands k ts s → Fits (Tree k ts) s
stands_there k ts s w = rw (fits-Tree k ts s, w.place)
    (and_both (not (is_identifier k)) (belongs k w.in_class && each_fits (slots_of k) (map fits ts)) w.no_identifier
    (and_both (belongs k w.in_class) (each_fits (slots_of k) (map fits ts)) w.belonging (fields_close (slots_of k) ts w.fields)))

-- what stands in a place of the one class may stand in one of the other
wider_tree : (c d : Class) (s : Slot) → single s ≡ Some (content.Node d) → IsTrue (takes_all c d) → (k : Kind) (ts : List Node) → Fits (Tree k ts) (one c) → Fits (Tree k ts) s
wider_tree c d s e t k ts h =
    let w = tree_opens k ts c h in
    stands_there k ts s (record { in_class = d; place = e; no_identifier = w.0; belonging = belongs_too c d k t w.1; fields = w.2 })

wider_identifier : (c d : Class) (s : Slot) → single s ≡ Some (content.Node d) → IsTrue (takes_all c d) → (k : Kind) (i : Ident) → Fits (Identifier k i) (one c) → Fits (Identifier k i) s
wider_identifier c d s e t k i h =
    let p = both (is_identifier k) (belongs k c) (rw (← fits-Identifier k i (one c)) h) in
    rw (fits-Identifier k i s, e) (and_both (is_identifier k) (belongs k d) p.0 (belongs_too c d k t p.1))

pub wider : (c d : Class) (s : Slot) → single s ≡ Some (content.Node d) → IsTrue (takes_all c d) → (t : Node) → Fits t (one c) → Fits t s
wider c d s e a t = by_children (λ t. Fits t (one c) → Fits t s) (
  λ h. absurd (cc (sym (fits-Absent (one c)) ∙ h)),
  λ x h. absurd (cc (sym (fits-Flag x (one c)) ∙ h)),
  λ w h. absurd (cc (sym (fits-Word w (one c)) ∙ h)),
  λ x h. absurd (cc (sym (fits-Text x (one c)) ∙ h)),
  λ r h. absurd (cc (sym (fits-Span r (one c)) ∙ h)),
  wider_identifier c d s e a,
)
    (λ ts h g. absurd (cc (sym (fits-List ts (one c)) ∙ g)))
    (λ k ts h. wider_tree c d s e a k ts) t
