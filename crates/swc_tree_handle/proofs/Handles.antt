-- A node that fits one class fits another that takes its kind.
use Rattle.std.proofs.Common.{◌≡◌, zero, suc, slice_get, slice_set, take, drop, ◌++◌, List, [], ◌∷◌, ℕ, Bool, true, false, not, ◌||◌, ◌==◌, IsTrue, Some, sym, refl, ap, subst, arith}
use Rattle.std.specs.List.{list_any, list_all}
use Rattle.swc_tree_marks.specs.declared.ident.Ident.{Ident}
use Rattle.swc_tree_node.specs.declared.kind.Kind.{Kind}
use Rattle.swc_tree_node.specs.declared.kind.Class.{Class}
use Rattle.swc_tree_node.specs.declared.slot.Content.TheVariants as content
use Rattle.swc_tree_node.specs.declared.slot.Slot.{Slot}
use Rattle.swc_tree_node.specs.declared.slot.Slot.TheVariants as slot
use Rattle.swc_tree_node.specs.declared.node.Node.{Node, Identifier, Tree}
use Rattle.swc_tree_node.specs.declared.node.Node.TheVariants.{outs-Identifier, outs-Tree}
use Rattle.swc_tree_node.specs.Table.{slots_of, is_identifier, kinds_of, kind_number}
use Rattle.swc_tree_node.specs.Fits.{Fits, belongs, FieldsFit, AllFit}
use Rattle.swc_tree_node.proofs.Fit.{tree_opens, tree_closes, both, and_both, fits-Identifier}
use Rattle.swc_tree_handle.proofs.Numbers.{same_kind}
use Rattle.swc_tree_handle.specs.Handles.{kind_of, takes, is_of, is_within}

pub kind_of-Identifier : (k : Kind) (i : Ident) → kind_of (Identifier k i) ≡ Some k
kind_of-Identifier k i = simp outs-Identifier refl

pub kind_of-Tree : (k : Kind) (ts : List Node) → kind_of (Tree k ts) ≡ Some k
kind_of-Tree k ts = simp outs-Tree refl

-- what struct a node is, form by form
pub ruleset kinds = (kind_of-Identifier, kind_of-Tree)

pub identifier_opens : (k : Kind) (i : Ident) (c : Class) → Fits (Identifier k i) (slot.One (content.Node c)) → IsTrue (is_identifier k) × IsTrue (belongs k c)
identifier_opens k i c h = both (is_identifier k) (belongs k c) (rw (← fits-Identifier k i (slot.One (content.Node c))) h)

pub identifier_closes : (k : Kind) (i : Ident) (c : Class) → IsTrue (is_identifier k) → IsTrue (belongs k c) → Fits (Identifier k i) (slot.One (content.Node c))
identifier_closes k i c h g = rw (fits-Identifier k i (slot.One (content.Node c))) (and_both (is_identifier k) (belongs k c) h g)

pub tree_belongs : (k : Kind) (ts : List Node) (c : Class) → Fits (Tree k ts) (slot.One (content.Node c)) → IsTrue (belongs k c)
tree_belongs k ts c h = (tree_opens k ts c h).1

pub identifier_moves : (k : Kind) (i : Ident) (c d : Class) → Fits (Identifier k i) (slot.One (content.Node c)) → IsTrue (is_of (Identifier k i) d) → Fits (Identifier k i) (slot.One (content.Node d))
identifier_moves k i c d h g = identifier_closes k i d (identifier_opens k i c h).0 (rw (← ap (takes d) (kind_of-Identifier k i)) g)

pub tree_moves : (k : Kind) (ts : List Node) (c d : Class) → Fits (Tree k ts) (slot.One (content.Node c)) → IsTrue (is_of (Tree k ts) d) → Fits (Tree k ts) (slot.One (content.Node d))
tree_moves k ts c d h g = let o = tree_opens k ts c h in tree_closes k ts d o.0 (rw (← ap (takes d) (kind_of-Tree k ts)) g) o.2

-- by numbers alone: a tactic that meets a kind's number tells the kinds apart one by one
one_number : (n m : ℕ) → IsTrue (n == m) → n ≡ m
one_number n m h = grind arith

same_number : (n m : ℕ) (ks : List Kind) → n ≡ m → IsTrue (list_any (λ x. n == kind_number x) ks) → IsTrue (list_any (λ x. m == kind_number x) ks)
same_number n m ks e h = subst (λ z. IsTrue (list_any (λ x. z == kind_number x) ks)) e h

first : (k x : Kind) (d : Class) → IsTrue (kind_number k == kind_number x) → IsTrue (belongs x d) → IsTrue (belongs k d)
first k x d e h = same_number (kind_number x) (kind_number k) (kinds_of d) (sym (one_number (kind_number k) (kind_number x) e)) h

none : IsTrue false → ⊥
none h = absurd (cc)

found : {X : Type 0} (b c : Bool) → IsTrue (b || c) → (IsTrue b → X) → (IsTrue c → X) → X
found true c h f g = f refl
found false c h f g = g h

among : (k : Kind) (xs : List Kind) (d : Class) → IsTrue (list_any (λ x. kind_number k == kind_number x) xs) → IsTrue (list_all (λ x. belongs x d) xs) → IsTrue (belongs k d)
among k [] d h a = absurd (none h)
among k (x ∷ xs) d h a =
    let p = both (belongs x d) (list_all (λ x. belongs x d) xs) a in
    found (kind_number k == kind_number x) (list_any (λ x. kind_number k == kind_number x) xs) h (λ t. first k x d t p.0) (λ t. among k xs d t p.1)

-- a kind of the narrower class is a kind of the wider
pub within : (k : Kind) (c d : Class) → IsTrue (is_within c d) → IsTrue (belongs k c) → IsTrue (belongs k d)
within k c d w h = among k (kinds_of c) d h w

pub identifier_widens : (k : Kind) (i : Ident) (c d : Class) → Fits (Identifier k i) (slot.One (content.Node c)) → IsTrue (is_within c d) → Fits (Identifier k i) (slot.One (content.Node d))
identifier_widens k i c d h w = let o = identifier_opens k i c h in identifier_closes k i d o.0 (within k c d w o.1)

pub tree_widens : (k : Kind) (ts : List Node) (c d : Class) → Fits (Tree k ts) (slot.One (content.Node c)) → IsTrue (is_within c d) → Fits (Tree k ts) (slot.One (content.Node d))
tree_widens k ts c d h w = let o = tree_opens k ts c h in tree_closes k ts d o.0 (within k c d w o.1) o.2

only : (k l : Kind) → IsTrue (list_any (λ x. kind_number k == kind_number x) (l ∷ [])) → k ≡ l
only k l h = found (kind_number k == kind_number l) false h (λ t. same_kind k l (one_number (kind_number k) (kind_number l) t)) (λ f. absurd (none f))

-- a class of one kind
sole : (k l : Kind) (c : Class) → kinds_of c ≡ l ∷ [] → IsTrue (belongs k c) → k ≡ l
sole k l c e h = only k l (subst (λ ks. IsTrue (list_any (λ x. kind_number k == kind_number x) ks)) e h)

clash : (b : Bool) → IsTrue b → IsTrue (not b) → ⊥
clash true h g = none g
clash false h g = none h

pub sole_tree : (k : Kind) (ts : List Node) (c : Class) (l : Kind) → Fits (Tree k ts) (slot.One (content.Node c)) → kinds_of c ≡ l ∷ [] → (k ≡ l) × FieldsFit (slots_of l) ts
sole_tree k ts c l h e =
    let o = tree_opens k ts c h in
    let s = sole k l c e o.1 in
    (s, subst (λ x. FieldsFit (slots_of x) ts) s o.2)

pub sole_tree_kind : (k : Kind) (ts : List Node) (c : Class) (l : Kind) → Fits (Tree k ts) (slot.One (content.Node c)) → kinds_of c ≡ l ∷ [] → k ≡ l
sole_tree_kind k ts c l h e = (sole_tree k ts c l h e).0

pub sole_identifier : (k : Kind) (i : Ident) (c : Class) (l : Kind) → Fits (Identifier k i) (slot.One (content.Node c)) → kinds_of c ≡ l ∷ [] → (k ≡ l) × IsTrue (is_identifier l)
sole_identifier k i c l h e =
    let o = identifier_opens k i c h in
    let s = sole k l c e o.1 in
    (s, subst (λ x. IsTrue (is_identifier x)) s o.0)

pub sole_unnamed : (k : Kind) (i : Ident) (c : Class) (l : Kind) → Fits (Identifier k i) (slot.One (content.Node c)) → kinds_of c ≡ l ∷ [] → IsTrue (not (is_identifier l)) → ⊥
sole_unnamed k i c l h e = clash (is_identifier l) (sole_identifier k i c l h e).1

pub sole_plain : (k : Kind) (ts : List Node) (c : Class) (l : Kind) → Fits (Tree k ts) (slot.One (content.Node c)) → kinds_of c ≡ l ∷ [] → IsTrue (not (is_identifier l))
sole_plain k ts c l h e = subst (λ x. IsTrue (not (is_identifier x))) (sole_tree k ts c l h e).0 (tree_opens k ts c h).0

pub all_at : (s : Slot) (ts : List Node) (i : ℕ) (t : Node) → AllFit s ts → slice_get ts i ≡ Some t → Fits t s
all_at s [] i t h e = absurd (grind arith)
all_at s (x ∷ ts) zero t h e = subst (λ y. Fits y s) (grind arith) h.0
all_at s (x ∷ ts) (suc i) t h e = all_at s ts i t h.1 e

pub all_set : (s : Slot) (ts : List Node) (i : ℕ) (t : Node) → AllFit s ts → Fits t s → AllFit s (slice_set ts i t)
all_set s [] i t h f = tt
all_set s (x ∷ ts) zero t h f = (f, h.1)
all_set s (x ∷ ts) (suc i) t h f = (h.0, all_set s ts i t h.1 f)

alike : (k l : Kind) (b c : Bool) → (kind_number k == kind_number l) ≡ c → IsTrue (c || b) → (k ≡ l → ⊥) → IsTrue b
alike k l b true e h n = absurd (n (same_kind k l (one_number (kind_number k) (kind_number l) e)))
alike k l b false e h n = h

-- a kind that is not the first of a list is one of the rest
pub other : (k l : Kind) (b : Bool) → IsTrue ((kind_number k == kind_number l) || b) → (k ≡ l → ⊥) → IsTrue b
other k l b h n = alike k l b (kind_number k == kind_number l) refl h n

pub is_of_kind : (t : Node) (k : Kind) (d : Class) → kind_of t ≡ Some k → IsTrue (belongs k d) → IsTrue (is_of t d)
is_of_kind t k d e h = subst (λ o. IsTrue (takes d o)) (sym e) h

all_join : (s : Slot) (ts us : List Node) → AllFit s ts → AllFit s us → AllFit s (ts ++ us)
all_join s [] us h g = g
all_join s (t ∷ ts) us h g = (h.0, all_join s ts us h.1 g)

all_take : (s : Slot) (ts : List Node) (i : ℕ) → AllFit s ts → AllFit s (take i ts)
all_take s [] zero h = tt
all_take s [] (suc i) h = tt
all_take s (t ∷ ts) zero h = tt
all_take s (t ∷ ts) (suc i) h = (h.0, all_take s ts i h.1)

all_drop : (s : Slot) (ts : List Node) (i : ℕ) → AllFit s ts → AllFit s (drop i ts)
all_drop s [] zero h = tt
all_drop s [] (suc i) h = tt
all_drop s (t ∷ ts) zero h = h
all_drop s (t ∷ ts) (suc i) h = all_drop s ts i h.1

-- what stands round what was put in fits as before
pub all_inserted : (s : Slot) (ts us : List Node) (i : ℕ) → AllFit s ts → AllFit s us → AllFit s (take i ts ++ us ++ drop i ts)
all_inserted s ts us i h g = all_join s (take i ts ++ us) (drop i ts) (all_join s (take i ts) us (all_take s ts i h) g) (all_drop s ts i h)
