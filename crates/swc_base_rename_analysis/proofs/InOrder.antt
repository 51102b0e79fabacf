-- The order of sites has no endless way down: turns on the way to a path are no more than the tree is deep, and lists of
-- numbers of a bounded length have none. So what holds of a site if it holds of those before it, holds of each.
use Rattle.std.proofs.Common.{◌≡◌, ℕ, zero, suc, ◌+◌, ◌<◌, ◌≤◌, ◌⊎◌, inl, inr, Option, Some, None, List, [], ◌∷◌, length, refl, sym, ap, ◌∙◌, subst, arith, Less, Equal, Greater, Ordering, nat_cmp, is_eq, is_some, Bool, true, false, cond}
use Rattle.std.specs.List.{slice_get}
use Rattle.std.specs.Ordering.{MatchOrdering, ordering_then}
use Rattle.std.specs.Cmp.{ranks}
use Rattle.std.specs.Cmp.Lexicographic.{slice_cmp, bytes_decides}
use Rattle.std.proofs.lemmas.Map.Text.{is_eq-slice_cmp}
use mathlib.Core.WellFounded.Acc
use mathlib.Core.WellFounded.InvImage
use mathlib.Core.WellFounded.Subrelation
use mathlib.Core.WellFounded.{Acc}
use Rattle.swc_tree_node.specs.declared.node.Node.{Node, out-Node}
use Rattle.swc_tree_node.specs.declared.node.Node.TheOpen.{Node-F}
use Rattle.swc_tree_scoping.specs.Places.{Path, child, children_in, given}
use Rattle.swc_tree_scoping.proofs.Under.{by_children}
use Rattle.swc_base_rename_analysis.specs.Analysis.{key_field}
use Rattle.swc_base_rename_analysis.specs.Order.{IsBefore, Site, entry, turns}

-- numbers
numbers : (n m : ℕ) → m < n → Acc ◌<◌ m
numbers zero m l = absurd (omega arith)
numbers (suc n) m l = Acc.intro m (λ k h. numbers n k (omega arith))

-- lists no longer than a bound
abbrev ShorterBefore : ℕ → List ℕ → List ℕ → Type 0
ShorterBefore d xs ys = (length xs ≤ d) × (slice_cmp nat_cmp xs ys ≡ Less)

cons_before : (m n : ℕ) (k l : List ℕ) → slice_cmp nat_cmp (m ∷ k) (n ∷ l) ≡ Less → (m < n) ⊎ ((m ≡ n) × (slice_cmp nat_cmp k l ≡ Less))
cons_before m n k l h = by (nat_cmp m n) (ranks m n) h
  where
    by : (o : Ordering) → MatchOrdering o (m < n) (m ≡ n) (n < m) → ordering_then o (slice_cmp nat_cmp k l) ≡ Less → (m < n) ⊎ ((m ≡ n) × (slice_cmp nat_cmp k l ≡ Less))
    by Less r e = inl r
    by Equal r e = inr (r, e)
    by Greater r e = absurd (cc)

module _ (d : ℕ) where
  none_before : (xs : List ℕ) → slice_cmp nat_cmp xs [] ≡ Less → Acc (ShorterBefore d) xs
  none_before [] h = absurd (cc)
  none_before (x ∷ xs) h = absurd (cc)

  empty : Acc (ShorterBefore d) []
  empty = Acc.intro [] (λ xs h. none_before xs h.1)

step : (d : ℕ) → ((ys : List ℕ) → length ys ≤ d → Acc (ShorterBefore d) ys) → (n : ℕ) (l xs : List ℕ) → ShorterBefore (suc d) xs (n ∷ l)
    → ((m : ℕ) → m < n → (k : List ℕ) → Acc (ShorterBefore d) k → Acc (ShorterBefore (suc d)) (m ∷ k))
    → ((k : List ℕ) → ShorterBefore d k l → Acc (ShorterBefore (suc d)) (n ∷ k)) → Acc (ShorterBefore (suc d)) xs
step d all n l [] h smaller before = empty (suc d)
step d all n l (m ∷ k) (s, h) smaller before = by (cons_before m n k l h)
  where
    by : (m < n) ⊎ ((m ≡ n) × (slice_cmp nat_cmp k l ≡ Less)) → Acc (ShorterBefore (suc d)) (m ∷ k)
    by (inl less) = smaller m less k (all k (omega arith))
    by (inr (e, less)) = subst (λ m. Acc (ShorterBefore (suc d)) (m ∷ k)) (sym e) (before k ((omega arith), less))

with_head : (d : ℕ) → ((ys : List ℕ) → length ys ≤ d → Acc (ShorterBefore d) ys) → (n : ℕ) → Acc ◌<◌ n → (l : List ℕ) → Acc (ShorterBefore d) l → Acc (ShorterBefore (suc d)) (n ∷ l)
with_head d all n a = Acc.ndrec {C = λ n. (l : List ℕ) → Acc (ShorterBefore d) l → Acc (ShorterBefore (suc d)) (n ∷ l)}
    (λ n given smaller l b. Acc.ndrec {C = λ l. Acc (ShorterBefore (suc d)) (n ∷ l)} (λ l given before. Acc.intro (n ∷ l) (λ xs h. step d all n l xs h smaller before)) b) a

lists : (d : ℕ) (ys : List ℕ) → length ys ≤ d → Acc (ShorterBefore d) ys
lists d [] l = empty d
lists zero (y ∷ ys) l = absurd (omega arith)
lists (suc d) (y ∷ ys) l = with_head d (lists d) y (numbers (suc y) y (omega arith)) ys (lists d ys (omega arith))

each_list : (d : ℕ) (ys : List ℕ) → Acc (ShorterBefore d) ys
each_list d ys = Acc.intro ys (λ xs h. lists d xs h.0)

-- pairs of such lists, by the first and then by the second
abbrev Pair : Type 0
Pair = List ℕ × List ℕ

abbrev PairBefore : ℕ → ℕ → Pair → Pair → Type 0
PairBefore d e a b = (length a.0 ≤ d) × (length a.1 ≤ e) × (ordering_then (slice_cmp nat_cmp a.0 b.0) (slice_cmp nat_cmp a.1 b.1) ≡ Less)

equal_lists : (xs ys : List ℕ) → slice_cmp nat_cmp xs ys ≡ Equal → xs ≡ ys
equal_lists xs ys h = (bytes_decides xs ys).0 (sym (is_eq-slice_cmp xs ys) ∙ ap is_eq h)

module _ (d e : ℕ) where
  pair_step : (us vs : List ℕ) (a : Pair) → PairBefore d e a (us, vs)
      → ((xs : List ℕ) → ShorterBefore d xs us → (ys : List ℕ) → Acc (PairBefore d e) (xs, ys))
      → ((ys : List ℕ) → ShorterBefore e ys vs → Acc (PairBefore d e) (us, ys)) → Acc (PairBefore d e) a
  pair_step us vs (xs, ys) (k, l, h) outer inner = by (slice_cmp nat_cmp xs us) refl h
    where
      by : (o : Ordering) → slice_cmp nat_cmp xs us ≡ o → ordering_then o (slice_cmp nat_cmp ys vs) ≡ Less → Acc (PairBefore d e) (xs, ys)
      by Less same h = outer xs (k, same) ys
      by Equal same h = subst (λ xs. Acc (PairBefore d e) (xs, ys)) (sym (equal_lists xs us same)) (inner ys (l, h))
      by Greater same h = absurd (cc)

  pairs : (us : List ℕ) → Acc (ShorterBefore d) us → (vs : List ℕ) → Acc (PairBefore d e) (us, vs)
  pairs us a = Acc.ndrec {C = λ us. (vs : List ℕ) → Acc (PairBefore d e) (us, vs)}
      (λ us given outer vs. Acc.ndrec {C = λ vs. Acc (PairBefore d e) (us, vs)} (λ vs given inner. Acc.intro (us, vs) (λ a h. pair_step us vs a h outer inner)) (each_list e vs)) a

-- the turns on the way to a path are no more than the tree is deep
module _ (end : Node-F Node → List ℕ) (short : (y : Node-F Node) → length (end y) ≤ 1) where
  abbrev Bounded : Node → Type 0
  Bounded t = (d : ℕ) × ((p : Path) → length (turns end t p) ≤ d)

  abbrev AllBounded : List Node → Type 0
  AllBounded cs = (d : ℕ) × ((i : ℕ) (c : Node) → slice_get cs i ≡ Some c → (p : Path) → length (turns end c p) ≤ d)

  all_bounded : (cs : List Node) → ((i : ℕ) (c : Node) → slice_get cs i ≡ Some c → Bounded c) → AllBounded cs
  all_bounded [] f = (0, λ i c h. absurd (cc))
  all_bounded (c ∷ cs) f = join (f zero c refl) (all_bounded cs (λ i. f (suc i)))
    where
      join : Bounded c → AllBounded cs → AllBounded (c ∷ cs)
      join (d, h) (e, g) = (d + e, both)
        where
          both : (i : ℕ) (b : Node) → slice_get (c ∷ cs) i ≡ Some b → (p : Path) → length (turns end b p) ≤ d + e
          both zero b s p = let same : c ≡ b = cc in subst (λ b. length (turns end b p) ≤ d + e) same (let l = h p in omega arith)
          both (suc i) b s p = let l = g i b s p in omega arith

  one_more : (t : Node) → AllBounded (children_in (out-Node t)) → Bounded t
  one_more t (d, h) = (suc d, by)
    where
      below : (i : ℕ) (p : Path) (o : Option Node) → child t i ≡ o → length (given o [] (λ c. turns end c p)) ≤ d
      below i p None e = omega arith
      below i p (Some c) e = h i c e p

      by : (p : Path) → length (turns end t p) ≤ suc d
      by [] = let l = short (out-Node t) in omega arith
      by (i ∷ p) = let l = below i p (child t i) refl in omega arith

  bounded : (t : Node) → Bounded t
  bounded = by_children Bounded (λ t below. one_more t (all_bounded (children_in (out-Node t)) below))

at_most_one : (b : Bool) → length {A = ℕ} (cond b (1 ∷ []) []) ≤ 1
at_most_one true = omega arith
at_most_one false = omega arith

short_entry : (y : Node-F Node) → length (entry y) ≤ 1
short_entry (Node-F.Tree k ts) = at_most_one (is_some (key_field k))
short_entry _ = omega arith

-- sites
pub no_endless_way : (t : Node) (a : Site) → Acc (IsBefore t) a
no_endless_way t a = by (bounded entry short_entry t) (bounded (λ _. []) (λ _. omega arith) t)
  where
    turns_of : Site → Pair
    turns_of a = (turns entry t a.0, turns (λ _. []) t a.1)

    by : Bounded entry short_entry t → Bounded (λ _. []) (λ _. omega arith) t → Acc (IsBefore t) a
    by (d, h) (e, g) = Subrelation.accessible (λ a b less. (h a.0, g a.1, less)) (InvImage.accessible turns_of (pairs d e (turns_of a).0 (each_list d (turns_of a).0) (turns_of a).1))

pub by_earlier : (t : Node) (P : Site → Type 0) → ((a : Site) → ((b : Site) → IsBefore t b a → P b) → P a) → (a : Site) → P a
by_earlier t P step a = Acc.ndrec {C = P} (λ a given before. step a before) (no_endless_way t a)
