-- What the places of a text say of its ids.
use Rattle.std.proofs.Common.{◌≡◌, ℕ, ◌==◌, eqb-true, Bool, true, false, ◌||◌, ◌&&◌, ◌⊎◌, inl, inr, Some, None, List, [], ◌∷◌, cond, nat_cmp, refl, sym, ◌∙◌, ap, arith}
use Rattle.std.specs.BTreeMap as tree
use Rattle.std.specs.BTreeMap.{get_by_text}
use Rattle.std.specs.Prelude.{unwrap_or}
use Rattle.std.specs.BTreeSet.{BTreeSet, contains}
use Rattle.std.proofs.lemmas.Bool.Decides.{nat_tests}
use Rattle.std.specs.List.{list_any}
use Rattle.std.specs.Str.{bytes_eq}
use Rattle.std.proofs.Math.Bool.{or-true}
use Rattle.std.proofs.lemmas.Bool.{false_from_ne_true}
use Rattle.std.proofs.lemmas.Slice.Eq.{bytes_eq-Decides}
use Rattle.swc_base_rename_naming.specs.Chained.{ids_of}
use Rattle.swc_base_rename_naming.specs.Places.{AnyWithin, AreMarked, AreMarkedAlso, NoneWithin}
use Rattle.swc_base_rename_naming.specs.Steps.{HasAlso}
use Rattle.swc_base_rename_naming.specs.Stretches.{is_at, is_within}
use Rattle.swc_base_rename_naming.specs.declared.leaked.Leaked.{Leaked}

either : (a b : Bool) → (a || b) ≡ true → (a ≡ true) ⊎ (b ≡ true)
either true b h = inl refl
either false b h = inr h

at_first : (a b : Bool) → a ≡ true → (a || b) ≡ true
at_first a b h = ap (λ c. c || b) h

behind : (a b : Bool) → b ≡ true → (a || b) ≡ true
behind a b h = ap (λ c. a || c) h ∙ or-true a

-- a position that passes a test is one that does
passes : (f : ℕ → Bool) (p : ℕ) (qs : List ℕ) → f p ≡ true → list_any (λ q. q == p) qs ≡ true → list_any f qs ≡ true
passes f p [] here h = absurd (cc)
passes f p (q ∷ qs) here h =
    elim (either (q == p) (list_any (λ r. r == p) qs) h) [
      | inl same ↦ at_first (f q) (list_any f qs) (ap f (eqb-true q p same) ∙ here)
      | inr later ↦ behind (f q) (list_any f qs) (passes f p qs here later)
    ]

itself : (p : ℕ) → (p == p) ≡ true
itself p = grind (arith, nat_tests)

-- where one passes it, that is one of them
passing : (f : ℕ → Bool) (qs : List ℕ) → list_any f qs ≡ true → (p : ℕ) × (f p ≡ true) × (list_any (λ q. q == p) qs ≡ true)
passing f [] h = absurd (cc)
passing f (q ∷ qs) h =
    elim (either (f q) (list_any f qs) h) [
      | inl here ↦ (q, here, at_first (q == q) (list_any (λ r. r == q) qs) (itself q))
      | inr later ↦ let (p, there, among) = passing f qs later in (p, there, behind (q == p) (list_any (λ r. r == p) qs) among)
    ]

module _ (positions : ℕ → List ℕ) (occurs : ℕ → Bool) (stretch : ℕ × ℕ) (placed : (k : ℕ) → occurs k ≡ list_any (is_within stretch) (positions k)) where
  one_occurs : (p : ℕ) (ids : List ℕ) → is_within stretch p ≡ true → list_any (is_at positions p) ids ≡ true → list_any occurs ids ≡ true
  one_occurs p [] here h = absurd (cc)
  one_occurs p (k ∷ ks) here h =
      elim (either (is_at positions p k) (list_any (is_at positions p) ks) h) [
        | inl stands ↦ at_first (occurs k) (list_any occurs ks) (placed k ∙ passes (is_within stretch) p (positions k) here stands)
        | inr later ↦ behind (occurs k) (list_any occurs ks) (one_occurs p ks here later)
      ]

  occurring : (ids : List ℕ) → list_any occurs ids ≡ true → (p : ℕ) × (is_within stretch p ≡ true) × (list_any (is_at positions p) ids ≡ true)
  occurring [] h = absurd (cc)
  occurring (k ∷ ks) h =
      elim (either (occurs k) (list_any occurs ks) h) [
        | inl here ↦ let (p, there, among) = passing (is_within stretch) (positions k) (sym (placed k) ∙ here) in (p, there, at_first (is_at positions p k) (list_any (is_at positions p) ks) among)
        | inr later ↦ let (p, there, among) = occurring ks later in (p, there, behind (is_at positions p k) (list_any (is_at positions p) ks) among)
      ]

  module _ (ids : List ℕ) (places : BTreeSet ℕ) (marked : (p : ℕ) → contains nat_cmp places p ≡ list_any (is_at positions p) ids) where
    pub any_placed : AnyWithin places stretch → list_any occurs ids ≡ true
    any_placed (p, among, here) = one_occurs p ids here (sym (marked p) ∙ among)

    pub none_placed : NoneWithin places stretch → list_any occurs ids ≡ false
    none_placed none = false_from_ne_true (list_any occurs ids) (λ h. let (p, here, among) = occurring ids h in absurd (cc (none p here, marked p, among)))

    pub placed_so : (b : Bool) → (b ≡ true → AnyWithin places stretch) → (b ≡ false → NoneWithin places stretch) → b ≡ list_any occurs ids
    placed_so true any none = sym (any_placed (any refl))
    placed_so false any none = sym (none_placed (none refl))

or_none : (b : Bool) → b ≡ (b || false)
or_none true = refl
or_none false = refl

-- the places of one text with those of one id more
module _ (positions : ℕ → List ℕ) (was : Leaked) (text : List ℕ) (id : ℕ) (new : BTreeSet ℕ) (added : (p : ℕ) → contains nat_cmp new p ≡ (list_any (is_at positions p) (ids_of was.holders text) || is_at positions p id)) (marked : AreMarked positions was) where
  marked_at : (b : Bool) (x : List ℕ) (places : BTreeSet ℕ) → bytes_eq text x ≡ b → cond b (Some new) (get_by_text was.places x) ≡ Some places
      → (p : ℕ) → contains nat_cmp places p ≡ (list_any (is_at positions p) (ids_of was.holders x) || (b && is_at positions p id))
  marked_at true x places same at p =
      sym (ap (λ o. contains nat_cmp (unwrap_or o new) p) at)
      ∙ added p
      ∙ ap (λ t. list_any (is_at positions p) (ids_of was.holders t) || is_at positions p id) ((bytes_eq-Decides text x).0 same)
  marked_at false x places other at p = marked x places at p ∙ or_none (list_any (is_at positions p) (ids_of was.holders x))

  pub marked_also : (is : Leaked) → ((x : List ℕ) → get_by_text is.places x ≡ cond (bytes_eq text x) (Some new) (get_by_text was.places x)) → AreMarkedAlso positions text id was is
  marked_also is sets x places at = marked_at (bytes_eq text x) x places refl (sym (sets x) ∙ at)

-- a text without places gets one id more
pub none_marked : (positions : ℕ → List ℕ) (was : Leaked) (text : List ℕ) (id : ℕ) → get_by_text was.places text ≡ None → AreMarked positions was → AreMarkedAlso positions text id was was
none_marked positions was text id none marked x places at p = by (bytes_eq text x) refl
  where
    by : (b : Bool) → bytes_eq text x ≡ b → contains nat_cmp places p ≡ (list_any (is_at positions p) (ids_of was.holders x) || (b && is_at positions p id))
    by true same = absurd (cc ((bytes_eq-Decides text x).0 same, none, at))
    by false other = marked x places at p ∙ or_none (list_any (is_at positions p) (ids_of was.holders x))

-- the ids were given the text
pub marked_pushed : (positions : ℕ → List ℕ) (text : List ℕ) (id : ℕ) (was mid is : Leaked) → AreMarkedAlso positions text id was mid → mid.places ≡ is.places → HasAlso true text id was.holders is.holders → AreMarked positions is
marked_pushed positions text id was mid is also same has x places at p = also x places (ap (λ table. get_by_text table x) same ∙ at) p ∙ sym (has x (is_at positions p))

-- one position more is put in
pub one_more : (k p : ℕ) (was : Bool) → cond (tree.is_at (nat_cmp k) p) true was ≡ (was || (k == p))
one_more k p true = grind (arith, nat_tests)
one_more k p false = grind (arith, nat_tests)

pub or_grouped : (a b c : Bool) → ((a || b) || c) ≡ (a || (b || c))
or_grouped true b c = refl
or_grouped false b c = refl
