-- Places that are noted.
use Rattle.std.proofs.Common.{◌≡◌, ℕ, ◌-◌, ◌<◌, ◌≤◌, Bool, true, false, cond, List, [], ◌∷◌, ◌++◌, Some, None, Contains, inl, inr, length, get_or, nat_eq, refl, sym, ap, subst, arith, ◌∙◌}
use Rattle.std.proofs.lemmas.Bool.{cases_lt, eqb-true, eq-eqb}
use Rattle.std.proofs.lemmas.Bool.Decides.{nat_tests}
use Rattle.std.proofs.lemmas.List.{get_or_default}
use Rattle.std.proofs.lemmas.List.Elements.{Contains-append_left, Contains-push}
use Rattle.std.proofs.lemmas.List.Sorted.{Contains-permutation}
use Rattle.std.proofs.lemmas.Option.{get_or_from_slice_get, slice_get-get_or, slice_get_within}
use Rattle.std.specs.BTreeMap.{BTreeMap, Updates, get, is_at}
use Rattle.std.specs.List.{slice_get}
use Rattle.std.specs.List.Sorted.{IsNonDecreasing, IsPermutation}
use Rattle.std.specs.Map.{lookup}
use Rattle.std.specs.Ordering.{is_eq, nat_cmp}
use Rattle.text_commented.specs.Steps.{AreListed, IsReady, Notes}
use Rattle.text_commented.specs.declared.noted.Noted.{Noted}

same_number : (a b : ℕ) → is_eq (nat_cmp a b) ≡ nat_eq a b
same_number a b = grind (arith, nat_tests)

-- of numbers in order just so many are less than one, and the next is more
pub not_among : (xs : List ℕ) (near place : ℕ) → IsNonDecreasing xs → (0 < near → (x : ℕ) × (slice_get xs (near - 1) ≡ Some x) × (x < place)) → ((x : ℕ) → slice_get xs near ≡ Some x → place < x) → ¬ Contains xs place
not_among xs near place rise before behind among =
    let (k, within, is) = among in
    let there : get_or xs k 0 ≡ place = get_or_default xs k 0 place within ∙ is in
    elim (cases_lt k near) [
      | inl less ↦
          let some : 0 < near = omega arith in
          let (x, at, below) = before some in
          let inside : near - 1 < length xs = slice_get_within xs (near - 1) x at in
          let last : get_or xs (near - 1) 0 ≡ x = get_or_from_slice_get xs (near - 1) x 0 at in
          let low : k ≤ near - 1 = omega arith in
          let up : get_or xs k 0 ≤ get_or xs (near - 1) 0 = rise k (near - 1) 0 low inside in
          absurd (omega arith)
      | inr more ↦
          let inside : near < length xs = omega arith in
          let above : place < get_or xs near 0 = behind (get_or xs near 0) (slice_get-get_or xs near 0 inside) in
          let up : get_or xs near 0 ≤ get_or xs k 0 = rise near k 0 more within in
          absurd (omega arith)
    ]

pub none_listed : (s : Noted) → s.behind.entries ≡ [] → AreListed s
none_listed s empty a none = ap (lookup (is_at (nat_cmp a))) empty

pub note_same : (s : Noted) (place before other : ℕ) → get nat_cmp s.behind place ≡ Some other → other ≡ before → Notes s s place before
note_same s place before other is same = record { kept = λ a b h. h; noted = is ∙ ap (λ (n : ℕ). Some n) same; listed = λ are. are }

pub note_more : (old new : Noted) (place before : ℕ) → get nat_cmp old.behind place ≡ None → Updates nat_cmp old.behind new.behind place (Some before) → new.listed.items ≡ old.listed.items ++ place ∷ [] → Notes old new place before
note_more old new place before none updates more = record {
  kept = λ a b h. found a ∙ kept a b (nat_eq place a) refl h;
  noted = found place ∙ ap (λ t. cond t (Some before) (get nat_cmp old.behind place)) (eq-eqb place place refl);
  listed = λ are a not. found a ∙ unlisted are a not (nat_eq place a) refl;
}
  where
    found : (a : ℕ) → get nat_cmp new.behind a ≡ cond (nat_eq place a) (Some before) (get nat_cmp old.behind a)
    found a = updates.0 a ∙ ap (λ t. cond t (Some before) (get nat_cmp old.behind a)) (same_number place a)

    kept : (a b : ℕ) (t : Bool) → nat_eq place a ≡ t → get nat_cmp old.behind a ≡ Some b → cond t (Some before) (get nat_cmp old.behind a) ≡ Some b
    kept a b true e h = let other : get nat_cmp old.behind a ≡ None = ap (get nat_cmp old.behind) (sym (eqb-true place a e)) ∙ none in absurd (cc)
    kept a b false e h = h

    unlisted : AreListed old → (a : ℕ) → ¬ Contains new.listed.items a → (t : Bool) → nat_eq place a ≡ t → cond t (Some before) (get nat_cmp old.behind a) ≡ None
    unlisted are a not true e = absurd (not (subst (λ l. Contains l a) (sym more) (subst (Contains (old.listed.items ++ place ∷ [])) (eqb-true place a e) (Contains-push old.listed.items place))))
    unlisted are a not false e = are a (λ among. not (subst (λ l. Contains l a) (sym more) (Contains-append_left old.listed.items (place ∷ []) a among)))

pub is_ready : (s t : Noted) → AreListed s → t.behind ≡ s.behind → IsPermutation s.listed.items t.listed.items → IsNonDecreasing t.listed.items → IsReady t
is_ready s t are same shuffled rise = record {
  listed = λ a not. ap (λ (m : BTreeMap ℕ ℕ). get nat_cmp m a) same ∙ are a (λ among. not (Contains-permutation s.listed.items t.listed.items a shuffled among));
  rise = rise;
}

pub stays_ready : (s t : Noted) → IsReady s → t.behind ≡ s.behind → t.listed ≡ s.listed → IsReady t
stays_ready s t ready same list = record {
  listed = λ a not. ap (λ (m : BTreeMap ℕ ℕ). get nat_cmp m a) same ∙ ready.listed a (λ among. not (subst (λ l. Contains l.items a) (sym list) among));
  rise = subst (λ l. IsNonDecreasing l.items) (sym list) ready.rise;
}
