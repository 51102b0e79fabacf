-- An id that does not occur behind the scope that declares it occurs at no later scope but those in that one; else the scope leaks.
use Rattle.std.proofs.Common.{◌≡◌, ℕ, ◌-◌, ◌<◌, ◌≤◌, ◌==◌, inl, inr, Bool, true, false, ◌&&◌, ◌||◌, eq-eqb, nat_le, Option, Some, None, option_map, List, [], ◌∷◌, length, map, get_or, refl, sym, ap, ◌∙◌, suc, arith}
use Rattle.std.specs.List.{AllByRecursion, slice_get}
use Rattle.std.specs.List.Sorted.{IsNonDecreasingBy}
use Rattle.std.proofs.lemmas.Bool.{and_from, le-leb, leb-false}
use Rattle.std.proofs.lemmas.Option.{slice_get-map}
use Rattle.swc_base_rename_analysis.specs.declared.analysis.Analysis.{Analysis}
use Rattle.swc_base_rename_analysis.specs.declared.layout.Region.{Region}
use Rattle.swc_base_rename_analysis_laws.specs.Means.{holds_stretch, surrounds}
use Rattle.swc_base_rename_naming.specs.InOrder.{Site}
use Rattle.swc_base_rename_naming.specs.Steps.{counts_with}
use Rattle.swc_base_rename_naming_laws.proofs.Names.{occurs_to}
use Rattle.swc_base_rename_naming_laws.proofs.Surrounds.{is_either, surrounds_own}
use Rattle.swc_base_rename_naming_laws.specs.Rules.{numbered_sites, occurs_at}
use Rattle.swc_base_rename_program.specs.Asked.{IsWellRead}
use Rattle.swc_base_rename_program.specs.Behind.{is_behind, leaks}
use Rattle.swc_base_rename_program.specs.Spans.{span, spans}
use Rattle.swc_base_rename_program.proofs.Beside.{equal_or_before, rising_to}
use Rattle.swc_base_rename_program.proofs.Counting.{AllPairs, all_map}

-- what rises along a list does so from each element to each behind it
all_from : {A : Type 0} (P : A → Type 0) (xs : List A) → ((j : ℕ) (d : A) → j < length xs → P (get_or xs j d)) → AllByRecursion P xs
all_from P [] h = tt
all_from P (x ∷ xs) h = (h 0 x (omega arith), all_from P xs (λ j d within. h (suc j) d (omega (arith, within))))

pairs_rise : {A : Type 0} (n : A → ℕ) (xs : List A) → IsNonDecreasingBy n xs → AllPairs (λ x y. n x ≤ n y) xs
pairs_rise n [] h = tt
pairs_rise n (x ∷ xs) h = (
  all_from (λ y. n x ≤ n y) xs (λ j d within. h 0 (suc j) d (omega arith) (omega (arith, within))),
  pairs_rise n xs (λ i j d before within. h (suc i) (suc j) d (omega (arith, before)) (omega (arith, within))),
)

all_to_map : {A B : Type 0} (f : A → B) (P : B → Type 0) (xs : List A) → AllByRecursion (λ x. P (f x)) xs → AllByRecursion P (map f xs)
all_to_map f P [] h = tt
all_to_map f P (x ∷ xs) (h, hs) = (h, all_to_map f P xs hs)

pairs_to_map : {A B : Type 0} (f : A → B) (R : B → B → Type 0) (xs : List A) → AllPairs (λ x y. R (f x) (f y)) xs → AllPairs R (map f xs)
pairs_to_map f R [] h = tt
pairs_to_map f R (x ∷ xs) (h, hs) = (all_to_map f (R (f x)) xs h, pairs_to_map f R xs hs)

module _ (a : Analysis) (read : IsWellRead a) where
  abbrev behind : Site → Bool
  behind b = is_behind (slice_get a.regions.items b.0) (slice_get (spans a.ids.items) b.1)

  -- a position in the scope that declares an id, and in one that is entered later
  within : (m n k : ℕ) (r q : Region) → m < n → slice_get a.regions.items m ≡ Some r → slice_get a.regions.items n ≡ Some q
      → k < r.end → q.start ≤ k → surrounds a m n ≡ true
  within m n k r q less e f below from =
      let (starts, apart) = read.nested m n r q less e f in
      elim apart [
        | inl ends ↦ is_either (m == n) _ (inr (and_from (nat_le m n) (holds_stretch (slice_get a.regions.items m) (slice_get a.regions.items n)) (le-leb m n (omega (arith, less)))
            ((λ i. holds_stretch (e i) (f i)) ∙ and_from (nat_le r.start q.start) (nat_le q.end r.end) (le-leb r.start q.start starts) (le-leb q.end r.end ends))))
        | inr after ↦ absurd (omega (arith, after, below, from))
      ]

  last_before : (o : Option Region) (s : ℕ × ℕ) → is_behind o (Some s) ≡ false → (r : Region) × (o ≡ Some r) × (s.1 < r.end)
  last_before None s h = absurd (cc)
  last_before (Some r) s h = (r, refl, leb-false r.end s.1 h)

  reaches_later : (b c : Site) → b.0 < c.0 → behind b ≡ false → occurs_at a c.0 b.1 ≡ true → surrounds a b.0 c.0 ≡ true
  reaches_later b c less h occurs =
      let (q, e, f, g, (k, there, from, to)) = occurs_to a c.0 b.1 occurs in
      let spanned = slice_get-map (λ e. span e.positions.items) a.ids.items b.1 ∙ ap (option_map (λ e. span e.positions.items)) g in
      let (r, at, ends) = last_before (slice_get a.regions.items b.0) (span e.positions.items) (ap (is_behind (slice_get a.regions.items b.0)) (sym spanned) ∙ h) in
      let last = rising_to e.positions.items (read.rising b.1 e g) k (length e.positions.items - 1) (omega (arith, there)) (omega (arith, there)) in
      within b.0 c.0 (get_or e.positions.items k 0) r q less at f (omega (arith, last, ends)) from

  reaches : (b c : Site) → b.0 ≤ c.0 → behind b ≡ false → occurs_at a c.0 b.1 ≡ true → surrounds a b.0 c.0 ≡ true
  reaches b c l h occurs = elim (equal_or_before b.0 c.0 l) [
    | inl same ↦ ap (surrounds a b.0) (sym same) ∙ surrounds_own a b.0
    | inr less ↦ reaches_later b c less h occurs
  ]

  -- scopes that have the id of a site behind them leak
  all_leak : (sites : List Site) (leaky : ℕ → Bool) → ((u : ℕ) → leaks a.regions.items (spans a.ids.items) sites u ≡ true → leaky u ≡ true) → AllByRecursion (λ b. behind b ≡ true → leaky b.0 ≡ true) sites
  all_leak [] leaky h = tt
  all_leak (b ∷ later) leaky h = (
    λ e. h b.0 (is_either (behind b && b.0 == b.0) (leaks a.regions.items (spans a.ids.items) later b.0) (inl (and_from (behind b) (b.0 == b.0) e (eq-eqb b.0 b.0 refl)))),
    all_leak later leaky (λ u e. h u (is_either (behind b && b.0 == u) (leaks a.regions.items (spans a.ids.items) later u) (inr e))),
  )

  by_leak : (leaky : ℕ → Bool) (b c : Site) (is_behind : Bool) → behind b ≡ is_behind → b.0 ≤ c.0 → (behind b ≡ true → leaky b.0 ≡ true) → occurs_at a c.0 b.1 ≡ true → counts_with leaky (surrounds a) b.0 c.0 ≡ true
  by_leak leaky b c true e l leak occurs = is_either (leaky b.0) (surrounds a b.0 c.0) (inl (leak e))
  by_leak leaky b c false e l leak occurs = is_either (leaky b.0) (surrounds a b.0 c.0) (inr (reaches b c l e occurs))

  all_reach : (leaky : ℕ → Bool) (sites : List Site) → AllPairs (λ b c. b.0 ≤ c.0) sites → AllByRecursion (λ b. behind b ≡ true → leaky b.0 ≡ true) sites
      → AllPairs (λ b c. occurs_at a c.0 b.1 ≡ true → counts_with leaky (surrounds a) b.0 c.0 ≡ true) sites
  all_reach leaky [] l h = tt
  all_reach leaky (b ∷ later) (l, ls) (h, hs) = (
    all_map (λ c. b.0 ≤ c.0) (λ c. occurs_at a c.0 b.1 ≡ true → counts_with leaky (surrounds a) b.0 c.0 ≡ true) later (λ c less. by_leak leaky b c (behind b) refl less h) l,
    all_reach leaky later ls hs,
  )

  pub sites_reach : (leaky : ℕ → Bool) → ((u : ℕ) → leaky u ≡ leaks a.regions.items (spans a.ids.items) (numbered_sites a) u)
      → AllPairs (λ b c. occurs_at a c.0 b.1 ≡ true → counts_with leaky (surrounds a) b.0 c.0 ≡ true) (numbered_sites a)
  sites_reach leaky same =
      all_reach leaky (numbered_sites a) (pairs_to_map (λ s. (s.scope, s.id)) (λ b c. b.0 ≤ c.0) a.sites.items (pairs_rise (λ s. s.scope) a.sites.items read.by_scopes)) (all_leak (numbered_sites a) leaky (λ u e. same u ∙ e))
