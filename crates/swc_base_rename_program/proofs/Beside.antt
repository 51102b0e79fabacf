-- A scope that lies before the first position of an id, or behind the last, does not have it.
use Rattle.std.proofs.Common.{◌≡◌, ℕ, ◌<◌, ◌≤◌, ◌-◌, ◌⊎◌, inl, inr, true, false, nat_le, nat_lt, Some, option_map, List, length, get_or, sym, ap, ◌∙◌, arith}
use Rattle.std.specs.List.{slice_get}
use Rattle.std.proofs.lemmas.Bool.{false_from_ne_true, leb-true, ltb-true, or_cases}
use Rattle.std.proofs.lemmas.Option.{slice_get-map}
use Rattle.swc_base_rename_analysis.specs.declared.analysis.Analysis.{Analysis}
use Rattle.swc_base_rename_analysis.specs.declared.layout.Region.{Region}
use Rattle.swc_base_rename_analysis.specs.Between.{AreAscending, OneBetween}
use Rattle.swc_base_rename_analysis.specs.Read.{PositionsRise}
use Rattle.swc_base_rename_naming_laws.proofs.Names.{occurs_to}
use Rattle.swc_base_rename_naming_laws.specs.Rules.{occurs_at}
use Rattle.swc_base_rename_program.specs.Spans.{is_apart, span, spans}

pub equal_or_before : (i j : ℕ) → i ≤ j → (i ≡ j) ⊎ (i < j)
equal_or_before i j l = grind arith

pub rising_to : (xs : List ℕ) → AreAscending xs → (i j : ℕ) → i ≤ j → j < length xs → get_or xs i 0 ≤ get_or xs j 0
rising_to xs rise i j l within = elim (equal_or_before i j l) [
  | inl e ↦ let same : get_or xs i 0 ≡ get_or xs j 0 = ap (λ k. get_or xs k 0) e in omega (arith, same)
  | inr less ↦ let more = rise i j less within in omega (arith, more)
]

-- a stretch on one side
abbrev pub IsBeside : ℕ × ℕ → Region → Type 0
IsBeside s r = (s.1 < r.start) ⊎ (r.end ≤ s.0)

none_between : (xs : List ℕ) (r : Region) → AreAscending xs → IsBeside (span xs) r → OneBetween xs r.start r.end → ⊥
none_between xs r rise beside (k, within, from, to) =
    let first = rising_to xs rise 0 k (omega arith) within in
    let last = rising_to xs rise k (length xs - 1) (omega (arith, within)) (omega (arith, within)) in
    elim beside [ inl h ↦ omega (arith, h, from, last) | inr h ↦ omega (arith, h, to, first) ]

told : (r : Region) (s : ℕ × ℕ) → is_apart (Some r) (Some s) ≡ true → IsBeside s r
told r s h = elim (or_cases (nat_lt s.1 r.start) (nat_le r.end s.0) h) [
  | inl e ↦ inl (ltb-true s.1 r.start e)
  | inr e ↦ inr (leb-true r.end s.0 e)
]

pub not_occurring : (a : Analysis) (m k : ℕ) → PositionsRise a → is_apart (slice_get a.regions.items m) (slice_get (spans a.ids.items) k) ≡ true → occurs_at a m k ≡ false
not_occurring a m k rise apart = false_from_ne_true (occurs_at a m k) (λ h.
    let (r, e, f, g, between) = occurs_to a m k h in
    let there = slice_get-map (λ e. span e.positions.items) a.ids.items k ∙ ap (option_map (λ e. span e.positions.items)) g in
    none_between e.positions.items r (rise k e g) (told r (span e.positions.items) (sym (λ i. is_apart (f i) (there i)) ∙ apart)) between)
