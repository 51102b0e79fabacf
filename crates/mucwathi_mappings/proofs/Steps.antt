-- Lines and columns behind one more byte.
use Rattle.std.specs.Prelude.{if◌then◌else◌}
use Rattle.std.proofs.Common.{◌≡◌, ℕ, zero, suc, ◌+◌, ◌-◌, ◌≤◌, List, true, false, ap, ◌∙◌, add-one, add-suc, add-zero, arith, subst}
use Rattle.text_places.specs.Places.{ends_line}
use Rattle.mucwathi_mappings.specs.Positions.{column, is_unit, line}

pub line_ended : (text : List ℕ) (i : ℕ) → ends_line text i ≡ true → line text (i + 1) ≡ line text i + 1
line_ended text i h = rw add-one (ap (λ b. if b then line text i + 1 else line text i) h)

pub line_goes_on : (text : List ℕ) (i : ℕ) → ends_line text i ≡ false → line text (i + 1) ≡ line text i
line_goes_on text i h = rw add-one (ap (λ b. if b then line text i + 1 else line text i) h)

pub column_ended : (text : List ℕ) (i : ℕ) → ends_line text i ≡ true → column text (i + 1) ≡ 0
column_ended text i h = rw add-one (ap (λ b. if b then 0 else if is_unit text i then column text i + 1 else column text i) h)

pub column_counts : (text : List ℕ) (i : ℕ) → ends_line text i ≡ false → is_unit text i ≡ true → column text (i + 1) ≡ column text i + 1
column_counts text i h g =
    rw add-one (ap (λ b. if b then 0 else if is_unit text i then column text i + 1 else column text i) h
    ∙ ap (λ b. if b then column text i + 1 else column text i) g)

pub column_goes_on : (text : List ℕ) (i : ℕ) → ends_line text i ≡ false → is_unit text i ≡ false → column text (i + 1) ≡ column text i
column_goes_on text i h g =
    rw add-one (ap (λ b. if b then 0 else if is_unit text i then column text i + 1 else column text i) h
    ∙ ap (λ b. if b then column text i + 1 else column text i) g)

-- lines go on from place to place
line_up : (text : List ℕ) (i : ℕ) → line text i ≤ line text (suc i)
line_up text i = elim (ends_line text i) as (λ b. line text i ≤ (if b then line text i + 1 else line text i)) [ true ↦ omega arith | false ↦ omega arith ]

lines_up : (text : List ℕ) (i n : ℕ) → line text i ≤ line text (i + n)
lines_up text i zero = rw add-zero (omega arith)
lines_up text i (suc n) = let here = lines_up text i n in let step = line_up text (i + n) in rw add-suc (omega arith)

pub lines_rise : (text : List ℕ) (a b : ℕ) → a ≤ b → line text a ≤ line text b
lines_rise text a b low = let sum : a + (b - a) ≡ b = omega arith in subst (λ n. line text a ≤ line text n) sum (lines_up text a (b - a))
