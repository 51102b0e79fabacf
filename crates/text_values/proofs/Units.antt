-- The units of a literal, one more at a time.
use Rattle.std.proofs.Common.{◌≡◌, ℕ, suc, ◌<◌, ◌==◌, true, false, Option, Some, None, cond, List, [], ◌∷◌, length, take, set, refl, is_some, arith}
use Rattle.std.specs.Prelude.{option_map}
use Rattle.text_strings.specs.declared.escape.Reading.{Reading}
use Rattle.text_strings.specs.declared.escape.Unit.{Unit}
use Rattle.text_strings.specs.Escapes.{next_unit}
use Rattle.text_values.specs.Values.{units_in, units_behind}

-- what one more turn of `units_in` makes
pub units_in_step : (n m : ℕ) (reading : Reading) (rest : List ℕ) → n ≡ suc m
    → units_in n reading rest ≡ cond (length rest == 0) (Some []) (units_behind (units_in m reading) (next_unit reading rest))
unfolding units_in
units_in_step n m reading rest e = rw e refl

pub some_mapped : {A B : Type 0} (f : A → B) (o : Option A) → is_some (option_map f o) ≡ is_some o
some_mapped f None = refl
some_mapped f (Some x) = refl

good_behind : (n : ℕ) (reading : Reading) (o : Option (Unit × List ℕ)) (u : Unit) (behind : List ℕ) → o ≡ Some (u, behind)
    → is_some (units_behind (units_in n reading) o) ≡ is_some (units_in n reading behind)
good_behind n reading o u behind e = rw e (some_mapped _ (units_in n reading behind))

pub good_step : (n m : ℕ) (reading : Reading) (rest : List ℕ) (u : Unit) (behind : List ℕ) → n ≡ suc m → (length rest == 0) ≡ false
    → next_unit reading rest ≡ Some (u, behind) → is_some (units_in n reading rest) ≡ is_some (units_in m reading behind)
good_step n m reading rest u behind e some next =
    rw (units_in_step n m reading rest e, some) (good_behind m reading (next_unit reading rest) u behind next)

pub good_end : (n : ℕ) (reading : Reading) (rest : List ℕ) → n ≡ 0 → is_some (units_in n reading rest) ≡ true
unfolding units_in
good_end n reading rest e = rw e refl

pub good_empty : (n m : ℕ) (reading : Reading) (rest : List ℕ) → n ≡ suc m → (length rest == 0) ≡ true → is_some (units_in n reading rest) ≡ true
good_empty n m reading rest e empty = rw (units_in_step n m reading rest e, empty) refl

pub good_stop : (n m : ℕ) (reading : Reading) (rest : List ℕ) → n ≡ suc m → (length rest == 0) ≡ false → next_unit reading rest ≡ None
    → is_some (units_in n reading rest) ≡ false
good_stop n m reading rest e some next = rw (units_in_step n m reading rest e, some, next) refl

pub take_one_set : (xs : List ℕ) (b : ℕ) → 0 < length xs → take 1 (set xs 0 b) ≡ b ∷ []
take_one_set [] b h = absurd (omega arith)
take_one_set (x ∷ xs) b h = refl
