-- Scopes that all lie in the first, and in no other.
use Rattle.std.proofs.Common.{◌≡◌, ℕ, ◌==◌, ◌||◌, true, arith}
use Rattle.std.specs.Prelude.{Bool, List, []}
use Rattle.std.specs.Borrow.{Bor}
use Rattle.std.specs.List.{slice_get}
use Rattle.std.specs.Option.{option_map_or}
use Rattle.std.proofs.lemmas.Bool.Decides.{nat_tests}

abbrev pub round : ℕ → ℕ → Bool
round s t = s == 0 || s == t

pub round-own : (s : ℕ) → round s s ≡ true
round-own s = grind (arith, nat_tests)

pub round-through : (s t u : ℕ) → round s t ≡ true → round t u ≡ true → round s u ≡ true
round-through s t u p q = grind (arith, nat_tests)

pub round-same : (s t : ℕ) → round s t ≡ true → round t s ≡ true → s ≡ t
round-same s t p q = grind (arith, nat_tests)

-- the positions of the id of a number
abbrev pub positions_at : List (Bor (List ℕ)) → ℕ → List ℕ
positions_at positions x = option_map_or (λ ps. ps.now) (slice_get positions x) []

-- from where to where the scope of a number goes
abbrev pub stretch_at : List (ℕ × ℕ) → ℕ → ℕ × ℕ
stretch_at stretches s = option_map_or (λ stretch. stretch) (slice_get stretches s) (0, 0)
