-- Texts with blanks in the place of signs.
use Rattle.std.specs.List.{list_any}
use Rattle.std.specs.Prelude.{◌≡◌, ◌<◌, ◌&&◌, ℕ, Bool, List, get_or, if◌then◌else◌, length, nat_le, nat_lt}
use Rattle.mucwathi_signs.specs.declared.find.Found.{Found}

abbrev pub is_between : (from to : ℕ) → ℕ → Bool
is_between from to i = nat_le from i && nat_lt i to

-- a place is one of a sign
abbrev pub is_covered : List Found → ℕ → Bool
is_covered signs i = list_any (λ s. is_between s.from s.to i) signs

-- at these places stand blanks, and at all others what stood there
pub record IsBlanked (is_blank : ℕ → Bool) (text blank : List ℕ) : Type 0 where
  pub as_long : length blank ≡ length text
  pub bytes : (i d : ℕ) → i < length text → get_or blank i d ≡ (if is_blank i then 32 else get_or text i d)
