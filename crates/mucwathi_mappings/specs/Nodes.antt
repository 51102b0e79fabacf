-- Nodes that are written, and their old names.
use Rattle.std.specs.Borrow.{Bor}
use Rattle.std.specs.BTreeMap.{BTreeMap, get}
use Rattle.std.specs.List.{filter_map}
use Rattle.std.specs.Ordering.{nat_cmp}
use Rattle.std.specs.Prelude.{◌≡◌, ℕ, List, [], ◌∷◌, Option, Some, None, nat_eq, option_map, slice_get, if◌then◌else◌}
use Rattle.mucwathi_mappings.specs.Names.{added, once, text_of}
use Rattle.mucwathi_mappings.specs.declared.nodes.Mapped.{Mapped}

-- the first that is there
abbrev pub or_else : Option Mapped → Option Mapped → Option Mapped
or_else (Some m) other = Some m
or_else None other = other

-- the last that is written at a place
abbrev pub last_at : List Mapped → ℕ → Option Mapped
last_at [] place = None
last_at (m ∷ ms) place = or_else (last_at ms place) (if nat_eq m.written place then Some m else None)

-- the last of each place
abbrev pub HasLast : List Mapped → BTreeMap ℕ Mapped → Type 0
HasLast ms places = (place : ℕ) → get nat_cmp places place ≡ last_at ms place

-- the old names at places, each once, in the order in which they first stand there
abbrev pub old_names : List (ℕ × Mapped) → List (List ℕ)
old_names places = once (filter_map (λ p. option_map text_of p.1.old) places)

-- the number of the old name, where there is one
abbrev pub IsNumberOf : List (List ℕ) → Option (Bor (List ℕ)) → Option ℕ → Type 0
IsNumberOf names None n = n ≡ None
IsNumberOf names (Some old) None = ⊥
IsNumberOf names (Some old) (Some n) = slice_get names n ≡ Some old.now

-- ---- as the code keeps them

-- with an old name, where there is one
abbrev pub with_old : Option (Bor (List ℕ)) → List (List ℕ) → List (List ℕ)
with_old None names = names
with_old (Some old) names = added old.now names
