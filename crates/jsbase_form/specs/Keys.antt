-- The keys of an object's members.
use Rattle.std.specs.Prelude.{ℕ, List, [], ◌∷◌, Bool, true, not, ◌&&◌}
use Rattle.std.specs.List.{list_any}
use Rattle.std.specs.Str.{bytes_eq}

-- no key stands twice
abbrev pub all_differ : List (List ℕ) → Bool
all_differ [] = true
all_differ (k ∷ ks) = not (list_any (λ other. bytes_eq k other) ks) && all_differ ks
