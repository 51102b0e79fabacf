-- Whether ids occur behind the scopes that declare them.
use Rattle.std.specs.Prelude.{ℕ, Bool, true, ◌&&◌, ◌==◌, nat_le, Option, Some, List}
use Rattle.std.specs.List.{list_any, slice_get}
use Rattle.swc_base_rename_analysis.specs.declared.layout.Region.{Region}
use Rattle.swc_base_rename_naming.specs.InOrder.{Site}

-- the last position is at the end of the scope or behind it
abbrev pub is_behind : Option Region → Option (ℕ × ℕ) → Bool
is_behind (Some r) (Some s) = nat_le r.end s.1
is_behind _ _ = true

-- that of the id of a site is, at its scope
abbrev pub is_leak : List Region → List (ℕ × ℕ) → Site → Bool
is_leak regions spans a = is_behind (slice_get regions a.0) (slice_get spans a.1)

-- a scope leaks where that of an id is which it declares
abbrev pub leaks : List Region → List (ℕ × ℕ) → List Site → ℕ → Bool
leaks regions spans sites scope = list_any (λ a. is_leak regions spans a && a.0 == scope) sites
