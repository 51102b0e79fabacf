-- One name more in a scope.
use Rattle.std.specs.Prelude.{◌≡◌, ℕ, List, if◌then◌else◌}
use Rattle.std.specs.Str.{bytes_eq}
use Rattle.swc_base_resolver_program.specs.declared.names.ScopeNames.{ScopeNames}
use Rattle.swc_base_resolver_program.specs.declared.names.Ways.{Ways}
use Rattle.swc_base_resolver_program.specs.Names.{both_ways, ways_of}

-- the name has those ways more, and the others stay as they are
abbrev pub IsInserted : ScopeNames → ScopeNames → List ℕ → Ways → Type 0
IsInserted old new name more = (x : List ℕ) → ways_of new x ≡ (if bytes_eq name x then both_ways (ways_of old name) more else ways_of old x)
