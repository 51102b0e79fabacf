-- Counters at which the search for free texts goes on.
use Rattle.std.specs.Prelude.{◌≡◌, ℕ, ◌<◌, ◌==◌, Bool, true, List, unwrap_or, if◌then◌else◌}
use Rattle.std.specs.BTreeMap.{get_by_text}
use Rattle.swc_base_rename_substitution.specs.Names.{Id}
use Rattle.swc_base_rename_naming.specs.Steps.{Maps, taken_at}
use Rattle.swc_base_rename_naming.specs.declared.tried.Tried.{Tried}

-- the counter that was put down for a text at a scope, else 0
abbrev pub tried_at : Tried → ℕ → List ℕ → ℕ
tried_at tried s x = if tried.scope == s then unwrap_or (get_by_text tried.counters x) 0 else 0

-- below it each counter gives each id of that text one that is taken there
abbrev pub IsTried : (Id → ℕ → List ℕ) → (List ℕ → Bool) → (ℕ → ℕ → Bool) → Maps → Tried → Type 0
IsTried text preserved occurs maps tried = (s : ℕ) (x : Id) (k : ℕ) → k < tried_at tried s x.0 → taken_at preserved occurs maps s (text x k) ≡ true
