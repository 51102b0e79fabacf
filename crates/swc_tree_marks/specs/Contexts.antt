-- Syntax contexts, as lists of marks, the oldest first.
use Rattle.std.specs.Prelude.{ℕ, ◌-◌, List, length, slice_get, unwrap_or}

-- the mark that was put on last, or the root
abbrev pub outer_of : List ℕ → ℕ
outer_of marks = unwrap_or (slice_get marks (length marks - 1)) 0
