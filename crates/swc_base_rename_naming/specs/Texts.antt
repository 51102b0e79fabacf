-- Texts with a counter.
use Rattle.std.specs.Prelude.{ℕ, List, ◌++◌, ◌==◌, decimal, if◌then◌else◌}

-- the text itself at 0, else the text followed by the counter in decimal
abbrev pub numbered : List ℕ → ℕ → List ℕ
numbered text n = if n == 0 then text else text ++ decimal n
