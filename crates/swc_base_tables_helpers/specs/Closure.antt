-- What a helper needs, to be written out: the least set that has it and, with each, those on which it depends.
use Rattle.std.specs.Prelude.{ℕ, Bool, IsTrue}
use Rattle.swc_base_tables_helpers.specs.Table.{DependsOn}

-- with each helper of the set, the set has those on which it depends
abbrev pub IsClosed : (ℕ → Bool) → Type 0
IsClosed set = (helper other : ℕ) → IsTrue (set helper) → DependsOn helper other → IsTrue (set other)

-- the least closed set that has the helper has the other too: each closed set with the one has the other
abbrev pub InClosure : ℕ → ℕ → Type 0
InClosure helper other = (set : ℕ → Bool) → IsClosed set → IsTrue (set helper) → IsTrue (set other)
