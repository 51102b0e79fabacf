-- Ids, and sets of them.
use Rattle.std.specs.Prelude.{◌≡◌, Bool}
use Rattle.std.specs.HashSet.{HashSet, contains}
use Rattle.swc_base_rename_substitution.specs.Names.{Id, same_id}

-- the set has just the ids that pass the test
abbrev pub HasJust : {S : Type 0} → (Id → Bool) → HashSet Id S → Type 0
HasJust test ids = (x : Id) → contains same_id ids x ≡ test x
