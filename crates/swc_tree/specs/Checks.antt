-- What a check says of a program.
use Rattle.std.specs.Prelude.{◌≡◌, Bool, ◌⊎◌}
use Rattle.swc_tree_modules.specs.declared.module_.Module.{Module}
use Rattle.swc_tree_modules.specs.declared.script.Script.{Script}

-- a program, of either goal
abbrev pub Program : Type 0
Program = Module ⊎ Script

-- a check that began as one of the first has visited the program, and this is its verdict
abbrev pub IsVerdict : {C : Type 0} → (C → Type 0) → (C → Program → C → Type 0) → (C → Bool) → Program → Bool → Type 0
IsVerdict {C} first visits handles program verdict =
    (before : C) × (after : C) × first before × visits before program after × (verdict ≡ handles after)
