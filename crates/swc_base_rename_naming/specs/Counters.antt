-- Counters, and why a renamer refuses a text.
use Rattle.std.specs.Prelude.{◌≡◌, ℕ, ◌+◌, ◌-◌, ◌<◌, ◌^◌}
use Rattle.swc_tree_marks.specs.declared.error.PassError.{PassError}
use Rattle.swc_tree_marks.specs.declared.error.PassError.TheVariants as pass

-- the greatest counter, which is the greatest `usize`
abbrev pub greatest : ℕ
greatest = 2 ^ 64 - 1

-- the counter was not at its end, and went one up
pub record IsCounted (old new : ℕ) : Type 0 where
  pub below : old < greatest
  pub up : new ≡ old + 1

-- the counter was at its end, and stays there
pub record IsSpent (old new : ℕ) : Type 0 where
  pub at_end : old ≡ greatest
  pub stays : new ≡ old

-- a refusal is for want of memory, or since counters are spent, of which so much is known
abbrev pub IsOfMemoryOr : Type 0 → PassError → Type 0
IsOfMemoryOr spent pass.NoMemory = Unit {0}
IsOfMemoryOr spent pass.CounterSpent = spent
IsOfMemoryOr spent pass.MarksSpent = ⊥
IsOfMemoryOr spent pass.NotAssignable = ⊥
IsOfMemoryOr spent pass.TypesLeft = ⊥

-- a text may be refused for want of memory, and where the counter is spent
abbrev pub IsRefusal : PassError → ℕ → ℕ → Type 0
IsRefusal e old new = IsOfMemoryOr (IsSpent old new) e
