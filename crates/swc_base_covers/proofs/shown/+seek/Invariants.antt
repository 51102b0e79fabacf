use Rattle.std.proofs.Common.{◌≡◌, ℕ, ◌<◌}
use Rattle.swc_tree_scoping.specs.Places.{Path}
use Rattle.swc_base_covers.specs.Sought.{ShownBelow}
use Rattle.swc_base_covers.proofs.shown.+seek.Given as goal

-- the path is as it was, and it shows in none of those before
abbrev pub invariant-seek_below-loop-i : goal.invariant-seek_below-loop-i
invariant-seek_below-loop-i l = (l.path.items ≡ l.initial.path.items) × ((j : ℕ) (p : Path) → j < l.i → ShownBelow l.cause l.places l.nodes j p → ⊥)
