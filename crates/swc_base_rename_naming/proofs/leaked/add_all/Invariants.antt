use Rattle.std.proofs.Common.{◌≡◌, ◌||◌, ◌==◌, ℕ, nat_cmp, take}
use Rattle.std.specs.BTreeSet.{contains}
use Rattle.std.specs.List.{list_any}
use Rattle.swc_base_rename_naming.proofs.leaked.add_all.Given as goal

abbrev pub invariant-loop-position : goal.invariant-loop-position
invariant-loop-position l = (p : ℕ) → contains nat_cmp l.places p ≡ (contains nat_cmp l.fn.places p || list_any (λ q. q == p) (take l.position-index l.positions))
