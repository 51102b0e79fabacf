use Rattle.std.proofs.Common.{◌≡◌, ◌||◌, ℕ, nat_cmp}
use Rattle.std.specs.BTreeSet.{contains}
use Rattle.std.specs.List.{list_any}
use Rattle.swc_base_rename_naming.specs.Chained.{ids_left, ids_of}
use Rattle.swc_base_rename_naming.specs.Stretches.{is_at}
use Rattle.swc_base_rename_naming.proofs.leaked.places_of.Given as goal

-- with the positions of the ids that are left they are those of all
abbrev pub invariant-loop-id : goal.invariant-loop-id
invariant-loop-id g l = (p : ℕ) → (contains nat_cmp l.places p || list_any (is_at (g.A.Asked.positions l.asked) p) (ids_left l.id-iterator)) ≡ list_any (is_at (g.A.Asked.positions l.asked) p) (ids_of l.fn.holders l.text)
