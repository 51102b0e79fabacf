use Rattle.std.proofs.Common.{◌≡◌, ◌||◌, take}
use Rattle.std.specs.List.{list_any}
use Rattle.std.specs.HashSet.{contains}
use Rattle.swc_base_rename_substitution.specs.Names.{Id, same_id}
use Rattle.swc_base_mangle.specs.Own.{is_own}
use Rattle.swc_base_mangle.proofs.own.+gather.Given as goal

abbrev pub invariant-gather_all-loop-tree : goal.invariant-gather_all-loop-tree
invariant-gather_all-loop-tree l = (x : Id) → contains same_id l.ids x ≡ (contains same_id l.initial.ids x || list_any (λ t. is_own l.top t x) (take l.tree-index l.trees))
