use Rattle.std.proofs.Common.{◌≡◌, ℕ, nat_cmp, take}
use Rattle.std.specs.BTreeSet.{contains}
use Rattle.std.specs.List.{list_any}
use Rattle.swc_base_rename_program.proofs.Costs.{is_sited}
use Rattle.swc_base_rename_program.proofs.cost.rename_cost.Given as goal

abbrev pub invariant-loop-site : goal.invariant-loop-site
invariant-loop-site l = (id : ℕ) → contains nat_cmp l.ids id ≡ list_any (is_sited l.analysis l.scope id) (take l.site-index l.site-items)
