use Rattle.std.proofs.Common.{◌≡◌, ℕ, nat_cmp, take}
use Rattle.std.specs.BTreeSet.{contains}
use Rattle.swc_base_rename_program.specs.Behind.{leaks}
use Rattle.swc_base_rename_program.proofs.behind.leaking_scopes.Given as goal

abbrev pub invariant-loop-site : goal.invariant-loop-site
invariant-loop-site l = (scope : ℕ) → contains nat_cmp l.scopes scope ≡ leaks l.regions l.spans (take l.site-index l.sites) scope
