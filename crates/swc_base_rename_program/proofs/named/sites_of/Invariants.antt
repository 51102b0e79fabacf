use Rattle.std.proofs.Common.{◌≡◌, map, take}
use Rattle.swc_base_rename_program.proofs.named.sites_of.Given as goal

abbrev pub invariant-loop-site : goal.invariant-loop-site
invariant-loop-site l = l.sites.items ≡ map (λ s. (s.scope, s.id)) (take l.site-index l.site-items)
