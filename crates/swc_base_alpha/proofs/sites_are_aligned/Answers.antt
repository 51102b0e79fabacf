use Rattle.swc_base_alpha.proofs.sites_are_aligned.Goals as goal
use Rattle.swc_base_alpha.proofs.Aligned.{sites_are_aligned}

-- src/lib.rt
pub returns : goal.returns
returns c = sites_are_aligned
