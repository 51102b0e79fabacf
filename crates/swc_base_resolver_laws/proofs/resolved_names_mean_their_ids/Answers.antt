use Rattle.swc_base_resolver_laws.proofs.resolved_names_mean_their_ids.Goals as goal
use Rattle.swc_base_resolver_laws.proofs.Meanings.{resolved_names_mean_their_ids}

-- src/lib.rt
pub returns : goal.returns
returns c = resolved_names_mean_their_ids
