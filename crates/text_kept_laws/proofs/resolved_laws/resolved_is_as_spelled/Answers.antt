use Rattle.text_kept_laws.proofs.resolved_laws.resolved_is_as_spelled.Goals as goal
use Rattle.text_kept_laws.proofs.ResolvedWhole.{resolved_spelled}

-- src/resolved_laws.rt
pub returns : goal.returns
returns c = resolved_spelled
