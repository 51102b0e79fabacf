use Rattle.swc_base_resolver_laws.proofs.resolved_scripts_are_plain.Goals as goal
use Rattle.swc_base_resolver_laws.proofs.Plain.{resolved_scripts_are_plain}

-- src/lib.rt
pub returns : goal.returns
returns c = resolved_scripts_are_plain
