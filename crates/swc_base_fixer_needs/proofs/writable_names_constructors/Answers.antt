use Rattle.swc_base_fixer_needs.proofs.writable_names_constructors.Goals as goal
use Rattle.swc_base_fixer_needs.proofs.WritableNames.{writable_names_constructors}

-- src/lib.rt
pub returns : goal.returns
returns c = writable_names_constructors
