use Rattle.swc_ecma_transforms_base_laws.proofs.finishing_laws.renamers_that_preserve_none_keep_promises.Goals as goal
use Rattle.swc_ecma_transforms_base_laws.proofs.Promised.{none_keeps_promises}

-- src/finishing_laws.rt
pub returns : goal.returns
returns c = none_keeps_promises c.lawful_renamers_keep_promises.ensures
