use Rattle.swc_ecma_transforms_base_laws.proofs.settling_laws.hygiene_leaves_apart.Goals as goal
use Rattle.swc_ecma_transforms_base_laws.proofs.Leaves.{hygiene_leaves_apart}

-- src/settling_laws.rt
pub returns : goal.returns
returns c = hygiene_leaves_apart c.hygiene_keeps_apart.ensures
