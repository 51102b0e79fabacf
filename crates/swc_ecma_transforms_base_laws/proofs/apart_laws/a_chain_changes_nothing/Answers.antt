use Rattle.swc_ecma_transforms_base_laws.proofs.apart_laws.a_chain_changes_nothing.Goals as goal
use Rattle.swc_ecma_transforms_base_laws.proofs.Apart.{a_chain_changes_nothing}

-- src/apart_laws.rt
pub returns : goal.returns
returns c = a_chain_changes_nothing c.chain_changes_nothing.ensures c.answers_are_apart.ensures
