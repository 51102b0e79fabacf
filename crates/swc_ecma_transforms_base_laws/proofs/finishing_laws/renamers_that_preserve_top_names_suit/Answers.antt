use Rattle.swc_ecma_transforms_base_laws.proofs.finishing_laws.renamers_that_preserve_top_names_suit.Goals as goal
use Rattle.swc_ecma_transforms_base_laws.proofs.TopNames.{top_names_suit}

-- src/finishing_laws.rt
pub returns : goal.returns
returns c = top_names_suit c.resolved_sources_are_ready.ensures
