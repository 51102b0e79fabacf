use Rattle.text_kept_laws.proofs.pairs_laws.blocks_keep_shape.Goals as goal
use Rattle.text_kept_laws.proofs.PairsWhole.{blocks_shape}

-- src/pairs_laws.rt
pub returns : goal.returns
returns c = blocks_shape
