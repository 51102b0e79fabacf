use Rattle.text_kept_laws.proofs.pairs_laws.due_pairs_keep_shape.Goals as goal
use Rattle.text_kept_laws.proofs.PairsWhole.{pairs_shape}

-- src/pairs_laws.rt
pub returns : goal.returns
returns c = pairs_shape
