use Rattle.text_kept_laws.proofs.pairs_laws.blocks_keep_spelling.Goals as goal
use Rattle.text_kept_laws.proofs.PairsWhole.{blocks_spelling}

-- src/pairs_laws.rt
pub returns : goal.returns
returns c = blocks_spelling
