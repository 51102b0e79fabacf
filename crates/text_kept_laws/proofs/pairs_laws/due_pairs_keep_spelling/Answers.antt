use Rattle.text_kept_laws.proofs.pairs_laws.due_pairs_keep_spelling.Goals as goal
use Rattle.text_kept_laws.proofs.PairsWhole.{pairs_spelling}

-- src/pairs_laws.rt
pub returns : goal.returns
returns c = pairs_spelling
