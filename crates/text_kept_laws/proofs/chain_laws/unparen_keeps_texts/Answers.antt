use Rattle.text_kept_laws.proofs.chain_laws.unparen_keeps_texts.Goals as goal
use Rattle.text_kept_laws.proofs.ChainWhole.{bared_texts}

-- src/chain_laws.rt
pub returns : goal.returns
returns c = bared_texts
