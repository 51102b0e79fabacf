use Rattle.text_kept_laws.proofs.chain_laws.chain_keeps_texts.Goals as goal
use Rattle.text_kept_laws.proofs.ChainWhole.{chain_texts}

-- src/chain_laws.rt
pub returns : goal.returns
returns c = chain_texts
