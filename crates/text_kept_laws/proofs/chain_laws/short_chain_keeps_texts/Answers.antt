use Rattle.text_kept_laws.proofs.chain_laws.short_chain_keeps_texts.Goals as goal
use Rattle.text_kept_laws.proofs.ChainWhole.{short_chain_texts}

-- src/chain_laws.rt
pub returns : goal.returns
returns c = short_chain_texts
