use Rattle.text_kept_laws.proofs.chain_laws.hygiene_keeps_texts.Goals as goal
use Rattle.text_kept_laws.proofs.ChainWhole.{hygiene_texts}

-- src/chain_laws.rt
pub returns : goal.returns
returns c = hygiene_texts
