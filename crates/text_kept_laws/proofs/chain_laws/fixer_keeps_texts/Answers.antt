use Rattle.text_kept_laws.proofs.chain_laws.fixer_keeps_texts.Goals as goal
use Rattle.text_kept_laws.proofs.ChainWhole.{paired_texts}

-- src/chain_laws.rt
pub returns : goal.returns
returns c = paired_texts
