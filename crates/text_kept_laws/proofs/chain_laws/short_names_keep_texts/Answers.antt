use Rattle.text_kept_laws.proofs.chain_laws.short_names_keep_texts.Goals as goal
use Rattle.text_kept_laws.proofs.ChainWhole.{short_texts}

-- src/chain_laws.rt
pub returns : goal.returns
returns c = short_texts
