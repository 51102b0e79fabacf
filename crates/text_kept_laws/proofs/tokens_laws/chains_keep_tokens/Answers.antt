use Rattle.text_kept_laws.proofs.tokens_laws.chains_keep_tokens.Goals as goal
use Rattle.text_kept_laws.proofs.TokensWhole.{chain_tokens}

-- src/tokens_laws.rt
pub returns : goal.returns
returns c = chain_tokens
