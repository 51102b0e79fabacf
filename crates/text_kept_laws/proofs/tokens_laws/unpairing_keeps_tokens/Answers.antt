use Rattle.text_kept_laws.proofs.tokens_laws.unpairing_keeps_tokens.Goals as goal
use Rattle.text_kept_laws.proofs.TokensWhole.{unpaired_tokens}

-- src/tokens_laws.rt
pub returns : goal.returns
returns c = unpaired_tokens
