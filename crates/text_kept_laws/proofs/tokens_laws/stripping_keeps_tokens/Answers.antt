use Rattle.text_kept_laws.proofs.tokens_laws.stripping_keeps_tokens.Goals as goal
use Rattle.text_kept_laws.proofs.TokensWhole.{stripped_tokens}

-- src/tokens_laws.rt
pub returns : goal.returns
returns c = stripped_tokens
