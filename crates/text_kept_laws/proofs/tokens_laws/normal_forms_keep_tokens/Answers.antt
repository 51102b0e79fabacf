use Rattle.text_kept_laws.proofs.tokens_laws.normal_forms_keep_tokens.Goals as goal
use Rattle.text_kept_laws.proofs.TokensWhole.{normal_tokens}

-- src/tokens_laws.rt
pub returns : goal.returns
returns c = normal_tokens
