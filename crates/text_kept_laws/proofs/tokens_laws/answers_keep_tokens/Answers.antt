use Rattle.text_kept_laws.proofs.tokens_laws.answers_keep_tokens.Goals as goal
use Rattle.text_kept_laws.proofs.TokensWhole.{answer_tokens}

-- src/tokens_laws.rt
pub returns : goal.returns
returns c = answer_tokens
