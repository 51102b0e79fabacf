use Rattle.text_kept_laws.proofs.tokens_laws.writing_out_keeps_tokens.Goals as goal
use Rattle.text_kept_laws.proofs.TokensWhole.{written_tokens}

-- src/tokens_laws.rt
pub returns : goal.returns
returns c = written_tokens
