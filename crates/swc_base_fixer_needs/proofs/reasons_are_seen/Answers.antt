use Rattle.swc_base_fixer_needs.proofs.reasons_are_seen.Goals as goal
use Rattle.swc_base_fixer_needs.proofs.Seen.{seen_needs}

-- src/lib.rt
pub returns : goal.returns
returns c = λ x t s f k d. seen_needs t s f k d
