use Rattle.std.proofs.Common.{refl, inr}
use Rattle.text_follow.proofs.follow.in_parens_with_comma.Goals as goal

pub returns : goal.returns
returns c = inr (refl, c.in_ok-close.close.now, c.in_ok-close.ensures, c.in_ok-rest.ensures)
