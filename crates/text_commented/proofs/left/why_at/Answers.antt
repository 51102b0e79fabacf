use Rattle.std.proofs.Common.{IfSome, List, subst, sym}
use Rattle.text_pieces.specs.Tokens.{Piece}
use Rattle.text_commented.specs.Places.{all_places, tight_places}
use Rattle.text_commented.specs.Sites.{IsSites}
use Rattle.text_commented.specs.Why.{IsTold}
use Rattle.text_commented.proofs.left.why_at.Goals as goal

pub returns : goal.returns
returns c =
    subst (λ o. IfSome c.why_of.result (λ why. (ps : List Piece) → IsSites c.args.all.now (all_places ps) → IsSites c.args.tight.now (tight_places ps) → IsTold c.args.comments ps o why))
    (sym c.in-Some.ensures) c.why_of.ensures
