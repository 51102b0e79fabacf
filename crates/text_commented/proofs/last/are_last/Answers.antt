use Rattle.std.proofs.Common.{All, IfSome, Option, map, subst}
use Rattle.text_pieces.specs.Tokens.{piece_view}
use Rattle.text_commented.specs.Steps.{IsNoted, IsReady, placed_view}
use Rattle.text_commented.specs.declared.noted.Noted.{Noted}
use Rattle.text_commented.proofs.Lasting.{all_last}
use Rattle.text_commented.proofs.last.are_last.Goals as goal

pub returns : goal.returns
returns c = λ yes.
    let found : IsReady c.in-Some.noted × All (IsNoted c.args.remarks.now c.in-Some.noted.behind) (map placed_view c.args.placed.now) =
    subst (λ (o : Option Noted). IfSome o (λ noted. IsReady noted × All (IsNoted c.args.remarks.now noted.behind) (map placed_view c.args.placed.now))) c.in-Some.is c.in_ok-found.ensures in
    all_last c.args.remarks.now (map piece_view c.args.pieces.now) c.in-Some.noted.behind (map placed_view c.args.placed.now) (c.pieces_stop.ensures yes) found.1
