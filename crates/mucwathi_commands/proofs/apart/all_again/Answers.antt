use Rattle.std.proofs.Common.{map, ap, ◌∙◌, arith, rules}
use Rattle.std.proofs.lemmas.List.{take_all}
use Rattle.text_pieces.specs.Tokens.{piece_view}
use Rattle.mucwathi_commands.proofs.More.{piece_step}
use Rattle.mucwathi_commands.proofs.apart.all_again.Goals as goal

pub pieces-preserved : goal.pieces-preserved
pieces-preserved c =
    let l = c.pieces in
    (search rules, piece_step c.args.pieces.now l.i _ (piece_view c.in-Some.piece) (map piece_view l.list.items) _ (omega arith) c.in-Some.ensures c.in_ok-push.ensures l.invariant.1)

pub returns : goal.returns
returns c = c.pieces.invariant.1 ∙ ap (λ l. map piece_view l) (take_all c.pieces.i c.args.pieces.now (omega arith))
