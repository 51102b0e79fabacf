use Rattle.std.proofs.Common.{◌≡◌, ◌∷◌, map, refl, arith}
use Rattle.std.proofs.lemmas.Grind.{common_steps}
use Rattle.text_pieces.specs.Tokens.{piece_view}
use Rattle.text_edit.proofs.Steps.{removed}
use Rattle.text_edit.proofs.walk.remove_piece.Goals as goal

pub returns : goal.returns
returns c =
    let old_is : map piece_view c.args.cursor.olds.now ≡ piece_view c.in-Some.piece ∷ map piece_view c.in-Some.olds.now = grind (arith, common_steps, c.in-Some.ensures) in
    removed c.args.comments c.args.cursor (record { olds = c.in-Some.olds; news = c.args.cursor.news; place = c.with_edge.result }) c.args.out.now.items c.append.new.out.items
    (piece_view c.in-Some.piece) (map piece_view c.in-Some.olds.now)
    c.in-Some-behind_piece.next.rest.now c.in-Some-behind_piece.next.fresh c.in-Some-behind_piece.next.ending c.in-Some-behind_piece.next.changed
    old_is refl refl c.with_edge.ensures.rest c.with_edge.ensures.fresh c.with_edge.ensures.ending c.with_edge.ensures.changed c.requires
    c.in-Some-behind_piece.ensures.takes c.in_ok-append.ensures
    c.in-Some-behind_piece.ensures.fresh c.in-Some-behind_piece.ensures.ending c.in-Some-behind_piece.ensures.changed
