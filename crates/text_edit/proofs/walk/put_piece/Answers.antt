use Rattle.std.proofs.Common.{◌≡◌, ◌∷◌, true, map, refl, arith}
use Rattle.std.proofs.lemmas.Grind.{common_steps}
use Rattle.text_pieces.specs.Tokens.{piece_view}
use Rattle.text_edit.proofs.Steps.{insert_advances}
use Rattle.text_edit.proofs.walk.put_piece.Goals as goal

pub returns : goal.returns
returns c =
    let new_is : map piece_view c.args.cursor.news.now ≡ piece_view c.in-Some.piece ∷ map piece_view c.in-Some.news.now = grind (arith, common_steps, c.in-Some.ensures) in
    insert_advances c.args.comments c.args.cursor
    (record { olds = c.args.cursor.olds; news = c.in-Some.news; place = record { rest = c.args.cursor.place.rest; fresh = c.args.cursor.place.fresh; ending = c.args.cursor.place.ending; changed = true; edge = c.in_ok-edge.edge } })
    c.args.out.now.items c.append.new.out.items (piece_view c.in-Some.piece) (map piece_view c.in-Some.news.now)
    new_is refl refl c.requires refl c.in_ok-append.ensures refl refl refl
