use Rattle.std.proofs.Common.{◌≡◌, ◌∷◌, map, refl, arith}
use Rattle.std.proofs.lemmas.Grind.{common_steps}
use Rattle.std.specs.Option.{option_copied}
use Rattle.text_pieces.specs.Tokens.{piece_view}
use Rattle.text_edit.proofs.Steps.{kept}
use Rattle.text_edit.proofs.walk.keep_piece.Goals as goal

pub returns : goal.returns
returns c =
    let old_is : map piece_view c.args.cursor.olds.now ≡ piece_view c.in-Some.old ∷ map piece_view c.in-Some.olds.now = grind (arith, common_steps, c.in-Some.ensures) in
    let new_is : map piece_view c.args.cursor.news.now ≡ piece_view c.in-Some-split_first.new ∷ map piece_view c.in-Some-split_first.news.now = grind (arith, common_steps, c.in-Some-split_first.ensures) in
    kept c.args.comments c.args.cursor (record { olds = c.in-Some.olds; news = c.in-Some-split_first.news; place = c.with_edge.result }) c.args.out.now.items c.write_piece.new.out.items
    (piece_view c.in-Some.old) (piece_view c.in-Some-split_first.new) (map piece_view c.in-Some.olds.now) (map piece_view c.in-Some-split_first.news.now)
    c.in-Some-behind_piece.next.rest.now (option_copied c.new_name.result) c.in-Some-behind_piece.next.fresh c.in-Some-behind_piece.next.ending c.in-Some-behind_piece.next.changed
    old_is new_is refl refl c.with_edge.ensures.rest c.with_edge.ensures.fresh c.with_edge.ensures.ending c.with_edge.ensures.changed c.new_name.ensures c.requires
    c.in-Some-behind_piece.ensures.takes c.in_ok-write_piece.ensures.extends c.in_ok-write_piece.ensures.stays
    c.in-Some-behind_piece.ensures.fresh c.in-Some-behind_piece.ensures.ending c.in-Some-behind_piece.ensures.changed
