use Rattle.std.proofs.Common.{map, subst}
use Rattle.text_pieces.specs.Tokens.{piece_view}
use Rattle.text_edit.specs.Edits.{Allowed}
use Rattle.text_edit.proofs.walk.advance.Goals as goal

pub keep_piece-requires : goal.keep_piece-requires
keep_piece-requires c = subst (λ s. Allowed s (map piece_view c.args.cursor.olds.now) (map piece_view c.args.cursor.news.now)) c.in-Both.is c.requires

pub put_piece-requires : goal.put_piece-requires
put_piece-requires c = subst (λ s. Allowed s (map piece_view c.args.cursor.olds.now) (map piece_view c.args.cursor.news.now)) c.in-Insert.is c.requires

pub remove_piece-requires : goal.remove_piece-requires
remove_piece-requires c = subst (λ s. Allowed s (map piece_view c.args.cursor.olds.now) (map piece_view c.args.cursor.news.now)) c.in-Remove.is c.requires
