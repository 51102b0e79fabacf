use Rattle.std.proofs.Common.{List, ◌++◌, drop, map}
use Rattle.text_pieces.specs.Tokens.{piece_view}
use Rattle.text_comments.specs.Comments.{HasComments, HasCommentsFrom}
use Rattle.text_comments.specs.declared.comment.Comment.{Comment}
use Rattle.text_comments.proofs.find.comments_between.Given as goal

abbrev pub invariant-pieces : goal.invariant-pieces
invariant-pieces l =
    (more : List Comment) → HasCommentsFrom l.source.comments l.source.whole.now l.fresh l.ending (map piece_view (drop l.i l.pieces)) l.rest more
    → HasComments l.source.comments (map piece_view l.pieces) l.source.whole.now (l.found.items ++ more)
