use Rattle.std.proofs.Common.{drop, map}
use Rattle.text_follow.specs.Follows.{Follows, FollowsFrom}
use Rattle.text_pieces.specs.Tokens.{piece_view}
use Rattle.text_follow.proofs.follow.follows.Given as goal

abbrev pub invariant-loop-i : goal.invariant-loop-i
invariant-loop-i l = FollowsFrom l.comments l.soft l.fresh l.ending (map piece_view (drop l.i l.pieces)) l.rest → Follows l.comments l.soft (map piece_view l.pieces) l.text
