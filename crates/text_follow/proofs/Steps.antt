-- One piece more.
use Rattle.std.proofs.Common.{ℕ, Bool, ◌<◌, ◌≤◌, ◌+◌, List, [], length, map, drop, get_or, subst, sym}
use Rattle.std.proofs.lemmas.List.{drop_more, drop_all}
use Rattle.text_follow.specs.Endings.{ending_behind}
use Rattle.text_follow.specs.Follows.{FollowsFrom, Takes, fresh_behind}
use Rattle.text_lexer.specs.declared.blank.Comments.{Comments}
use Rattle.text_pieces.specs.declared.item.Ending.{Ending}
use Rattle.text_pieces.specs.declared.piece.Piece as code
use Rattle.text_pieces.specs.Tokens.{piece_view}

pub one_more : (c : Comments) (soft fresh : Bool) (e : Ending) (ps : List code.Piece) (i : ℕ) (d : code.Piece) (text rest : List ℕ) → i < length ps → Takes c soft fresh e (piece_view (get_or ps i d)) text rest
    → FollowsFrom c soft (fresh_behind fresh (piece_view (get_or ps i d))) (ending_behind e (piece_view (get_or ps i d))) (map piece_view (drop (i + 1) ps)) rest
    → FollowsFrom c soft fresh e (map piece_view (drop i ps)) text
one_more c soft fresh e ps i d text rest within takes after =
    subst (λ l. FollowsFrom c soft fresh e (map piece_view l) text) (sym (drop_more ps i d within)) (rest, takes, after)

pub at_end : (c : Comments) (soft fresh : Bool) (e : Ending) (ps : List code.Piece) (i : ℕ) (text : List ℕ) → length ps ≤ i → FollowsFrom c soft fresh e [] text → FollowsFrom c soft fresh e (map piece_view (drop i ps)) text
at_end c soft fresh e ps i text past h = subst (λ l. FollowsFrom c soft fresh e (map piece_view l) text) (sym (drop_all i ps past)) h
