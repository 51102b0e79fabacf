-- Pieces one after another, and whether a line may end before them.
use Rattle.std.proofs.Common.{◌≡◌, ℕ, ◌<◌, ◌≤◌, ◌+◌, ◌&&◌, ◌||◌, not, true, false, List, ◌∷◌, length, map, drop, get_or, refl, ap, ◌∙◌}
use Rattle.std.proofs.lemmas.List.{drop_more, drop_all}
use Rattle.text_commented.specs.Places.{is_here, is_token, may_end_line}
use Rattle.text_pieces.specs.declared.piece.Piece as code
use Rattle.text_pieces.specs.Tokens.{Piece, piece_view}

may_end_cons : (p : Piece) (ps all : List Piece) → all ≡ p ∷ ps → may_end_line all ≡ not (is_here p) && (is_token p || may_end_line ps)
unfolding may_end_line
may_end_cons p ps all e = rw e refl

pub may_end_drop : (ps : List code.Piece) (i : ℕ) (d : code.Piece) → i < length ps
    → may_end_line (map piece_view (drop i ps)) ≡ not (is_here (piece_view (get_or ps i d))) && (is_token (piece_view (get_or ps i d)) || may_end_line (map piece_view (drop (i + 1) ps)))
may_end_drop ps i d h = may_end_cons (piece_view (get_or ps i d)) (map piece_view (drop (i + 1) ps)) (map piece_view (drop i ps)) (ap (λ l. map piece_view l) (drop_more ps i d h))

pub may_end_none : (ps : List code.Piece) (i : ℕ) → length ps ≤ i → may_end_line (map piece_view (drop i ps)) ≡ true
unfolding may_end_line
may_end_none ps i h = rw (drop_all i ps h) refl

pub none_ends : (ps : List code.Piece) (i : ℕ) (d : code.Piece) → i < length ps → is_here (piece_view (get_or ps i d)) ≡ true → may_end_line (map piece_view (drop i ps)) ≡ false
none_ends ps i d h here =
    may_end_drop ps i d h ∙ ap (λ b. not b && (is_token (piece_view (get_or ps i d)) || may_end_line (map piece_view (drop (i + 1) ps)))) here

pub one_ends : (ps : List code.Piece) (i : ℕ) (d : code.Piece) → i < length ps → is_here (piece_view (get_or ps i d)) ≡ false → is_token (piece_view (get_or ps i d)) ≡ true
    → may_end_line (map piece_view (drop i ps)) ≡ true
one_ends ps i d h none token =
    may_end_drop ps i d h ∙ ap (λ b. not b && (is_token (piece_view (get_or ps i d)) || may_end_line (map piece_view (drop (i + 1) ps)))) none
    ∙ ap (λ b. b || may_end_line (map piece_view (drop (i + 1) ps))) token

pub goes_past : (ps : List code.Piece) (i : ℕ) (d : code.Piece) → i < length ps → is_here (piece_view (get_or ps i d)) ≡ false → is_token (piece_view (get_or ps i d)) ≡ false
    → may_end_line (map piece_view (drop i ps)) ≡ may_end_line (map piece_view (drop (i + 1) ps))
goes_past ps i d h none token =
    may_end_drop ps i d h ∙ ap (λ b. not b && (is_token (piece_view (get_or ps i d)) || may_end_line (map piece_view (drop (i + 1) ps)))) none
    ∙ ap (λ b. b || may_end_line (map piece_view (drop (i + 1) ps))) token
