-- One comment more that is lost, and one piece more.
use Rattle.std.proofs.Common.{◌≡◌, ℕ, ◌+◌, ◌<◌, List, [], ◌∷◌, ◌++◌, length, map, take, get_or, sym, ap, ◌∙◌}
use Rattle.std.proofs.lemmas.List.{map-append, take_more}
use Rattle.text_comments.specs.declared.comment.Comment.{Comment}
use Rattle.text_commented.specs.declared.left.Left.{Left}
use Rattle.text_pieces.specs.Tokens.{Piece, piece_view}
use Rattle.text_pieces.specs.declared.piece.Piece as code
use Rattle.mucwathi_commands.specs.Comments.{bytes_before_left}

pub lost_step : (ks : List Comment) (ls : List Left) (i : ℕ) (d l : Left) (old new : List ℕ) (at : ℕ) → i < length ls → l ≡ get_or ls i d → at ≡ bytes_before_left ks l → new ≡ old ++ at ∷ []
    → old ≡ map (bytes_before_left ks) (take i ls) → new ≡ map (bytes_before_left ks) (take (i + 1) ls)
lost_step ks ls i d l old new at below is told added h =
    let more : map (bytes_before_left ks) (take (i + 1) ls) ≡ map (bytes_before_left ks) (take i ls) ++ bytes_before_left ks l ∷ [] =
    ap (map (bytes_before_left ks)) (take_more ls i d below) ∙ map-append (bytes_before_left ks) (take i ls) (get_or ls i d ∷ []) ∙ ap (λ (x : Left). map (bytes_before_left ks) (take i ls) ++ bytes_before_left ks x ∷ []) (sym is) in
    added ∙ ap (λ (n : ℕ). old ++ n ∷ []) told ∙ ap (λ (m : List ℕ). m ++ bytes_before_left ks l ∷ []) h ∙ sym more

-- one piece more that is made again
pub piece_step : (ps : List code.Piece) (i : ℕ) (d : code.Piece) (v : Piece) (old new : List Piece) → i < length ps → v ≡ piece_view (get_or ps i d) → new ≡ old ++ v ∷ [] → old ≡ map piece_view (take i ps)
    → new ≡ map piece_view (take (i + 1) ps)
piece_step ps i d v old new below is added h =
    let more : map piece_view (take (i + 1) ps) ≡ map piece_view (take i ps) ++ v ∷ [] =
    ap (map piece_view) (take_more ps i d below) ∙ map-append piece_view (take i ps) (get_or ps i d ∷ []) ∙ ap (λ (x : Piece). map piece_view (take i ps) ++ x ∷ []) (sym is) in
    added ∙ ap (λ (l : List Piece). l ++ v ∷ []) h ∙ sym more
