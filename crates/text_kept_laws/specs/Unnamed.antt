-- Pieces but for what they name.
use Rattle.std.specs.Prelude.{◌≡◌, Bool, true, false, List, [], ◌∷◌, if◌then◌else◌}
use Rattle.text_pieces.specs.Tokens.{Piece, closes, name, parameter}

abbrev pub unnamed_piece : Piece → Piece
unnamed_piece (name a) = name []
unnamed_piece (parameter a) = parameter []
unnamed_piece p = p

-- no token: how what stands before it ends
abbrev pub is_ending : Piece → Bool
is_ending (closes e) = true
is_ending _ = false

-- the pieces with one name for all
abbrev pub unnamed : List Piece → List Piece
unnamed [] = []
unnamed (p ∷ ps) = if is_ending p then unnamed ps else unnamed_piece p ∷ unnamed ps

-- piece by piece the same, but for names
abbrev pub SameButNames : List Piece → List Piece → Type 0
SameButNames ps qs = unnamed ps ≡ unnamed qs
