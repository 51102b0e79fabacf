-- Where comments may stand among the pieces of a tree.
use Rattle.std.specs.Prelude.{Bool, true, false, not, ◌&&◌, ◌||◌, List, [], ◌∷◌, ◌++◌, if◌then◌else◌}
use Rattle.text_pieces.specs.Tokens.{Frame, Piece, begins, closes, frame, gap, here, may_braces, may_comma, may_from, named, stops}
use Rattle.text_commented.specs.declared.remark.At.{At}
use Rattle.text_commented.specs.declared.remark.At.TheVariants as stand

-- at a frame: comments lead the node that begins there, or trail the one that stops
abbrev pub places_at : Frame → List At
places_at (begins n) = stand.Leads n ∷ []
places_at (stops n) = stand.Trails n ∷ []
places_at (named a s) = stand.Leads s.lo ∷ stand.Trails s.hi ∷ []

abbrev pub places : Piece → List At
places (frame f) = places_at f
places p = []

-- a piece is written with a token
abbrev pub is_token : Piece → Bool
is_token may_comma = false
is_token may_from = false
is_token may_braces = false
is_token here = false
is_token (closes e) = false
is_token (gap g) = false
is_token (frame f) = false
is_token p = true

abbrev pub is_here : Piece → Bool
is_here here = true
is_here p = false

-- a line may end before the first token of these pieces (ECMA-262, 12.10.1)
unfoldable pub may_end_line : List Piece → Bool
may_end_line [] = true
may_end_line (p ∷ ps) = not (is_here p) && (is_token p || may_end_line ps)

-- a line may end between the tokens round the place behind a piece; `line` says whether one may before it
abbrev pub line_behind : Bool → Piece → List Piece → Bool
line_behind line p ps = if is_token p then may_end_line ps else line

-- The places behind pieces: all of them, or those alone between tokens between which no line may end.
unfoldable pub places_from : Bool → Bool → List Piece → List At
places_from tight line [] = []
places_from tight line (p ∷ ps) = (if tight && line_behind line p ps then [] else places p) ++ places_from tight (line_behind line p ps) ps

abbrev pub places_among : Bool → List Piece → List At
places_among tight ps = places_from tight (may_end_line ps) ps

abbrev pub all_places : List Piece → List At
all_places ps = places_among false ps

abbrev pub tight_places : List Piece → List At
tight_places ps = places_among true ps
