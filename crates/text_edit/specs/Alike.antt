-- Pieces of two trees held against each other.
use Rattle.std.specs.Prelude.{ℕ, zero, suc, Bool, true, false, ◌&&◌, nat_eq, if◌then◌else◌, List, [], ◌∷◌, Option, Some, None, is_none}
use Rattle.std.specs.Cmp.Lexicographic.{pointwise}
use Rattle.text_lexer.specs.declared.mark.Mark.{Mark}
use Rattle.text_lexer.specs.declared.token.TemplatePart.{TemplatePart}
use Rattle.text_lexer.specs.declared.token.TemplatePart.TheVariants as part
use Rattle.text_lexer.specs.Marks.{spelling}
use Rattle.text_pieces.specs.declared.piece.Gap.{Gap}
use Rattle.text_pieces.specs.declared.piece.Gap.TheVariants as line
use Rattle.text_pieces.specs.Tokens.{Piece, attribute, big_integer, closes, ends, frame, gap, hashbang, here, may_braces, may_comma, may_from, name, never, number, parameter, private_name, punctuator, quoted, regex, template, word}

abbrev pub same_text : List ℕ → List ℕ → Bool
same_text a b = pointwise nat_eq a b

abbrev pub same_mark : Mark → Mark → Bool
same_mark m n = pointwise nat_eq (spelling m) (spelling n)

abbrev pub same_raw : Option (List ℕ) → Option (List ℕ) → Bool
same_raw (Some a) (Some b) = same_text a b
same_raw None None = true
same_raw _ _ = false

abbrev pub same_part : TemplatePart → TemplatePart → Bool
same_part part.Whole part.Whole = true
same_part part.Head part.Head = true
same_part part.Middle part.Middle = true
same_part part.Tail part.Tail = true
same_part _ _ = false

abbrev pub same_gap : Gap → Gap → Bool
same_gap line.Line line.Line = true
same_gap line.In line.In = true
same_gap line.Out line.Out = true
same_gap _ _ = false

abbrev pub same_literal : Piece → Piece → Bool
same_literal (quoted a raw) (quoted b other) = same_text a b && same_raw raw other
same_literal (template p a raw) (template q b other) = same_part p q && same_text raw other
same_literal (regex a flags) (regex b others) = same_text a b && same_text flags others
same_literal (attribute a value) (attribute b other) = same_text a b && same_text value other
same_literal _ _ = false

abbrev pub same_token : Piece → Piece → Bool
same_token (word a) (word b) = same_text a b
same_token (private_name a) (private_name b) = same_text a b
same_token (punctuator m) (punctuator n) = same_mark m n
same_token (number a) (number b) = same_text a b
same_token (big_integer a) (big_integer b) = same_text a b
same_token (hashbang a) (hashbang b) = same_text a b
same_token p q = same_literal p q

-- Two pieces are the same but for what they name, and for how what is written ends.
abbrev pub alike : Piece → Piece → Bool
alike (name a) (name b) = true
alike (parameter a) (parameter b) = true
alike (closes e) (closes f) = true
alike may_comma may_comma = true
alike may_from may_from = true
alike may_braces may_braces = true
alike here here = true
alike ends ends = true
alike never never = true
alike (frame f) (frame g) = true
alike (gap g) (gap h) = same_gap g h
alike p q = same_token p q

abbrev pub other_text : List ℕ → List ℕ → Option (List ℕ)
other_text a b = if same_text a b then None else Some b

-- the name that one piece has in the place of another's
abbrev pub new_name : Piece → Piece → Option (List ℕ)
new_name (name a) (name b) = other_text a b
new_name (parameter a) (parameter b) = other_text a b
new_name _ _ = None

-- the pieces are the same
abbrev pub is_same : Piece → Piece → Bool
is_same p q = is_none (new_name p q) && alike p q

-- Two lists begin with n pieces that are alike, or with fewer and end.
abbrev pub begin_alike : ℕ → List Piece → List Piece → Bool
begin_alike zero ps qs = true
begin_alike (suc n) (p ∷ ps) (q ∷ qs) = alike p q && begin_alike n ps qs
begin_alike (suc n) [] [] = true
begin_alike (suc n) _ _ = false
