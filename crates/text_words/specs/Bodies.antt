-- What may stand before a closing sign, a byte after another.
use Rattle.std.specs.Prelude.{ℕ, Bool, true, false, not, ◌&&◌, ◌||◌, ◌==◌, List, [], ◌∷◌, length, if◌then◌else◌}
use Rattle.text_characters.specs.Characters.{first, begins_line_end}
use Rattle.text_lexer.specs.Literals.{after_flags}

-- no slash in a pattern closes it, and one behind it does
unfoldable pub pattern_from : Bool → Bool → List ℕ → Bool
pattern_from in_class escaped [] = not in_class && not escaped
pattern_from in_class escaped (c ∷ cs) =
    if begins_line_end (c ∷ cs) then false
    else if escaped then pattern_from in_class false cs
    else if c == 47 && not in_class then false
    else pattern_from (c == 91 || (in_class && not (c == 93))) (c == 92) cs

abbrev pub is_pattern : List ℕ → Bool
is_pattern text = not (length text == 0) && (not (first text == 42) && pattern_from false false text)

abbrev pub are_flags : List ℕ → Bool
are_flags text = length (after_flags text) == 0

-- nothing in a text of a template closes it, and a backquote behind it does
unfoldable pub characters_from : Bool → List ℕ → Bool
characters_from escaped [] = not escaped
characters_from escaped (c ∷ cs) =
    if not escaped && c == 96 then false
    else if not escaped && (c == 36 && first cs == 123) then false
    else characters_from (not escaped && c == 92) cs
