-- What begins with a character of a name is not empty.
use Rattle.std.proofs.Common.{◌≡◌, ℕ, ◌<◌, Bool, true, false, List, [], ◌∷◌, length, arith}
use Rattle.text_characters.specs.Characters.{point, point_of, is_name_start, is_name_part}
use Rattle.text_lexer.specs.Names.{is_named}

nothing_named : (start : Bool) → is_named start (point []) ≡ true → 0 < 0
unfolding point_of is_name_start is_name_part
nothing_named true named = absurd (cc)
nothing_named false named = absurd (cc)

pub named_some : (start : Bool) (text : List ℕ) → is_named start (point text) ≡ true → 0 < length text
named_some start [] named = nothing_named start named
named_some start (c ∷ cs) named = omega arith
