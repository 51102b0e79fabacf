-- The frames among the pieces that a text is written with say where their tokens stand, in bytes from 1.
use Rattle.std.specs.Prelude.{◌≡◌, ℕ, ◌+◌, ◌⊎◌, Bool, true, false, List, [], ◌∷◌, length, Some}
use Rattle.swc_tree_marks.specs.declared.span.Span.{Span}
use Rattle.text_follow.specs.Endings.{ending_behind}
use Rattle.text_follow.specs.Follows.{Reads, Takes, fresh_behind}
use Rattle.text_lexer.specs.Blanks.{blank}
use Rattle.text_lexer.specs.declared.blank.Comments.{Comments}
use Rattle.text_lexer.specs.declared.mark.Mark.TheVariants as mark
use Rattle.text_pieces.specs.declared.item.Ending.{Ending}
use Rattle.text_pieces.specs.declared.item.Ending.TheVariants as ending
use Rattle.text_pieces.specs.Tokens.{Frame, Piece, begins, frame, name, named, punctuator, stops}

-- what is left of a text of `n` bytes begins at this place
abbrev pub IsAt : ℕ → List ℕ → ℕ → Type 0
IsAt n rest place = place + length rest ≡ n + 1

-- the next token begins at this place, behind blanks
abbrev pub BeginsAt : ℕ → Comments → Bool → List ℕ → ℕ → Type 0
BeginsAt n c fresh text place = (ended : Bool) × (next : List ℕ) × (blank c fresh text ≡ Some (ended, next)) × IsAt n next place

-- the next token is this name, from the span's first byte to its last
abbrev pub HasName : ℕ → Comments → Bool → List ℕ → List ℕ → Span → Type 0
HasName n c fresh text a s = BeginsAt n c fresh text s.lo × (rest : List ℕ) × Reads c fresh text (name a) rest × IsAt n rest s.hi

-- what a frame says of the text that is left
abbrev pub Says : ℕ → Comments → Bool → Frame → List ℕ → Type 0
Says n c fresh (begins place) text = BeginsAt n c fresh text place
Says n c fresh (stops place) text = IsAt n text place
Says n c fresh (named a s) text =
    HasName n c fresh text a s ⊎ ((inner : List ℕ) × Reads c fresh text (punctuator mark.LeftParen) inner × HasName n c false inner a s)

abbrev pub IsSo : ℕ → Comments → Bool → Piece → List ℕ → Type 0
IsSo n c fresh (frame f) text = Says n c fresh f text
IsSo n c fresh p text = Unit {0}

-- from a place on, as `FollowsFrom` has it
abbrev pub StandsFrom : ℕ → Comments → Bool → Bool → Ending → List Piece → List ℕ → Type 0
StandsFrom n c soft fresh e [] text = (ended : Bool) × (blank c fresh text ≡ Some (ended, []))
StandsFrom n c soft fresh e (p ∷ ps) text =
    IsSo n c fresh p text × (rest : List ℕ) × Takes c soft fresh e p text rest × StandsFrom n c soft (fresh_behind fresh p) (ending_behind e p) ps rest

-- A text is written with these pieces, and each frame among them says what is so.
abbrev pub Stands : Comments → Bool → List Piece → List ℕ → Type 0
Stands c soft ps text = StandsFrom (length text) c soft true ending.Closed ps text
