-- A text is written with these pieces, one after another, with blanks between them (ECMA-262, 12).
use Rattle.std.specs.Prelude.{◌≡◌, ℕ, ◌⊎◌, Bool, true, false, not, ◌&&◌, ◌||◌, ◌==◌, length, List, [], ◌∷◌, ◌++◌, Option, Some, None, is_some, Result, Ok, Err, slice_index, bytes_eq, codes}
use Rattle.text_strings.specs.declared.escape.Reading.{Reading}
use Rattle.text_strings.specs.declared.escape.Reading.TheVariants as reading
use Rattle.text_values.specs.Values.{cooked, is_value, template_raw, units}
use Rattle.text_lexer.specs.declared.blank.Comments.{Comments}
use Rattle.text_lexer.specs.declared.token.Goal.{Goal}
use Rattle.text_lexer.specs.declared.token.Goal.TheVariants as goal
use Rattle.text_lexer.specs.declared.mark.Mark.TheVariants as mark
use Rattle.text_lexer.specs.declared.token.Fault.{Fault}
use Rattle.text_lexer.specs.Tokens as token
use Rattle.text_lexer.specs.Tokens.{Token}
use Rattle.text_lexer.specs.Blanks.{blank}
use Rattle.text_lexer.specs.Lexical.{token_at}
use Rattle.text_pieces.specs.declared.item.Ending.{Ending}
use Rattle.text_pieces.specs.declared.item.Ending.TheVariants as ending
use Rattle.text_lexer.specs.declared.token.TemplatePart.TheVariants as part
use Rattle.text_pieces.specs.Tokens.{Piece, attribute, big_integer, closes, ends, frame, gap, hashbang, here, may_braces, may_comma, may_from, name, never, number, parameter, private_name, punctuator, quoted, regex, template, word}
use Rattle.text_follow.specs.Endings.{ending_behind, goes_on, is_loop}

-- The lexical goal of a place is that of the piece that stands there (12).
abbrev pub goal_of : Piece → Goal
goal_of (regex a flags) = goal.RegExp
goal_of (template part.Middle a raw) = goal.TemplateTail
goal_of (template part.Tail a raw) = goal.TemplateTail
goal_of (hashbang a) = goal.HashbangOrRegExp
goal_of _ = goal.Div

-- how a string is written that the quote begins, where that is said
abbrev pub IsRaw : ℕ → List ℕ → Option (List ℕ) → Type 0
IsRaw quote body (Some raw) = raw ≡ quote ∷ body ++ quote ∷ []
IsRaw quote body None = Unit {0}

-- what is written so stands for this
abbrev pub StandsFor : Reading → List ℕ → List ℕ → Type 0
StandsFor r body value = is_value (cooked r body) value ≡ true

-- the value of a template's text, where its escapes have one
abbrev pub IsCooked : List ℕ → Option (List ℕ) → Type 0
IsCooked body (Some value) = StandsFor reading.Template body value
IsCooked body None = is_some (units reading.Template body) ≡ false

-- the token of a text, whose first byte is `c`, is this piece of a tree
abbrev pub Spells : ℕ → Token → Piece → Type 0
Spells c (token.name a) (word b) = a ≡ b
Spells c (token.name a) (name b) = a ≡ b
Spells c (token.escaped_name a) (name b) = StandsFor reading.Quoted a b
Spells c (token.private_name a) (private_name b) = StandsFor reading.Quoted a b
Spells c (token.punctuator m) (punctuator n) = m ≡ n
Spells c (token.number a) (number b) = a ≡ b
Spells c (token.big_integer a) (big_integer b) = a ≡ b
Spells c (token.string a) (quoted value raw) = StandsFor reading.Quoted a value × IsRaw c a raw
Spells c (token.template p a) (template q value raw) = (p ≡ q) × IsCooked a value × (bytes_eq (template_raw a) raw ≡ true)
Spells c (token.regex a flags) (regex b others) = (a ≡ b) × (flags ≡ others)
Spells c (token.hashbang a) (hashbang b) = a ≡ b
Spells c _ _ = ⊥

-- Behind blanks the text begins with the token, and this is left behind it. `fresh` says that nothing stands before the text.
abbrev pub Reads : Comments → Bool → List ℕ → Piece → List ℕ → Type 0
Reads c fresh text p rest = (ended : Bool) × (next : List ℕ) × (t : Token) × (blank c fresh text ≡ Some (ended, next)) × (token_at (goal_of p) next ≡ Ok (t, rest)) × Spells (slice_index next 0) t p

-- what ends thus does not go on: with what is no token it may
abbrev pub stops : Ending → Result (Token × List ℕ) Fault → Bool
stops e (Ok p) = not (goes_on e p.0)
stops e (Err f) = false

-- The text ends there, or a brace closes, or a line has ended and nothing goes on.
abbrev pub may_stand : Bool → Ending → List ℕ → Bool
may_stand ended e next = length next == 0 || (slice_index next 0 == 125 || ((ended || is_loop e) && stops e (token_at goal.Div next)))

-- a semicolon may be left to the reader before this text
abbrev pub MayInsert : Comments → Bool → Ending → List ℕ → Type 0
MayInsert c fresh e text = (ended : Bool) × (next : List ℕ) × (blank c fresh text ≡ Some (ended, next)) × (may_stand ended e next ≡ true)

abbrev pub ReadsTwo : Comments → Bool → List ℕ → Piece → Piece → List ℕ → Type 0
ReadsTwo c fresh text p q rest = (mid : List ℕ) × Reads c fresh text p mid × Reads c false mid q rest

abbrev pub ReadsThree : Comments → Bool → List ℕ → Piece → Piece → Piece → List ℕ → Type 0
ReadsThree c fresh text p q r rest = (mid : List ℕ) × ReadsTwo c fresh text p q mid × Reads c false mid r rest

-- the name in parentheses, and a comma behind it where `soft` allows that
abbrev pub InParens : Comments → Bool → Bool → List ℕ → List ℕ → List ℕ → Type 0
InParens c soft fresh text a rest =
    ReadsThree c fresh text (punctuator mark.LeftParen) (name a) (punctuator mark.RightParen) rest
    ⊎ ((soft ≡ true) × (mid : List ℕ) × ReadsThree c fresh text (punctuator mark.LeftParen) (name a) (punctuator mark.Comma) mid × Reads c false mid (punctuator mark.RightParen) rest)

-- the key of an attribute, as a name or a string, and its value
abbrev pub ReadsAttribute : Comments → Bool → List ℕ → List ℕ → List ℕ → List ℕ → Type 0
ReadsAttribute c fresh text key value rest =
    ReadsThree c fresh text (name key) (punctuator mark.Colon) (quoted value None) rest
    ⊎ ReadsThree c fresh text (quoted key None) (punctuator mark.Colon) (quoted value None) rest

-- `#!` begins the text, with no blank before it (12.5)
abbrev pub ReadsHashbang : Bool → List ℕ → List ℕ → List ℕ → Type 0
ReadsHashbang fresh text a rest = (fresh ≡ true) × (token_at goal.HashbangOrRegExp text ≡ Ok (token.hashbang a, rest))

-- `soft` says that what a tree doesn't tell may be there or not: semicolons, commas behind a last item, parentheses round one
-- parameter, the braces of an import of nothing
abbrev pub Takes : Comments → Bool → Bool → Ending → Piece → List ℕ → List ℕ → Type 0
Takes c soft fresh e ends text rest = Reads c fresh text (punctuator mark.Semicolon) rest ⊎ ((soft ≡ true) × MayInsert c fresh e text × (rest ≡ text))
Takes c soft fresh e may_comma text rest = ((soft ≡ true) × Reads c fresh text (punctuator mark.Comma) rest) ⊎ (rest ≡ text)
Takes c soft fresh e may_from text rest =
    ((soft ≡ true) × ReadsThree c fresh text (punctuator mark.LeftBrace) (punctuator mark.RightBrace) (word (codes "from")) rest) ⊎ (rest ≡ text)
Takes c soft fresh e may_braces text rest =
    ((soft ≡ true) × ReadsThree c fresh text (punctuator mark.Comma) (punctuator mark.LeftBrace) (punctuator mark.RightBrace) rest) ⊎ (rest ≡ text)
Takes c soft fresh e (parameter a) text rest = InParens c soft fresh text a rest ⊎ ((soft ≡ true) × Reads c fresh text (name a) rest)
Takes c soft fresh e (attribute key value) text rest = ReadsAttribute c fresh text key value rest
Takes c soft fresh e (hashbang a) text rest = ReadsHashbang fresh text a rest
Takes c soft fresh e here text rest = ((next : List ℕ) × (blank c fresh text ≡ Some (false, next))) × (rest ≡ text)
Takes c soft fresh e (closes f) text rest = rest ≡ text
Takes c soft fresh e (gap g) text rest = rest ≡ text
Takes c soft fresh e (frame f) text rest = rest ≡ text
Takes c soft fresh e never text rest = ⊥
Takes c soft fresh e p text rest = Reads c fresh text p rest

-- pieces that are no tokens leave the text as fresh as it was
abbrev pub fresh_behind : Bool → Piece → Bool
fresh_behind fresh (closes e) = fresh
fresh_behind fresh (gap g) = fresh
fresh_behind fresh (frame f) = fresh
fresh_behind fresh here = fresh
fresh_behind fresh p = false

-- from a place on, before which nothing stands or something that ends thus
abbrev pub FollowsFrom : Comments → Bool → Bool → Ending → List Piece → List ℕ → Type 0
FollowsFrom c soft fresh e [] text = (ended : Bool) × (blank c fresh text ≡ Some (ended, []))
FollowsFrom c soft fresh e (p ∷ ps) text = (rest : List ℕ) × Takes c soft fresh e p text rest × FollowsFrom c soft (fresh_behind fresh p) (ending_behind e p) ps rest

abbrev pub Follows : Comments → Bool → List Piece → List ℕ → Type 0
Follows c soft ps text = FollowsFrom c soft true ending.Closed ps text
