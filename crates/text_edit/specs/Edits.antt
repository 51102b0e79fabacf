-- A text edited as its tree changes: what both trees have stays as it stands.
use Rattle.std.specs.Prelude.{◌≡◌, ◌⊎◌, ◌<◌, ℕ, Bool, true, false, ◌&&◌, ◌==◌, List, [], ◌∷◌, ◌++◌, length, drop, Option, Some, None, Result, Ok, Err, if◌then◌else◌}
use Rattle.std.specs.Cmp.Lexicographic.{pointwise}
use Rattle.text_characters.specs.Characters.{first}
use Rattle.text_lexer.specs.declared.blank.Comments.{Comments}
use Rattle.text_lexer.specs.declared.token.Fault.{Fault}
use Rattle.text_lexer.specs.declared.token.Goal.TheVariants as goal
use Rattle.text_lexer.specs.Blanks.{blank}
use Rattle.text_lexer.specs.Lexical.{token_at}
use Rattle.text_lexer.specs.Names.{up_to}
use Rattle.text_lexer.specs.Tokens.{Token}
use Rattle.text_pieces.specs.declared.item.Ending.{Ending}
use Rattle.text_pieces.specs.declared.item.Ending.TheVariants as ending
use Rattle.text_pieces.specs.Tokens.{Piece}
use Rattle.text_follow.specs.Endings.{ending_behind}
use Rattle.text_follow.specs.Follows.{Takes, fresh_behind}
use Rattle.text_edit.specs.declared.align.Step.{Step}
use Rattle.text_edit.specs.declared.align.Step.TheVariants as step
use Rattle.text_edit.specs.Alike.{begin_alike, is_same, new_name}

-- What stands next in two lists: a piece that both have but for its name, one that the new list alone has, or the old one.
-- Something is put in or taken away only where the next three pieces are not alike.
abbrev pub Allowed : Step → List Piece → List Piece → Type 0
Allowed step.Both ps qs = (begin_alike 1 ps qs ≡ true) × (0 < length ps) × (0 < length qs)
Allowed step.Insert ps qs = (begin_alike 3 ps qs ≡ false) × (0 < length qs)
Allowed step.Remove ps qs = (begin_alike 3 ps qs ≡ false) × (0 < length ps)

-- what is left behind the blanks of a text
abbrev pub next_of : List ℕ → Option (Bool × List ℕ) → List ℕ
next_of text None = text
next_of text (Some (ended, next)) = next

abbrev pub behind_blanks : Comments → Bool → List ℕ → List ℕ
behind_blanks c fresh text = next_of text (blank c fresh text)

-- A piece's name, and what stands behind it: it stands behind blanks, and maybe a parenthesis.
abbrev pub from_name : Comments → Bool → List ℕ → List ℕ
from_name c fresh text =
    if first (behind_blanks c fresh text) == 40 then behind_blanks c false (drop 1 (behind_blanks c fresh text)) else behind_blanks c fresh text

abbrev pub rest_of : List ℕ → Result (Token × List ℕ) Fault → List ℕ
rest_of text (Ok p) = p.1
rest_of text (Err f) = text

abbrev pub behind_token : List ℕ → List ℕ
behind_token text = rest_of text (token_at goal.Div text)

-- What a piece is written with, from the blanks before it up to `rest`, with another name in it where it has one.
abbrev pub stands : Comments → Bool → Option (List ℕ) → List ℕ → List ℕ → List ℕ
stands c fresh None text rest = up_to text rest
stands c fresh (Some a) text rest = up_to text (from_name c fresh text) ++ a ++ up_to (behind_token (from_name c fresh text)) rest

-- Right behind a change the blanks are open; else a piece stays as it stands.
abbrev pub Stays : Bool → List ℕ → List ℕ → Type 0
Stays changed old new = changed ≡ false → new ≡ old

abbrev pub still_changed : Bool → List ℕ → List ℕ → Bool
still_changed changed text rest = changed && length rest == length text

-- The old pieces stand in the text one after another; the answer has of it what the steps keep. `changed` says that the step
-- before was a change, behind which no token stands yet.
abbrev pub EditedFrom : Comments → Bool → Ending → Bool → List Step → List Piece → List Piece → List ℕ → List ℕ → Type 0
EditedFrom c fresh e changed [] [] [] text out = out ≡ text
EditedFrom c fresh e changed (step.Both ∷ ss) (p ∷ ps) (q ∷ qs) text out =
    Allowed step.Both (p ∷ ps) (q ∷ qs) × (rest : List ℕ) × (new : List ℕ) × (more : List ℕ) × Takes c true fresh e p text rest
    × Stays changed (stands c fresh (new_name p q) text rest) new × (out ≡ new ++ more)
    × EditedFrom c (fresh_behind fresh p) (ending_behind e p) (still_changed changed text rest) ss ps qs rest more
EditedFrom c fresh e changed (step.Insert ∷ ss) ps (q ∷ qs) text out =
    Allowed step.Insert ps (q ∷ qs) × (new : List ℕ) × (more : List ℕ) × (out ≡ new ++ more) × EditedFrom c fresh e true ss ps qs text more
EditedFrom c fresh e changed (step.Remove ∷ ss) (p ∷ ps) qs text out =
    Allowed step.Remove (p ∷ ps) qs × (rest : List ℕ) × (new : List ℕ) × (more : List ℕ) × Takes c true fresh e p text rest
    × (out ≡ new ++ more) × EditedFrom c (fresh_behind fresh p) (ending_behind e p) true ss ps qs rest more
EditedFrom c fresh e changed _ _ _ text out = ⊥

abbrev pub IsEditedBySteps : Comments → List Piece → List Piece → List ℕ → List ℕ → Type 0
IsEditedBySteps c ps qs text out = (ss : List Step) × EditedFrom c true ending.Closed false ss ps qs text out

-- A text edited from the old pieces to the new; where they are the same it is as it was.
abbrev pub IsEdited : Comments → List Piece → List Piece → List ℕ → List ℕ → Type 0
IsEdited c ps qs text out =
    ((pointwise is_same ps qs ≡ true) × (out ≡ text))
    ⊎ IsEditedBySteps c ps qs text out

-- The text with new names in the place of the old, where the pieces differ in nothing else: all other bytes stay.
abbrev pub RenamedFrom : Comments → Bool → Ending → List Piece → List Piece → List ℕ → List ℕ → Type 0
RenamedFrom c fresh e [] [] text out = out ≡ text
RenamedFrom c fresh e (p ∷ ps) (q ∷ qs) text out =
    (rest : List ℕ) × (more : List ℕ) × Takes c true fresh e p text rest × (out ≡ stands c fresh (new_name p q) text rest ++ more)
    × RenamedFrom c (fresh_behind fresh p) (ending_behind e p) ps qs rest more
RenamedFrom c fresh e _ _ text out = ⊥

abbrev pub IsRenamed : Comments → List Piece → List Piece → List ℕ → List ℕ → Type 0
IsRenamed c ps qs text out =
    ((pointwise is_same ps qs ≡ true) × (out ≡ text)) ⊎ RenamedFrom c true ending.Closed ps qs text out
