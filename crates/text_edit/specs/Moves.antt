-- One step of an edit, from a place in the pieces and the text, and what is made so far, to the next.
use Rattle.std.specs.Prelude.{◌≡◌, ℕ, List, ◌++◌, map, take, length}
use Rattle.text_lexer.specs.declared.blank.Comments.{Comments}
use Rattle.text_pieces.specs.Tokens.{Piece, piece_view}
use Rattle.text_edit.specs.declared.align.Step.{Step}
use Rattle.text_edit.specs.declared.walk.Cursor.{Cursor}
use Rattle.text_edit.specs.Edits.{EditedFrom, IsEditedBySteps}

-- something is put behind a text
abbrev pub Extends : List ℕ → List ℕ → Type 0
Extends made out = take (length made) out ≡ made

-- behind what is made, an edit of what is left makes the whole edited
unfoldable pub Leads : Comments → List Piece → List Piece → List ℕ → Cursor → List ℕ → Type 0
Leads c ps qs text s made =
    (ss : List Step) (more : List ℕ)
    → EditedFrom c s.place.fresh s.place.ending s.place.changed ss (map piece_view s.olds.now) (map piece_view s.news.now) s.place.rest.now more
    → IsEditedBySteps c ps qs text (made ++ more)

-- a step is made that leads where the one before led
unfoldable pub Advances : Comments → Cursor → List ℕ → Cursor → List ℕ → Type 0
Advances c s made t out = (ps qs : List Piece) (text : List ℕ) → Leads c ps qs text s made → Leads c ps qs text t out
