-- Pieces but for what those name that are bound.
use Rattle.std.specs.Prelude.{◌≡◌, ◌⊎◌, ℕ, Bool, IsTrue, List, [], ◌∷◌, nat_eq, if◌then◌else◌}
use Rattle.std.specs.List.{list_any}
use Rattle.std.specs.Cmp.Lexicographic.{pointwise}
use Rattle.swc_tree_marks.specs.declared.ident.Ident.{Ident}
use Rattle.text_pieces.specs.Tokens.{Piece, name, parameter}
use Rattle.text_kept_laws.specs.Unnamed.{is_ending}

-- the text is that of one of the names
abbrev pub is_bound : List Ident → List ℕ → Bool
is_bound names a = list_any (λ i. pointwise nat_eq a i.sym) names

-- the same piece, or another name for one that is bound
abbrev pub SamePiece : List Ident → Piece → Piece → Type 0
SamePiece names (name a) (name b) = (a ≡ b) ⊎ IsTrue (is_bound names a)
SamePiece names (parameter a) (parameter b) = (a ≡ b) ⊎ IsTrue (is_bound names a)
SamePiece names p q = p ≡ q

abbrev pub EachSame : List Ident → List Piece → List Piece → Type 0
EachSame names [] [] = Unit {0}
EachSame names (p ∷ ps) (q ∷ qs) = SamePiece names p q × EachSame names ps qs
EachSame names _ _ = ⊥

-- the pieces without what is said of how what stands before ends
abbrev pub unended : List Piece → List Piece
unended [] = []
unended (p ∷ ps) = if is_ending p then unended ps else p ∷ unended ps

-- piece by piece the same, but for names that are bound
abbrev pub SameButBound : List Ident → List Piece → List Piece → Type 0
SameButBound names ps qs = EachSame names (unended ps) (unended qs)
