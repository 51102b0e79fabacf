-- Pieces of which some have got pairs of parentheses.
use Rattle.std.specs.Prelude.{List, [], ◌∷◌, ◌++◌}
use Rattle.text_lexer.specs.declared.mark.Mark.TheVariants as mark
use Rattle.text_pieces.specs.Tokens.{Piece, punctuator}

-- the second list is the first one with pairs of parentheses round some of what stands in it
pub data WithPairs : List Piece → List Piece → Type 0 where
  same : (ps : List Piece) → WithPairs ps ps
  join : (ps qs rs ss : List Piece) → WithPairs ps qs → WithPairs rs ss → WithPairs (ps ++ rs) (qs ++ ss)
  after : (ps qs rs : List Piece) → WithPairs ps qs → WithPairs qs rs → WithPairs ps rs
  around : (ps qs : List Piece) → WithPairs ps qs → WithPairs ps (punctuator mark.LeftParen ∷ qs ++ punctuator mark.RightParen ∷ [])
