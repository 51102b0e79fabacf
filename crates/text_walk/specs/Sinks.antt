-- What has been taken of a tree's tokens.
use Rattle.std.specs.Prelude.{◌≡◌, List, ◌++◌, Vec, map}
use Rattle.std.specs.Global.{Global}
use Rattle.text_follow.specs.declared.stand.Reader.{Reader}
use Rattle.text_follow.specs.Readers.{IsOver, ReadsOn}
use Rattle.text_pieces.specs.declared.piece.Piece as code
use Rattle.text_pieces.specs.Tokens.{Piece, piece_view}
use Rattle.text_walk.specs.declared.sink.Sink.{Sink}
use Rattle.text_walk.specs.declared.sink.Sink.TheVariants as sink

-- By these the one has become the other: where a list is kept, they stand behind what it had; where a text is held, it is read on past them.
pub record Gains (old : Sink) (ps : List Piece) (new : Sink) : Type 0 where
  pub list : (had : Vec code.Piece Global) → old ≡ sink.List had → (has : Vec code.Piece Global) × (new ≡ sink.List has) × (map piece_view has.items ≡ map piece_view had.items ++ ps)
  pub text : (at : Reader) → old ≡ sink.Text at → (behind : Reader) × (new ≡ sink.Text behind) × ReadsOn at ps behind

-- a text is held, of which no token is left
abbrev pub IsReadOut : Sink → Type 0
IsReadOut s = (at : Reader) × (s ≡ sink.Text at) × IsOver at
