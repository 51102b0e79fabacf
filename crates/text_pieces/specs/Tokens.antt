-- What trees are written with.
use Rattle.std.specs.Prelude.{ℕ, List, Option, Some, None}
use Rattle.std.specs.Option.{option_copied}
use Rattle.text_lexer.specs.declared.mark.Mark.{Mark}
use Rattle.text_lexer.specs.declared.token.TemplatePart.{TemplatePart}
use Rattle.text_pieces.specs.declared.item.Ending.{Ending}
use Rattle.swc_tree_marks.specs.declared.span.Span.{Span}
use Rattle.text_pieces.specs.declared.piece.Frame as frame_code
use Rattle.text_pieces.specs.declared.piece.Frame.TheVariants as frames_of
use Rattle.text_pieces.specs.declared.piece.Gap.{Gap}
use Rattle.text_pieces.specs.declared.piece.Piece as code
use Rattle.text_pieces.specs.declared.piece.Piece.TheVariants as codes_of

-- where a node begins or stops in its text, in bytes from 1
pub data Frame : Type 0 where
  -- the next token begins here
  begins : ℕ → Frame
  -- the last token has ended before this byte
  stops : ℕ → Frame
  -- the next name, which may stand in parentheses, is this one and has this span
  named : List ℕ → Span → Frame

-- a token of a tree, or what is said of the text between two
pub data Piece : Type 0 where
  -- a word of the language, in which nothing is escaped
  word : List ℕ → Piece
  name : List ℕ → Piece
  -- without its `#`
  private_name : List ℕ → Piece
  punctuator : Mark → Piece
  -- as it is written
  number : List ℕ → Piece
  big_integer : List ℕ → Piece
  -- a string by its value, and how it is written where that is known
  quoted : List ℕ → Option (List ℕ) → Piece
  -- a text of a template, by its value where it has one, and as it is written
  template : TemplatePart → Option (List ℕ) → List ℕ → Piece
  -- the pattern and the flags
  regex : List ℕ → List ℕ → Piece
  -- the first line, behind `#!`
  hashbang : List ℕ → Piece
  -- an attribute of an import: its key and its value
  attribute : List ℕ → List ℕ → Piece
  -- a comma that may stand there
  may_comma : Piece
  -- `{ } from`, which may stand there
  may_from : Piece
  -- `, { }`, which may stand there
  may_braces : Piece
  -- a name that may stand in parentheses
  parameter : List ℕ → Piece
  -- no token: no line ends before the next
  here : Piece
  -- no token: how what stands before it ends
  closes : Ending → Piece
  -- a semicolon that may be left to the reader
  ends : Piece
  -- no token: how a text is laid out
  gap : Gap → Piece
  -- no token: where a node begins or stops
  frame : Frame → Piece
  -- what no text has
  never : Piece

abbrev pub frame_view : frame_code.Frame → Frame
frame_view (frames_of.Begins place) = begins place
frame_view (frames_of.Stops place) = stops place
frame_view (frames_of.Named a s) = named a.now s

abbrev pub piece_view : code.Piece → Piece
piece_view (codes_of.Word a) = word a.now
piece_view (codes_of.Name a) = name a.now
piece_view (codes_of.Private a) = private_name a.now
piece_view (codes_of.Mark m) = punctuator m
piece_view (codes_of.Number a) = number a.now
piece_view (codes_of.BigInt a) = big_integer a.now
piece_view (codes_of.Quoted a raw) = quoted a.now (option_copied raw)
piece_view (codes_of.Template part cooked raw) = template part (option_copied cooked) raw.now
piece_view (codes_of.Regex a flags) = regex a.now flags.now
piece_view (codes_of.Hashbang a) = hashbang a.now
piece_view (codes_of.Attribute key value) = attribute key.now value.now
piece_view codes_of.MayComma = may_comma
piece_view codes_of.MayFrom = may_from
piece_view codes_of.MayBraces = may_braces
piece_view (codes_of.Parameter a) = parameter a.now
piece_view codes_of.Here = here
piece_view (codes_of.Closes e) = closes e
piece_view codes_of.End = ends
piece_view (codes_of.Gap g) = gap g
piece_view (codes_of.Frame f) = frame (frame_view f)
piece_view codes_of.Never = never

abbrev pub sign_piece : Option Mark → List ℕ → Piece
sign_piece (Some m) a = punctuator m
sign_piece None a = word a
