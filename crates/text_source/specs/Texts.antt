-- What a text has in common with the tree that it is read as, and what a fault says of a text.
use Rattle.std.specs.Prelude.{◌≡◌, ℕ, ◌+◌, ◌<◌, ◌≤◌, true, List, length, Option, Some, None, IsUtf8}
use Rattle.std.specs.Str.Lossy.{utf8_valid_len}
use Rattle.swc_tree_marks.specs.declared.span.Span.{Span}
use Rattle.swc_tree_node.specs.declared.kind.Class.{Class}
use Rattle.swc_tree_node.specs.declared.kind.Class.TheVariants as class
use Rattle.swc_tree_node.specs.declared.node.Node.{Node, out-Node}
use Rattle.swc_tree_node.specs.declared.slot.Content.TheVariants as content
use Rattle.swc_tree_node.specs.declared.slot.Slot.{Slot}
use Rattle.swc_tree_node.specs.declared.slot.Slot.TheVariants as slot
use Rattle.swc_tree_node.specs.Fits.{Fits}
use Rattle.text_follow.specs.Follows.{Follows}
use Rattle.text_follow.specs.Stands.{Stands}
use Rattle.text_lexer.specs.declared.blank.Comments.{Comments}
use Rattle.text_lexer.specs.declared.blank.Comments.TheVariants as comments
use Rattle.text_parser.specs.declared.programs.Goal.{Goal}
use Rattle.text_parser.specs.declared.programs.Goal.TheVariants as goal
use Rattle.text_pieces.specs.Frames.{first_span}
use Rattle.text_pieces.specs.Pieces.{framed_pieces, pieces}
use Rattle.text_reader.specs.declared.fault.TextFault.{TextFault}
use Rattle.text_reader.specs.declared.fault.TextFault.TheVariants as fault
use Rattle.text_reader.specs.Faults.{place_of}

-- the class of what a goal's texts are
abbrev pub class_of : Goal → Class
class_of goal.Module = class.Module
class_of goal.Script = class.Script

-- the place that a program has
abbrev pub slot_of : Goal → Slot
slot_of g = slot.One (content.Node (class_of g))

-- the comments that they may have (ECMA-262, 12.4 and B.1.1)
abbrev pub comments_of : Goal → Comments
comments_of goal.Module = comments.Module
comments_of goal.Script = comments.Script

-- The text is that of the tree: it is in UTF-8, the tree is a module or a script all of whose nodes stand where the table has
-- them, and the text is written with just its tokens, but for what no tree tells.
pub record IsTextOf (g : Goal) (tree : Node) (text : List ℕ) : Type 0 where
  pub utf8 : IsUtf8 text
  pub fits : Fits tree (slot_of g)
  pub follows : Follows (comments_of g) true (pieces tree) text

abbrev pub IsWhole : List ℕ → Option Span → Type 0
IsWhole text (Some s) = (s.lo ≡ 1) × (s.hi ≡ length text + 1)
IsWhole text None = ⊥

-- Each node's span goes from its first token to its last in the text, in bytes from 1; the program's is the whole text.
pub record SpansAreOf (g : Goal) (tree : Node) (text : List ℕ) : Type 0 where
  pub whole : IsWhole text (first_span (out-Node tree))
  pub nodes : Stands (comments_of g) true (framed_pieces tree) text

-- as many bytes as a text may have, at most: a tree's places go up to 2 ^ 32 - 1, and begin with 1
abbrev pub most_bytes : ℕ
most_bytes = 4294967293

abbrev pub IsPlace : List ℕ → Option ℕ → Type 0
IsPlace text (Some at) = at ≤ length text
IsPlace text None = Unit {0}

-- what a fault says of the text that it is answered for
abbrev pub Tells : List ℕ → TextFault → Type 0
Tells text fault.TooLong = most_bytes < length text
Tells text (fault.NotUtf8 at) = (IsUtf8 text → ⊥) × (at ≡ utf8_valid_len text)
Tells text f = IsUtf8 text × IsPlace text (place_of f)
