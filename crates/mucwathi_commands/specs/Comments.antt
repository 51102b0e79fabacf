-- Which comments of a source's text are written with an answer.
use Rattle.std.specs.Prelude.{◌≡◌, ℕ, ◌-◌, List, [], map, slice_get, Option, Some, None}
use Rattle.swc_tree_node.specs.declared.node.Node.{Node}
use Rattle.text_comments.specs.Comments.{HasComments}
use Rattle.text_comments.specs.declared.comment.Comment.{Comment}
use Rattle.text_commented.specs.Chosen.{AreChosen}
use Rattle.text_commented.specs.Commented.{IsCommented}
use Rattle.text_commented.specs.declared.left.Left.{Left}
use Rattle.text_commented.specs.declared.remark.Remark.{Remark}
use Rattle.text_lexer.specs.declared.blank.Comments.{Comments}
use Rattle.text_pieces.specs.Pieces.{framed_pieces, pieces}
use Rattle.text_printer.specs.declared.lay_out.Layout.{Layout}
use Rattle.text_printer.specs.declared.lay_out.Layout.TheVariants as layout
use Rattle.mucwathi_order.specs.Lower.text_source.specs.Texts.{comments_of}
use Rattle.mucwathi_order.specs.Styles.{layout_of}
use Rattle.mucwathi_order.specs.declared.order.Order.{Order}
use Rattle.mucwathi_commands.specs.Written.{IsRewritten}

-- how many bytes are before a comment, and before one that is left, by its number
abbrev pub bytes_before : Option Comment → ℕ
bytes_before None = 0
bytes_before (Some k) = k.span.lo - 1

abbrev pub bytes_before_left : List Comment → Left → ℕ
bytes_before_left ks l = bytes_before (slice_get ks l.number)

-- The comments of a source's text are written again among the tokens of an answer, each at the node at which it stood, or the nearest; of
-- those that are not, it is told how many bytes are before each.
pub record AreWrittenAgain (c : Comments) (source answer : Node) (text out lost : List ℕ) : Type 0 where
  pub comments : List Comment
  pub remarks : List Remark
  pub left : List Left
  pub found : HasComments c (pieces source) text comments
  pub chosen : AreChosen text (framed_pieces answer) comments remarks
  pub set : IsCommented c answer remarks out left
  pub told : lost ≡ map (bytes_before_left comments) left

-- Laid out anew, comments are written again. In a compact text none is, of which nothing is told; with the layout they stay.
abbrev pub TellsLost : Option Layout → Comments → Node → Node → List ℕ → List ℕ → List ℕ → Type 0
TellsLost (Some layout.Lines) c source answer text out lost = AreWrittenAgain c source answer text out lost
TellsLost (Some layout.Compact) c source answer text out lost = lost ≡ []
TellsLost None c source answer text out lost = lost ≡ []

-- what is written for a text, and which of its comments are lost
pub record IsRewrittenWith (order : Order) (text out lost : List ℕ) : Type 0 where
  pub rewritten : IsRewritten order text out
  pub tells : TellsLost (layout_of order.style) (comments_of order.goal) rewritten.source rewritten.answer text out lost
