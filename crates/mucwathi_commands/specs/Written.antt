-- What is written for a text.
use Rattle.std.specs.Prelude.{◌≡◌, false, true, ℕ, ◌⊎◌, List}
use Rattle.std.specs.Cmp.Lexicographic.{pointwise}
use Rattle.swc_tree_marks.specs.declared.error.PassError.{PassError}
use Rattle.swc_tree_marks.specs.declared.error.PassError.TheVariants as refusal
use Rattle.swc_tree_node.specs.declared.node.Node.{Node}
use Rattle.swc_tree_scoping.specs.WellScoped.{IsClean}
use Rattle.text_edit.specs.Alike.{alike}
use Rattle.text_edit.specs.Edits.{IsEdited, IsRenamed}
use Rattle.text_follow.specs.Follows.{Follows}
use Rattle.text_lexer.specs.declared.blank.Comments.{Comments}
use Rattle.text_pieces.specs.Pieces.{pieces}
use Rattle.mucwathi_order.specs.Lower.text_checks.specs.Checked.{IsWellFormed}
use Rattle.mucwathi_order.specs.Lower.text_checks.specs.Pinned.{IsPinned}
use Rattle.text_parser.specs.declared.programs.Goal.{Goal}
use Rattle.mucwathi_order.specs.Lower.text_source.specs.Texts.{IsTextOf, comments_of, slot_of}
use Rattle.mucwathi_order.specs.declared.order.Order.{Order}
use Rattle.mucwathi_order.specs.declared.order.Style.{Style}
use Rattle.mucwathi_order.specs.declared.order.Style.TheVariants as style
use Rattle.mucwathi_passes.specs.Passes.{IsRefusal, Makes}

-- A text is read as a tree: its tokens are the tree's, the grammar derives the tree as it stands, where that leaves a choice, it is
-- pinned, and no identifier has a context.
abbrev pub IsReadAs : Goal → Node → List ℕ → Type 0
IsReadAs g t text = IsTextOf g t text × IsWellFormed (slot_of g) t × IsPinned t × IsClean t

-- The layout of a source's text is kept: what is written has the tokens of the answer; what stands between two tokens that stay next to
-- each other stays too; where the two trees have the same tokens it is the source's text, and where they differ in names alone, so do the
-- texts, in every byte.
pub record IsKept (c : Comments) (source answer : Node) (text out : List ℕ) : Type 0 where
  pub follows : Follows c true (pieces answer) out
  pub edited : IsEdited c (pieces source) (pieces answer) text out
  pub same : pieces source ≡ pieces answer → out ≡ text
  pub names : pointwise alike (pieces source) (pieces answer) ≡ true → IsRenamed c (pieces source) (pieces answer) text out

-- A text is written with the tokens of an answer: with the layout of the source's, or anew.
abbrev pub IsWritten : Style → Comments → Node → Node → List ℕ → List ℕ → Type 0
IsWritten style.Kept c source answer text out = IsKept c source answer text out
IsWritten style.Lines c source answer text out = Follows c false (pieces answer) out
IsWritten style.Compact c source answer text out = Follows c false (pieces answer) out

-- What was read is the text of a source, and what is written is the text of an answer, which is what the command makes of the source.
pub record IsRewritten (order : Order) (text out : List ℕ) : Type 0 where
  pub source : Node
  pub answer : Node
  pub read : IsReadAs order.goal source text
  pub made : Makes order.command order.settings source answer
  pub written : IsWritten order.style (comments_of order.goal) source answer text out

-- the text is that of a source which the command is refused
pub record IsRefusedText (order : Order) (text : List ℕ) (e : PassError) : Type 0 where
  pub source : Node
  pub read : IsReadAs order.goal source text
  pub refused : IsRefusal order.command order.settings source e

-- memory was refused, or the command
abbrev pub IsRefusedFor : Order → List ℕ → PassError → Type 0
IsRefusedFor order text e = (e ≡ refusal.NoMemory) ⊎ IsRefusedText order text e
