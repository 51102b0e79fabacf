-- What a text that is written has, and what a refusal names.
use Rattle.std.specs.Prelude.{ℕ, List, false}
use Rattle.swc_tree_node.specs.declared.node.Node.{Node}
use Rattle.text_lexer.specs.declared.blank.Comments.{Comments}
use Rattle.text_follow.specs.Follows.{Follows}
use Rattle.text_pieces.specs.Pieces.{pieces}
use Rattle.text_grammar.specs.Shaped.{Shaped, is_misshapen}
use Rattle.text_checks.specs.Spelled.{Spelled, is_misspelled}
use Rattle.text_writing.specs.declared.write.WriteFault.{WriteFault}
use Rattle.text_writing.specs.declared.write.WriteFault.TheVariants as fault
use Rattle.text_writing.specs.Places.{PassesAt}

-- a text with the tokens of a tree whose productions have their lengths, and whose leaves are tokens of their kinds
pub record IsWritten (comments : Comments) (t : Node) (text : List ℕ) : Type 0 where
  pub shaped : Shaped t
  pub spelled : Spelled t
  pub follows : Follows comments false (pieces t) text

-- the node that a refusal names is to blame
abbrev pub IsToBlame : Node → WriteFault → Type 0
IsToBlame t (fault.Shape p) = PassesAt is_misshapen t p.items
IsToBlame t (fault.Spelling p) = PassesAt is_misspelled t p.items
IsToBlame t _ = Unit {0}
