-- What tokens stay when a tree is written out, and through a chain.
use Rattle.std.specs.Prelude.{IsTrue}
use Rattle.swc_tree_node.specs.declared.node.Node.{Node}
use Rattle.swc_tree_node.specs.declared.slot.Slot.{Slot}
use Rattle.swc_tree_node.specs.Fits.{Fits}
use Rattle.swc_tree_renaming.specs.Apart.{is_goal}
use Rattle.swc_tree_grammar.specs.Due.{Places}
use Rattle.swc_tree_grammar.specs.Fixed.{fixed}
use Rattle.swc_tree_grammar.specs.Normal.{normal_form, written_out}
use Rattle.swc_tree_grammar.specs.Same.{SameButForBoundNames}
use Rattle.swc_tree_grammar.specs.Stripped.{stripped}
use Rattle.swc_tree_grammar.specs.Targets.{all_bare}
use Rattle.text_pieces.specs.Pieces.{pieces}
use Rattle.text_kept_laws.specs.Unpaired.{LosesPairsAlone, unpaired}
use Rattle.text_kept_laws.specs.Written.{AsWritten, HasTokensOf, WithoutIdle}

-- a tree that stands in its place has its tokens when it is written out, with what is written out
abbrev pub WritingOutKeepsTokens : Type 0
WritingOutKeepsTokens = (t : Node) (s : Slot) → Fits t s → AsWritten (pieces t) (pieces (written_out t))

-- ... and without its pairs all but these
abbrev pub UnpairingKeepsTokens : Type 0
UnpairingKeepsTokens = (t : Node) (s : Slot) → Fits t s → AsWritten (pieces t) (pieces (unpaired t))

-- ... and stripped, where its targets can stand bare, but for what does nothing
abbrev pub StrippingKeepsTokens : Type 0
StrippingKeepsTokens = (t : Node) (s : Slot) → IsTrue (all_bare t) → Fits t s → WithoutIdle (pieces t) (pieces (stripped t))

-- so has the normal form of a program the tokens of the program, all of them where stripping takes off pairs alone
abbrev pub NormalFormsKeepTokens : Type 0
NormalFormsKeepTokens = (t : Node) (goal : Slot) → IsTrue (is_goal goal) → Fits t goal → IsTrue (all_bare t) → WithoutIdle (pieces t) (pieces (normal_form t)) × (LosesPairsAlone t → AsWritten (pieces t) (pieces (normal_form t)))

-- ... and that of what the fixer answers those of the answer
abbrev pub AnswersKeepTokens : Type 0
AnswersKeepTokens = (place : Places) (t : Node) (goal : Slot) → IsTrue (is_goal goal) → Fits t goal → IsTrue (all_bare t) → AsWritten (pieces (fixed place t)) (pieces (normal_form (fixed place t)))

-- so what a chain answers has the tokens of its source, but for bound names, pairs of parentheses, blocks, what is written out and what does nothing
abbrev pub ChainsKeepTokens : Type 0
ChainsKeepTokens = (place : Places) (source middle : Node) (goal : Slot) → IsTrue (is_goal goal) → Fits source goal → Fits middle goal → IsTrue (all_bare source) → IsTrue (all_bare middle)
    → SameButForBoundNames source (fixed place middle) → HasTokensOf source (fixed place middle)
