-- Laws of the fixer's answer.
use Rattle.std.specs.Prelude.{◌≡◌, true, IsTrue}
use Rattle.swc_tree_node.specs.declared.node.Node.{Node}
use Rattle.swc_tree_node.specs.declared.slot.Slot.{Slot}
use Rattle.swc_tree_node.specs.Fits.{Fits}
use Rattle.swc_tree_grammar.specs.Blocks.{with_blocks}
use Rattle.swc_tree_grammar.specs.Due.{Places, with_due_pairs}
use Rattle.swc_tree_grammar.specs.Grammar.{FitsGrammar}
use Rattle.swc_tree_grammar.specs.Places.{is_open}
use Rattle.swc_tree_grammar.specs.Targets.{all_bare}
use Rattle.swc_tree_grammar.specs.Writable.{Writable}
use Rattle.swc_tree_grammar.specs.Stripped.{stripped}
use Rattle.swc_tree_grammar.specs.Normal.{normal_form}
use Rattle.swc_tree_grammar.specs.Spanless.{SameButForSpans}
use Rattle.swc_tree_grammar.specs.Pairs.{pairs}
use Rattle.swc_tree_grammar.specs.Fixed.{fixed, recorded, IsFixed}
use Rattle.swc_base_fixer_laws.specs.Alike.{Alike}
use Rattle.swc_base_fixer_laws.specs.Sets.{Sets}
use Rattle.swc_base_fixer_laws.specs.Named.{named}
use Rattle.swc_base_fixer_laws.specs.Once.{paired_once}
use Rattle.swc_base_fixer_laws.specs.Targets.{has_bare_targets}

-- the due pairs are pairs round expressions where the table takes them, and nothing else changes
abbrev pub DuePairsArePairs : Type 0
DuePairsArePairs = (place : Places) (t : Node) (s : Slot) → Fits t s → Sets s t (with_due_pairs place t)

-- so the answer stands where the tree does
abbrev pub AnswerFitsTable : Type 0
AnswerFitsTable = (place : Places) (t : Node) (s : Slot) → Fits t s → Fits (with_due_pairs place (with_blocks t)) s

-- stripping takes them off again: what is left is the same but for the kinds of the names `async`, which before `of` becomes an expression
abbrev pub StrippingUndoesDuePairs : Type 0
StrippingUndoesDuePairs = (place : Places) (t : Node) (s : Slot) → Fits t s → Alike (stripped t) (stripped (with_due_pairs place t))

-- what can be written down once its pairs are set still can with the pairs
abbrev pub DuePairsKeepWritable : Type 0
DuePairsKeepWritable = (place : Places) (t : Node) (s : Slot) → Fits t s → Writable t → Writable (with_due_pairs place t)

-- the grammar derives the answer to what can be written down
abbrev pub AnswerFits : Type 0
AnswerFits = (place : Places) (t : Node) (s : Slot) → Fits t s → Writable (with_blocks t) → FitsGrammar (with_due_pairs place (with_blocks t))

-- what can be written down still can with its blocks
abbrev pub BlocksKeepWritable : Type 0
BlocksKeepWritable = (t : Node) (s : Slot) → Fits t s → Writable t → Writable (with_blocks t)

-- in what can be written down each parenthesised assignment target can stand bare
abbrev pub TargetsStandBare : Type 0
TargetsStandBare = (t : Node) (s : Slot) → Fits t s → Writable t → all_bare t ≡ true

-- what can be written down still can once it is stripped
abbrev pub StrippingKeepsWritable : Type 0
StrippingKeepsWritable = (t : Node) (s : Slot) → Fits t s → Writable t → Writable (stripped t)

-- what can be written down still can with its due pairs in place of those that it had, and the grammar derives it:
-- of a module, a script, and what stands in any place of the table but that of an assignment's target
abbrev pub FixedFits : Type 0
FixedFits = (place : Places) (t : Node) (s : Slot) → IsTrue (is_open s) → Fits t s → Writable t → Writable (fixed place t) × FitsGrammar (fixed place t)

-- the answer to what fits a place fits there, where each parenthesised target can stand bare
abbrev pub FixedFitsTable : Type 0
FixedFitsTable = (place : Places) (t : Node) (s : Slot) → IsTrue (is_open s) → Fits t s → IsTrue (all_bare t) → Fits (fixed place t) s

-- what stripping leaves of the answer is the stripped tree with its blocks, in which the name `async` before `of` is an
-- expression
abbrev pub StrippingUndoesFixer : Type 0
StrippingUndoesFixer = (place : Places) (t : Node) (s : Slot) → Fits t s → stripped (fixed place t) ≡ named (with_blocks (stripped t))

-- the normal form stays what it was, spans too
abbrev pub NormalFormStays : Type 0
NormalFormStays = (place : Places) (t : Node) (s : Slot) → Fits t s → normal_form (fixed place t) ≡ normal_form t

-- no expression has two pairs
abbrev pub NoPairInPair : Type 0
NoPairInPair = (place : Places) (t : Node) (s : Slot) → Fits t s → IsTrue (paired_once (fixed place t))

-- the answer to an answer is what the tree itself is answered
abbrev pub AnswerAgain : Type 0
AnswerAgain = (first second : Places) (t : Node) (s : Slot) → Fits t s → fixed second (fixed first t) ≡ fixed second t

-- where pairs are put changes spans alone
abbrev pub PlacesChangeSpans : Type 0
PlacesChangeSpans = (first second : Places) (t : Node) → SameButForSpans (fixed first t) (fixed second t)

-- so a second run changes nothing but spans
abbrev pub SecondRunChangesSpans : Type 0
SecondRunChangesSpans = (first second : Places) (t : Node) (s : Slot) → Fits t s → SameButForSpans (fixed second (fixed first t)) (fixed first t)

-- a second run, which knows where the pairs of the first answer stand, answers the same tree with its spans, where no
-- assignment's target of it stands in a pair: where such a pair stood is not known
abbrev pub SecondRunKeepsSpans : Type 0
SecondRunKeepsSpans = (place : Places) (t : Node) (s : Slot) → IsTrue (is_open s) → Fits t s → IsTrue (all_bare t) → IsTrue (has_bare_targets (fixed place t)) → fixed (recorded (pairs (fixed place t))) (fixed place t) ≡ fixed place t

-- in the answer to what can be written down none does
abbrev pub TargetsStayBare : Type 0
TargetsStayBare = (place : Places) (t : Node) (s : Slot) → IsTrue (is_open s) → Fits t s → Writable t → IsTrue (has_bare_targets (fixed place t))

-- so there a second run answers the very answer
abbrev pub SecondRunChangesNothing : Type 0
SecondRunChangesNothing = (place : Places) (t : Node) (s : Slot) → IsTrue (is_open s) → Fits t s → Writable t → fixed (recorded (pairs (fixed place t))) (fixed place t) ≡ fixed place t

-- the same said of whatever the fixer answers, which is known but for spans
abbrev pub FixerKeepsNormalForm : Type 0
FixerKeepsNormalForm = (t u : Node) (s : Slot) → Fits t s → IsFixed t u → SameButForSpans (normal_form u) (normal_form t)

abbrev pub FixerPairsOnce : Type 0
FixerPairsOnce = (t u : Node) (s : Slot) → Fits t s → IsFixed t u → IsTrue (paired_once u)

-- its answer to an answer is that answer
abbrev pub FixerStaysThere : Type 0
FixerStaysThere = (t u v : Node) (s : Slot) → Fits t s → IsFixed t u → IsFixed u v → SameButForSpans v u
