-- What the fixer promises of its answer.
use Rattle.std.specs.Prelude.{◌≡◌, IsTrue}
use Rattle.swc_tree_node.specs.declared.node.Node.{Node}
use Rattle.swc_tree_node.specs.declared.slot.Slot.{Slot}
use Rattle.swc_tree_node.specs.Fits.{Fits}
use Rattle.swc_tree_grammar.specs.Grammar.{FitsGrammar}
use Rattle.swc_tree_grammar.specs.Needed.{NoIdlePair}
use Rattle.swc_tree_grammar.specs.Normal as normal
use Rattle.swc_tree_grammar.specs.Places.{is_open}
use Rattle.swc_tree_grammar.specs.Spanless.{SameButForSpans}
use Rattle.swc_tree_grammar.specs.Targets.{all_bare}
use Rattle.swc_tree_grammar.specs.Writable.{Writable}
use Rattle.swc_base_fixer_laws.specs.Once.{paired_once}
use Rattle.swc_base_fixer_laws.specs.Targets.{has_bare_targets}
use Rattle.swc_base_fixer_program.specs.Answers.{answer_to}

-- what could be written down still can and is derived by the grammar, and each of its pairs is needed or stands for a
-- reader; the normal form is what it was; no pair stands right in another; and a second run changes nothing but spans, nor
-- these where no assignment's target stands in a pair and the first run refused none, as in all that can be written down
pub record Promises (before after : Node) : Type 0 where
  pub writable : Writable before → Writable after
  pub derived : Writable before → FitsGrammar after
  pub needed : Writable before → NoIdlePair after
  pub normal_form : normal.normal_form after ≡ normal.normal_form before
  pub once : IsTrue (paired_once after)
  pub again : SameButForSpans (answer_to after) after
  pub settled : IsTrue (all_bare before) → IsTrue (has_bare_targets after) → answer_to after ≡ after
  pub unchanged : Writable before → answer_to after ≡ after

-- so it is of the answer to what fits a place that takes pairs, as each module and each script does
abbrev pub AnswersKeepPromises : Type 0
AnswersKeepPromises = (t : Node) (s : Slot) → IsTrue (is_open s) → Fits t s → Promises t (answer_to t)
