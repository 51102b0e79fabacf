-- What hygiene and then the fixer answer, the three passes in a chain answer again.
use Rattle.std.specs.Prelude.{◌≡◌, ℕ, false, IsTrue, Contains}
use Rattle.swc_tree_marks.specs.Globals.{Table, numbers}
use Rattle.swc_tree_node.specs.declared.slot.Slot.{Slot}
use Rattle.swc_tree_node.specs.declared.node.Node.{Node}
use Rattle.swc_tree_node.specs.Fits.{Fits}
use Rattle.swc_tree_scoping.specs.Readings.{by_texts}
use Rattle.swc_tree_scoping.specs.Resolved.{Resolved}
use Rattle.swc_tree_scoping.specs.WellScoped.{IsClean, WellScoped}
use Rattle.swc_tree_renaming.specs.Apart.{IsPlainIfScript, is_goal}
use Rattle.swc_tree_spaces.specs.NoTypes.{ListsAreItems}
use Rattle.swc_tree_grammar.specs.Due.{Places}
use Rattle.swc_tree_grammar.specs.Fixed.{fixed, recorded}
use Rattle.swc_tree_grammar.specs.Pairs.{pairs}
use Rattle.swc_tree_grammar.specs.Spanless.{SameButForSpans}
use Rattle.swc_base_rename_substitution.specs.declared.config.Config.{Config}
use Rattle.swc_base_rename_units.specs.Eval.{HasEval}
use Rattle.swc_base_rename_program.specs.Renamed.{IsHygienic}
use Rattle.swc_base_renaming_laws.specs.Hygiene.{IsFinishable, IsPlain}
use Rattle.swc_base_renaming_laws.specs.Settled.{ApartWhereMet, own_text}

-- where texts are apart where ids meet, hygiene leaves a tree as it is, but without contexts
abbrev pub HygieneLeavesApart : Type 0
HygieneLeavesApart = (table : Table) (config : Config) (t answer : Node) (s : Slot) → IsPlain config t → Fits t s → WellScoped t → ApartWhereMet t own_text
    → IsHygienic table config t answer → answer ≡ by_texts t

-- what hygiene and then the fixer may answer to a well-scoped module, or plain script, that can be finished and in which nothing reads names
pub record IsAnswer (answer : Node) : Type 0 where
  pub table : Table
  pub config : Config
  pub place : Places
  pub before : Node
  pub middle : Node
  pub goal : Slot
  pub program : IsTrue (is_goal goal)
  pub stands : Fits before goal
  pub finishable : IsFinishable config before
  pub plain : IsPlainIfScript before
  pub unread : ¬ HasEval before
  pub scoped : WellScoped before
  pub hygienic : IsHygienic table config before middle
  pub paired : answer ≡ fixed place middle

-- it is a program of that goal without contexts, each export list of which is one of its items; if it is a script, a plain one
pub record IsCleanProgram (goal : Slot) (answer : Node) : Type 0 where
  pub fits : Fits answer goal
  pub clean : IsClean answer
  pub lists : ListsAreItems answer
  pub plain : IsPlainIfScript answer

abbrev pub AnswersAreCleanPrograms : Type 0
AnswersAreCleanPrograms = (answer : Node) → (a : IsAnswer answer) → IsCleanProgram a.goal answer

-- and nothing reads names in it
abbrev pub AnswersReadNoNames : Type 0
AnswersReadNoNames = (answer : Node) → IsAnswer answer → ¬ HasEval answer

-- and once it is resolved, its own texts are apart where ids meet
abbrev pub AnswersAreApart : Type 0
AnswersAreApart = (answer u : Node) (unresolved top : ℕ) (old new : Table) → IsAnswer answer → Contains (numbers old) unresolved
    → Resolved unresolved top old new answer u → ApartWhereMet u own_text

-- so hygiene gives the answer back
abbrev pub HygieneGivesAnswersBack : Type 0
HygieneGivesAnswersBack = (table : Table) (config : Config) (answer u middle : Node) (unresolved top : ℕ) (old new : Table) → IsAnswer answer → config.keep_class_names ≡ false
    → Contains (numbers old) unresolved → Resolved unresolved top old new answer u → IsHygienic table config u middle → middle ≡ answer

-- and the chain changes spans alone, wherever its fixer puts pairs
abbrev pub ChainChangesSpans : Type 0
ChainChangesSpans = (table : Table) (config : Config) (place : Places) (answer u middle : Node) (unresolved top : ℕ) (old new : Table) → IsAnswer answer → config.keep_class_names ≡ false
    → Contains (numbers old) unresolved → Resolved unresolved top old new answer u → IsHygienic table config u middle → SameButForSpans (fixed place middle) answer

-- but the fixer puts each pair where the answer has it, so the chain changes nothing
abbrev pub ChainChangesNothing : Type 0
ChainChangesNothing = (table : Table) (config : Config) (answer u middle : Node) (unresolved top : ℕ) (old new : Table) → IsAnswer answer → config.keep_class_names ≡ false
    → Contains (numbers old) unresolved → Resolved unresolved top old new answer u → IsHygienic table config u middle → fixed (recorded (pairs middle)) middle ≡ answer

-- the last two, as they rest on texts apart where ids meet
abbrev pub ChainChangesSpansGiven : Type 0
ChainChangesSpansGiven = AnswersAreApart → ChainChangesSpans

abbrev pub ChainChangesNothingGiven : Type 0
ChainChangesNothingGiven = AnswersAreApart → ChainChangesNothing
