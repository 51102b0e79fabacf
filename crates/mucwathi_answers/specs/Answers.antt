-- What is answered to a task over texts.
use Rattle.std.specs.Prelude.{◌≡◌, ◌<◌, Bool, true, false, ℕ, nat_eq, codes, List, [], ◌∷◌, Option, Some, None}
use Rattle.std.specs.Borrow.{Bor}
use Rattle.std.specs.List.{ends_with}
use Rattle.std.specs.Option.{option_or}
use Rattle.swc_tree_marks.specs.declared.error.PassError.TheVariants as refusal
use Rattle.text_parser.specs.declared.programs.Goal.{Goal}
use Rattle.text_parser.specs.declared.programs.Goal.TheVariants as goal
use Rattle.mucwathi_settings.specs.declared.command.Settings.{Settings}
use Rattle.mucwathi_order.specs.declared.order.Memory.{Memory}
use Rattle.mucwathi_order.specs.declared.order.Memory.TheVariants as memory
use Rattle.mucwathi_order.specs.declared.order.Order.{Order}
use Rattle.mucwathi_arguments.specs.declared.task.Judging.{Judging}
use Rattle.mucwathi_arguments.specs.declared.task.Rewriting.{Rewriting}
use Rattle.mucwathi_arguments.specs.declared.task.View.{View}
use Rattle.mucwathi_arguments.specs.declared.task.View.TheVariants as view
use Rattle.mucwathi_commands.specs.Comments.{IsRewrittenWith}
use Rattle.mucwathi_commands.specs.Faults.{IsRunFault}
use Rattle.mucwathi_commands.specs.Looks.{IsCoverTold}
use Rattle.mucwathi_commands.specs.declared.cover.CoverGap.{CoverGap}
use Rattle.mucwathi_commands.specs.Judged.{IsJudgeFault, IsJudged}
use Rattle.mucwathi_commands.specs.declared.judge.Rules.{Rules}
use Rattle.mucwathi_commands.specs.declared.judge.TextDifference.{TextDifference}
use Rattle.mucwathi_order.specs.declared.fault.JudgeFault.{JudgeFault}
use Rattle.mucwathi_order.specs.declared.fault.RunFault.{RunFault}
use Rattle.mucwathi_order.specs.declared.fault.RunFault.TheVariants.{Refused}
use Rattle.mucwathi_lists.specs.declared.changes.Change.{Change}
use Rattle.mucwathi_lists.specs.declared.lists.FreeName.{FreeName}
use Rattle.mucwathi_lists.specs.Listed.{changes_listed, lost_listed, names_listed}
use Rattle.mucwathi_looks.specs.Changes.{HasChanges}
use Rattle.mucwathi_looks.specs.Looks.{IsUnlooked}
use Rattle.mucwathi_looks.specs.Marked.{HasSigns}
use Rattle.mucwathi_looks.specs.Names.{HasFreeNames}
use Rattle.mucwathi_looks.specs.Trees.{HasTree}
use Rattle.mucwathi_looks.specs.Map.{IsMap}
use Rattle.mucwathi_looks.specs.Shown.{IsShown as IsShownPage}
use Rattle.mucwathi_looks.specs.Unshown.{IsUnshown as IsPageUnshown}
use Rattle.mucwathi_looks.specs.declared.reports.Named.{Named}
use Rattle.mucwathi_looks.specs.Reports.{IsCoverReport, IsDifferenceReport, IsFaultReport, IsJudgeFaultReport}
use Rattle.mucwathi_looks.specs.Status.{judge_status, run_status}
use Rattle.mucwathi_answers.specs.declared.answer.Answer.{Answer}

-- as what a text is read, if the name of its file tells
abbrev pub goal_by : (is_module is_script : Bool) → Option Goal
goal_by true is_script = Some goal.Module
goal_by false true = Some goal.Script
goal_by false false = None

abbrev pub goal_named : List ℕ → Option Goal
goal_named name = goal_by (ends_with nat_eq name (codes ".mjs")) (ends_with nat_eq name (codes ".cjs"))

-- ... or what was asked, if that was
abbrev pub goal_asked : Option Goal → Named → Option Goal
goal_asked (Some asked) of = Some asked
goal_asked None of = goal_named of.name.now

-- a text is read as what it is to be read; where that is open, as either
abbrev pub IsGoalOf : Option Goal → Goal → Type 0
IsGoalOf (Some asked) g = g ≡ asked
IsGoalOf None g = Unit {0}

abbrev pub IsAsked : Option Goal → Named → Goal → Type 0
IsAsked given of g = IsGoalOf (goal_asked given of) g

-- names of the program's own scope stay where that was asked for, and where nothing was, those of a script
abbrev pub keeps_top : Option Bool → Goal → Bool
keeps_top (Some keep) g = keep
keeps_top None goal.Script = true
keeps_top None goal.Module = false

abbrev pub settings_for : Settings → Bool → Settings
settings_for s keep = record { keep_class_names = s.keep_class_names; ignore_eval = s.ignore_eval; keep_top = keep }

-- of one file the memory is left to the process, which ends then
abbrev pub memory_for : List (Bor (List ℕ)) → Memory
memory_for [] = memory.Left
memory_for (file ∷ []) = memory.Left
memory_for (file ∷ other ∷ files) = memory.GivenBack

-- what a task asks of a text that is read as the goal has it; as many productions may be open at once
abbrev pub order_for : Rewriting → Goal → Order
order_for task g = record { command = task.command; goal = g; depth = 4000; settings = settings_for task.settings (keeps_top task.keep_top g); style = task.style; memory = memory_for task.files.items }

-- nothing is written, the status is that of a fault, and this is told
pub record IsFaultTold (of : Named) (f : RunFault) (a : Answer) : Type 0 where
  pub status : a.status ≡ run_status f
  pub out : a.out.items ≡ []
  pub told : IsFaultReport of.name.now of.text.now f a.told.items

abbrev pub IsWell : Answer → Type 0
IsWell a = a.status ≡ 0

-- memory was refused
abbrev pub IsMemoryFault : RunFault → Type 0
IsMemoryFault f = f ≡ Refused refusal.NoMemory

-- a source map tells of what is written, where one is asked for
abbrev pub HasMap : Option (Bor (List ℕ)) → Order → Named → List ℕ → List ℕ → Type 0
HasMap None order of out map = Unit {0}
HasMap (Some path) order of out map = IsMap order of.name.now of.text.now out map

-- what is written is what was ordered, those comments are told that are lost, each in its line, and the map is that of what is written
pub record IsWrittenOut (order : Order) (path : Option (Bor (List ℕ))) (of : Named) (a : Answer) : Type 0 where
  pub lost : List ℕ
  pub rewritten : IsRewrittenWith order of.text.now a.out.items lost
  pub told : a.told.items ≡ lost_listed of.name.now of.text.now lost
  pub mapped : HasMap path order of a.out.items a.map.items

-- ... as what the text is read
pub record IsMade (task : Rewriting) (of : Named) (a : Answer) : Type 0 where
  pub goal : Goal
  pub asked : IsAsked task.goal of goal
  pub written : IsWrittenOut (order_for task goal) task.map of a

-- a list has the names that are given anew in a text, each in its line
pub record HasList (order : Order) (prefix text out : List ℕ) : Type 0 where
  pub changes : List Change
  pub told : HasChanges order text changes
  pub listed : out ≡ changes_listed prefix text changes

-- ... as what it is read
pub record IsListed (task : Rewriting) (prefix : List ℕ) (of : Named) (out : List ℕ) : Type 0 where
  pub goal : Goal
  pub asked : IsAsked task.goal of goal
  pub list : HasList (order_for task goal) prefix of.text.now out

-- whether the promise covers a text is told; where it does not, what it lacks first
pub record HasExplanation (order : Order) (of : Named) (out : List ℕ) : Type 0 where
  pub gap : Option CoverGap
  pub covers : IsCoverTold order.goal order.settings of.text.now gap
  pub told : IsCoverReport of.name.now of.text.now gap out

-- ... as what it is read
pub record IsExplained (task : Rewriting) (of : Named) (out : List ℕ) : Type 0 where
  pub goal : Goal
  pub asked : IsAsked task.goal of goal
  pub explanation : HasExplanation (order_for task goal) of out

-- all is well, and what was asked for is written, or told in its place
pub record IsWorked (task : Rewriting) (prefix : List ℕ) (of : Named) (a : Answer) : Type 0 where
  pub well : IsWell a
  pub explained : task.explains ≡ true → IsExplained task of a.out.items
  pub made : task.lists ≡ false → task.explains ≡ false → IsMade task of a
  pub listed : task.lists ≡ true → task.explains ≡ false → IsListed task prefix of a.out.items

-- a fault tells of the text, as what it is read
pub record IsTold (task : Rewriting) (of : Named) (f : RunFault) : Type 0 where
  pub goal : Goal
  pub asked : IsAsked task.goal of goal
  pub told : IsRunFault (order_for task goal) of.text.now f

-- status 0 is only given where all is well; with another nothing is written, and it is that of a fault
pub record IsAnswered (task : Rewriting) (prefix : List ℕ) (of : Named) (a : Answer) : Type 0 where
  pub well : IsWell a → IsWorked task prefix of a
  pub fault : ¬ IsWell a → (f : RunFault) × IsTold task of f × IsFaultTold of f a

-- the free names of a text, each in its line
abbrev pub HasNameList : Goal → List ℕ → List ℕ → Type 0
HasNameList goal text out = (names : List FreeName) × HasFreeNames goal text names × (out ≡ names_listed text names)

-- what is shown of a text, as what it is read: its tree, the text with marks or in a page, or its free names
abbrev pub Shows : View → Goal → Named → List ℕ → Type 0
Shows view.Tree goal of out = HasTree goal of.text.now out
Shows view.Marks goal of out = HasSigns goal of.text.now out
Shows view.Page goal of out = IsShownPage goal 4000 of.name.now of.text.now out
Shows view.Names goal of out = HasNameList goal of.text.now out

-- ... and why nothing is
abbrev pub IsUnshown : View → Goal → List ℕ → RunFault → Type 0
IsUnshown view.Page goal text f = IsPageUnshown goal 4000 text f
IsUnshown _ goal text f = IsUnlooked goal text f

-- so it is of a text, as what it is read
abbrev pub IsShown : View → Option Goal → Named → List ℕ → Type 0
IsShown v given of out = (goal : Goal) × IsAsked given of goal × Shows v goal of out

abbrev pub IsShowFault : View → Option Goal → Named → RunFault → Type 0
IsShowFault v given of f = (goal : Goal) × IsAsked given of goal × IsUnshown v goal of.text.now f

-- status 0 is only given where that is written which was asked for; with another nothing is written, and it is that of a fault
pub record IsLooked (v : View) (given : Option Goal) (of : Named) (a : Answer) : Type 0 where
  pub well : IsWell a → IsShown v given of a.out.items
  pub fault : ¬ IsWell a → (f : RunFault) × IsShowFault v given of f × IsFaultTold of f a

-- by what they are judged
abbrev pub rules_for : Judging → Rules
rules_for task = record { depth = 4000; keep_top = task.keep_top; spelling = task.spelling }

-- one of two texts is read as what it is to be read, or else as the other is to be
abbrev pub IsAskedOfTwo : Option Goal → Named → Named → Goal → Type 0
IsAskedOfTwo given of other g = IsGoalOf (option_or (goal_asked given of) (goal_asked given other)) g

-- two texts are judged, as what they are read
pub record IsVerdict (task : Judging) (before after : Named) (said : Option TextDifference) : Type 0 where
  pub first : Goal
  pub second : Goal
  pub asked_first : IsAskedOfTwo task.goal before after first
  pub asked_second : IsAskedOfTwo task.goal after before second
  pub judged : IsJudged (rules_for task) first before.text.now second after.text.now said

-- why nothing is said of them, as what they are read
pub record IsVerdictFault (task : Judging) (before after : Named) (f : JudgeFault) : Type 0 where
  pub first : Goal
  pub second : Goal
  pub asked_first : IsAskedOfTwo task.goal before after first
  pub asked_second : IsAskedOfTwo task.goal after before second
  pub told : IsJudgeFault task.spelling first before.text.now second after.text.now f

-- what is written of them, with which status
abbrev pub SaysVerdict : (before after : Named) → Option TextDifference → Answer → Type 0
SaysVerdict before after None a = (a.status ≡ 0) × (a.out.items ≡ codes "the same\n")
SaysVerdict before after (Some difference) a = (a.status ≡ 1) × IsDifferenceReport before after difference a.out.items

-- ... or nothing is, and a fault is told
pub record SaysFault (before after : Named) (f : JudgeFault) (a : Answer) : Type 0 where
  pub status : a.status ≡ judge_status f
  pub out : a.out.items ≡ []
  pub told : IsJudgeFaultReport before after f a.told.items

-- status 0 says that they are the same program but for names, 1 that they are not, and how, and another is that of a fault
pub record TellsVerdict (task : Judging) (before after : Named) (a : Answer) : Type 0 where
  pub same : a.status ≡ 0 → IsVerdict task before after None × SaysVerdict before after None a
  pub other : a.status ≡ 1 → (difference : TextDifference) × IsVerdict task before after (Some difference) × SaysVerdict before after (Some difference) a
  pub fault : 1 < a.status → (f : JudgeFault) × IsVerdictFault task before after f × SaysFault before after f a
