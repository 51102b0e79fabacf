-- What is answered to a task over programs that are not given, or not answered, as texts.
use Rattle.std.specs.Option.{option_or}
use Rattle.std.specs.Prelude.{◌≡◌, ◌⊎◌, ◌||◌, ℕ, Bool, false, true, List, [], Option, Some, None}
use Rattle.swc_tree_marks.specs.declared.error.PassError.{PassError}
use Rattle.swc_tree_marks.specs.declared.error.PassError.TheVariants as refusal
use Rattle.swc_tree_node.specs.declared.node.Node.{Node, out-Node}
use Rattle.swc_tree_node.specs.declared.node.Node.TheOpen.{Node-F}
use Rattle.swc_tree_node.specs.declared.kind.Kind.TheVariants as kind
use Rattle.jsbase_reader.specs.declared.envelope.Envelope.{Envelope}
use Rattle.jsbase_writer.specs.Envelopes.{envelope_text}
use Rattle.text_parser.specs.declared.programs.Goal.{Goal}
use Rattle.text_parser.specs.declared.programs.Goal.TheVariants as goal
use Rattle.mucwathi_settings.specs.declared.command.Command.{Command}
use Rattle.mucwathi_order.specs.declared.order.Memory.TheVariants as memory
use Rattle.mucwathi_order.specs.declared.order.Order.{Order}
use Rattle.mucwathi_arguments.specs.Asked.{giving_of, is_plain}
use Rattle.mucwathi_arguments.specs.declared.task.Giving.{Giving}
use Rattle.mucwathi_arguments.specs.declared.task.Rewriting.{Rewriting}
use Rattle.mucwathi_arguments.specs.declared.task.Source.{Source}
use Rattle.mucwathi_arguments.specs.declared.task.Source.TheVariants as source
use Rattle.mucwathi_order.specs.declared.fault.RunFault.{RunFault}
use Rattle.mucwathi_order.specs.declared.fault.RunFault.TheVariants.{NotKept, NotWritten, Refused, Text}
use Rattle.mucwathi_given.specs.Faults.{IsNoTree}
use Rattle.mucwathi_given.specs.Given.{IsMade, IsRead}
use Rattle.mucwathi_given.specs.Refusals.{IsUnmade}
use Rattle.mucwathi_looks.specs.declared.given.Marked.{Marked}
use Rattle.mucwathi_looks.specs.Answered.{IsPrinted, IsResolvedMarked, IsRewrittenMarked}
use Rattle.mucwathi_looks.specs.Given.{IsGiven, IsUnmarked}
use Rattle.mucwathi_looks.specs.Refused.{IsUngiven, IsUnread, IsUnresolvedMarked, IsUnrewrittenMarked}
use Rattle.mucwathi_looks.specs.Reports.{no_tree_text}
use Rattle.mucwathi_looks.specs.declared.reports.Named.{Named}
use Rattle.mucwathi_answers.specs.Answers.{IsAnswered, IsAsked, IsFaultTold, IsWell, keeps_top, settings_for}
use Rattle.mucwathi_answers.specs.declared.answer.Answer.{Answer}

-- the passes go by what was asked, and else by what the envelope says
abbrev pub with_settings : Giving → Envelope → Envelope
with_settings task e = record { globals = e.globals; unresolved = e.unresolved; top = e.top; keep_class_names = task.settings.keep_class_names || e.keep_class_names; ignore_eval = task.settings.ignore_eval || e.ignore_eval; keep_top = option_or task.keep_top e.keep_top; tree = e.tree }

abbrev pub IsMadeBy : Giving → Envelope → Envelope → Type 0
IsMadeBy task program made = IsMade task.command (with_settings task program) made

-- what is made of a program is written as an envelope
pub record IsEnvelopeOf (task : Giving) (program : Envelope) (out : List ℕ) : Type 0 where
  pub made : Envelope
  pub is_made : IsMadeBy task program made
  pub written : out ≡ envelope_text made.globals made.top made.tree made.unresolved

abbrev pub goal_in : Node-F Node → Goal
goal_in (Node-F.Tree kind.Module ts) = goal.Module
goal_in _ = goal.Script

abbrev pub goal_of : Node → Goal
goal_of t = goal_in (out-Node t)

-- ... or anew as a text, with the marks of its names
pub record IsTextOfMade (task : Giving) (program : Envelope) (out : List ℕ) : Type 0 where
  pub made : Envelope
  pub is_made : IsMadeBy task program made
  pub printed : IsPrinted (goal_of made.tree) made.tree out

abbrev pub IsWrittenAs : Bool → Giving → Envelope → List ℕ → Type 0
IsWrittenAs true task program out = IsEnvelopeOf task program out
IsWrittenAs false task program out = IsTextOfMade task program out

-- the program is that of a text, with the marks that stand behind its names, or without any
abbrev pub IsProgramOf : Source → Goal → List ℕ → Envelope → Type 0
IsProgramOf source.Marked g text e = (m : Marked) × IsGiven g text m × (e ≡ m.program)
IsProgramOf _ g text e = IsUnmarked g text e

-- what is made of a text's program is written as an envelope
pub record HasEnvelopeOf (task : Giving) (g : Goal) (text out : List ℕ) : Type 0 where
  pub program : Envelope
  pub given : IsProgramOf task.form.source g text program
  pub made : IsEnvelopeOf task program out

-- what a task asks of a text with marks; as many productions may be open at once
abbrev pub order_given : Giving → Command → Goal → Order
order_given task command g = record { command = command; goal = g; depth = 4000; settings = settings_for task.settings (keeps_top task.keep_top g); style = task.style; memory = memory.GivenBack }

abbrev pub IsRemarked : Option Command → Giving → Goal → List ℕ → List ℕ → Type 0
IsRemarked None task g text out = IsResolvedMarked g text out
IsRemarked (Some command) task g text out = IsRewrittenMarked (order_given task command g) text out

-- a text is answered as an envelope, or as a text with marks
abbrev pub IsAnsweredAs : Bool → Giving → Goal → List ℕ → List ℕ → Type 0
IsAnsweredAs true task g text out = HasEnvelopeOf task g text out
IsAnsweredAs false task g text out = IsRemarked task.command task g text out

-- ... as what it is read
abbrev pub IsOfText : Giving → Named → List ℕ → Type 0
IsOfText task of out = (g : Goal) × IsAsked task.goal of g × IsAnsweredAs task.form.json task g of.text.now out

-- an envelope was read, and this is made of its program
pub record IsOfTree (task : Giving) (of : Named) (out : List ℕ) : Type 0 where
  pub program : Envelope
  pub read : IsRead of.text.now program
  pub made : IsWrittenAs task.form.json task program out

abbrev pub IsOf : Source → Giving → Named → List ℕ → Type 0
IsOf source.Tree task of out = IsOfTree task of out
IsOf _ task of out = IsOfText task of out

-- ---- why nothing is

-- no program is given, as the text is not read
abbrev pub IsNoProgram : Source → List ℕ → RunFault → Type 0
IsNoProgram source.Marked text f = IsUngiven text f
IsNoProgram _ text f = IsUnread text f

-- nothing is made of a program
abbrev pub IsUnmadeBy : Giving → Envelope → PassError → Type 0
IsUnmadeBy task program e = (e ≡ refusal.NoMemory) ⊎ IsUnmade task.command (with_settings task program) e

abbrev pub IsRefusal : Giving → Envelope → RunFault → Type 0
IsRefusal task program (Refused e) = IsUnmadeBy task program e
IsRefusal task program (Text f) = ⊥
IsRefusal task program NotWritten = ⊥
IsRefusal task program NotKept = ⊥

-- ... or what is made of it has no text
abbrev pub IsNoText : Giving → Envelope → RunFault → Type 0
IsNoText task program (Refused e) = IsUnmadeBy task program e
IsNoText task program (Text f) = ⊥
IsNoText task program NotWritten = (made : Envelope) × IsMadeBy task program made
IsNoText task program NotKept = (made : Envelope) × IsMadeBy task program made

abbrev pub IsUnwrittenAs : Bool → Giving → Envelope → RunFault → Type 0
IsUnwrittenAs true task program f = IsRefusal task program f
IsUnwrittenAs false task program f = IsNoText task program f

-- there is no envelope of what is made of a text's program
abbrev pub IsNoEnvelope : Giving → Goal → List ℕ → RunFault → Type 0
IsNoEnvelope task g text f = IsNoProgram task.form.source text f ⊎ ((program : Envelope) × IsProgramOf task.form.source g text program × IsRefusal task program f)

-- ... or no text with marks
abbrev pub IsUnremarked : Option Command → Giving → Goal → List ℕ → RunFault → Type 0
IsUnremarked None task g text f = IsUnresolvedMarked g text f
IsUnremarked (Some command) task g text f = IsUnrewrittenMarked (order_given task command g) text f

abbrev pub IsUnansweredAs : Bool → Giving → Goal → List ℕ → RunFault → Type 0
IsUnansweredAs true task g text f = IsNoEnvelope task g text f
IsUnansweredAs false task g text f = IsUnremarked task.command task g text f

-- a fault tells why, of a text as what it is read
abbrev pub IsTextFault : Giving → Named → RunFault → Type 0
IsTextFault task of f = (g : Goal) × IsAsked task.goal of g × IsUnansweredAs task.form.json task g of.text.now f

-- ... or of the program of an envelope that was read
abbrev pub IsProgramFault : Giving → Named → RunFault → Type 0
IsProgramFault task of f = (program : Envelope) × IsRead of.text.now program × IsUnwrittenAs task.form.json task program f

-- such a fault is told
abbrev pub HasFault : (RunFault → Type 0) → Named → Answer → Type 0
HasFault TellsWhy of a = (f : RunFault) × TellsWhy f × IsFaultTold of f a

-- ... or that an input is no tree, and where that shows
pub record IsNoTreeTold (of : Named) (a : Answer) : Type 0 where
  pub path : List ℕ
  pub no_tree : IsNoTree of.text.now path
  pub status : a.status ≡ 3
  pub out : a.out.items ≡ []
  pub told : a.told.items ≡ no_tree_text of.name.now path

abbrev pub IsUnanswered : Source → Giving → Named → Answer → Type 0
IsUnanswered source.Tree task of a = IsNoTreeTold of a ⊎ HasFault (IsProgramFault task of) of a
IsUnanswered _ task of a = HasFault (IsTextFault task of) of a

-- status 0 is only given where that is written which was asked for; with another nothing is, and it is told why
pub record IsAnswerOf (IsWritten : List ℕ → Type 0) (IsTold : Answer → Type 0) (a : Answer) : Type 0 where
  pub well : IsWell a → IsWritten a.out.items
  pub fault : ¬ IsWell a → IsTold a

abbrev pub IsGivenAnswer : Giving → Named → Answer → Type 0
IsGivenAnswer task of a = IsAnswerOf (IsOf task.form.source task of) (IsUnanswered task.form.source task of) a

-- from text to text, or otherwise
abbrev pub IsAnsweredIf : (plain : Bool) → Rewriting → List ℕ → Named → Answer → Type 0
IsAnsweredIf true task prefix of a = IsAnswered task prefix of a
IsAnsweredIf false task prefix of a = IsGivenAnswer (giving_of task) of a

abbrev pub IsAnsweredTo : Rewriting → List ℕ → Named → Answer → Type 0
IsAnsweredTo task prefix of a = IsAnsweredIf (is_plain task.form) task prefix of a
