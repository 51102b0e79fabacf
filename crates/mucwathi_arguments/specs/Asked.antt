-- What the words of a command line ask for.
use Rattle.std.specs.Borrow.{Bor}
use Rattle.std.specs.Str.{bytes_eq}
use Rattle.std.specs.Prelude.{◌≡◌, ◌&&◌, ℕ, Bool, true, false, codes, if◌then◌else◌, List, [], map, not, Option, Some, None, option_map, unwrap_or}
use Rattle.clap.specs.Words.{Row, Text, all_of, first_of, found_of, rows_of, subcommand_of}
use Rattle.clap.specs.declared.parser.ArgMatches.{ArgMatches}
use Rattle.text_parser.specs.declared.programs.Goal.{Goal}
use Rattle.text_parser.specs.declared.programs.Goal.TheVariants as goal
use Rattle.mucwathi_settings.specs.declared.command.Command.{Command}
use Rattle.mucwathi_settings.specs.declared.command.Command.TheVariants as command
use Rattle.mucwathi_settings.specs.declared.command.Settings.{Settings}
use Rattle.mucwathi_order.specs.declared.order.Style.{Style}
use Rattle.mucwathi_order.specs.declared.order.Style.TheVariants as style
use Rattle.mucwathi_arguments.specs.Offered.{offered}
use Rattle.mucwathi_arguments.specs.declared.task.Form.{Form}
use Rattle.mucwathi_arguments.specs.declared.task.Giving.{Giving}
use Rattle.mucwathi_arguments.specs.declared.task.Judging.{Judging}
use Rattle.mucwathi_arguments.specs.declared.task.Looking.{Looking}
use Rattle.mucwathi_arguments.specs.declared.task.Rewriting.{Rewriting}
use Rattle.mucwathi_arguments.specs.declared.task.Source.{Source}
use Rattle.mucwathi_arguments.specs.declared.task.Source.TheVariants as source
use Rattle.mucwathi_arguments.specs.declared.task.Target.{Target}
use Rattle.mucwathi_arguments.specs.declared.task.Target.TheVariants as target
use Rattle.mucwathi_arguments.specs.declared.task.Task.{Task}
use Rattle.mucwathi_arguments.specs.declared.task.Task.TheVariants.{Judge, Look, ResolveGiven, Rewrite}
use Rattle.mucwathi_arguments.specs.declared.task.View.{View}
use Rattle.mucwathi_arguments.specs.declared.task.View.TheVariants as view

-- ---- what stands behind a command's name

-- the options and files that were found behind the name of a command
abbrev pub rows : ArgMatches → List Row
rows m = rows_of (found_of m)

abbrev pub is_yes : Option Text → Bool
is_yes (Some word) = bytes_eq word (codes "true")
is_yes None = false

-- an option was given that has no value
abbrev pub said : List ℕ → List Row → Bool
said name rs = is_yes (first_of name rs)

-- ... or one with a value was, or not
abbrev pub IsGiven : List ℕ → List Row → Option (Bor Text) → Type 0
IsGiven name rs value = option_map (λ v. v.now) value ≡ first_of name rs

-- ---- what they ask for

abbrev pub goal_asked : List Row → Option Goal
goal_asked rs = if said (codes "module") rs then Some goal.Module else if said (codes "script") rs then Some goal.Script else None

abbrev pub style_asked : List Row → Style
style_asked rs = if said (codes "compact") rs then style.Compact else if said (codes "print") rs then style.Lines else style.Kept

abbrev pub source_asked : List Row → Source
source_asked rs = if said (codes "marks") rs then source.Marked else if said (codes "from-json") rs then source.Tree else source.Text

abbrev pub form_asked : List Row → Form
form_asked rs = record { source = source_asked rs; json = said (codes "json") rs }

-- whether names of the program's own scope stay
abbrev pub top_asked : List Row → Option Bool
top_asked rs = if said (codes "keep-top") rs then Some true else if said (codes "mangle-top") rs then Some false else None

abbrev pub settings_asked : List Row → Settings
settings_asked rs = record { keep_class_names = said (codes "keep-class-names") rs; ignore_eval = said (codes "ignore-eval") rs; keep_top = false }

-- where answers go: into the place of each file, into a folder, or to standard output
abbrev pub IsTarget : List Row → Target → Type 0
IsTarget rs target.Place = said (codes "in-place") rs ≡ true
IsTarget rs (target.Folder folder) = (said (codes "in-place") rs ≡ false) × (first_of (codes "out") rs ≡ Some folder.now)
IsTarget rs target.Output = (said (codes "in-place") rs ≡ false) × (first_of (codes "out") rs ≡ None)

-- ---- tasks

pub record IsRewriting (rs : List Row) (r : Rewriting) : Type 0 where
  pub goal : r.goal ≡ goal_asked rs
  pub settings : r.settings ≡ settings_asked rs
  pub keep_top : r.keep_top ≡ top_asked rs
  pub style : r.style ≡ style_asked rs
  pub lists : r.lists ≡ said (codes "list") rs
  pub explains : r.explains ≡ said (codes "explain") rs
  pub target : IsTarget rs r.target
  pub form : r.form ≡ form_asked rs
  pub files : map (λ f. f.now) r.files.items ≡ unwrap_or (all_of (codes "file") rs) []
  pub map : IsGiven (codes "source-map") rs r.map

pub record IsJudging (rs : List Row) (j : Judging) : Type 0 where
  pub goal : j.goal ≡ goal_asked rs
  pub keep_top : j.keep_top ≡ said (codes "keep-top") rs
  pub spelling : j.spelling ≡ not (said (codes "any-spelling") rs)
  pub before : j.before.now ≡ unwrap_or (first_of (codes "before") rs) []
  pub after : j.after.now ≡ unwrap_or (first_of (codes "after") rs) []

pub record IsLooking (rs : List Row) (l : Looking) : Type 0 where
  pub goal : l.goal ≡ goal_asked rs
  pub file : IsGiven (codes "file") rs l.file

-- names get the marks of their scopes, and nothing else is asked
abbrev pub resolving_asked : List Row → Giving
resolving_asked rs = record { command = None; goal = goal_asked rs; settings = record { keep_class_names = false; ignore_eval = false; keep_top = false }; keep_top = None; style = style.Kept; form = form_asked rs }

abbrev pub IsNameOf : Text → Command → Type 0
IsNameOf name command.Chain = name ≡ codes "chain"
IsNameOf name command.Mangle = name ≡ codes "mangle"
IsNameOf name command.Hygiene = name ≡ codes "hygiene"
IsNameOf name command.Fix = name ≡ codes "fix"
IsNameOf name command.Unparen = name ≡ codes "unparen"

-- what is told of a text has a command of its own, but for its tree
abbrev pub IsNameOfView : Text → List Row → View → Type 0
IsNameOfView name rs view.Names = name ≡ codes "names"
IsNameOfView name rs view.Page = name ≡ codes "show"
IsNameOfView name rs view.Marks = (name ≡ codes "resolve") × (form_asked rs ≡ record { source = source.Text; json = false })
IsNameOfView name rs view.Tree = (name ≡ codes "resolve") × (form_asked rs ≡ record { source = source.Text; json = true })

-- the task is what a command's name and what stands behind it ask for
abbrev pub IsTaskOf : Text → List Row → Task → Type 0
IsTaskOf name rs (Rewrite r) = IsNameOf name r.command × IsRewriting rs r
IsTaskOf name rs (Judge j) = (name ≡ codes "judge") × IsJudging rs j
IsTaskOf name rs (Look v l) = IsNameOfView name rs v × IsLooking rs l
IsTaskOf name rs (ResolveGiven l g) = (name ≡ codes "resolve") × (source_asked rs ≡ source.Text → ⊥) × IsLooking rs l × (g ≡ resolving_asked rs)

-- ... of a command line
abbrev pub IsAskedBy : List Text → Task → Type 0
IsAskedBy words task = (name : Text) × (rs : List Row) × (subcommand_of offered words ≡ Some (name, rs)) × IsTaskOf name rs task

-- ---- parts of tasks

abbrev pub is_text : Source → Bool
is_text source.Text = true
is_text _ = false

-- from text to text
abbrev pub is_plain : Form → Bool
is_plain f = is_text f.source && not f.json

-- the same of a program that is not given, or not answered, as a text
abbrev pub giving_of : Rewriting → Giving
giving_of r = record { command = Some r.command; goal = r.goal; settings = r.settings; keep_top = r.keep_top; style = r.style; form = r.form }
