-- Programs that are given with marks.
use Rattle.std.specs.Prelude.{◌≡◌, ◌⊎◌, Bool, false, ℕ, List, Option, Some, None, Ok}
use Rattle.swc_tree_node.specs.declared.node.Node.{Node}
use Rattle.swc_tree_scoping.specs.declared.places.Scope.TheVariants as scope
use Rattle.swc_tree_scoping.specs.Places.{opened, program_place}
use Rattle.swc_tree_scoping.specs.Resolved.{is_script}
use Rattle.swc_base_resolver_program.specs.Marked.{MarksOk}
use Rattle.swc_tree_spaces.specs.Spaces.{ResolvedBy}
use Rattle.swc_base_mangle.specs.Mangled.{IsMangled}
use Rattle.swc_base_rename_substitution.specs.declared.config.Config.{Config}
use Rattle.swc_base_rename_program.specs.Renamed.{IsHygienic}
use Rattle.jsbase_programs.specs.declared.programs.Goal.{Goal}
use Rattle.jsbase_programs.specs.declared.programs.Goal.TheVariants as goal
use Rattle.jsbase_programs.specs.Goals.{class_of}
use Rattle.jsbase_reader.specs.declared.envelope.Envelope.{Envelope}
use Rattle.jsbase_reader.specs.Envelopes.{envelope_in_text}
use Rattle.mucwathi_settings.specs.declared.command.Command.{Command}
use Rattle.mucwathi_settings.specs.declared.command.Command.TheVariants as command
use Rattle.mucwathi_passes.specs.Passes.{IsBared, IsPaired}

-- the envelope is what a text is, read as of a program of the goal
abbrev pub IsReadAs : Goal → List ℕ → Envelope → Type 0
IsReadAs g text e = envelope_in_text (class_of g) text ≡ Ok e

-- ... or of one of both
abbrev pub IsRead : List ℕ → Envelope → Type 0
IsRead text e = IsReadAs goal.Module text e ⊎ IsReadAs goal.Script text e

-- what the passes go by
abbrev pub config_of : Envelope → Config
config_of e = record { keep_class_names = e.keep_class_names; safari_10 = false; top_level_mark = e.top; ignore_eval = e.ignore_eval }

-- whether names of the program's scope are to stay: as it is said, and else in scripts
abbrev pub keeps_top_by : Option Bool → Node → Bool
keeps_top_by (Some keeps) t = keeps
keeps_top_by None t = is_script t

-- it is of a program, and its two marks are of its table, as of each that is read
pub record IsReady (e : Envelope) : Type 0 where
  pub program : opened program_place e.tree ≡ Some scope.Program
  pub marks : MarksOk e.globals e.unresolved e.top

-- the same envelope but for its program and its table of marks
pub record IsAround (given made : Envelope) : Type 0 where
  pub unresolved : made.unresolved ≡ given.unresolved
  pub top : made.top ≡ given.top
  pub classes : made.keep_class_names ≡ given.keep_class_names
  pub evals : made.ignore_eval ≡ given.ignore_eval
  pub tops : made.keep_top ≡ given.keep_top

-- each name of the program has the mark of its scope, or the marks that it had
abbrev pub IsResolved : Envelope → Envelope → Type 0
IsResolved given made = ResolvedBy given.unresolved given.top given.globals made.globals given.tree made.tree

-- each name has a text that tells it from all others where it stands, and no marks
abbrev pub IsApart : Envelope → Envelope → Type 0
IsApart given made = (made.globals ≡ given.globals) × IsHygienic given.globals (config_of given) given.tree made.tree

-- ... or the shortest such text
abbrev pub IsShort : Envelope → Envelope → Type 0
IsShort given made = (made.globals ≡ given.globals) × IsMangled given.globals (config_of given) (keeps_top_by given.keep_top given.tree) given.tree made.tree

-- parentheses are set anew, or taken off
abbrev pub HasPairs : Envelope → Envelope → Type 0
HasPairs given made = (made.globals ≡ given.globals) × IsPaired given.tree made.tree

abbrev pub IsBare : Envelope → Envelope → Type 0
IsBare given made = (made.globals ≡ given.globals) × IsBared given.tree made.tree

-- one is done after another
pub record Then (First Second : Envelope → Envelope → Type 0) (given made : Envelope) : Type 0 where
  pub between : Envelope
  pub first : First given between
  pub around : IsAround given between
  pub second : Second between made

-- what a command makes of a program; where there is none it is resolved
abbrev pub Makes : Option Command → Envelope → Envelope → Type 0
Makes None given made = IsResolved given made
Makes (Some command.Chain) given made = Then IsResolved (Then IsApart HasPairs) given made
Makes (Some command.Mangle) given made = Then IsResolved (Then IsShort HasPairs) given made
Makes (Some command.Hygiene) given made = IsApart given made
Makes (Some command.Fix) given made = HasPairs given made
Makes (Some command.Unparen) given made = IsBare given made

-- ... round which nothing else changes
pub record IsMade (c : Option Command) (given made : Envelope) : Type 0 where
  pub around : IsAround given made
  pub makes : Makes c given made
