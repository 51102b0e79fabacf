-- What a command makes of an input.
use Rattle.std.specs.Prelude.{◌≡◌, Bool, true, false, ℕ, ◌+◌, ◌-◌, ◌<◌, ◌⊎◌, IsTrue, Option, Some, None, List, Ok, Err, string_bytes}
use Rattle.swc_tree_marks.specs.Globals.{Table, IsTable, greatest}
use Rattle.swc_tree_marks.specs.declared.error.PassError.{PassError}
use Rattle.swc_tree_marks.specs.declared.error.PassError.TheVariants as refusal
use Rattle.swc_tree_node.specs.declared.kind.Class.{Class}
use Rattle.swc_tree_node.specs.declared.kind.Class.TheVariants as class
use Rattle.swc_tree_node.specs.declared.node.Node.{Node}
use Rattle.swc_tree_node.specs.declared.slot.Slot.{Slot}
use Rattle.swc_tree_node.specs.Fits.{Fits}
use Rattle.swc_tree_scoping.specs.Places.{program_place}
use Rattle.swc_tree_scoping.specs.Resolved.{is_script}
use Rattle.swc_tree_scoping.specs.Scopes.{scope_count}
use Rattle.swc_tree_spaces.specs.Spaces.{ResolvedBy, has_types}
use Rattle.swc_tree_renaming.specs.Apart.{is_goal}
use Rattle.swc_tree_grammar.specs.Blocks.{with_blocks}
use Rattle.swc_tree_grammar.specs.Stripped.{stripped}
use Rattle.swc_tree_grammar.specs.Targets.{all_bare}
use Rattle.swc_base_covers.specs.Covered.{HasPath, Tells}
use Rattle.swc_base_covers.specs.declared.gap.Gap.{Gap}
use Rattle.swc_base_fixer_program.specs.Answers.{answer_to}
use Rattle.swc_base_mangle.specs.Mangled.{IsMangleRefusal, IsMangled}
use Rattle.swc_base_rename_substitution.specs.declared.config.Config.{Config}
use Rattle.swc_base_rename_program.specs.Renamed.{IsHygienic, IsRenameRefusal, hygiene_renaming}
use Rattle.jsbase_form.specs.Reads.{Path, path_text}
use Rattle.jsbase_reader.specs.declared.envelope.Envelope.{Envelope}
use Rattle.jsbase_reader.specs.declared.error.ReadError.{ReadError}
use Rattle.jsbase_reader.specs.declared.error.ReadError.TheVariants as read
use Rattle.jsbase_reader.specs.Envelopes.{envelope_in_text}
use Rattle.jsbase_writer.specs.Envelopes.{envelope_text}
use Rattle.jsbase_commands.specs.declared.arguments.Command.{Command}
use Rattle.jsbase_commands.specs.declared.arguments.Command.TheVariants as command
use Rattle.jsbase_commands.specs.declared.arguments.Kind.{Kind}
use Rattle.jsbase_commands.specs.declared.arguments.Kind.TheVariants as kind
use Rattle.jsbase_commands.specs.declared.fault.Fault.{Fault}
use Rattle.jsbase_commands.specs.declared.fault.Fault.TheVariants.{Usage, Refused, NotATree}
use Rattle.jsbase_commands.specs.Covers.{cover_text}
use Rattle.jsbase_commands.specs.Judge.{IsToldOf, IsUntoldOf}

-- what a program of the kind is in the tree
abbrev pub class_of : Kind → Class
class_of kind.Module = class.Module
class_of kind.Script = class.Script

-- the output is the envelope of the tree, resolved over both name spaces, with the table of marks that resolving it leads to
pub record IsResolved (envelope : Envelope) (output : List ℕ) : Type 0 where
  pub table : Table
  pub answer : Node
  pub resolved : ResolvedBy envelope.unresolved envelope.top envelope.globals table envelope.tree answer
  pub well_formed : IsTable table
  pub written : output ≡ envelope_text table envelope.top answer envelope.unresolved

-- what hygiene goes by
abbrev pub config_by : ℕ → Bool → Bool → Config
config_by top keeps ignores = record { keep_class_names = keeps; safari_10 = false; top_level_mark = top; ignore_eval = ignores }

abbrev pub config_of : Envelope → Config
config_of envelope = config_by envelope.top envelope.keep_class_names envelope.ignore_eval

-- the output is the envelope of the tree, in which no types stand, with its names given anew and its contexts empty
pub record IsMadeHygienic (envelope : Envelope) (output : List ℕ) : Type 0 where
  pub no_types : has_types envelope.tree ≡ false
  pub answer : Node
  pub hygienic : IsHygienic envelope.globals (config_of envelope) envelope.tree answer
  pub written : output ≡ envelope_text envelope.globals envelope.top answer envelope.unresolved

-- the output is the envelope of the tree without parentheses, in which no types stand and whose parenthesised targets may be
-- assigned to
pub record IsUnparened (envelope : Envelope) (output : List ℕ) : Type 0 where
  pub no_types : has_types envelope.tree ≡ false
  pub assignable : all_bare envelope.tree ≡ true
  pub written : output ≡ envelope_text envelope.globals envelope.top (with_blocks (stripped envelope.tree)) envelope.unresolved

-- the output is the envelope of the tree with its parentheses set anew, in which no types stand and whose parenthesised
-- targets may be assigned to
pub record IsFixed (envelope : Envelope) (output : List ℕ) : Type 0 where
  pub no_types : has_types envelope.tree ≡ false
  pub assignable : all_bare envelope.tree ≡ true
  pub written : output ≡ envelope_text envelope.globals envelope.top (answer_to envelope.tree) envelope.unresolved

-- the tree of an envelope, resolved
abbrev pub ResolvesTo : Envelope → Table → Node → Type 0
ResolvesTo envelope table resolved = ResolvedBy envelope.unresolved envelope.top envelope.globals table envelope.tree resolved

-- the tree of an envelope, resolved, and then with its names given anew and its contexts empty
pub record IsRenamedWith (envelope : Envelope) (table : Table) (renamed : Node) : Type 0 where
  pub between : Node
  pub resolved : ResolvesTo envelope table between
  pub hygienic : IsHygienic table (config_of envelope) between renamed

-- the output is the envelope of the tree that the three passes lead to, one after the other: resolved, hygienic, fixed; no
-- types stood in the tree
pub record IsChained (envelope : Envelope) (output : List ℕ) : Type 0 where
  pub no_types : has_types envelope.tree ≡ false
  pub table : Table
  pub renamed : Node
  pub is_renamed : IsRenamedWith envelope table renamed
  pub assignable : all_bare renamed ≡ true
  pub well_formed : IsTable table
  pub written : output ≡ envelope_text table envelope.top (answer_to renamed) envelope.unresolved

-- whether names of the program's scope are to stay: as it is said, and else in scripts
abbrev pub keeps_top_by : Option Bool → Node → Bool
keeps_top_by (Some keeps) t = keeps
keeps_top_by None t = is_script t

abbrev pub keeps_top_of : Envelope → Bool
keeps_top_of envelope = keeps_top_by envelope.keep_top envelope.tree

-- the tree of an envelope, resolved, and then with short names and its contexts empty
pub record IsMangledWith (envelope : Envelope) (table : Table) (mangled : Node) : Type 0 where
  pub between : Node
  pub resolved : ResolvesTo envelope table between
  pub short : IsMangled table (config_of envelope) (keeps_top_of envelope) between mangled

-- the output is the envelope of the tree that the three passes lead to, one after the other: resolved, mangled, fixed; no
-- types stood in the tree
pub record IsMadeShort (envelope : Envelope) (output : List ℕ) : Type 0 where
  pub no_types : has_types envelope.tree ≡ false
  pub table : Table
  pub mangled : Node
  pub is_mangled : IsMangledWith envelope table mangled
  pub assignable : all_bare mangled ≡ true
  pub well_formed : IsTable table
  pub written : output ≡ envelope_text table envelope.top (answer_to mangled) envelope.unresolved

-- a program of its goal
abbrev pub IsProgram : Node → Type 0
IsProgram t = (goal : Slot) × IsTrue (is_goal goal) × Fits t goal

-- the output tells whether what is promised of a chain is promised of the tree, by the options of the envelope; or the first that
-- fails, and where
pub record IsCoverTold (envelope : Envelope) (output : List ℕ) : Type 0 where
  pub gap : Option Gap
  pub tells : Tells (config_of envelope) envelope.tree gap
  pub path : HasPath envelope.tree gap
  pub written : output ≡ cover_text envelope.tree gap

-- the command is about one program, and not about two versions of one
abbrev pub takes_one : Command → Bool
takes_one command.Judge = false
takes_one _ = true

-- what the command is to make of an envelope of one program
abbrev pub Does : Command → Envelope → List ℕ → Type 0
Does command.Resolve envelope output = IsResolved envelope output
Does command.Hygiene envelope output = IsMadeHygienic envelope output
Does command.Unparen envelope output = IsUnparened envelope output
Does command.Fix envelope output = IsFixed envelope output
Does command.Chain envelope output = IsChained envelope output
Does command.Mangle envelope output = IsMadeShort envelope output
Does command.Covers envelope output = IsCoverTold envelope output
Does command.Judge envelope output = ⊥

-- resolving the tree takes more marks than there are
abbrev pub TakesTooManyMarks : Envelope → Type 0
TakesTooManyMarks envelope = 4294967295 < greatest envelope.globals + (scope_count program_place envelope.tree - 1)

-- the counters are spent on the tree, once it is resolved
abbrev pub IsSpentOnceResolved : Envelope → Type 0
IsSpentOnceResolved envelope = (table : Table) × (resolved : Node) × ResolvesTo envelope table resolved
    × IsRenameRefusal table (config_of envelope) hygiene_renaming resolved refusal.CounterSpent

-- a parenthesised target takes no value, once the tree has its names
abbrev pub IsUnassignableOnceRenamed : Envelope → Type 0
IsUnassignableOnceRenamed envelope = (table : Table) × (renamed : Node) × IsRenamedWith envelope table renamed × (all_bare renamed ≡ false)

-- mangling is refused for its counters, once the tree is resolved
abbrev pub IsSpentOnMangling : Envelope → Type 0
IsSpentOnMangling envelope = (table : Table) × (resolved : Node) × ResolvesTo envelope table resolved
    × IsMangleRefusal table (config_of envelope) (keeps_top_of envelope) resolved refusal.CounterSpent

-- a parenthesised target takes no value, once the tree has short names
abbrev pub IsUnassignableOnceMangled : Envelope → Type 0
IsUnassignableOnceMangled envelope = (table : Table) × (mangled : Node) × IsMangledWith envelope table mangled × (all_bare mangled ≡ false)

-- why the passes of the command may be refused on an envelope in which no types stand, beside want of memory
abbrev pub IsCauseOf : Command → Envelope → PassError → Type 0
IsCauseOf command.Resolve envelope refusal.MarksSpent = TakesTooManyMarks envelope
IsCauseOf command.Resolve envelope _ = ⊥
IsCauseOf command.Hygiene envelope refusal.CounterSpent = IsRenameRefusal envelope.globals (config_of envelope) hygiene_renaming envelope.tree refusal.CounterSpent
IsCauseOf command.Hygiene envelope _ = ⊥
IsCauseOf command.Unparen envelope refusal.NotAssignable = all_bare envelope.tree ≡ false
IsCauseOf command.Unparen envelope _ = ⊥
IsCauseOf command.Fix envelope refusal.NotAssignable = all_bare envelope.tree ≡ false
IsCauseOf command.Fix envelope _ = ⊥
IsCauseOf command.Chain envelope refusal.MarksSpent = TakesTooManyMarks envelope
IsCauseOf command.Chain envelope refusal.CounterSpent = IsSpentOnceResolved envelope
IsCauseOf command.Chain envelope refusal.NotAssignable = IsUnassignableOnceRenamed envelope
IsCauseOf command.Chain envelope refusal.NoMemory = ⊥
IsCauseOf command.Chain envelope refusal.TypesLeft = ⊥
IsCauseOf command.Mangle envelope refusal.MarksSpent = TakesTooManyMarks envelope
IsCauseOf command.Mangle envelope refusal.CounterSpent = IsSpentOnMangling envelope
IsCauseOf command.Mangle envelope refusal.NotAssignable = IsUnassignableOnceMangled envelope
IsCauseOf command.Mangle envelope refusal.NoMemory = ⊥
IsCauseOf command.Mangle envelope refusal.TypesLeft = ⊥
IsCauseOf command.Covers envelope _ = ⊥
IsCauseOf command.Judge envelope _ = ⊥

-- memory was refused, or a pass of the command for its own cause
abbrev pub IsCausedFor : Command → Envelope → PassError → Type 0
IsCausedFor c envelope error = (error ≡ refusal.NoMemory) ⊎ IsCauseOf c envelope error

-- types stand in the tree, and the command takes none
abbrev pub refuses_types : Command → Envelope → Bool
refuses_types command.Resolve envelope = false
refuses_types command.Covers envelope = false
refuses_types c envelope = has_types envelope.tree

-- why the command may be refused on an envelope, beside want of memory: for its types; or it takes those, and it is for another
-- cause
abbrev pub IsRefusalOf : Command → Envelope → PassError → Type 0
IsRefusalOf c envelope refusal.TypesLeft = refuses_types c envelope ≡ true
IsRefusalOf c envelope error = (refuses_types c envelope ≡ false) × IsCauseOf c envelope error

-- memory was refused, or the command
abbrev pub IsRefusedFor : Command → Envelope → PassError → Type 0
IsRefusedFor c envelope error = (error ≡ refusal.NoMemory) ⊎ IsRefusalOf c envelope error

-- the fault says why an input was not read: the path in it, unless memory was refused
abbrev pub IsReadFault : ReadError → Fault → Type 0
IsReadFault read.NoMemory fault = fault ≡ Refused refusal.NoMemory
IsReadFault (read.Fault path) Usage = ⊥
IsReadFault (read.Fault path) (Refused error) = error ≡ refusal.NoMemory
IsReadFault (read.Fault path) (NotATree text) = string_bytes text ≡ path_text path

-- the output is what the command makes of the envelope of one program that the input is
abbrev pub MakesOfOne : Command → Kind → List ℕ → List ℕ → Type 0
MakesOfOne c k input output = (envelope : Envelope) × (envelope_in_text (class_of k) input ≡ Ok envelope) × Does c envelope output

-- the output is what the command makes of the input; of one that has two versions of a program what is said of them
abbrev pub Makes : Command → Kind → List ℕ → List ℕ → Type 0
Makes command.Judge k input output = IsToldOf (class_of k) input output
Makes c k input output = MakesOfOne c k input output

-- the fault is the input's first, by its path; else memory was refused, or the command's pass for its own cause
abbrev pub IsFaultOfOne : Command → Kind → List ℕ → Fault → Type 0
IsFaultOfOne c k input Usage = ⊥
IsFaultOfOne c k input (NotATree text) = (path : Path) × (envelope_in_text (class_of k) input ≡ Err path) × (string_bytes text ≡ path_text path)
IsFaultOfOne c k input (Refused error) = (error ≡ refusal.NoMemory) ⊎ ((envelope : Envelope) × (envelope_in_text (class_of k) input ≡ Ok envelope) × IsRefusalOf c envelope error)

abbrev pub IsRunFault : Command → Kind → List ℕ → Fault → Type 0
IsRunFault command.Judge k input fault = IsUntoldOf (class_of k) input fault
IsRunFault c k input fault = IsFaultOfOne c k input fault
