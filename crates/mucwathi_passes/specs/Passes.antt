-- What a command makes of a program that was read, and why it may be refused.
use Rattle.std.specs.Prelude.{◌≡◌, ◌+◌, ◌-◌, ◌<◌, true, false, [], ◌∷◌}
use Rattle.swc_tree_marks.specs.Globals.{Table, greatest}
use Rattle.swc_tree_marks.specs.declared.error.PassError.{PassError}
use Rattle.swc_tree_marks.specs.declared.error.PassError.TheVariants as refusal
use Rattle.swc_tree_node.specs.declared.node.Node.{Node}
use Rattle.swc_tree_scoping.specs.Places.{program_place}
use Rattle.swc_tree_scoping.specs.Resolved.{Resolved}
use Rattle.swc_tree_scoping.specs.Scopes.{scope_count}
use Rattle.swc_tree_spaces.specs.Spaces.{has_types}
use Rattle.swc_tree_grammar.specs.Blocks.{with_blocks}
use Rattle.swc_tree_grammar.specs.Stripped.{stripped}
use Rattle.swc_tree_grammar.specs.Targets.{all_bare}
use Rattle.swc_base_fixer_program.specs.Answers.{answer_to}
use Rattle.swc_base_mangle.specs.Mangled.{IsMangled, IsMangleRefusal}
use Rattle.swc_base_rename_substitution.specs.declared.config.Config.{Config}
use Rattle.swc_base_mangle.specs.Lower.swc_base_rename_program.specs.Renamed.{IsHygienic, IsRenameRefusal, hygiene_renaming}
use Rattle.mucwathi_settings.specs.declared.command.Command.{Command}
use Rattle.mucwathi_settings.specs.declared.command.Command.TheVariants as command
use Rattle.mucwathi_settings.specs.declared.command.Settings.{Settings}

-- the table of marks that a text is resolved with: 1 for names that nothing declares, 2 for the program's own scope
abbrev pub own_table : Table
own_table = (1, 0) ∷ (2, 0) ∷ []

-- what the passes go by
abbrev pub config_of : Settings → Config
config_of s = record { keep_class_names = s.keep_class_names; safari_10 = false; top_level_mark = 2; ignore_eval = s.ignore_eval }

-- the program with each of its names resolved
abbrev pub IsResolved : Node → Table → Node → Type 0
IsResolved t table u = Resolved 1 2 own_table table t u

-- ... then with a text for each that tells it from all others where it stands, and without contexts
pub record IsApart (s : Settings) (before after : Node) : Type 0 where
  pub table : Table
  pub resolved : Node
  pub is_resolved : IsResolved before table resolved
  pub hygienic : IsHygienic table (config_of s) resolved after

-- ... or with the shortest such texts
pub record IsShort (s : Settings) (before after : Node) : Type 0 where
  pub table : Table
  pub resolved : Node
  pub is_resolved : IsResolved before table resolved
  pub mangled : IsMangled table (config_of s) s.keep_top resolved after

-- the parentheses of a program set anew, each parenthesised target of which takes a value
abbrev pub IsPaired : Node → Node → Type 0
IsPaired before after = (all_bare before ≡ true) × (after ≡ answer_to before)

-- ... or taken off
abbrev pub IsBared : Node → Node → Type 0
IsBared before after = (all_bare before ≡ true) × (after ≡ with_blocks (stripped before))

-- what is renamed so, and then its parentheses set anew
pub record IsRenamedAndPaired (IsRenamed : Node → Node → Type 0) (before after : Node) : Type 0 where
  pub renamed : Node
  pub is_renamed : IsRenamed before renamed
  pub paired : IsPaired renamed after

abbrev pub Makes : Command → Settings → Node → Node → Type 0
Makes command.Chain s before after = IsRenamedAndPaired (IsApart s) before after
Makes command.Mangle s before after = IsRenamedAndPaired (IsShort s) before after
Makes command.Hygiene s before after = IsApart s before after
Makes command.Fix s before after = IsPaired before after
Makes command.Unparen s before after = IsBared before after

-- ---- refusals

-- the program has more scopes than there are marks for
abbrev pub TakesTooManyMarks : Node → Type 0
TakesTooManyMarks t = 4294967295 < greatest own_table + (scope_count program_place t - 1)

-- for an id of the program, once it is resolved, no counter gives a free text
abbrev pub IsSpent : Settings → Node → Type 0
IsSpent s t = (table : Table) × (resolved : Node) × IsResolved t table resolved × IsRenameRefusal table (config_of s) hygiene_renaming resolved refusal.CounterSpent

abbrev pub IsShortlySpent : Settings → Node → Type 0
IsShortlySpent s t = (table : Table) × (resolved : Node) × IsResolved t table resolved × IsMangleRefusal table (config_of s) s.keep_top resolved refusal.CounterSpent

-- a parenthesised target takes no value
abbrev pub IsUnassignable : Node → Type 0
IsUnassignable t = all_bare t ≡ false

-- ... once the program is renamed so
abbrev pub IsRenamedUnassignable : (Node → Node → Type 0) → Node → Type 0
IsRenamedUnassignable IsRenamed t = (renamed : Node) × IsRenamed t renamed × IsUnassignable renamed

-- why hygiene may be refused a program in which no types stand
abbrev pub IsApartRefusal : Settings → Node → PassError → Type 0
IsApartRefusal s t refusal.NoMemory = Unit {0}
IsApartRefusal s t refusal.MarksSpent = TakesTooManyMarks t
IsApartRefusal s t refusal.CounterSpent = IsSpent s t
IsApartRefusal s t refusal.NotAssignable = ⊥
IsApartRefusal s t refusal.TypesLeft = ⊥

-- ... and mangling
abbrev pub IsShortRefusal : Settings → Node → PassError → Type 0
IsShortRefusal s t refusal.NoMemory = Unit {0}
IsShortRefusal s t refusal.MarksSpent = TakesTooManyMarks t
IsShortRefusal s t refusal.CounterSpent = IsShortlySpent s t
IsShortRefusal s t refusal.NotAssignable = ⊥
IsShortRefusal s t refusal.TypesLeft = ⊥

-- ... and what sets parentheses or takes them off
abbrev pub IsPairRefusal : Node → PassError → Type 0
IsPairRefusal t refusal.NoMemory = Unit {0}
IsPairRefusal t refusal.NotAssignable = IsUnassignable t
IsPairRefusal t refusal.MarksSpent = ⊥
IsPairRefusal t refusal.CounterSpent = ⊥
IsPairRefusal t refusal.TypesLeft = ⊥

-- one for a pass that renames, or for parentheses then
abbrev pub IsRefusedInTurn : (Node → PassError → Type 0) → (Node → Node → Type 0) → Node → PassError → Type 0
IsRefusedInTurn IsRefused IsRenamed t refusal.NotAssignable = IsRenamedUnassignable IsRenamed t
IsRefusedInTurn IsRefused IsRenamed t e = IsRefused t e

-- why a command may be refused a program in which no types stand
abbrev pub IsCauseOf : Command → Settings → Node → PassError → Type 0
IsCauseOf command.Chain s t e = IsRefusedInTurn (IsApartRefusal s) (IsApart s) t e
IsCauseOf command.Mangle s t e = IsRefusedInTurn (IsShortRefusal s) (IsShort s) t e
IsCauseOf command.Hygiene s t e = IsApartRefusal s t e
IsCauseOf command.Fix s t e = IsPairRefusal t e
IsCauseOf command.Unparen s t e = IsPairRefusal t e

-- types stand in the program; or none do, and it is for another cause
abbrev pub IsRefusal : Command → Settings → Node → PassError → Type 0
IsRefusal c s t refusal.TypesLeft = has_types t ≡ true
IsRefusal c s t e = (has_types t ≡ false) × IsCauseOf c s t e
