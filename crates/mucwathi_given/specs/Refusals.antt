-- Why nothing is made of a program that is given with marks.
use Rattle.std.specs.Prelude.{◌≡◌, ◌⊎◌, ◌+◌, ◌-◌, ◌<◌, false, Option, Some, None, true}
use Rattle.swc_tree_marks.specs.Globals.{greatest}
use Rattle.swc_tree_marks.specs.declared.error.PassError.{PassError}
use Rattle.swc_tree_marks.specs.declared.error.PassError.TheVariants as refusal
use Rattle.swc_tree_scoping.specs.Places.{program_place}
use Rattle.swc_tree_scoping.specs.Scopes.{scope_count}
use Rattle.swc_tree_spaces.specs.Spaces.{has_types}
use Rattle.swc_tree_grammar.specs.Targets.{all_bare}
use Rattle.swc_base_mangle.specs.Mangled.{IsMangleRefusal}
use Rattle.swc_base_rename_program.specs.Renamed.{IsRenameRefusal, hygiene_renaming}
use Rattle.jsbase_reader.specs.declared.envelope.Envelope.{Envelope}
use Rattle.mucwathi_settings.specs.declared.command.Command.{Command}
use Rattle.mucwathi_settings.specs.declared.command.Command.TheVariants as command
use Rattle.mucwathi_given.specs.Given.{IsApart, IsResolved, IsShort, config_of, keeps_top_by}

-- memory was refused, or there are more scopes than marks left
abbrev pub TakesTooManyMarks : Envelope → Type 0
TakesTooManyMarks given = 4294967295 < greatest given.globals + (scope_count program_place given.tree - 1)

abbrev pub IsUnresolved : Envelope → PassError → Type 0
IsUnresolved given e = (e ≡ refusal.NoMemory) ⊎ ((e ≡ refusal.MarksSpent) × TakesTooManyMarks given)

-- ... or no counter gives an id a free text
abbrev pub IsNotApart : Envelope → PassError → Type 0
IsNotApart given e = IsRenameRefusal given.globals (config_of given) hygiene_renaming given.tree e

abbrev pub IsNotShort : Envelope → PassError → Type 0
IsNotShort given e = IsMangleRefusal given.globals (config_of given) (keeps_top_by given.keep_top given.tree) given.tree e

-- ... or a parenthesised target takes no value
abbrev pub IsUnpaired : Envelope → PassError → Type 0
IsUnpaired given e = (e ≡ refusal.NoMemory) ⊎ ((e ≡ refusal.NotAssignable) × (all_bare given.tree ≡ false))

-- the first of two is refused, or the second of what the first makes
abbrev pub InTurn : (Envelope → PassError → Type 0) → (Envelope → Envelope → Type 0) → (Envelope → PassError → Type 0) → Envelope → PassError → Type 0
InTurn IsFirst First IsSecond given e = IsFirst given e ⊎ ((between : Envelope) × First given between × IsSecond between e)

-- why a command is refused a program in which no types stand
abbrev pub IsCauseOf : Command → Envelope → PassError → Type 0
IsCauseOf command.Chain given e = InTurn IsUnresolved IsResolved (InTurn IsNotApart IsApart IsUnpaired) given e
IsCauseOf command.Mangle given e = InTurn IsUnresolved IsResolved (InTurn IsNotShort IsShort IsUnpaired) given e
IsCauseOf command.Hygiene given e = IsNotApart given e
IsCauseOf command.Fix given e = IsUnpaired given e
IsCauseOf command.Unparen given e = IsUnpaired given e

-- ... or one that may have some; where there is no command it is resolved, types or not
abbrev pub IsUnmade : Option Command → Envelope → PassError → Type 0
IsUnmade None given e = IsUnresolved given e
IsUnmade (Some c) given e = ((e ≡ refusal.TypesLeft) × (has_types given.tree ≡ true)) ⊎ ((has_types given.tree ≡ false) × IsCauseOf c given e)
