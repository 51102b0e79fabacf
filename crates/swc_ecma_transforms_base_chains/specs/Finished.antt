-- What a renamer, as hygiene is one, and then the fixer make of a program, and why they refuse one.
use Rattle.std.specs.Prelude.{◌≡◌, true, false}
use Rattle.swc_tree_marks.specs.declared.error.PassError.{PassError}
use Rattle.swc_tree_marks.specs.declared.error.PassError.TheVariants as error
use Rattle.swc_tree_marks.specs.Globals.{Table}
use Rattle.swc_tree_node.specs.declared.node.Node.{Node}
use Rattle.swc_tree_spaces.specs.Spaces.{has_types}
use Rattle.swc_tree_grammar.specs.Targets.{all_bare}
use Rattle.swc_base_fixer_program.specs.Answers.{answer_to}
use Rattle.swc_base_rename_analysis.specs.Named.{Renaming}
use Rattle.swc_base_rename_substitution.specs.declared.config.Config.{Config}
use Rattle.swc_base_rename_program.specs.Renamed.{IsRenameRefusal, hygiene_renaming}
use Rattle.swc_base_renaming_laws.specs.Renamers.{IsRenamedAndCleared}

-- no types stood in the program; it got its names by the renamer and lost its contexts, each parenthesised target of it took a value
-- then, and it got its due pairs
pub record FinishesBy (r : Renaming) (table : Table) (config : Config) (before after : Node) : Type 0 where
  pub no_types : has_types before ≡ false
  pub between : Node
  pub renamed : IsRenamedAndCleared table config r before between
  pub assignable : all_bare between ≡ true
  pub paired : after ≡ answer_to between

-- a parenthesised target took no value once the program was renamed
pub record IsUnassignableBy (r : Renaming) (table : Table) (config : Config) (before : Node) : Type 0 where
  pub between : Node
  pub renamed : IsRenamedAndCleared table config r before between
  pub unassignable : all_bare between ≡ false

-- memory was refused, the counters of an id were spent, or a target took no value
abbrev pub IsFinishCauseBy : Renaming → Table → Config → Node → PassError → Type 0
IsFinishCauseBy r table config before error.NoMemory = Unit {0}
IsFinishCauseBy r table config before error.CounterSpent = IsRenameRefusal table config r before error.CounterSpent
IsFinishCauseBy r table config before error.NotAssignable = IsUnassignableBy r table config before
IsFinishCauseBy r table config before error.MarksSpent = ⊥
IsFinishCauseBy r table config before error.TypesLeft = ⊥

-- types stand in the program; or none do, and it is for another cause
abbrev pub IsFinishRefusalBy : Renaming → Table → Config → Node → PassError → Type 0
IsFinishRefusalBy r table config before error.TypesLeft = has_types before ≡ true
IsFinishRefusalBy r table config before e = (has_types before ≡ false) × IsFinishCauseBy r table config before e

-- ---- hygiene is a renamer

abbrev pub Finishes : Table → Config → Node → Node → Type 0
Finishes = FinishesBy hygiene_renaming

abbrev pub IsFinishRefusal : Table → Config → Node → PassError → Type 0
IsFinishRefusal = IsFinishRefusalBy hygiene_renaming
