-- What mangling makes of a program.
use Rattle.std.specs.Prelude.{◌≡◌, ℕ, ◌⊎◌, Bool, true, false, ◌&&◌, IsTrue}
use Rattle.swc_tree_marks.specs.Globals.{Table}
use Rattle.swc_tree_marks.specs.declared.error.PassError.{PassError}
use Rattle.swc_tree_marks.specs.declared.error.PassError.TheVariants as error
use Rattle.swc_tree_node.specs.declared.node.Node.{Node}
use Rattle.swc_tree_scoping.specs.Readings.{by_texts}
use Rattle.swc_tree_scoping.specs.Resolved.{is_script}
use Rattle.swc_tree_renaming.specs.Apart.{DeclaresNoGlobalValue, HasNoSloppy}
use Rattle.swc_base_rename_analysis.specs.Named.{Renaming}
use Rattle.swc_base_rename_by_use.specs.ByUse.{text_by_use}
use Rattle.swc_base_rename_by_use.specs.declared.by_use.TextsByUse.{TextsByUse}
use Rattle.swc_base_rename_program.specs.Renamed.{IsRenameRefusal, IsRenamedBy}
use Rattle.swc_base_rename_substitution.specs.declared.config.Config.{Config}
use Rattle.swc_base_mangle.specs.Own.{is_own}

-- a script in which a plain function stands in a block of sloppy code, or whose program declares `undefined`, `NaN` or `Infinity`
abbrev pub HasStrays : Node → Type 0
HasStrays t = IsTrue (is_script t) × ¬ (HasNoSloppy t × DeclaresNoGlobalValue t)

-- the renaming that is taken: an id tries a short text of its own, and then the others from the first on; names of the program's scope stay
-- if they are to
abbrev pub mangling : TextsByUse → (keeps_top : Bool) → ℕ → Node → Renaming
mangling texts keeps_top top t = record { text = λ x n. text_by_use texts x n; mangles = false; resets = true; preserves = λ x. keeps_top && is_own top t x }

-- a tree gets short names, whichever text is whose own
abbrev pub IsRenamedByUse : Table → Config → Bool → Node → Node → Type 0
IsRenamedByUse table config keeps_top before given = (texts : TextsByUse) × IsRenamedBy table config (mangling texts keeps_top config.top_level_mark before) before given

-- ... and one that has strays keeps the names that it has
abbrev pub IsShortened : Table → Config → Bool → Node → Node → Type 0
IsShortened table config keeps_top before given = (HasStrays before × (given ≡ before)) ⊎ (¬ HasStrays before × IsRenamedByUse table config keeps_top before given)

-- what mangling makes of a tree: it gets its names so, and then each context is empty
pub record IsMangled (table : Table) (config : Config) (keeps_top : Bool) (before after : Node) : Type 0 where
  pub given : Node
  pub shortened : IsShortened table config keeps_top before given
  pub cleared : after ≡ by_texts given

-- no counter gives an id a free text, or memory was refused
abbrev pub IsByUseRefusal : Table → Config → Bool → Node → PassError → Type 0
IsByUseRefusal table config keeps_top t e = (texts : TextsByUse) × IsRenameRefusal table config (mangling texts keeps_top config.top_level_mark t) t e

-- why it may be refused: for want of memory; and where the counters are spent on a tree without strays
abbrev pub IsMangleRefusal : Table → Config → Bool → Node → PassError → Type 0
IsMangleRefusal table config keeps_top t e = (e ≡ error.NoMemory) ⊎ (¬ HasStrays t × IsByUseRefusal table config keeps_top t e)
