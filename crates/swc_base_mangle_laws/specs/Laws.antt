-- What is promised of a source that is resolved, mangled, and then fixed.
use Rattle.std.specs.Prelude.{◌≡◌, ℕ, Bool, Contains, true, IsTrue}
use Rattle.swc_tree_marks.specs.Globals.{Table, numbers}
use Rattle.swc_tree_node.specs.declared.node.Node.{Node}
use Rattle.swc_tree_node.specs.declared.slot.Slot.{Slot}
use Rattle.swc_tree_node.specs.Fits.{Fits}
use Rattle.swc_tree_scoping.specs.Resolved.{Resolved}
use Rattle.swc_tree_renaming.specs.Apart.{IsPlainIfScript, is_goal}
use Rattle.swc_tree_grammar.specs.Due.{Places}
use Rattle.swc_tree_grammar.specs.Fixed.{fixed}
use Rattle.swc_tree_grammar.specs.Targets.{all_bare}
use Rattle.swc_base_rename_substitution.specs.declared.config.Config.{Config}
use Rattle.swc_base_mangle.specs.Mangled.{IsMangled}
use Rattle.swc_ecma_transforms_base_laws.specs.Headline.{KeepsItsForm, KeepsItsSource}
use Rattle.swc_ecma_transforms_base_laws.specs.Sources.{IsSource}

-- the form of a source stays, and the fixer has no target to refuse
abbrev pub MangledSourcesKeepForms : Type 0
MangledSourcesKeepForms = (config : Config) (keeps_top : Bool) (place : Places) (goal : Slot) (unresolved top : ℕ) (old new : Table) (source resolved middle : Node) → IsTrue (is_goal goal) → Fits source goal
    → IsSource config source → Resolved unresolved top old new source resolved → IsMangled new config keeps_top resolved middle
    → KeepsItsForm source (fixed place middle) × (all_bare middle ≡ true)

-- ... and what is promised of a source that is a module or a plain script, where the table has the mark of free names, and mangling went by the
-- mark of the program
abbrev pub MangledSourcesAreKept : Type 0
MangledSourcesAreKept = (config : Config) (keeps_top : Bool) (place : Places) (goal : Slot) (unresolved : ℕ) (old new : Table) (source resolved middle : Node) → IsTrue (is_goal goal) → Fits source goal
    → IsSource config source → IsPlainIfScript source → Contains (numbers old) unresolved → Resolved unresolved config.top_level_mark old new source resolved → IsMangled new config keeps_top resolved middle
    → KeepsItsSource unresolved config.top_level_mark old new source (fixed place middle)
