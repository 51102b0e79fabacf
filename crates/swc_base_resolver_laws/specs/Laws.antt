-- What resolving gives, by the definitions alone.
use Rattle.std.specs.Prelude.{ℕ, IsTrue, Contains}
use Rattle.swc_tree_marks.specs.Globals.{Table, numbers}
use Rattle.swc_tree_node.specs.declared.slot.Slot.{Slot}
use Rattle.swc_tree_node.specs.declared.node.Node.{Node}
use Rattle.swc_tree_node.specs.Fits.{Fits}
use Rattle.swc_tree_scoping.specs.Resolved.{Resolved}
use Rattle.swc_tree_scoping.specs.WellScoped.{IsClean, NoEarlyErrorOfNames, WellScoped}
use Rattle.swc_tree_renaming.specs.Apart.{IsPlainIfScript, MeanTheirIds, is_goal}
use Rattle.swc_tree_spaces.specs.NoTypes.{ListsAreItems, NoNamespaces}

-- a module, or a script of which what is asked of scripts is asked, each node in which stands where the table has it, with no context
-- in it and no early error of names: however it is resolved, it becomes well-scoped, where each of its export lists is an item of
-- it. The unresolved mark stands in the table, or a scope might get it; it may be the top mark.
abbrev pub CleanProgramsBecomeWellScoped : Type 0
CleanProgramsBecomeWellScoped = (goal : Slot) (t u : Node) (unresolved top : ℕ) (old new : Table) → IsTrue (is_goal goal) → Fits t goal → IsPlainIfScript t → ListsAreItems t → IsClean t → NoEarlyErrorOfNames t
    → Contains (numbers old) unresolved → Resolved unresolved top old new t u → WellScoped u

-- and two names of it have one text and one scope, or one text and no scope, exactly if they get one id
abbrev pub ResolvedNamesMeanTheirIds : Type 0
ResolvedNamesMeanTheirIds = (goal : Slot) (t u : Node) (unresolved top : ℕ) (old new : Table) → IsTrue (is_goal goal) → Fits t goal → IsPlainIfScript t → IsClean t → NoEarlyErrorOfNames t
    → Contains (numbers old) unresolved → Resolved unresolved top old new t u → MeanTheirIds t u

-- what is asked of a script beyond what is asked of a module stays
abbrev pub ResolvedScriptsArePlain : Type 0
ResolvedScriptsArePlain = (t u : Node) (unresolved top : ℕ) (old new : Table) → IsClean t → Resolved unresolved top old new t u → IsPlainIfScript t → IsPlainIfScript u

-- where no namespace stands, each export list is an item of the program
abbrev pub ListsAreItemsWithoutNamespaces : Type 0
ListsAreItemsWithoutNamespaces = (goal : Slot) (t : Node) → IsTrue (is_goal goal) → Fits t goal → NoNamespaces t → ListsAreItems t
