-- A free `process` under another text.
use Rattle.std.specs.Prelude.{◌≡◌, ℕ, ◌⊎◌, false, List, [], ◌∷◌, Option, Some, None, option_map, codes, if◌then◌else◌}
use Rattle.swc_tree_marks.specs.declared.error.PassError.{PassError}
use Rattle.swc_tree_marks.specs.declared.error.PassError.TheVariants as error
use Rattle.swc_tree_marks.specs.Globals.{Table}
use Rattle.swc_tree_node.specs.declared.node.Node.{Node}
use Rattle.swc_tree_spaces.specs.Spaces.{ResolvedBy}
use Rattle.swc_base_resolver_program.specs.Marked.{MarksOk}
use Rattle.swc_base_rename_substitution.specs.Names.{Id, if_other_text, same_id}
use Rattle.swc_base_rename_substitution.specs.Substituted.{Substituted}
use Rattle.example_passes.specs.declared.pass.RenamesProcess.{RenamesProcess}

-- the id of a free `process`: that text with the mark of names that nothing declares
abbrev pub free_process : ℕ → Id
free_process unresolved = (codes "process", unresolved ∷ [])

-- that id gets the text, without a context, and every other id stays
abbrev pub new_id_of : ℕ → List ℕ → Id → Option Id
new_id_of unresolved text x = if_other_text x (option_map (λ text. (text, [])) (if same_id (free_process unresolved) x then Some text else None))

-- the program is resolved, and then each free `process` has the text, and no other name changes
pub record HasOtherProcess (pass : RenamesProcess) (old new : Table) (before after : Node) : Type 0 where
  pub between : Node
  pub resolved : ResolvedBy pass.unresolved pass.top old new before between
  pub renamed : Substituted (new_id_of pass.unresolved pass.text) false between after

-- so it is where the two marks are known; the pass stays as it is
abbrev pub Renames : RenamesProcess → Table → Node → RenamesProcess → Table → Node → Type 0
Renames pass old before kept new after = (kept ≡ pass) × (MarksOk old pass.unresolved pass.top → HasOtherProcess pass old new before after)

-- memory was refused, or there were no marks left; the pass stays as it is
abbrev pub Declines : RenamesProcess → Table → Node → RenamesProcess → Table → PassError → Type 0
Declines pass old before kept new e = (kept ≡ pass) × ((e ≡ error.NoMemory) ⊎ (e ≡ error.MarksSpent))
