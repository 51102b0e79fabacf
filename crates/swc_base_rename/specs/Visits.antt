-- What the pass makes of a program.
use Rattle.std.specs.Prelude.{◌≡◌}
use Rattle.swc_tree_marks.specs.declared.error.PassError.{PassError}
use Rattle.swc_tree_marks.specs.declared.error.PassError.TheVariants as error
use Rattle.swc_tree_marks.specs.Globals.{Table}
use Rattle.swc_tree_node.specs.declared.node.Node.{Node}
use Rattle.swc_base_rename_substitution.specs.Names.{new_id}
use Rattle.swc_base_rename_substitution.specs.Substituted.{Substituted}
use Rattle.swc_base_rename.specs.declared.pass.RenameWith.{RenameWith}

-- the names are given anew as the pass's map says; the pass and the table of marks are as they were
pub record RenamesNode (pass : RenameWith) (old : Table) (before : Node) (kept : RenameWith) (new : Table) (after : Node) : Type 0 where
  pub renamed : Substituted (new_id pass.names) pass.config.keep_class_names before after
  pub same : kept ≡ pass
  pub marks : new ≡ old

-- a program is refused for want of memory alone; the pass and the table of marks are as they were
pub record RefusesNode (pass : RenameWith) (old : Table) (kept : RenameWith) (new : Table) (e : PassError) : Type 0 where
  pub refusal : e ≡ error.NoMemory
  pub same : kept ≡ pass
  pub marks : new ≡ old
