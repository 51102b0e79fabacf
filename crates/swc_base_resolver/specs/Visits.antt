-- What the resolver makes of a program; a pass is seen as its unresolved mark and its top mark.
use Rattle.std.specs.Prelude.{◌≡◌, ℕ, ◌+◌, ◌-◌, ◌<◌, ◌≤◌}
use Rattle.swc_tree_marks.specs.declared.error.PassError.{PassError}
use Rattle.swc_tree_marks.specs.declared.error.PassError.TheVariants as error
use Rattle.swc_tree_marks.specs.Globals.{Table, greatest, with_fresh_marks}
use Rattle.swc_tree_node.specs.declared.kind.Class.TheVariants as class
use Rattle.swc_tree_node.specs.declared.slot.Content.TheVariants as content
use Rattle.swc_tree_node.specs.declared.slot.Slot.TheVariants as slot
use Rattle.swc_tree_node.specs.declared.node.Node.{Node}
use Rattle.swc_tree_node.specs.Fits.{Fits}
use Rattle.swc_tree_scoping.specs.Places.{program_place}
use Rattle.swc_tree_scoping.specs.Resolved.{Resolved}
use Rattle.swc_tree_scoping.specs.Scopes.{scope_count}
use Rattle.swc_tree_scoping.specs.WellScoped.{IsClean, NoEarlyErrorOfNames, WellScoped}
use Rattle.swc_tree_renaming.specs.Apart.{IsPlainScript}
use Rattle.swc_tree_spaces.specs.NoTypes.{NoTypes}
use Rattle.swc_tree_spaces.specs.Spaces.{ResolvedBy}
use Rattle.swc_base_resolver_program.specs.Marked.{IsRefusal, MarksOk, OnlyContexts}

-- each identifier is resolved, over both name spaces, where the table has the two marks; where no node of types stands it is so over
-- values alone, and a module without contexts and early errors of names becomes well-scoped, and so does such a script that is plain;
-- whatever the marks, only contexts change, and those that are not empty stay; the pass is as it was, and the table has a fresh mark
-- more for each scope but the program
pub record ResolvesNode (pass : ℕ × ℕ) (old : Table) (before : Node) (kept : ℕ × ℕ) (new : Table) (after : Node) : Type 0 where
  pub resolved : MarksOk old pass.0 pass.1 → ResolvedBy pass.0 pass.1 old new before after
  pub by_values : NoTypes before → MarksOk old pass.0 pass.1 → Resolved pass.0 pass.1 old new before after
  pub well_scoped : NoTypes before → MarksOk old pass.0 pass.1 → Fits before (slot.One (content.Node class.Module)) → IsClean before → NoEarlyErrorOfNames before → WellScoped after
  pub script_well_scoped : NoTypes before → MarksOk old pass.0 pass.1 → Fits before (slot.One (content.Node class.Script)) → IsPlainScript before → IsClean before → NoEarlyErrorOfNames before → WellScoped after
  pub contexts : OnlyContexts before after
  pub same : kept ≡ pass
  pub table : new ≡ with_fresh_marks old pass.1 (scope_count program_place before - 1)

-- a program is refused for want of memory; or for want of marks, where the table has no room for one to each of its
-- scopes but itself; the pass is as it was, and the table has no more than the first of those marks more
pub record RefusesNode (pass : ℕ × ℕ) (old : Table) (before : Node) (kept : ℕ × ℕ) (new : Table) (e : PassError) : Type 0 where
  pub refusal : IsRefusal e
  pub spent : e ≡ error.MarksSpent → 4294967295 < greatest old + (scope_count program_place before - 1)
  pub same : kept ≡ pass
  pub table : (fresh : ℕ) × (fresh ≤ scope_count program_place before - 1) × (new ≡ with_fresh_marks old pass.1 fresh)
