-- What a program is once it has its helpers.
use Rattle.std.specs.Prelude.{◌≡◌, ℕ, ◌+◌, ◌<◌, ◌≤◌, Some, None, true, false}
use Rattle.swc_tree_marks.specs.declared.error.PassError.{PassError}
use Rattle.swc_tree_marks.specs.declared.error.PassError.TheVariants as error
use Rattle.swc_tree_marks.specs.Globals.{Table, greatest, with_fresh_marks}
use Rattle.swc_tree_node.specs.declared.kind.Kind.{Kind}
use Rattle.swc_tree_node.specs.declared.node.Node.{Node}
use Rattle.swc_base_resolver_program.specs.Marked.{IsRefusal, MarksOk}
use Rattle.swc_base_tables_helpers.specs.Chosen.{Chosen}
use Rattle.swc_base_tables_injection.specs.Alone.{IsInjected, MarkedAlone, ResolvedAlone, is_strict_program}
use Rattle.swc_base_tables_injection.specs.Bodies.{program_kind}
use Rattle.swc_base_tables_injection.specs.Injected.{IsBroughtInto}
use Rattle.swc_base_tables_program.specs.Given.{bodies_in, names_in, scopes_given}
use Rattle.swc_base_tables_program.specs.declared.bodies.Bodies.{Bodies}
use Rattle.swc_base_tables.specs.declared.inject.InjectHelpers.{InjectHelpers}

-- the program has its helpers: from a package each is brought in; written out, their bodies are put in, and where the
-- table has the two marks they are resolved; the table has a fresh mark more for each scope of the bodies
pub record GetsHelpers (global : ℕ) (helpers : Chosen) (bodies : Bodies) (old new : Table) (before after : Node) : Type 0 where
  pub outside : helpers.external ≡ true → IsBroughtInto helpers.mark global (names_in helpers.enabled) before after
  pub inside : helpers.external ≡ false → (k : Kind) → program_kind before ≡ Some k → MarksOk old global helpers.mark
      → IsInjected (ResolvedAlone helpers.mark global old new k (is_strict_program before)) (bodies_in bodies helpers.enabled) before after
  pub contexts : helpers.external ≡ false → (k : Kind) → program_kind before ≡ Some k
      → IsInjected (MarkedAlone k (is_strict_program before)) (bodies_in bodies helpers.enabled) before after
  pub table : new ≡ with_fresh_marks old helpers.mark (scopes_given helpers bodies before)

-- the program is refused its helpers for want of memory; or for want of marks, where the table has no room for one to
-- each scope of the bodies; the table has no more than the first of those marks more
pub record IsRefusedHelpers (helpers : Chosen) (bodies : Bodies) (old new : Table) (before : Node) (e : PassError) : Type 0 where
  pub refusal : IsRefusal e
  pub spent : e ≡ error.MarksSpent → 4294967295 < greatest old + scopes_given helpers bodies before
  pub table : (fresh : ℕ) × (fresh ≤ scopes_given helpers bodies before) × (new ≡ with_fresh_marks old helpers.mark fresh)

-- the pass without its bodies, as each call leaves it
abbrev pub used_up : InjectHelpers → InjectHelpers
used_up pass = record { global = pass.global; helpers = pass.helpers; bodies = None }

-- as long as the pass has its bodies, the program gets its helpers; then programs and the table stay
pub record InjectsNode (pass : InjectHelpers) (old : Table) (before : Node) (kept : InjectHelpers) (new : Table) (after : Node) : Type 0 where
  pub first : (bodies : Bodies) → pass.bodies ≡ Some bodies → GetsHelpers pass.global pass.helpers bodies old new before after
  pub later : pass.bodies ≡ None → (after ≡ before) × (new ≡ old)
  pub used : kept ≡ used_up pass

-- only a pass that has its bodies is refused
pub record RefusesNode (pass : InjectHelpers) (old : Table) (before : Node) (kept : InjectHelpers) (new : Table) (e : PassError) : Type 0 where
  pub first : (bodies : Bodies) × (pass.bodies ≡ Some bodies) × IsRefusedHelpers pass.helpers bodies old new before e
  pub used : kept ≡ used_up pass
