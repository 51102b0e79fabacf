-- What a program keeps that gets its helpers.
use Rattle.std.specs.Prelude.{◌≡◌, ℕ, Some, false}
use Rattle.swc_tree_marks.specs.Globals.{Table}
use Rattle.swc_tree_node.specs.declared.node.Node.{Node}
use Rattle.swc_tree_scoping.specs.WellScoped.{WellScoped}
use Rattle.swc_base_resolver_program.specs.Marked.{MarksOk}
use Rattle.swc_base_tables_helpers.specs.Chosen.{Chosen}
use Rattle.swc_base_tables_injection.specs.Alone.{is_strict_program}
use Rattle.swc_base_tables_program.specs.Given.{bodies_in}
use Rattle.swc_base_tables_program.specs.declared.bodies.Bodies.{Bodies}
use Rattle.swc_base_tables_laws.specs.Injection.{offered_by, offered_to}
use Rattle.swc_base_tables_laws.specs.Laws.{AreBodies, AreBodiesOfScript, IsInjectable, IsInjectableScript, KnowsContexts}
use Rattle.swc_base_tables.specs.declared.inject.InjectHelpers.{InjectHelpers}

-- a module that the helpers may be brought into; where they are written out, their bodies are such as a parser gives, without early
-- errors of names, and the table has the marks that are about
pub record IsFitFor (global : ℕ) (helpers : Chosen) (bodies : Bodies) (old : Table) (t : Node) : Type 0 where
  pub injectable : IsInjectable helpers.mark global (offered_by helpers bodies) t
  pub written : helpers.external ≡ false → AreBodies (bodies_in bodies helpers.enabled)
  pub marks : helpers.external ≡ false → MarksOk old global helpers.mark
  pub contexts : helpers.external ≡ false → KnowsContexts old t

-- as long as the pass has its bodies, such a module becomes well-scoped again
abbrev pub KeepsWellScoped : InjectHelpers → Table → Node → Node → Type 0
KeepsWellScoped pass old before after = (bodies : Bodies) → pass.bodies ≡ Some bodies → IsFitFor pass.global pass.helpers bodies old before → WellScoped after

-- a script that they may be brought into; where they are written out, their bodies are a plain script of its strictness, which they
-- don't make strict
pub record IsFitForInScript (global : ℕ) (helpers : Chosen) (bodies : Bodies) (old : Table) (t : Node) : Type 0 where
  pub injectable : IsInjectableScript helpers.mark global (offered_to t helpers bodies) t
  pub written : helpers.external ≡ false → AreBodiesOfScript (is_strict_program t) (bodies_in bodies helpers.enabled)
  pub marks : helpers.external ≡ false → MarksOk old global helpers.mark
  pub contexts : helpers.external ≡ false → KnowsContexts old t

-- such a script becomes well-scoped again, too
abbrev pub KeepsScriptWellScoped : InjectHelpers → Table → Node → Node → Type 0
KeepsScriptWellScoped pass old before after = (bodies : Bodies) → pass.bodies ≡ Some bodies → IsFitForInScript pass.global pass.helpers bodies old before → WellScoped after
