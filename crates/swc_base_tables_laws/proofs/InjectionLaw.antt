-- A program stays well-scoped once its helpers are brought in, from a package or written out.
use Rattle.std.proofs.Common.{◌≡◌, ℕ, Bool, true, false, Some, List, [], ◌∷◌, Contains, map, refl, sym, ap, ◌∙◌, subst}
use Rattle.swc_tree_marks.specs.Globals.{Table, numbers}
use Rattle.swc_tree_node.specs.declared.kind.Kind.TheVariants as kind
use Rattle.swc_tree_node.specs.declared.node.Node.{Node}
use Rattle.swc_tree_scoping.specs.WellScoped.{WellScoped}
use Rattle.swc_tree_spaces.specs.NoTypes.{NoNamespaces}
use Rattle.swc_base_tables_helpers.specs.Chosen.{Chosen}
use Rattle.swc_base_tables_injection.specs.Alone.{IsInjected, ResolvedAlone, is_strict_program}
use Rattle.swc_base_tables_injection.specs.Bodies.{put_in}
use Rattle.swc_base_tables_injection.specs.Brought.{require_of}
use Rattle.swc_base_tables_injection.specs.Injected.{brought_into}
use Rattle.swc_base_tables_injection.specs.Members.{with_members}
use Rattle.swc_base_tables_program.specs.declared.bodies.Bodies.{Bodies}
use Rattle.swc_base_tables_program.specs.Given.{bodies_in, names_in}
use Rattle.swc_base_tables_laws.specs.Laws.{AreBodies, AreBodiesOfScript, IsInjectable, IsInjectableScript, KnowsContexts}
use Rattle.swc_base_tables_laws.specs.Injection.{HasHelpers, HasHelpersAs, InjectionKeepsScriptWellScoped, InjectionKeepsWellScoped, names_from, names_from_in_script}
use Rattle.swc_base_tables_laws.proofs.BodiesLaw.{bodies_keep_script_well_scoped, bodies_keep_well_scoped}
use Rattle.swc_base_tables_laws.proofs.ImportsLaw.{imports_keep_well_scoped}
use Rattle.swc_base_tables_laws.proofs.Once.{names_once}
use Rattle.swc_base_tables_laws.proofs.Parts.{kind_is, parts_of, script_parts, strict_is}
use Rattle.swc_base_tables_laws.proofs.RequiresLaw.{requires_keep_well_scoped}

module _ (helpers : Chosen) (bodies : Bodies) (global : ℕ) (old new : Table) (t answer : Node) (are : helpers.external ≡ false → AreBodies (bodies_in bodies helpers.enabled)) (known : helpers.external ≡ false → Contains (numbers old) global)
    (knows : helpers.external ≡ false → KnowsContexts old t) (done : HasHelpers helpers bodies global old new t answer) where
  by_form : (b : Bool) → helpers.external ≡ b → IsInjectable helpers.mark global (names_from b helpers bodies) t → WellScoped answer
  by_form true e h =
      let is = done.outside e ∙ ap (brought_into helpers.mark global (names_in helpers.enabled) t) (kind_is kind.Module refl t (parts_of t h.fitting)) in
      subst WellScoped (sym is) (imports_keep_well_scoped helpers.mark global (names_in helpers.enabled) t (names_once helpers.enabled) h)
  by_form false e h =
      let inside = subst (λ strict. IsInjected (ResolvedAlone helpers.mark global old new kind.Module strict) (bodies_in bodies helpers.enabled) t answer) (strict_is kind.Module refl t (parts_of t h.fitting)) (done.inside e) in
      bodies_keep_well_scoped helpers.mark global old new (bodies_in bodies helpers.enabled) t answer (are e) (known e) (knows e) h inside

pub injection_keeps_well_scoped : InjectionKeepsWellScoped
injection_keeps_well_scoped helpers bodies global old new t answer are known knows h done = by_form helpers bodies global old new t answer are known knows done helpers.external refl h

-- a script that requires no helper stays
required : (helper global : ℕ) (names : List (List ℕ)) (t : Node) → WellScoped t → WellScoped (put_in (map (require_of helper global) names) (with_members helper t)) → WellScoped (brought_into helper global names t (Some kind.Script))
required helper global [] t h g = h
required helper global (n ∷ names) t h g = g

module _ (helpers : Chosen) (bodies : Bodies) (global : ℕ) (old new : Table) (t answer : Node) (none : NoNamespaces t) (are : helpers.external ≡ false → AreBodiesOfScript (is_strict_program t) (bodies_in bodies helpers.enabled))
    (known : helpers.external ≡ false → Contains (numbers old) global) (knows : helpers.external ≡ false → KnowsContexts old t) (done : HasHelpersAs kind.Script helpers bodies global old new t answer) where
  in_script : (b : Bool) → helpers.external ≡ b → IsInjectableScript helpers.mark global (names_from_in_script b (is_strict_program t) helpers bodies) t → WellScoped answer
  in_script true e h =
      let is = done.outside e ∙ ap (brought_into helpers.mark global (names_in helpers.enabled) t) (kind_is kind.Script refl t (script_parts t h.fitting)) in
      subst WellScoped (sym is) (required helpers.mark global (names_in helpers.enabled) t h.well_scoped (requires_keep_well_scoped helpers.mark global (names_in helpers.enabled) t none h))
  in_script false e h = bodies_keep_script_well_scoped helpers.mark global old new (bodies_in bodies helpers.enabled) t answer (are e) (known e) (knows e) h (done.inside e)

pub injection_keeps_script_well_scoped : InjectionKeepsScriptWellScoped
injection_keeps_script_well_scoped helpers bodies global old new t answer none are known knows h done = in_script helpers bodies global old new t answer none are known knows done helpers.external refl h
