-- A program that gets its helpers stays well-scoped, by the law on what is brought in.
use Rattle.std.proofs.Common.{◌≡◌, ℕ, Bool, true, false, ◌||◌, refl}
use Rattle.swc_tree_marks.specs.Globals.{Table}
use Rattle.swc_tree_node.specs.declared.kind.Kind.TheVariants as kind
use Rattle.swc_tree_node.specs.declared.node.Node.{Node}
use Rattle.swc_tree_scoping.specs.WellScoped.{WellScoped}
use Rattle.swc_tree_spaces.specs.NoTypes.{NoNamespaces, NoTypes}
use Rattle.swc_tree_spaces.specs.Spaces.{has_types}
use Rattle.swc_tree_spaces_laws.specs.Laws.{TypesAreTold}
use Rattle.swc_base_tables_helpers.specs.Chosen.{Chosen}
use Rattle.swc_base_tables_program.specs.declared.bodies.Bodies.{Bodies}
use Rattle.swc_base_tables_laws.specs.Injection.{HasHelpers, HasHelpersAs, InjectionKeepsScriptWellScoped, InjectionKeepsWellScoped}
use Rattle.swc_base_tables_laws.proofs.Parts.{kind_is, parts_of, script_parts}
use Rattle.swc_base_tables.specs.Kept.{IsFitFor, IsFitForInScript}
use Rattle.swc_base_tables.specs.Visits.{GetsHelpers}

pub stays_well_scoped : InjectionKeepsWellScoped → (global : ℕ) (helpers : Chosen) (bodies : Bodies) (old new : Table) (before after : Node) → GetsHelpers global helpers bodies old new before after
    → IsFitFor global helpers bodies old before → WellScoped after
stays_well_scoped law global helpers bodies old new before after gets fit =
    let has : HasHelpers helpers bodies global old new before after = record {
      outside = gets.outside;
      inside = λ e. gets.inside e kind.Module (kind_is kind.Module refl before (parts_of before fit.injectable.fitting)) (fit.marks e);
    } in
    law helpers bodies global old new before after fit.written (λ e. (fit.marks e).0.1) fit.contexts fit.injectable has

no_namespaces : (t : Node) → NoTypes t → NoNamespaces t
no_namespaces t none p w ts h = let z : true ≡ false = none p w kind.TsModuleDecl ts h in absurd (cc)

-- neither is there where one of the two is
pub first_false : (a b : Bool) → (a || b) ≡ false → a ≡ false
first_false true b h = h
first_false false b h = refl

pub script_stays_well_scoped : InjectionKeepsScriptWellScoped → TypesAreTold → (global : ℕ) (helpers : Chosen) (bodies : Bodies) (old new : Table) (before after : Node) → has_types before ≡ false
    → GetsHelpers global helpers bodies old new before after → IsFitForInScript global helpers bodies old before → WellScoped after
script_stays_well_scoped law told global helpers bodies old new before after untyped gets fit =
    let has : HasHelpersAs kind.Script helpers bodies global old new before after = record {
      outside = gets.outside;
      inside = λ e. gets.inside e kind.Script (kind_is kind.Script refl before (script_parts before fit.injectable.fitting)) (fit.marks e);
    } in
    law helpers bodies global old new before after (no_namespaces before ((told before).0 untyped)) fit.written (λ e. (fit.marks e).0.1) fit.contexts fit.injectable has
