-- What bringing in the helpers that a program was given keeps, whether from a package or written out.
use Rattle.std.specs.Prelude.{◌≡◌, ℕ, Bool, true, false, List, [], Contains, map}
use Rattle.swc_tree_marks.specs.Globals.{Table, numbers}
use Rattle.swc_tree_node.specs.declared.kind.Kind.{Kind}
use Rattle.swc_tree_node.specs.declared.kind.Kind.TheVariants as kind
use Rattle.swc_tree_node.specs.declared.node.Node.{Node}
use Rattle.swc_tree_scoping.specs.Declares.{Declares}
use Rattle.swc_tree_scoping.specs.WellScoped.{WellScoped}
use Rattle.swc_tree_spaces.specs.NoTypes.{NoNamespaces}
use Rattle.swc_base_tables_helpers.specs.Chosen.{Chosen}
use Rattle.swc_base_tables_injection.specs.Alone.{IsInjected, ResolvedAlone, is_strict_program}
use Rattle.swc_base_tables_injection.specs.Brought.{local_name}
use Rattle.swc_base_tables_injection.specs.Injected.{IsBroughtInto}
use Rattle.swc_base_tables_program.specs.declared.bodies.Bodies.{Bodies}
use Rattle.swc_base_tables_program.specs.Given.{bodies_in, names_in}
use Rattle.swc_base_tables_laws.specs.Laws.{AreBodies, AreBodiesOfScript, IsInjectable, IsInjectableScript, KnowsContexts, bodies_alone, bodies_in_script}

-- the names that are declared by what is brought in: those of the imports, or what the bodies declare at their top
abbrev pub names_from : Bool → Chosen → Bodies → List ℕ → Type 0
names_from true helpers bodies = Contains (map local_name (names_in helpers.enabled))
names_from false helpers bodies = Declares (bodies_alone (bodies_in bodies helpers.enabled)) []

abbrev pub offered_by : Chosen → Bodies → List ℕ → Type 0
offered_by helpers bodies = names_from helpers.external helpers bodies

-- the same where they are brought into a script, strict code or not: there they come by `require`
abbrev pub names_from_in_script : Bool → Bool → Chosen → Bodies → List ℕ → Type 0
names_from_in_script true strict helpers bodies = Contains (map local_name (names_in helpers.enabled))
names_from_in_script false strict helpers bodies = Declares (bodies_in_script strict (bodies_in bodies helpers.enabled)) []

abbrev pub offered_to : Node → Chosen → Bodies → List ℕ → Type 0
offered_to t helpers bodies = names_from_in_script helpers.external (is_strict_program t) helpers bodies

-- what `inject_helpers` answers for a program of that kind
pub record HasHelpersAs (goal : Kind) (helpers : Chosen) (bodies : Bodies) (global : ℕ) (old new : Table) (program answer : Node) : Type 0 where
  pub outside : helpers.external ≡ true → IsBroughtInto helpers.mark global (names_in helpers.enabled) program answer
  pub inside : helpers.external ≡ false → IsInjected (ResolvedAlone helpers.mark global old new goal (is_strict_program program)) (bodies_in bodies helpers.enabled) program answer

abbrev pub HasHelpers : Chosen → Bodies → ℕ → Table → Table → Node → Node → Type 0
HasHelpers helpers bodies global old new program answer = HasHelpersAs kind.Module helpers bodies global old new program answer

-- a well-scoped module stays so once its helpers are brought in; the table is asked for its marks only where bodies are written out
abbrev pub InjectionKeepsWellScoped : Type 0
InjectionKeepsWellScoped = (helpers : Chosen) (bodies : Bodies) (global : ℕ) (old new : Table) (t answer : Node) → (helpers.external ≡ false → AreBodies (bodies_in bodies helpers.enabled)) → (helpers.external ≡ false → Contains (numbers old) global)
    → (helpers.external ≡ false → KnowsContexts old t) → IsInjectable helpers.mark global (offered_by helpers bodies) t → HasHelpers helpers bodies global old new t answer → WellScoped answer

-- a well-scoped script without namespaces stays so
abbrev pub InjectionKeepsScriptWellScoped : Type 0
InjectionKeepsScriptWellScoped = (helpers : Chosen) (bodies : Bodies) (global : ℕ) (old new : Table) (t answer : Node) → NoNamespaces t → (helpers.external ≡ false → AreBodiesOfScript (is_strict_program t) (bodies_in bodies helpers.enabled))
    → (helpers.external ≡ false → Contains (numbers old) global) → (helpers.external ≡ false → KnowsContexts old t) → IsInjectableScript helpers.mark global (offered_to t helpers bodies) t
    → HasHelpersAs kind.Script helpers bodies global old new t answer → WellScoped answer
