-- What bringing helpers into a program keeps, by the definitions alone.
use Rattle.std.specs.Prelude.{Bool, true, ◌≡◌, ◌≢◌, ◌↔◌, ℕ, IsTrue, Some, List, [], ◌∷◌, Contains, map, slice_get}
use Rattle.swc_tree_marks.specs.declared.ident.Ident.{Ident}
use Rattle.swc_tree_marks.specs.Globals.{Table, numbers}
use Rattle.swc_tree_node.specs.declared.kind.Kind.{Kind}
use Rattle.swc_tree_node.specs.declared.kind.Kind.TheVariants as kind
use Rattle.swc_tree_node.specs.declared.kind.Class.TheVariants as class
use Rattle.swc_tree_node.specs.declared.slot.Content.TheVariants as content
use Rattle.swc_tree_node.specs.declared.slot.Slot.{Slot}
use Rattle.swc_tree_node.specs.declared.slot.Slot.TheVariants as slot
use Rattle.swc_tree_node.specs.declared.node.Node.{Node, Identifier}
use Rattle.swc_tree_node.specs.Fits.{Fits}
use Rattle.swc_tree_scoping.specs.declared.places.Place.{Place}
use Rattle.swc_tree_scoping.specs.Places.{Path, has_use_strict, place_at, program_place}
use Rattle.swc_tree_scoping.specs.Scopes.{is_name, is_reference}
use Rattle.swc_tree_scoping.specs.Declares.{Declares}
use Rattle.swc_tree_scoping.specs.Readings.{by_ids, id_name}
use Rattle.swc_tree_scoping.specs.WellScoped.{IsClean, IsDeclared, NoEarlyErrorOfNames, WellScoped}
use Rattle.swc_tree_renaming.specs.Apart.{IsPlainScript, NameAt}
use Rattle.swc_tree_spaces.specs.NoTypes.{ListsAreItems, NoNamespaces, NoTypes}
use Rattle.swc_base_tables_injection.specs.Alone.{IsInjected, ResolvedAlone, all_bodies, alone, is_strict_program}
use Rattle.swc_base_tables_injection.specs.Bodies.{put_in}
use Rattle.swc_base_tables_injection.specs.Brought.{import_of, local_name, require_of}
use Rattle.swc_base_tables_injection.specs.Members.{with_members}

-- a program of the goal that helpers may be brought into, where what is brought in declares the names that are offered
pub record IsInjectableAs (goal : Slot) (helper global : ℕ) (offered : List ℕ → Type 0) (t : Node) : Type 0 where
  pub fitting : Fits t goal
  pub well_scoped : WellScoped t
  -- outside of the helper mark's context, just what nothing declares has the global mark alone
  pub undeclared : (p : Path) (i : Ident) → NameAt t p i → i.ctxt ≢ helper ∷ [] → ¬ IsDeclared (by_ids t) (id_name i) ↔ (i.ctxt ≡ global ∷ [])
  -- what has the helper mark's context refers to a helper that is brought in
  pub helpers : (p : Path) (w : Place) (k : Kind) (i : Ident) → place_at program_place t p ≡ Some (w, Identifier k i) → IsTrue (is_name w.standing) → i.ctxt ≡ helper ∷ []
      → IsTrue (is_reference w.standing) × offered i.sym

-- a module, and a script, that helpers may be brought into
abbrev pub IsInjectable : ℕ → ℕ → (List ℕ → Type 0) → Node → Type 0
IsInjectable helper global offered t = IsInjectableAs (slot.One (content.Node class.Module)) helper global offered t

abbrev pub IsInjectableScript : ℕ → ℕ → (List ℕ → Type 0) → Node → Type 0
IsInjectableScript helper global offered t = IsInjectableAs (slot.One (content.Node class.Script)) helper global offered t

-- no name stands twice in the list
abbrev pub EachOnce : List (List ℕ) → Type 0
EachOnce names = (i j : ℕ) (name : List ℕ) → slice_get names i ≡ Some name → slice_get names j ≡ Some name → i ≡ j

-- helpers taken from outside: a module with an import for each of them is as well-scoped as it was
abbrev pub ImportsKeepWellScoped : Type 0
ImportsKeepWellScoped = (helper global : ℕ) (names : List (List ℕ)) (t : Node) → EachOnce names → IsInjectable helper global (Contains (map local_name names)) t
    → WellScoped (put_in (map (import_of helper) names) t)

-- a script without namespaces is as well-scoped with a `require` for each of them, and with a member in place of each reference to one
abbrev pub RequiresKeepWellScoped : Type 0
RequiresKeepWellScoped = (helper global : ℕ) (names : List (List ℕ)) (t : Node) → NoNamespaces t → IsInjectableScript helper global (Contains (map local_name names)) t
    → WellScoped (put_in (map (require_of helper global) names) (with_members helper t))

-- the table knows the marks of the contexts that names have
abbrev pub KnowsContexts : Table → Node → Type 0
KnowsContexts table t = (p : Path) (i : Ident) (mark : ℕ) → NameAt t p i → Contains i.ctxt mark → Contains (numbers table) mark

-- the bodies of helpers as one list, in a module of their own
abbrev pub bodies_alone : List (List Node) → Node
bodies_alone bodies = alone kind.Module true (all_bodies bodies)

-- bodies of helpers that may be written into a module: no node of types stands in them, and no export list deeper than an item
pub record AreBodies (bodies : List (List Node)) : Type 0 where
  pub no_types : NoTypes (bodies_alone bodies)
  pub fitting : Fits (bodies_alone bodies) (slot.One (content.Node class.Module))
  pub lists : ListsAreItems (bodies_alone bodies)
  pub clean : IsClean (bodies_alone bodies)
  pub fair : NoEarlyErrorOfNames (bodies_alone bodies)

-- helpers written out: a module with their bodies, resolved, is as well-scoped as it was. The table knows the marks that are
-- about, so that no scope of a body gets one of them
abbrev pub BodiesKeepWellScoped : Type 0
BodiesKeepWellScoped = (helper global : ℕ) (old new : Table) (bodies : List (List Node)) (t answer : Node) → AreBodies bodies → Contains (numbers old) global → KnowsContexts old t
    → IsInjectable helper global (Declares (bodies_alone bodies) []) t → IsInjected (ResolvedAlone helper global old new kind.Module true) bodies t answer → WellScoped answer

-- the same in a script, strict code or not
abbrev pub bodies_in_script : Bool → List (List Node) → Node
bodies_in_script strict bodies = alone kind.Script strict (all_bodies bodies)

-- bodies that may be written into a script of that strictness: there they are a plain script, and if they begin with `use strict`, it is
-- strict code without them
pub record AreBodiesOfScript (strict : Bool) (bodies : List (List Node)) : Type 0 where
  pub no_types : NoTypes (bodies_in_script strict bodies)
  pub fitting : Fits (bodies_in_script strict bodies) (slot.One (content.Node class.Script))
  pub plain : IsPlainScript (bodies_in_script strict bodies)
  pub clean : IsClean (bodies_in_script strict bodies)
  pub fair : NoEarlyErrorOfNames (bodies_in_script strict bodies)
  pub strictness : IsTrue (has_use_strict (all_bodies bodies)) → IsTrue strict

-- a script with such bodies, resolved, is as well-scoped as it was
abbrev pub BodiesKeepScriptWellScoped : Type 0
BodiesKeepScriptWellScoped = (helper global : ℕ) (old new : Table) (bodies : List (List Node)) (t answer : Node) → AreBodiesOfScript (is_strict_program t) bodies → Contains (numbers old) global → KnowsContexts old t
    → IsInjectableScript helper global (Declares (bodies_in_script (is_strict_program t) bodies) []) t → IsInjected (ResolvedAlone helper global old new kind.Script (is_strict_program t)) bodies t answer → WellScoped answer
