-- Which trees are well-scoped, and which have no early error of names (ECMA-262, 14.2.1, 14.3.1.1, 14.7.4.1, 14.12.1,
-- 14.15.1, 15.1.1, 15.2.1, 15.3.1, 16.2.1; Annex B.3.2 to B.3.4). All is said of a tree without contexts, and then
-- read by ids or by texts.
use Rattle.std.specs.Prelude.{◌≡◌, ◌≢◌, ℕ, Bool, true, false, ◌⊎◌, IsTrue, Some, List, [], ◌∷◌, ◌++◌, Contains, codes}
use Rattle.swc_tree_node.specs.Lower.swc_tree_marks.specs.declared.ident.Ident.{Ident}
use Rattle.swc_tree_node.specs.declared.kind.Kind.{Kind}
use Rattle.swc_tree_node.specs.declared.kind.Kind.TheVariants as kind
use Rattle.swc_tree_node.specs.declared.slot.Role.TheVariants as role
use Rattle.swc_tree_node.specs.declared.node.Node.{Node, Identifier, Tree, out-Node}
use Rattle.swc_tree_node.specs.declared.node.Node.TheOpen.{Node-F}
use Rattle.swc_tree_scoping.specs.declared.places.Standing.{Standing}
use Rattle.swc_tree_scoping.specs.declared.places.Standing.TheVariants as standing
use Rattle.swc_tree_scoping.specs.declared.places.Place.{Place}
use Rattle.swc_tree_scoping.specs.Places.{Path, field_role, program_place, place_at}
use Rattle.swc_tree_scoping.specs.Scopes.{rounds, taker, is_binding, is_reference}
use Rattle.swc_tree_scoping.specs.Declares.{DeclaredBy, Declares, DeclaresFor, PassesNone, is_lexical}
use Rattle.swc_tree_scoping.specs.Readings.{id_name, by_ids, by_texts}

-- at a path stands an identifier of the name, as a binding, a reference or else
pub record Stands (t : Node) (p : Path) (r : Standing) (name : List ℕ) : Type 0 where
  pub place : Place
  pub kind : Kind
  pub identifier : Ident
  pub stands : place_at program_place t p ≡ Some (place, Identifier kind identifier)
  pub stands_so : place.standing ≡ r
  pub named : identifier.sym ≡ name

-- a binding of the name stands at the path
pub record Binds (t : Node) (p : Path) (r : Standing) (name : List ℕ) : Type 0 where
  pub at : Stands t p r name
  pub binds : IsTrue (is_binding r)

abbrev pub IsDeclared : Node → List ℕ → Type 0
IsDeclared t name = (p : Path) × (r : Standing) × Binds t p r name

-- a scope's region for a name holds the path
abbrev pub InRegion : Node → Path → List ℕ → Path → Type 0
InRegion t s name p = (whole : Bool) × Contains (rounds program_place t p) (s, whole) × DeclaresFor t name (s, whole)

-- all bindings of the name are declared by one scope, and its region for the name holds all its references
pub record OneScope (t : Node) (name : List ℕ) : Type 0 where
  pub scope : Path
  pub bindings : (p : Path) (r : Standing) → Binds t p r name → DeclaredBy t p r name scope
  pub references : (p : Path) (r : Standing) → IsTrue (is_reference r) → Stands t p r name → InRegion t scope name p

abbrev pub EachInOneScope : Node → Type 0
EachInOneScope t = (name : List ℕ) → IsDeclared t name → OneScope t name

-- a path goes through the list of an export declaration: what is exported there
abbrev pub InExportList : Node → Path → Type 0
InExportList t p = (q below : Path) × (i : ℕ) × (w : Place) × (k : Kind) × (ts : List Node)
    × (p ≡ q ++ (i ∷ below)) × (place_at program_place t q ≡ Some (w, Tree k ts)) × (field_role k i ≡ role.ExportLocal)

-- what an export list without a source exports is declared by the program (16.2.3.1)
abbrev pub ExportsDeclared : Node → Type 0
ExportsDeclared t = (p : Path) (name : List ℕ) → InExportList t p → Stands t p standing.Reference name → Declares t [] name

abbrev module_in : Node-F Node → Bool
module_in (Node-F.Tree kind.Module ts) = true
module_in _ = false

abbrev pub is_module : Node → Bool
is_module t = module_in (out-Node t)

-- a declaration is lexical; a function is so at the top of a module (16.2.1.1)
abbrev pub IsLexical : Node → Path → Standing → Type 0
IsLexical t p r = IsTrue (is_lexical r) ⊎ ((r ≡ standing.Function) × IsTrue (is_module t) × (taker standing.Function t p ≡ Some []))

-- plain functions of one sloppy block, catch body or case list (B.3.2.4 and the like)
abbrev pub AreFunctionsOfOneBlock : Node → Path → Standing → Path → Standing → Type 0
AreFunctionsOfOneBlock t p r q u = (r ≡ standing.SloppyFunction) × (u ≡ standing.SloppyFunction)
    × (taker standing.SloppyFunction t p ≡ taker standing.SloppyFunction t q)

-- a scope that declares a name lexically declares it once
abbrev pub NoneTwice : Node → Type 0
NoneTwice t = (name : List ℕ) (s p q : Path) (r u : Standing) → Binds t p r name → Binds t q u name
    → DeclaredBy t p r name s → DeclaredBy t q u name s → IsLexical t p r → (p ≡ q) ⊎ AreFunctionsOfOneBlock t p r q u

-- no `var` passes a scope that declares its name lexically
abbrev pub NoVariablePasses : (Standing → Bool) → Node → Type 0
NoVariablePasses ways t = (p : Path) (name : List ℕ) → Stands t p standing.Variable name → PassesNone ways t name (rounds program_place t p)

abbrev pub is_method : Kind → Bool
is_method kind.ClassMethod = true
is_method kind.PrivateMethod = true
is_method kind.MethodProp = true
is_method _ = false

-- the parameters of an arrow, a constructor or a setter are UniqueFormalParameters; of a method those of its function,
-- which is a field of it
abbrev pub has_unique_parameters : Kind → Bool
has_unique_parameters kind.ArrowExpr = true
has_unique_parameters kind.Constructor = true
has_unique_parameters kind.SetterProp = true
has_unique_parameters _ = false

abbrev pub IsAt : (Kind → Bool) → Node → Path → Type 0
IsAt kinds t p = (w : Place) × (k : Kind) × (ts : List Node) × (place_at program_place t p ≡ Some (w, Tree k ts)) × IsTrue (kinds k)

-- the function at a path is an arrow or a method
abbrev pub IsArrowOrMethod : Node → Path → Type 0
IsArrowOrMethod t f = IsAt has_unique_parameters t f ⊎ ((q : Path) × (i : ℕ) × (f ≡ q ++ (i ∷ [])) × IsAt is_method t q)

-- two parameters of strict code, an arrow or a method have two names (15.1.1, 15.3.1, 15.5.1)
abbrev pub NoParameterTwice : Node → Type 0
NoParameterTwice t = (name : List ℕ) (f p q : Path) (b : Stands t p standing.Parameter name) → Stands t q standing.Parameter name
    → taker standing.Parameter t p ≡ Some f → taker standing.Parameter t q ≡ Some f → IsTrue b.place.strict ⊎ IsArrowOrMethod t f → p ≡ q

-- no name is declared against the rules
pub record NoRedeclaration (t : Node) : Type 0 where
  pub none_twice : NoneTwice t
  pub no_variable_passes : NoVariablePasses is_lexical t
  pub no_parameter_twice : NoParameterTwice t

abbrev pub is_catch_parameter : Standing → Bool
is_catch_parameter standing.CatchParameter = true
is_catch_parameter _ = false

-- no catch parameter is declared again by `var` (B.3.4 allows it)
abbrev pub NoCaughtVariable : Node → Type 0
NoCaughtVariable t = NoVariablePasses is_catch_parameter t

-- neither `eval` nor `arguments` is declared (13.1.1); of all identifiers, by their texts
abbrev pub NoEvalOrArguments : Node → Type 0
NoEvalOrArguments t = ¬ IsDeclared (by_texts t) (codes "eval") × ¬ IsDeclared (by_texts t) (codes "arguments")

-- a reference to an id that nothing declares
pub record IsFree (t : Node) (i : Ident) : Type 0 where
  pub path : Path
  pub place : Place
  pub kind : Kind
  pub stands : place_at program_place t path ≡ Some (place, Identifier kind i)
  pub refers : IsTrue (is_reference place.standing)
  pub undeclared : ¬ IsDeclared (by_ids t) (id_name i)

-- free ids have different texts, and none has the empty context
pub record FreeApart (t : Node) : Type 0 where
  pub apart : (i j : Ident) → IsFree t i → IsFree t j → i.sym ≡ j.sym → i.ctxt ≡ j.ctxt
  pub marked : (i : Ident) → IsFree t i → i.ctxt ≢ []

-- what a pass may rely on that renames: each id has one scope, and ids are told apart
pub record WellScoped (t : Node) : Type 0 where
  pub each_in_one_scope : EachInOneScope (by_ids t)
  pub free_apart : FreeApart t
  pub exports_declared : ExportsDeclared (by_ids t)
  pub no_redeclaration : NoRedeclaration (by_ids t)
  pub no_caught_variable : NoCaughtVariable (by_ids t)
  pub no_eval_or_arguments : NoEvalOrArguments t

-- what a parser asks of names
pub record NoEarlyErrorOfNames (t : Node) : Type 0 where
  pub exports_declared : ExportsDeclared (by_texts t)
  pub no_redeclaration : NoRedeclaration (by_texts t)
  pub no_eval_or_arguments : NoEvalOrArguments t

-- no identifier has a context: what comes from a parser
abbrev pub IsClean : Node → Type 0
IsClean t = (p : Path) (w : Place) (k : Kind) (i : Ident) → place_at program_place t p ≡ Some (w, Identifier k i) → i.ctxt ≡ []
