-- The scopes that a renamer tells apart, which of them declares an id, and where an id occurs. They are coarser than the
-- scopes of the language (ECMA-262, 9.1): parameters and body of a function are one, a `switch` has none, and a function
-- in a block is declared where a `var` there would be.
use Rattle.std.specs.Prelude.{◌≡◌, ◌≢◌, ◌↔◌, ℕ, Bool, true, false, ◌&&◌, ◌⊎◌, IsTrue, Option, Some, None, option_and_then, slice_get, List, [], ◌∷◌, ◌++◌, map, length, Contains, codes, ◌==◌, if◌then◌else◌, is_some}
use Rattle.std.specs.List.{list_any}
use Rattle.swc_tree_node.specs.declared.fields.functions.class_expr.TheConstants as class_expr
use Rattle.swc_tree_node.specs.declared.fields.functions.constructor.TheConstants as constructor
use Rattle.swc_tree_node.specs.declared.fields.functions.fn_expr.TheConstants as fn_expr
use Rattle.swc_tree_node.specs.declared.fields.functions.function.TheConstants as function
use Rattle.swc_tree_node.specs.declared.fields.functions.getter_prop.TheConstants as getter_prop
use Rattle.swc_tree_node.specs.declared.fields.functions.param.TheConstants as param
use Rattle.swc_tree_node.specs.declared.fields.functions.setter_prop.TheConstants as setter_prop
use Rattle.swc_tree_node.specs.declared.fields.statements.fn_decl.TheConstants as fn_decl
use Rattle.swc_tree_node.specs.declared.fields.statements.for_in_stmt.TheConstants as for_in_stmt
use Rattle.swc_tree_node.specs.declared.fields.statements.for_of_stmt.TheConstants as for_of_stmt
use Rattle.swc_tree_node.specs.declared.fields.statements.for_stmt.TheConstants as for_stmt
use Rattle.swc_tree_node.specs.declared.kind.Kind.{Kind}
use Rattle.swc_tree_node.specs.declared.kind.Kind.TheVariants as kind
use Rattle.swc_tree_node.specs.declared.node.Node.{Node, out-Node}
use Rattle.swc_tree_node.specs.declared.node.Node.TheOpen.{Node-F}
use Rattle.swc_tree_node.specs.declared.fields.types.ts_module_decl.TheConstants as ts_module_decl
use Rattle.swc_tree_scoping.specs.declared.places.Standing.{Standing}
use Rattle.swc_tree_scoping.specs.declared.places.Standing.TheVariants as standing
use Rattle.swc_tree_scoping.specs.declared.places.Place.{Place}
use Rattle.swc_tree_scoping.specs.declared.places.Scope.{Scope}
use Rattle.swc_tree_scoping.specs.declared.places.Scope.TheVariants as scope
use Rattle.swc_tree_scoping.specs.Places.{Path, child, given, has_own_name, is_at, items_of, opened_as, place_at, place_below, program_place}
use Rattle.swc_tree_scoping.specs.Scopes.{is_binding, is_name}
use Rattle.swc_tree_scoping.specs.BoundNames.{Id, name_of}
use Rattle.swc_base_rename_analysis.specs.declared.scopes.ScopeKind.{ScopeKind}
use Rattle.swc_base_rename_analysis.specs.declared.scopes.ScopeKind.TheVariants.{Block, Fn}
use Rattle.swc_base_rename_analysis.specs.Ids.{id_at}

-- what a scope of the language is to a renamer
abbrev pub kind_of : Scope → Option ScopeKind
kind_of scope.Program = Some Fn
kind_of scope.Function = Some Fn
kind_of scope.FunctionName = Some Fn
kind_of scope.ClassName = Some Fn
kind_of scope.StaticBlock = Some Fn
kind_of scope.Block = Some Block
kind_of scope.For = Some Block
kind_of scope.Catch = Some Block
kind_of scope.Switch = None
kind_of scope.Types = None
kind_of scope.Namespace = Some Fn

-- the scope that a node opens: a class expression one also without a name, a function declaration none also as a branch
abbrev pub own_kind : Place → Kind → Bool → Option ScopeKind
own_kind w kind.ClassExpr has_name = Some Fn
own_kind w kind.FnDecl has_name = None
own_kind w k has_name = option_and_then kind_of (opened_as w k has_name)

-- the body of a `for` statement is a block, unless it opens a scope itself: in `for (;;) namespace a {}` that of the namespace
-- takes the block's place
abbrev pub body_kind : Bool → Option ScopeKind → Option ScopeKind
body_kind true None = Some Block
body_kind for_body s = s

abbrev pub body_field : Kind → Option ℕ
body_field kind.ForStmt = Some for_stmt.BODY
body_field kind.ForInStmt = Some for_in_stmt.BODY
body_field kind.ForOfStmt = Some for_of_stmt.BODY
body_field _ = None

abbrev pub is_for_body : Node-F Node → ℕ → Bool
is_for_body (Node-F.Tree k ts) i = is_at (body_field k) i
is_for_body _ i = false

-- a key stands outside of the scope that its node opens
abbrev pub key_field : Kind → Option ℕ
key_field kind.Constructor = Some constructor.KEY
key_field kind.GetterProp = Some getter_prop.KEY
key_field kind.SetterProp = Some setter_prop.KEY
key_field kind.TsModuleDecl = Some ts_module_decl.ID
key_field _ = None

abbrev pub is_default_export : Standing → Bool
is_default_export standing.DefaultExport = true
is_default_export _ = false

abbrev pub has_identifier : List Node → Bool
has_identifier ts = is_some (name_of (slice_get ts class_expr.IDENT))

-- and so does the identifier that names a class that is the default export
abbrev pub is_outside : Place → Kind → Bool → ℕ → Bool
is_outside w kind.ClassExpr named i = is_default_export w.standing && (named && i == class_expr.IDENT)
is_outside w k named i = is_at (key_field k) i

-- a scope round a path: the path of the node that opens it, and its kind
abbrev pub Around : Type 0
Around = Path × ScopeKind

abbrev pub opened_here : Option ScopeKind → List Around
opened_here None = []
opened_here (Some s) = ([], s) ∷ []

-- the scope that a node opens, if one of its children stands in it; `for_body` says that the node is the body of a `for`
abbrev pub opened_round : Bool → Place → Node-F Node → ℕ → List Around
opened_round for_body w (Node-F.Tree k ts) i = if is_outside w k (has_identifier ts) i then [] else opened_here (body_kind for_body (own_kind w k (has_own_name ts)))
opened_round for_body w _ i = []

-- the scopes round a path, the innermost first
abbrev pub scopes_below : Bool → Place → Node → Path → List Around
scopes_below for_body w t [] = []
scopes_below for_body w t (i ∷ p) =
    map (λ s. (i ∷ s.0, s.1)) (given (child t i) [] (λ c. scopes_below (is_for_body (out-Node t) i) (place_below w t i) c p)) ++ opened_round for_body w (out-Node t) i

abbrev pub scopes_round : Node → Path → List Around
scopes_round t p = scopes_below false program_place t p

abbrev pub IsRound : Node → Path → Path → Type 0
IsRound t s p = (k : ScopeKind) × Contains (scopes_round t p) (s, k)

-- the first scope is the second or stands round it
abbrev pub IsAtOrAbove : Node → Path → Path → Type 0
IsAtOrAbove t s u = (s ≡ u) ⊎ IsRound t s u

-- a block takes `let`, `const`, `using`, classes and catch parameters; variables, functions, imports and parameters leave
-- it
abbrev pub takes : ScopeKind → Standing → Bool
takes Fn r = true
takes Block standing.Lexical = true
takes Block standing.CatchParameter = true
takes Block r = false

-- the nearest of some scopes that takes what stands so
abbrev pub first_taking : Standing → List Around → Option Path
first_taking r [] = None
first_taking r (s ∷ ss) = if takes s.1 r then Some s.0 else first_taking r ss

-- ids of the text `arguments` are passed over
abbrev pub IsAnalysed : Id → Type 0
IsAnalysed x = x.0 ≢ codes "arguments"

-- the scope declares the id, by the binding at the path
pub record Declares (t : Node) (s p : Path) (x : Id) : Type 0 where
  pub standing : Standing
  pub stands : id_at t p ≡ Some (standing, x)
  pub binds : IsTrue (is_binding standing)
  pub analysed : IsAnalysed x
  pub taken : first_taking standing (scopes_round t p) ≡ Some s

abbrev pub is_rest_or_default : Node-F Node → Bool
is_rest_or_default (Node-F.Tree kind.RestPat ts) = true
is_rest_or_default (Node-F.Tree kind.AssignPat ts) = true
is_rest_or_default _ = false

abbrev pub parameter_is_rest_or_default : Node-F Node → Bool
parameter_is_rest_or_default (Node-F.Tree kind.Param ts) = given (slice_get ts param.PAT) false (λ c. is_rest_or_default (out-Node c))
parameter_is_rest_or_default _ = false

abbrev pub function_has_rest_or_default : Node-F Node → Bool
function_has_rest_or_default (Node-F.Tree kind.Function ts) = list_any (λ c. parameter_is_rest_or_default (out-Node c)) (items_of (slice_get ts function.PARAMS))
function_has_rest_or_default _ = false

-- a function declaration or a function expression of which a parameter is a rest or has a default
abbrev pub uses_own_name : Node-F Node → Bool
uses_own_name (Node-F.Tree kind.FnDecl ts) = given (slice_get ts fn_decl.FUNCTION) false (λ c. function_has_rest_or_default (out-Node c))
uses_own_name (Node-F.Tree kind.FnExpr ts) = given (slice_get ts fn_expr.FUNCTION) false (λ c. function_has_rest_or_default (out-Node c))
uses_own_name _ = false

-- the path is that of the name of such a function, and the scope is the function's: it counts as using its own name
abbrev pub IsOwnName : Node → Path → Path → Type 0
IsOwnName t s p = (q : Path) × (w : Place) × (f : Node) × (p ≡ q ++ (fn_decl.IDENT ∷ [])) × (s ≡ q ++ (fn_decl.FUNCTION ∷ []))
    × (place_at program_place t q ≡ Some (w, f)) × IsTrue (uses_own_name (out-Node f))

-- the id occurs at the scope or below it; so a name that leaves blocks occurs in them too
pub record OccursIn (t : Node) (s : Path) (x : Id) : Type 0 where
  pub path : Path
  pub standing : Standing
  pub stands : id_at t path ≡ Some (standing, x)
  pub names : IsTrue (is_name standing)
  pub analysed : IsAnalysed x
  pub inside : IsRound t s path ⊎ IsOwnName t s path

-- the id is declared at the scope or below it
abbrev pub IsDeclaredWithin : Node → Path → Id → Type 0
IsDeclaredWithin t s x = (u p : Path) × Declares t u p x × IsAtOrAbove t s u

-- no item of a list is one of those before it
abbrev pub EachOnce : {X : Type 0} → List X → Type 0
EachOnce [] = Unit {0}
EachOnce (x ∷ xs) = ¬ Contains xs x × EachOnce xs

-- what it costs to rename a scope: how many ids are declared at it or below it
pub record RenameCost (t : Node) (s : Path) (cost : ℕ) : Type 0 where
  pub ids : List Id
  pub each_once : EachOnce ids
  pub just_these : (x : Id) → Contains ids x ↔ IsDeclaredWithin t s x
  pub counted : length ids ≡ cost
