-- When new texts keep what names mean.
use Rattle.std.specs.Prelude.{◌≡◌, ◌≢◌, ℕ, Bool, true, false, not, ◌&&◌, ◌⊎◌, ◌↔◌, IsTrue, Option, Some, None, List, [], Contains, slice_get}
use Rattle.std.specs.List.{list_all}
use Rattle.swc_tree_node.specs.Lower.swc_tree_marks.specs.declared.ident.Ident.{Ident}
use Rattle.swc_tree_node.specs.declared.kind.Kind.{Kind}
use Rattle.swc_tree_node.specs.declared.kind.Kind.TheVariants as kind
use Rattle.swc_tree_node.specs.declared.kind.Class.TheVariants as class
use Rattle.swc_tree_node.specs.declared.fields.statements.labeled_stmt.TheConstants as labeled_stmt
use Rattle.swc_tree_node.specs.declared.node.Node.{Node, Identifier, fold-Node}
use Rattle.swc_tree_node.specs.declared.node.Node.TheOpen.{Node-F}
use Rattle.swc_tree_node.specs.declared.slot.Content.TheVariants as content
use Rattle.swc_tree_node.specs.declared.slot.Slot.{Slot}
use Rattle.swc_tree_node.specs.declared.slot.Slot.TheVariants as slot
use Rattle.swc_tree_scoping.specs.declared.places.Standing.{Standing}
use Rattle.swc_tree_scoping.specs.declared.places.Standing.TheVariants as standing
use Rattle.swc_tree_scoping.specs.declared.places.Place.{Place}
use Rattle.swc_tree_scoping.specs.Places.{Path, children_in, program_place, place_at}
use Rattle.swc_tree_scoping.specs.Scopes.{rounds, scope_at, is_binding, is_name, is_reference, taker}
use Rattle.swc_tree_scoping.specs.Declares.{DeclaredBy, Means}
use Rattle.swc_tree_scoping.specs.Resolved.{Resolved, is_global_value, is_script}
use Rattle.swc_tree_scoping.specs.WellScoped.{Stands, Binds, IsClean, IsDeclared, IsFree, WellScoped, is_module}
use Rattle.swc_tree_scoping.specs.Readings.{by_ids, id_name, with_identifiers}

-- the scope stands round the path
abbrev pub IsRound : Node → Path → Path → Type 0
IsRound t s p = (whole : Bool) × Contains (rounds program_place t p) (s, whole)

-- the first scope is the second or stands round it
abbrev pub IsAtOrAbove : Node → Path → Path → Type 0
IsAtOrAbove t s u = (s ≡ u) ⊎ IsRound t s u

-- the name is bound or referred to at the scope or below it
pub record OccursIn (t : Node) (s : Path) (name : List ℕ) : Type 0 where
  pub path : Path
  pub standing : Standing
  pub at : Stands t path standing name
  pub names : IsTrue (is_name standing)
  pub inside : IsRound t s path

-- the scope declares a binding of the name
pub record DeclaredIn (t : Node) (s : Path) (name : List ℕ) : Type 0 where
  pub path : Path
  pub standing : Standing
  pub binds : Binds t path standing name
  pub declared : DeclaredBy t path standing name s

-- the name is referred to, and nothing declares it
pub record IsFreeName (t : Node) (name : List ℕ) : Type 0 where
  pub path : Path
  pub standing : Standing
  pub at : Stands t path standing name
  pub refers : IsTrue (is_reference standing)
  pub undeclared : ¬ IsDeclared t name

-- two names that occur in one scope and are declared there or further out have different texts
abbrev pub DeclaredApart : Node → (List ℕ → List ℕ) → Type 0
DeclaredApart t text = (s u v : Path) (x y : List ℕ) → OccursIn t s x → OccursIn t s y → DeclaredIn t u x → DeclaredIn t v y → IsAtOrAbove t u s → IsAtOrAbove t v s
    → text x ≡ text y → x ≡ y

-- a free name that occurs in a scope has another text than what the scope declares
abbrev pub FreeApartFromDeclared : Node → (List ℕ → List ℕ) → Type 0
FreeApartFromDeclared t text = (s : Path) (x y : List ℕ) → OccursIn t s x → ¬ IsDeclared t x → DeclaredIn t s y → text x ≢ text y

-- what the scopes' names need: no scope between a name and the scope that declares it has another name of its text,
-- none round a free name has one, and free names have different texts
pub record CapturesNone (t : Node) (text : List ℕ → List ℕ) : Type 0 where
  pub declared : (p : Path) (r : Standing) (x y : List ℕ) (s u : Path) → Stands t p r x → IsTrue (is_name r) → DeclaredIn t u x → IsRound t s p → IsAtOrAbove t u s → DeclaredIn t s y
      → text x ≡ text y → x ≡ y
  pub free : (p : Path) (r : Standing) (x y : List ℕ) (s : Path) → Stands t p r x → IsTrue (is_name r) → ¬ IsDeclared t x → IsRound t s p → DeclaredIn t s y → text x ≢ text y
  pub frees : (x y : List ℕ) → IsFreeName t x → IsFreeName t y → text x ≡ text y → x ≡ y

-- the same of ids, where free names keep their text
pub record NamesApart (t : Node) (text : List ℕ → List ℕ) : Type 0 where
  pub declared_apart : DeclaredApart (by_ids t) text
  pub free_apart : FreeApartFromDeclared (by_ids t) text
  pub free_kept : (i : Ident) → IsFree t i → text (id_name i) ≡ i.sym

-- all but names: each identifier without its text, context and span
abbrev pub no_name : Ident
no_name = record { span = record { lo = 0; hi = 0 }; ctxt = []; sym = [] }

abbrev pub nameless : Node → Node
nameless t = with_identifiers (λ i. no_name) t

-- each name that is bound or referred to has its new text
abbrev pub HasTexts : Node → (List ℕ → List ℕ) → Node → Type 0
HasTexts t text answer = (p : Path) (w v : Place) (k l : Kind) (i j : Ident) → place_at program_place t p ≡ Some (w, Identifier k i) → place_at program_place answer p ≡ Some (v, Identifier l j)
    → IsTrue (is_name w.standing) → j.sym ≡ text i.sym

-- the answer is the tree with a new text for each name that is bound or referred to
pub record Renamed (t : Node) (text : List ℕ → List ℕ) (answer : Node) : Type 0 where
  pub shape : nameless t ≡ nameless answer
  pub cleared : IsClean answer
  pub texts : HasTexts t text answer

-- the same scopes stand round the same paths, and identifiers at the same places
pub record SameScopes (t u : Node) : Type 0 where
  pub rounds_same : (p : Path) → rounds program_place t p ≡ rounds program_place u p
  pub scopes_same : (s : Path) → scope_at program_place t s ≡ scope_at program_place u s
  pub forth : (p : Path) (w : Place) (k : Kind) (i : Ident) → place_at program_place t p ≡ Some (w, Identifier k i) → (l : Kind) × (j : Ident) × (place_at program_place u p ≡ Some (w, Identifier l j))
  pub back : (p : Path) (w : Place) (l : Kind) (j : Ident) → place_at program_place u p ≡ Some (w, Identifier l j) → (k : Kind) × (i : Ident) × (place_at program_place t p ≡ Some (w, Identifier k i))

-- no plain function stands in a block of sloppy code
abbrev pub HasNoSloppy : Node → Type 0
HasNoSloppy t = (p : Path) (w : Place) (k : Kind) (i : Ident) → place_at program_place t p ≡ Some (w, Identifier k i) → w.standing ≢ standing.SloppyFunction

-- whether a node is a function declaration, and whether no label in it names one
pub record Labelled : Type 0 where
  pub is_function : Bool
  pub names_none : Bool

abbrev pub function_in : {X : Type 0} → Node-F X → Bool
function_in (Node-F.Tree kind.FnDecl es) = true
function_in _ = false

abbrev pub is_named : Option Labelled → Bool
is_named None = false
is_named (Some e) = e.is_function

abbrev pub names_function : Node-F Labelled → Bool
names_function (Node-F.Tree kind.LabeledStmt es) = is_named (slice_get es labeled_stmt.BODY)
names_function _ = false

abbrev pub labelled_step : Node-F Labelled → Labelled
labelled_step y = record { is_function = function_in y; names_none = not (names_function y) && list_all (λ e. e.names_none) (children_in y) }

-- no label names a function declaration (14.13.1, without B.3.1)
abbrev pub labels_no_function : Node → Bool
labels_no_function t = (fold-Node Labelled labelled_step t).names_none

-- neither stands in the tree: no such function, and none that a label names
abbrev pub IsSettled : Node → Type 0
IsSettled t = HasNoSloppy t × IsTrue (labels_no_function t)

-- an identifier stands at a path, as a binding or a reference
abbrev pub NameAt : Node → Path → Ident → Type 0
NameAt t p i = (w : Place) × (k : Kind) × (place_at program_place t p ≡ Some (w, Identifier k i)) × IsTrue (is_name w.standing)

-- the text and the context are the same
abbrev pub SameId : Ident → Ident → Type 0
SameId i j = (i.sym ≡ j.sym) × (i.ctxt ≡ j.ctxt)

-- two bindings or references have one id in one tree exactly if they have one in the other
abbrev pub SameIds : Node → Node → Type 0
SameIds t u = (p q : Path) (i j a b : Ident) → NameAt t p i → NameAt t q j → NameAt u p a → NameAt u q b → SameId a b ↔ SameId i j

-- a binding belongs to the scope that declares it, a reference to the one that it means, or to none, where it is free
pub record Belongs (t : Node) (p : Path) (r : Standing) (name : List ℕ) (o : Option Path) : Type 0 where
  pub binding : IsTrue (is_binding r) → (s : Path) × DeclaredBy t p r name s × (o ≡ Some s)
  pub reference : IsTrue (is_reference r) → Means t p name o

-- two names have one text and belong to one scope, or have one text and are both free
abbrev pub MeanOne : (t : Node) (p q : Path) (i j : Ident) → NameAt t p i → NameAt t q j → Type 0
MeanOne t p q i j m n = (i.sym ≡ j.sym) × ((o : Option Path) × Belongs t p m.0.standing i.sym o × Belongs t q n.0.standing j.sym o)

-- two bindings or references mean one thing in one tree exactly if they have one id in the other
abbrev pub MeanTheirIds : Node → Node → Type 0
MeanTheirIds t u = (p q : Path) (i j a b : Ident) (m : NameAt t p i) (n : NameAt t q j) → NameAt u p a → NameAt u q b → MeanOne t p q i j m n ↔ SameId a b

-- a module, or a script in which no plain function stands in a block of sloppy code; a module has none
abbrev pub IsPlainProgram : Node → Type 0
IsPlainProgram t = (IsTrue (is_module t) ⊎ IsTrue (is_script t)) × HasNoSloppy t

-- in a script, no reference to a value of the global object means the program
abbrev pub MeansNoGlobalValue : Node → Type 0
MeansNoGlobalValue t = (p : Path) (r : Standing) (x : List ℕ) → IsTrue (is_script t) → Stands t p r x → IsTrue (is_reference r) → IsTrue (is_global_value x) → Means t p x (Some []) → ⊥

-- where the program of a script declares, none of its names is that of a value of the global object
abbrev pub DeclaresNoGlobalValue : Node → Type 0
DeclaresNoGlobalValue t = (p : Path) (w : Place) (k : Kind) (i : Ident) → IsTrue (is_script t) → place_at program_place t p ≡ Some (w, Identifier k i) → IsTrue (is_binding w.standing) → IsTrue (is_global_value i.sym)
    → taker w.standing t p ≢ Some []

-- no function has two parameters of one name, in sloppy code neither
abbrev pub NoParameterRepeated : Node → Type 0
NoParameterRepeated t = (name : List ℕ) (f p q : Path) → Stands t p standing.Parameter name → Stands t q standing.Parameter name
    → taker standing.Parameter t p ≡ Some f → taker standing.Parameter t q ≡ Some f → p ≡ q

-- what is asked of a script beyond what is asked of a module: no plain function stands in a block, catch body or case list of
-- sloppy code, no label names a function, its program declares neither `undefined` nor `NaN` nor `Infinity`, and, read by ids,
-- no function has two parameters of one name
pub record IsPlainScript (t : Node) : Type 0 where
  pub settled : HasNoSloppy t
  pub unlabelled : IsTrue (labels_no_function t)
  pub no_global_value : DeclaresNoGlobalValue t
  pub no_parameter_repeated : NoParameterRepeated (by_ids t)

-- a module, of which that is not asked, or such a script
abbrev pub IsPlainIfScript : Node → Type 0
IsPlainIfScript t = IsTrue (is_script t) → IsPlainScript t

-- where a program stands, of the goal Module or Script
abbrev pub is_goal : Slot → Bool
is_goal (slot.One (content.Node class.Module)) = true
is_goal (slot.One (content.Node class.Script)) = true
is_goal _ = false

-- the table knows the mark
abbrev pub Knows : List (ℕ × ℕ) → ℕ → Type 0
Knows table mark = (parent : ℕ) × Contains table (mark, parent)

-- a well-scoped plain program whose ids have texts apart is resolved to the same ids, where no reference to a global value means
-- the answer's program
abbrev pub RenamingKeepsIds : Type 0
RenamingKeepsIds = (t answer u : Node) (text : List ℕ → List ℕ) (unresolved top : ℕ) (old new : List (ℕ × ℕ)) → WellScoped t → IsPlainProgram t → NamesApart t text
    → Renamed (by_ids t) text answer → MeansNoGlobalValue answer → Knows old unresolved → Resolved unresolved top old new answer u → SameIds t u
