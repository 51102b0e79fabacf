-- What a resolver may answer: each identifier with the mark of its scope.
use Rattle.std.specs.Prelude.{◌≡◌, ◌≢◌, ℕ, zero, suc, ◌-◌, Bool, true, false, ◌&&◌, ◌||◌, ◌⊎◌, ◌↔◌, IsTrue, Option, Some, None, List, [], ◌∷◌, Contains, codes, if◌then◌else◌}
use Rattle.std.specs.Str.{bytes_eq}
use Rattle.swc_tree_node.specs.Lower.swc_tree_marks.specs.declared.ident.Ident.{Ident}
use Rattle.swc_tree_node.specs.Lower.swc_tree_marks.specs.Globals.{with_fresh_marks}
use Rattle.swc_tree_node.specs.declared.kind.Kind.{Kind}
use Rattle.swc_tree_node.specs.declared.kind.Kind.TheVariants as kind
use Rattle.swc_tree_node.specs.declared.node.Node.{Node, Absent, Flag, Word, Text, Span, List as Many, Identifier, Tree, out-Node, fold-Node}
use Rattle.swc_tree_node.specs.declared.node.Node.TheOpen.{Node-F}
use Rattle.swc_tree_scoping.specs.declared.places.Standing.{Standing}
use Rattle.swc_tree_scoping.specs.declared.places.Standing.TheVariants as standing
use Rattle.swc_tree_scoping.specs.declared.places.Place.{Place}
use Rattle.swc_tree_scoping.specs.Places.{Path, program_place, place_at}
use Rattle.swc_tree_scoping.specs.Scopes.{IsScope, is_binding, is_reference, scope_count}
use Rattle.swc_tree_scoping.specs.Declares.{DeclaredBy, DeclaresOtherwise, Means, Meets}

abbrev pub Contexts : Type 0
Contexts = Path → List ℕ

abbrev pub each_child : (ℕ → Contexts) → List (Contexts → Node) → List Node
each_child c [] = []
each_child c (f ∷ fs) = f (c zero) ∷ each_child (λ i. c (suc i)) fs

abbrev pub remark_step : Node-F (Contexts → Node) → Contexts → Node
remark_step Node-F.Absent c = Absent
remark_step (Node-F.Flag x) c = Flag x
remark_step (Node-F.Word w) c = Word w
remark_step (Node-F.Text x) c = Text x
remark_step (Node-F.Span x) c = Span x
remark_step (Node-F.List fs) c = Many (each_child (λ i p. c (i ∷ p)) fs)
remark_step (Node-F.Identifier k i) c = Identifier k (record i { ctxt = c [] })
remark_step (Node-F.Tree k fs) c = Tree k (each_child (λ i p. c (i ∷ p)) fs)

-- the tree with the contexts of its identifiers given anew, by their paths, and all else as it is
abbrev pub remarked : Contexts → Node → Node
remarked c t = fold-Node (Contexts → Node) remark_step t c

-- the mark of a scope; that of free names where there is none
abbrev pub mark_in : (Path → ℕ) → ℕ → Option Path → ℕ
mark_in marks unresolved None = unresolved
mark_in marks unresolved (Some s) = marks s

-- values of the global object that a script can't declare anew (19.1)
abbrev pub is_global_value : List ℕ → Bool
is_global_value name = bytes_eq name (codes "undefined") || (bytes_eq name (codes "NaN") || bytes_eq name (codes "Infinity"))

abbrev script_in : Node-F Node → Bool
script_in (Node-F.Tree kind.Script ts) = true
script_in _ = false

abbrev pub is_script : Node → Bool
is_script t = script_in (out-Node t)

-- what is free in a script though the program declares it
abbrev pub own_meaning : Node → List ℕ → Option Path → Option Path
own_meaning t name (Some []) = if is_script t && is_global_value name then None else Some []
own_meaning t name m = m

-- a reference has the mark of the scope that it means, or the unresolved mark; in a script so have `undefined`,
-- `NaN` and `Infinity` where they mean the program
abbrev pub HasMeantMark : (Path → ℕ) → ℕ → Node → Path → List ℕ → List ℕ → Type 0
HasMeantMark marks unresolved t p name c = (m : Option Path) × Means t p name m × (c ≡ mark_in marks unresolved (own_meaning t name m) ∷ [])

-- a variable below a catch clause whose parameter has its name keeps to that clause, where the scope that declares it
-- does so by something else than such variables
abbrev pub IsCaughtBy : Node → Path → Standing → List ℕ → Path → Path → Type 0
IsCaughtBy t p r name s m = (r ≡ standing.Variable) × Meets t p name (Some m) × DeclaresOtherwise t s name

-- a binding has the mark of the scope that declares it; but a variable that is caught that of the catch clause
abbrev pub HasDeclarersMark : (Path → ℕ) → Node → Path → Standing → List ℕ → List ℕ → Type 0
HasDeclarersMark marks t p r name c = (s : Path) × DeclaredBy t p r name s
    × (((m : Path) × IsCaughtBy t p r name s m × (c ≡ marks m ∷ [])) ⊎ (((m : Path) → ¬ IsCaughtBy t p r name s m) × (c ≡ marks s ∷ [])))

-- the context of an identifier that had none: the marks of references and of bindings, and none elsewhere
pub record HasContext (marks : Path → ℕ) (unresolved : ℕ) (t : Node) (p : Path) (name : List ℕ) (r : Standing) (c : List ℕ) : Type 0 where
  pub reference : IsTrue (is_reference r) → HasMeantMark marks unresolved t p name c
  pub binding : IsTrue (is_binding r) → HasDeclarersMark marks t p r name c
  pub other : ¬ IsTrue (is_reference r) → ¬ IsTrue (is_binding r) → c ≡ []

-- `answer` is `tree` with each identifier resolved; `old` and `new` are the table of marks before and after
pub record Resolved (unresolved top : ℕ) (old new : List (ℕ × ℕ)) (tree answer : Node) : Type 0 where
  -- each scope has a mark of its own, the program the top mark
  pub marks : Path → ℕ
  pub one_to_one : (s u : Path) → IsScope tree s → IsScope tree u → marks s ≡ marks u → s ≡ u
  pub program : marks [] ≡ top
  -- the others have marks that the old table lacks, and whose parent is the top mark; the table gains just these, one
  -- for each of them, behind what it had
  pub fresh : (s : Path) → IsScope tree s → s ≢ [] → (parent : ℕ) → ¬ Contains old (marks s, parent)
  pub table : new ≡ with_fresh_marks old top (scope_count program_place tree - 1)
  pub gained : (m parent : ℕ) → Contains new (m, parent) ↔ (Contains old (m, parent) ⊎ ((parent ≡ top) × ((s : Path) × IsScope tree s × (s ≢ []) × (marks s ≡ m))))
  -- only contexts change, and those that are not empty stay
  pub contexts : Contexts
  pub only_contexts : answer ≡ remarked contexts tree
  pub kept : (p : Path) (w : Place) (k : Kind) (i : Ident) → place_at program_place tree p ≡ Some (w, Identifier k i) → i.ctxt ≢ [] → contexts p ≡ i.ctxt
  pub resolved : (p : Path) (w : Place) (k : Kind) (i : Ident) → place_at program_place tree p ≡ Some (w, Identifier k i) → i.ctxt ≡ []
      → HasContext marks unresolved tree p i.sym w.standing (contexts p)
