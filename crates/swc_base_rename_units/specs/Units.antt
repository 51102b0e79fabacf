-- Functions and classes that have their names apart from those round them, where something round them reads names.
use Rattle.std.specs.Prelude.{◌≡◌, ℕ, Bool, true, false, ◌⊎◌, IsTrue, ◌==◌, Some, [], ◌∷◌, ◌++◌}
use Rattle.swc_tree_marks.specs.declared.error.PassError.{PassError}
use Rattle.swc_tree_node.specs.declared.fields.statements.class_decl.TheConstants as class_decl
use Rattle.swc_tree_node.specs.declared.fields.statements.fn_decl.TheConstants as fn_decl
use Rattle.swc_tree_node.specs.declared.kind.Kind.{Kind}
use Rattle.swc_tree_node.specs.declared.kind.Kind.TheVariants as kind
use Rattle.swc_tree_node.specs.declared.node.Node.{Node, map-Node, out-Node}
use Rattle.swc_tree_node.specs.declared.node.Node.TheOpen.{Node-F}
use Rattle.swc_tree_scoping.specs.Places.{Path, child}
use Rattle.swc_base_rename_units.specs.Eval.{HasEval, node_at}

abbrev pub is_unit_kind : Kind → Bool
is_unit_kind kind.ArrowExpr = true
is_unit_kind kind.FnExpr = true
is_unit_kind kind.MethodProp = true
is_unit_kind kind.GetterProp = true
is_unit_kind kind.SetterProp = true
is_unit_kind kind.ClassMethod = true
is_unit_kind kind.PrivateMethod = true
is_unit_kind kind.Constructor = true
is_unit_kind _ = false

abbrev pub is_unit_in : Node-F Node → Bool
is_unit_in (Node-F.Tree k ts) = is_unit_kind k
is_unit_in _ = false

-- whether a node's child is a unit: arrows, function expressions, methods, getters, setters and constructors are, and of a
-- function or class declaration all but its name; what is exported as default by a declaration is none
abbrev pub is_unit_below : Node-F Node → ℕ → Node-F Node → Bool
is_unit_below (Node-F.Tree kind.FnDecl ts) i c = i == fn_decl.FUNCTION
is_unit_below (Node-F.Tree kind.ClassDecl ts) i c = i == class_decl.CLASS
is_unit_below (Node-F.Tree kind.ExportDefaultDecl ts) i c = false
is_unit_below t i c = is_unit_in c

-- at the path stands a unit
pub record IsUnit (t : Node) (p : Path) (u : Node) : Type 0 where
  pub above : Path
  pub parent : Node
  pub index : ℕ
  pub path : p ≡ above ++ index ∷ []
  pub parent_there : node_at t above ≡ Some parent
  pub there : child parent index ≡ Some u
  pub is_unit : IsTrue (is_unit_below (out-Node parent) index (out-Node u))

-- the second path leads on from the first
abbrev pub LeadsOn : Path → Path → Type 0
LeadsOn q p = (i : ℕ) × (below : Path) × (p ≡ q ++ i ∷ below)

-- the unit is without eval, and each unit round it has one
pub record IsOutermost (t : Node) (p : Path) (u : Node) : Type 0 where
  pub unit : IsUnit t p u
  pub free : ¬ HasEval u
  pub round : (q : Path) (v : Node) → IsUnit t q v → LeadsOn q p → HasEval v

-- a node but for its children, of which only the number counts
abbrev pub shape : Node → Node-F (Unit {0})
shape t = map-Node Node (Unit {0}) (λ c. tt) (out-Node t)

-- each outermost unit without eval became what it becomes alone, and nothing else changed
pub record HasUnits (becomes : Node → Node → Type 0) (before after : Node) : Type 0 where
  pub units : (p : Path) (u : Node) → IsOutermost before p u → (v : Node) × (node_at after p ≡ Some v) × becomes u v
  pub others : (p : Path) (n : Node) → node_at before p ≡ Some n → ((q : Path) (u : Node) → IsOutermost before q u → ¬ ((q ≡ p) ⊎ LeadsOn q p))
      → (m : Node) × (node_at after p ≡ Some m) × (shape m ≡ shape n)

-- such a unit was refused its names
abbrev pub RefusesUnit : (Node → PassError → Type 0) → Node → PassError → Type 0
RefusesUnit refuses t e = (p : Path) × (u : Node) × IsOutermost t p u × refuses u e
