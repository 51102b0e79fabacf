-- What a walk over units makes of the children of a node.
use Rattle.std.specs.Prelude.{◌≡◌, ◌↔◌, ◌<◌, ◌≤◌, ℕ, Bool, true, false, not, ◌&&◌, ◌⊎◌, IsTrue, ◌==◌, Some, List, length, slice_get, if◌then◌else◌}
use Rattle.swc_tree_marks.specs.declared.error.PassError.{PassError}
use Rattle.swc_tree_node.specs.declared.fields.statements.class_decl.TheConstants as class_decl
use Rattle.swc_tree_node.specs.declared.fields.statements.fn_decl.TheConstants as fn_decl
use Rattle.swc_tree_node.specs.declared.kind.Kind.TheVariants as kind
use Rattle.swc_tree_node.specs.declared.node.Node.{Node, out-Node}
use Rattle.swc_tree_node.specs.declared.node.Node.TheOpen.{Node-F}
use Rattle.swc_base_rename_substitution.specs.Room.{FitsAs}
use Rattle.swc_base_rename_units.specs.Eval.{AnyHasEval, HasEval}
use Rattle.swc_base_rename_units.specs.Units.{HasUnits, RefusesUnit, is_unit_in}
use Rattle.swc_base_rename_units.specs.declared.units.Above.{Above}
use Rattle.swc_base_rename_units.specs.declared.units.Above.TheVariants.{Fields}

-- by what the children are of
abbrev pub is_unit_at : Above → ℕ → Node-F Node → Bool
is_unit_at (Fields kind.FnDecl) i c = i == fn_decl.FUNCTION
is_unit_at (Fields kind.ClassDecl) i c = i == class_decl.CLASS
is_unit_at (Fields kind.ExportDefaultDecl) i c = false
is_unit_at _ i c = is_unit_in c

-- a child that is a unit without a reader of names is renamed alone, any other has its units renamed
pub record IsChildNamed (becomes : Node → Node → Type 0) (is_unit : Bool) (before after : Node) : Type 0 where
  pub alone : IsTrue is_unit → ¬ HasEval before → becomes before after
  pub below : (IsTrue is_unit → HasEval before) → HasUnits becomes before after
  pub fits : FitsAs before after

abbrev pub RefusesChild : (Node → PassError → Type 0) → Bool → Node → PassError → Type 0
RefusesChild refuses is_unit t e = (IsTrue is_unit × ¬ HasEval t × refuses t e) ⊎ ((IsTrue is_unit → HasEval t) × RefusesUnit refuses t e)

pub record EachBecomes (becomes : Node → Node → Type 0) (above : Above) (before after : List Node) : Type 0 where
  pub as_many : length after ≡ length before
  pub each : (i : ℕ) (c : Node) → slice_get before i ≡ Some c → (d : Node) × (slice_get after i ≡ Some d) × IsChildNamed becomes (is_unit_at above i (out-Node c)) c d

abbrev pub RefusesEach : (Node → PassError → Type 0) → Above → List Node → PassError → Type 0
RefusesEach refuses above ts e = (i : ℕ) × (c : Node) × (slice_get ts i ≡ Some c) × RefusesChild refuses (is_unit_at above i (out-Node c)) c e

-- none of those before a number has a reader of names
abbrev pub AreFreeTo : List Node → ℕ → Type 0
AreFreeTo ts end = (i : ℕ) (c : Node) → i < end → slice_get ts i ≡ Some c → ¬ HasEval c

-- those before a number have their units named, the others are as they were
pub record AreNamedTo (becomes : Node → Node → Type 0) (above : Above) (end : ℕ) (before after : List Node) : Type 0 where
  pub as_many : length after ≡ length before
  pub done : (i : ℕ) (c : Node) → i < end → slice_get before i ≡ Some c → (d : Node) × (slice_get after i ≡ Some d) × IsChildNamed becomes (is_unit_at above i (out-Node c)) c d
  pub rest : (i : ℕ) → end ≤ i → slice_get after i ≡ slice_get before i

abbrev pub RefusesBefore : (Node → PassError → Type 0) → Above → ℕ → List Node → PassError → Type 0
RefusesBefore refuses above end ts e = (i : ℕ) × (c : Node) × (i < end) × (slice_get ts i ≡ Some c) × RefusesChild refuses (is_unit_at above i (out-Node c)) c e

-- where a reader stands in a node, its units are named, and where none does, it is as it was
pub record IsWalked (becomes : Node → Node → Type 0) (before : Node) (found : Bool) (after : Node) : Type 0 where
  pub reads : IsTrue found ↔ HasEval before
  pub named : HasEval before → HasUnits becomes before after
  pub fits : HasEval before → FitsAs before after
  pub kept : ¬ HasEval before → after ≡ before

abbrev pub RefusesWhereRead : (Node → PassError → Type 0) → Node → PassError → Type 0
RefusesWhereRead refuses t e = HasEval t × RefusesUnit refuses t e

-- a reader stands in one of some nodes, or above them
abbrev pub ReadsAny : Bool → List Node → Type 0
ReadsAny reads ts = IsTrue reads ⊎ AnyHasEval ts

-- the same for the children of a node, which may be a reader itself
pub record AreWalked (becomes : Node → Node → Type 0) (above : Above) (itself : Bool) (before : List Node) (found : Bool) (after : List Node) : Type 0 where
  pub reads : IsTrue found ↔ ReadsAny itself before
  pub named : IsTrue found → EachBecomes becomes above before after
  pub kept : found ≡ false → after ≡ before

abbrev pub RefusesEachWhereRead : (Node → PassError → Type 0) → Above → Bool → List Node → PassError → Type 0
RefusesEachWhereRead refuses above reads ts e = ReadsAny reads ts × RefusesEach refuses above ts e

-- the same for the next child, which has its units named also where a reader was found before it
pub record IsNextWalked (becomes : Node → Node → Type 0) (found is_unit : Bool) (before : Node) (read : Bool) (after : Node) : Type 0 where
  pub reads : IsTrue read ↔ HasEval before
  pub named : IsTrue found ⊎ HasEval before → IsChildNamed becomes is_unit before after
  pub kept : found ≡ false → read ≡ false → after ≡ before

abbrev pub RefusesNext : (Node → PassError → Type 0) → Bool → Bool → Node → PassError → Type 0
RefusesNext refuses found is_unit t e = (IsTrue found ⊎ HasEval t) × RefusesChild refuses is_unit t e

-- with the first child that has a reader, all before it wait for their names no longer
abbrev pub waiting_to : Bool → Bool → ℕ → ℕ
waiting_to found read i = if read && not found then i else 0
