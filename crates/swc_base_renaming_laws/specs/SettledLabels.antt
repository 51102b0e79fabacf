-- What a tree has of another one's ids: its names carry them as labels.
use Rattle.std.specs.Prelude.{◌≡◌, ◌↔◌, ℕ, IsTrue, Some, List}
use Rattle.swc_tree_node.specs.declared.node.Node.{Node}
use Rattle.swc_tree_scoping.specs.declared.places.Standing.{Standing}
use Rattle.swc_tree_scoping.specs.Places.{Path}
use Rattle.swc_tree_scoping.specs.Scopes.{is_name}
use Rattle.swc_tree_scoping.specs.BoundNames.{Id}
use Rattle.swc_base_rename_analysis.specs.Analysis.{Declares, OccursIn}
use Rattle.swc_base_rename_analysis.specs.Ids.{id_at}
use Rattle.swc_base_rename_analysis.specs.Preserved.{IsLoose}
use Rattle.swc_base_renaming_laws.specs.Settled.{ApartWhereMet, own_text}

-- a name of the id stands at the path
abbrev pub IsNameAt : Node → Path → Id → Type 0
IsNameAt u p x = (r : Standing) × (id_at u p ≡ Some (r, x)) × IsTrue (is_name r)

-- Each name of the second tree has an id of the first as its label: its text is the label's new one, two names have one id
-- exactly if they have one label, ids that meet have labels that met, and those that are loose have labels that were, and
-- keep their texts.
pub record Carries (t u : Node) (text : Id → List ℕ) (label : Path → Id) : Type 0 where
  pub texts : (p : Path) (x : Id) → IsNameAt u p x → text (label p) ≡ x.0
  pub same : (p q : Path) (x y : Id) → IsNameAt u p x → IsNameAt u q y → x ≡ y ↔ label p ≡ label q
  pub meet : (s p : Path) (x y : Id) → Declares u s p x → (o : OccursIn u s y) → (v q : Path) × Declares t v q (label p) × OccursIn t v (label o.path)
  pub loose : (y : Id) (l : IsLoose u y) → IsNameAt u l.path y × IsLoose t (label l.path) × (text (label l.path) ≡ (label l.path).0)

-- where the new texts are apart where ids meet in the first tree, the second's own texts are
abbrev pub LabelsCarryApart : Type 0
LabelsCarryApart = (t u : Node) (text : Id → List ℕ) (label : Path → Id) → Carries t u text label → ApartWhereMet t text → ApartWhereMet u own_text
