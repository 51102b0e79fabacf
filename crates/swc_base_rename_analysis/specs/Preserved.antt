-- Texts that no new name may be.
use Rattle.std.specs.Prelude.{◌≡◌, ◌≢◌, ℕ, ◌⊎◌, Bool, true, IsTrue, Some, List, []}
use Rattle.swc_tree_node.specs.declared.node.Node.{Node}
use Rattle.swc_tree_scoping.specs.declared.places.Standing.{Standing}
use Rattle.swc_tree_scoping.specs.declared.places.Standing.TheVariants as standing
use Rattle.swc_tree_scoping.specs.Places.{Path}
use Rattle.swc_tree_scoping.specs.Scopes.{is_name}
use Rattle.swc_tree_scoping.specs.BoundNames.{Id}
use Rattle.swc_tree_scoping.specs.WellScoped.{InExportList}
use Rattle.swc_base_rename_analysis.specs.Ids.{id_at, IsBound}

abbrev pub is_name_or_label : Standing → Bool
is_name_or_label standing.Label = true
is_name_or_label r = is_name r

-- an id with a context stands as a name or a label, outside of export lists, and nothing binds it
pub record IsLoose (t : Node) (x : Id) : Type 0 where
  pub path : Path
  pub standing : Standing
  pub stands : id_at t path ≡ Some (standing, x)
  pub named : IsTrue (is_name_or_label standing)
  pub outside : ¬ InExportList t path
  pub marked : x.1 ≢ []
  pub unbound : ¬ IsBound t x

-- the texts of such ids, and of those that the renamer preserves
abbrev pub IsPreserved : Node → (Id → Bool) → List ℕ → Type 0
IsPreserved t preserves text = (x : Id) × (x.0 ≡ text) × (IsLoose t x ⊎ IsTrue (preserves x))
