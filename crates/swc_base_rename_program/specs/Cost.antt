-- What it costs to rename a scope, by what was read off a program.
use Rattle.std.specs.Prelude.{◌≡◌, ◌↔◌, ℕ, IsTrue, Some, List, Contains, length}
use Rattle.std.specs.List.{slice_get}
use Rattle.swc_tree_node.specs.declared.node.Node.{Node}
use Rattle.swc_tree_scoping.specs.Places.{Path}
use Rattle.swc_base_rename_analysis.specs.declared.analysis.Analysis.{Analysis}
use Rattle.swc_base_rename_analysis.specs.declared.analysis.Site.{Site}
use Rattle.swc_base_rename_analysis.specs.Analysis.{EachOnce, RenameCost}
use Rattle.swc_base_rename_analysis_laws.specs.Means.{Means, surrounds}

-- some site declares the id at the scope or below it, all by their numbers
abbrev pub IsSitedWithin : Analysis → ℕ → ℕ → Type 0
IsSitedWithin a scope id = (site : Site) × Contains a.sites.items site × IsTrue (surrounds a scope site.scope) × (site.id ≡ id)

-- the cost is how many ids are sited at the scope or below it
pub record CostsByNumber (a : Analysis) (scope cost : ℕ) : Type 0 where
  pub ids : List ℕ
  pub each_once : EachOnce ids
  pub just_these : (id : ℕ) → Contains ids id ↔ IsSitedWithin a scope id
  pub counted : length ids ≡ cost

-- where what is read off a tree means the definitions, costs by numbers are those of the definitions
abbrev pub CostsAreOfTheDefinitions : Type 0
CostsAreOfTheDefinitions = (t : Node) (a : Analysis) (scopes places : List Path) → Means t a scopes places → (n : ℕ) (s : Path) (cost : ℕ) → slice_get scopes n ≡ Some s → CostsByNumber a n cost → RenameCost t s cost
