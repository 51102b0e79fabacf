-- What is read off a tree means the definitions: sites are those that declare, in their order, and ids occur where they do.
use Rattle.std.specs.Prelude.{◌≡◌, ◌↔◌, ℕ, ◌<◌, ◌≤◌, Bool, false, IsTrue, ◌&&◌, ◌||◌, ◌==◌, nat_le, Option, Some, List}
use Rattle.std.specs.List.{slice_get}
use Rattle.std.specs.BTreeSet.{contains_text}
use Rattle.swc_tree_node.specs.declared.node.Node.{Node}
use Rattle.swc_tree_scoping.specs.Places.{Path}
use Rattle.swc_tree_scoping.specs.BoundNames.{Id}
use Rattle.swc_base_rename_analysis.specs.declared.analysis.Analysis.{Analysis}
use Rattle.swc_base_rename_analysis.specs.declared.analysis.Site.{Site as Numbered}
use Rattle.swc_base_rename_analysis.specs.declared.layout.Region.{Region}
use Rattle.swc_base_rename_analysis.specs.declared.numbers.Entry.{Entry}
use Rattle.swc_base_rename_analysis.specs.Analysis.{Declares, IsAtOrAbove, OccursIn}
use Rattle.swc_base_rename_analysis.specs.Ids.{IsBound}
use Rattle.swc_base_rename_analysis.specs.Order.{IsBefore}
use Rattle.swc_base_rename_analysis.specs.Preserved.{IsLoose}
use Rattle.swc_base_rename_analysis.specs.Read.{IsRead, Occurs}
use Rattle.swc_base_rename_analysis.specs.Walk.{laid_out}

-- the number is that of the id
abbrev pub IsIdOf : Analysis → ℕ → Id → Type 0
IsIdOf a k x = (e : Entry) × (slice_get a.ids.items k ≡ Some e) × (e.id ≡ x)

-- the numbers of a site are those of a scope, of a path and of an id
pub record IsSiteOf (a : Analysis) (scopes places : List Path) (site : Numbered) (s p : Path) (x : Id) : Type 0 where
  pub scope : slice_get scopes site.scope ≡ Some s
  pub place : slice_get places site.position ≡ Some p
  pub id : IsIdOf a site.id x

-- what is read off tells that an identifier binds the id
abbrev pub IsToldBound : Analysis → Id → Type 0
IsToldBound a x = (k : ℕ) × (e : Entry) × (slice_get a.ids.items k ≡ Some e) × (e.id ≡ x) × IsTrue e.is_bound

-- the second of two stretches lies in the first
abbrev pub holds_stretch : Option Region → Option Region → Bool
holds_stretch (Some r) (Some q) = nat_le r.start q.start && nat_le q.end r.end
holds_stretch _ _ = false

-- the second of two scopes is the first or lies in it, by their numbers and stretches
abbrev pub surrounds : Analysis → ℕ → ℕ → Bool
surrounds a m n = m == n || (nat_le m n && holds_stretch (slice_get a.regions.items m) (slice_get a.regions.items n))

-- the sites that are read off are those that declare, in the order in which ids get names; ids are by numbers; ids occur, are
-- loose and are bound as the definitions say; and numbers and stretches say which scopes are round one that declares
pub record Means (t : Node) (a : Analysis) (scopes places : List Path) : Type 0 where
  pub each_site : (i : ℕ) (site : Numbered) → slice_get a.sites.items i ≡ Some site → (s p : Path) × (x : Id) × IsSiteOf a scopes places site s p x × Declares t s p x
  pub all_sites : (s p : Path) (x : Id) → Declares t s p x → (i : ℕ) × (site : Numbered) × (slice_get a.sites.items i ≡ Some site) × IsSiteOf a scopes places site s p x
  pub in_order : (i j : ℕ) (one other : Numbered) (s p u q : Path) (x y : Id) → i < j → slice_get a.sites.items i ≡ Some one → slice_get a.sites.items j ≡ Some other → IsSiteOf a scopes places one s p x → IsSiteOf a scopes places other u q y → IsBefore t (s, p) (u, q)
  pub apart : (j k : ℕ) (x : Id) → IsIdOf a j x → IsIdOf a k x → j ≡ k
  pub occurs : (n k : ℕ) (s : Path) (x : Id) → slice_get scopes n ≡ Some s → IsIdOf a k x → Occurs a n k ↔ OccursIn t s x
  pub loose : (text : List ℕ) → IsTrue (contains_text a.loose text) ↔ ((x : Id) × (x.0 ≡ text) × IsLoose t x)
  pub bound : (x : Id) → IsToldBound a x ↔ IsBound t x
  pub round : (m j : ℕ) (other : Numbered) (s u : Path) → slice_get scopes m ≡ Some s → slice_get a.sites.items j ≡ Some other → slice_get scopes other.scope ≡ Some u → IsTrue (surrounds a m other.scope) ↔ IsAtOrAbove t s u
  pub in_preorder : (i j k : ℕ) (one between other : Numbered) → i ≤ j → j ≤ k → slice_get a.sites.items i ≡ Some one → slice_get a.sites.items j ≡ Some between → slice_get a.sites.items k ≡ Some other → IsTrue (surrounds a one.scope other.scope) → IsTrue (surrounds a one.scope between.scope)

-- what is read off the layout of a tree means the definitions
abbrev pub EachReadingMeans : Type 0
EachReadingMeans = (t : Node) (a : Analysis) → IsRead (laid_out t) a → (scopes places : List Path) × Means t a scopes places
