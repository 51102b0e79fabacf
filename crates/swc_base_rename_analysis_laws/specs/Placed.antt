-- What the layout of a tree says of it, by paths: its scopes and names are those of the definitions, each at its number.
use Rattle.std.specs.Prelude.{◌≡◌, ◌↔◌, ℕ, ◌<◌, ◌≤◌, ◌⊎◌, Bool, true, false, IsTrue, Option, Some, None, List, [], length, Contains}
use Rattle.std.specs.List.{slice_get}
use Rattle.std.specs.declared.cmp.Ordering.TheVariants.{Less}
use Rattle.std.specs.Ordering.{nat_cmp}
use Rattle.std.specs.Cmp.Lexicographic.{slice_cmp}
use Rattle.swc_tree_node.specs.declared.node.Node.{Node}
use Rattle.swc_tree_scoping.specs.declared.places.Standing.{Standing}
use Rattle.swc_tree_scoping.specs.declared.places.Standing.TheVariants as standing
use Rattle.swc_tree_scoping.specs.Places.{Path}
use Rattle.swc_tree_scoping.specs.Scopes.{is_binding}
use Rattle.swc_tree_scoping.specs.BoundNames.{Id}
use Rattle.swc_tree_scoping.specs.WellScoped.{InExportList}
use Rattle.swc_base_rename_analysis.specs.declared.layout.Region.{Region}
use Rattle.swc_base_rename_analysis.specs.Analysis.{IsOwnName, IsRound, first_taking, scopes_round}
use Rattle.swc_base_rename_analysis.specs.Ids.{id_at}
use Rattle.swc_base_rename_analysis.specs.Numbers.{id_met}
use Rattle.swc_base_rename_analysis.specs.Order.{entry, turns}
use Rattle.swc_base_rename_analysis.specs.Preserved.{is_name_or_label}
use Rattle.swc_base_rename_analysis.specs.Read.{taken_from}
use Rattle.swc_base_rename_analysis.specs.Walk.{Laid, Met, laid_out}

-- where a name was met: at the path of its identifier, or where a function uses its own name, which stands at the path
pub record Use : Type 0 where
  pub path : Path
  pub own : Bool

abbrev pub at_path : Path → Use
at_path p = record { path = p; own = false }

abbrev pub own_at : Path → Use
own_at p = record { path = p; own = true }

-- the number is that of the path, or there is neither
abbrev pub IsNumberOf : List Path → Option ℕ → Option Path → Type 0
IsNumberOf scopes None None = Unit {0}
IsNumberOf scopes (Some n) (Some s) = slice_get scopes n ≡ Some s
IsNumberOf scopes _ _ = ⊥

-- a name that was met at its identifier
pub record IsMetAt (t : Node) (scopes : List Path) (regions : List Region) (p : Path) (m : Met) : Type 0 where
  pub stands : id_at t p ≡ Some (m.standing, id_met m)
  pub named : IsTrue (is_name_or_label m.standing)
  pub exported : IsTrue m.exported ↔ InExportList t p
  pub taken : (r : Standing) → IsNumberOf scopes (taken_from regions r m.scope) (first_taking r (scopes_round t p))

-- a name that was met where its function uses it
pub record IsUsedAt (t : Node) (p : Path) (m : Met) : Type 0 where
  pub bound_as : Standing
  pub stands : id_at t p ≡ Some (bound_as, id_met m)
  pub binds : IsTrue (is_binding bound_as)
  pub refers : m.standing ≡ standing.Reference

abbrev pub IsMetAs : Node → List Path → List Region → Bool → Path → Met → Type 0
IsMetAs t scopes regions false p m = IsMetAt t scopes regions p m
IsMetAs t scopes regions true p m = IsUsedAt t p m

-- the name stands in the scope
abbrev pub IsInside : Node → Path → Use → Type 0
IsInside t s u = IsRound t s u.path ⊎ (IsTrue u.own × IsOwnName t s u.path)

abbrev pub IsBetween : Region → ℕ → Type 0
IsBetween r k = (r.start ≤ k) × (k < r.end)

-- the scopes, by their numbers, and the names, by their positions, have these paths
pub record IsPlaced (t : Node) (l : Laid) (scopes : List Path) (uses : List Use) : Type 0 where
  pub as_many_scopes : length scopes ≡ length l.regions
  pub as_many_uses : length uses ≡ length l.names
  pub met : (k : ℕ) (u : Use) (m : Met) → slice_get uses k ≡ Some u → slice_get l.names k ≡ Some m → IsMetAs t scopes l.regions u.own u.path m
  pub all_met : (p : Path) (r : Standing) (x : Id) → id_at t p ≡ Some (r, x) → IsTrue (is_name_or_label r) → Contains uses (at_path p)
  pub all_used : (s p : Path) (r : Standing) (x : Id) → id_at t p ≡ Some (r, x) → IsOwnName t s p → Contains uses (own_at p)
  pub inside : (n k : ℕ) (s : Path) (r : Region) (u : Use) → slice_get scopes n ≡ Some s → slice_get l.regions n ≡ Some r → slice_get uses k ≡ Some u → IsBetween r k ↔ IsInside t s u
  pub names_rise : (j k : ℕ) (p q : Path) → j < k → slice_get uses j ≡ Some (at_path p) → slice_get uses k ≡ Some (at_path q) → slice_cmp nat_cmp (turns (λ _. []) t p) (turns (λ _. []) t q) ≡ Less
  pub scopes_rise : (m n : ℕ) (s u : Path) → m < n → slice_get scopes m ≡ Some s → slice_get scopes n ≡ Some u → slice_cmp nat_cmp (turns entry t s) (turns entry t u) ≡ Less
  pub bounds : (n : ℕ) (r : Region) → slice_get l.regions n ≡ Some r → (r.start ≤ r.end) × (r.end ≤ length l.names)
  pub apart : (m n : ℕ) (r q : Region) → m < n → slice_get l.regions m ≡ Some r → slice_get l.regions n ≡ Some q → (r.start ≤ q.start) × ((q.end ≤ r.end) ⊎ (r.end ≤ q.start))

-- the layout of each tree is placed
abbrev pub EachLayoutIsPlaced : Type 0
EachLayoutIsPlaced = (t : Node) → (scopes : List Path) × (uses : List Use) × IsPlaced t (laid_out t) scopes uses
