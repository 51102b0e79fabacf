-- Laws of the definitions.
use Rattle.std.specs.Prelude.{◌≡◌, ◌<◌, ℕ, Bool, true, false, ◌⊎◌, Option, Some, List, [], ◌∷◌, Contains}
use Rattle.std.specs.declared.cmp.Ordering.TheVariants.{Equal}
use Rattle.std.specs.Cmp.{IsTotalOrder}
use Rattle.swc_tree_node.specs.declared.kind.Kind.{Kind}
use Rattle.swc_tree_node.specs.declared.kind.Kind.TheVariants as kind
use Rattle.swc_tree_node.specs.declared.node.Node.{Node, Tree, out-Node}
use Rattle.swc_tree_scoping.specs.declared.places.Place.{Place}
use Rattle.swc_tree_scoping.specs.Places.{Path, child, given, place_at, program_place}
use Rattle.swc_tree_scoping.specs.Scopes.{rounds}
use Rattle.swc_tree_scoping.specs.BoundNames.{Id}
use Rattle.swc_base_rename_analysis.specs.Analysis.{Declares, IsRound, RenameCost, is_for_body}
use Rattle.swc_base_rename_analysis.specs.Named.{Counting, IsNamedAt, IsSpent, Named, Renaming, all_count, outer_count}
use Rattle.swc_base_rename_analysis.specs.Order.{Site, site_cmp}
use Rattle.swc_base_rename_analysis.specs.Preserved.{IsPreserved}

-- two maps that are named alike are one
abbrev pub FixesTheMap : Node → Renaming → (List ℕ → Type 0) → Counting → Type 0
FixesTheMap t r preserved counts = (m n : Id → Option (List ℕ)) → Named t r preserved counts m → Named t r preserved counts n → (x : Id) → m x ≡ n x

-- a tree and a renamer leave one map, where all names count, and where only those of a scope and of the scopes round it do
abbrev pub NamedFixesTheMap : Type 0
NamedFixesTheMap = (t : Node) (r : Renaming) → FixesTheMap t r (IsPreserved t r.preserves) all_count × FixesTheMap t r (IsPreserved t r.preserves) (outer_count t)

-- where a map is named by counters below a bound, the counters are not spent at it
abbrev pub NotSpent : Node → Renaming → (List ℕ → Type 0) → Counting → Type 0
NotSpent t r preserved counts = (m : Id → Option (List ℕ)) (bound : ℕ) (named : Named t r preserved counts m) → ((a : Site) (x : Id) → IsNamedAt t r a x → named.taken x < bound) → ¬ IsSpent t r preserved counts bound

abbrev pub NamedIsNotSpent : Type 0
NamedIsNotSpent = (t : Node) (r : Renaming) → NotSpent t r (IsPreserved t r.preserves) all_count × NotSpent t r (IsPreserved t r.preserves) (outer_count t)

-- sites are in a total order, in which no two that declare an id are level
pub record SitesAreInOrder (t : Node) : Type 0 where
  pub total : IsTotalOrder (site_cmp t)
  pub none_level : (a b : Site) (x y : Id) → Declares t a.0 a.1 x → Declares t b.0 b.1 y → site_cmp t a b ≡ Equal → a ≡ b

abbrev pub EachTreesSitesAreInOrder : Type 0
EachTreesSitesAreInOrder = (t : Node) → SitesAreInOrder t

-- a scope costs one number
abbrev pub CostIsOne : Type 0
CostIsOne = (t : Node) (s : Path) (one other : ℕ) → RenameCost t s one → RenameCost t s other → one ≡ other

-- scopes of the language that are none of the analysis: the cases of a `switch`, the block of a function that is a branch of
-- an `if`, and what an interface, an alias or an enum opens, where no name of a value is bound
abbrev pub is_left_out : Kind → Bool
is_left_out kind.SwitchStmt = true
is_left_out kind.FnDecl = true
is_left_out kind.TsInterfaceDecl = true
is_left_out kind.TsTypeAliasDecl = true
is_left_out kind.TsEnumDecl = true
is_left_out _ = false

-- a scope of the language that stands round a path is one of the analysis there
abbrev pub KeepsScopes : Type 0
KeepsScopes = (t : Node) (s p : Path) (whole : Bool) (w : Place) (k : Kind) (ts : List Node)
    → Contains (rounds program_place t p) (s, whole) → place_at program_place t s ≡ Some (w, Tree k ts) → is_left_out k ≡ false → IsRound t s p

-- the node at a path is the body of a `for` statement
abbrev pub is_body_at : Bool → Node → Path → Bool
is_body_at for_body t [] = for_body
is_body_at for_body t (i ∷ s) = given (child t i) false (λ c. is_body_at (is_for_body (out-Node t) i) c s)

-- a scope of the analysis that stands round a path is one of the language there, or that of a class expression, or the
-- body of a `for` statement
abbrev pub AddsFew : Type 0
AddsFew = (t : Node) (s p : Path) (w : Place) (k : Kind) (ts : List Node) → IsRound t s p → place_at program_place t s ≡ Some (w, Tree k ts)
    → ((whole : Bool) × Contains (rounds program_place t p) (s, whole)) ⊎ ((k ≡ kind.ClassExpr) ⊎ (is_body_at false t s ≡ true))
