-- What is left of a tree: its names keep what is round them, and a few are said again.
use Rattle.std.specs.Prelude.{◌≡◌, ◌≢◌, ℕ, true, ◌⊎◌, IsTrue, Some, List, [], ◌∷◌}
use Rattle.swc_tree_marks.specs.declared.ident.Ident.{Ident}
use Rattle.swc_tree_node.specs.declared.kind.Kind.{Kind}
use Rattle.swc_tree_node.specs.declared.node.Node.{Node, Identifier}
use Rattle.swc_tree_scoping.specs.declared.places.Standing.{Standing}
use Rattle.swc_tree_scoping.specs.declared.places.Standing.TheVariants as standing
use Rattle.swc_tree_scoping.specs.declared.places.Place.{Place}
use Rattle.swc_tree_scoping.specs.Places.{Path, place_at, program_place}
use Rattle.swc_tree_scoping.specs.Scopes.{is_reference, taker}
use Rattle.swc_tree_scoping.specs.WellScoped.{Binds}
use Rattle.swc_tree_renaming.specs.Apart.{SameId}
use Rattle.swc_tree_sites.specs.Sites.{Binding, Site, Sites, sites_of}

-- one of a list
abbrev pub In : {X : Type 0} → X → List X → Type 0
In x [] = ⊥
In x (y ∷ ys) = (y ≡ x) ⊎ In x ys

-- a list without some of its elements
abbrev pub Sub : {X : Type 0} → List X → List X → Type 0
Sub [] ys = Unit {0}
Sub (x ∷ xs) [] = ⊥
Sub (x ∷ xs) (y ∷ ys) = ((x ≡ y) × Sub xs ys) ⊎ Sub (x ∷ xs) ys

-- the same is pending, and of the names and sets some are gone
pub record Fewer (a b : Sites) : Type 0 where
  pub pending : a.pending ≡ b.pending
  pub sites : Sub a.sites b.sites
  pub sets : Sub a.sets b.sets

-- a tree without contexts and functions of sloppy blocks, in which what is bound is taken
pub record IsPlain (t : Node) : Type 0 where
  pub unmarked : (p : Path) (w : Place) (k : Kind) (i : Ident) → place_at program_place t p ≡ Some (w, Identifier k i) → i.ctxt ≡ []
  pub settled : (p : Path) (w : Place) (k : Kind) (i : Ident) → place_at program_place t p ≡ Some (w, Identifier k i) → w.standing ≢ standing.SloppyFunction
  pub takes : (p : Path) (r : Standing) (x : List ℕ) → Binds t p r x → (s : Path) × (taker r t p ≡ Some s)

-- a reference to what is bound beside it, as an export list has it: of the scopes round it one alone takes anything,
-- and among that is a binding of its id
pub record IsCopy (s : Site) : Type 0 where
  pub taken : List Binding
  pub way : Standing
  pub bound : Ident
  pub refers : IsTrue (is_reference s.0)
  pub env : s.2 ≡ (taken, true) ∷ []
  pub within : In (way, bound) taken
  pub same : SameId bound s.1

-- each name of the one is a name of the other, or a copy
abbrev pub AreKept : List Site → List Site → Type 0
AreKept xs ys = (s : Site) → In s xs → In s ys ⊎ IsCopy s

-- what is left of a tree: its names are names of the tree, with the same round them, or copies of what is declared
-- beside them, and each scope in it takes what one of the tree takes
pub record IsLeftOf (n t : Node) : Type 0 where
  pub names : AreKept (sites_of program_place n).sites (sites_of program_place t).sites
  pub scopes : Sub (sites_of program_place n).sets (sites_of program_place t).sets
