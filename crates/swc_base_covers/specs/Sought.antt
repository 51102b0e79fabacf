-- What a search for a cause goes through.
use Rattle.std.specs.Prelude.{◌≡◌, ◌<◌, ◌⊎◌, ◌++◌, ℕ, Bool, true, false, Some, List, ◌∷◌, slice_get}
use Rattle.swc_tree_node.specs.declared.node.Node.{Node}
use Rattle.swc_tree_scoping.specs.declared.below.PlacesBelow.{PlacesBelow}
use Rattle.swc_tree_scoping.specs.declared.places.Place.{Place}
use Rattle.swc_tree_scoping.specs.Below.{places_of}
use Rattle.swc_tree_scoping.specs.Places.{Path}
use Rattle.swc_base_covers.specs.Shown.{ComesBefore, ShownAt, ShownFirst}
use Rattle.swc_base_covers.specs.declared.gap.Cause.{Cause}

-- the path goes on to where the cause shows first in a tree; or it stays, and it shows nowhere
abbrev pub IsSought : Cause → Place → Node → List ℕ → List ℕ → Bool → Type 0
IsSought c w t old new true = (p : Path) × (new ≡ old ++ p) × ShownFirst c w t p
IsSought c w t old new false = (new ≡ old) × ((p : Path) → ¬ ShownAt c w t p)

-- it shows in the child of a number
abbrev pub ShownBelow : Cause → PlacesBelow → List Node → ℕ → Path → Type 0
ShownBelow c w ts i p = (t : Node) × (slice_get ts i ≡ Some t) × ShownAt c (places_of w ts i) t p

pub record FirstBelow (c : Cause) (w : PlacesBelow) (ts : List Node) (i : ℕ) (p : Path) : Type 0 where
  pub here : ShownBelow c w ts i p
  pub first : (j : ℕ) (q : Path) → (j < i) ⊎ ((j ≡ i) × ComesBefore q p) → ¬ ShownBelow c w ts j q

-- ... of the children of a node
abbrev pub IsSoughtBelow : Cause → PlacesBelow → List Node → List ℕ → List ℕ → Bool → Type 0
IsSoughtBelow c w ts old new true = (i : ℕ) × (p : Path) × (new ≡ old ++ i ∷ p) × FirstBelow c w ts i p
IsSoughtBelow c w ts old new false = (new ≡ old) × ((i : ℕ) (p : Path) → ¬ ShownBelow c w ts i p)
