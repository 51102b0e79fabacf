-- The places of fields but for a name in the second.
use Rattle.std.proofs.Common.{◌≡◌, ℕ, zero, suc, Bool, refl}
use Rattle.swc_tree_node.specs.declared.kind.Kind.{Kind}
use Rattle.swc_base_rename_substitution.specs.declared.place.Place.{Place}
use Rattle.swc_base_rename_substitution.specs.declared.place.Below.TheVariants as below
use Rattle.swc_base_rename_substitution.specs.Places.{place_below}
use Rattle.swc_tree_scoping.specs.Places.{field_role}
use Rattle.swc_base_rename_substitution.specs.Walk.{place_in}

pub others_at : (keeps : Bool) (p : Place) (s : Bool) (k : Kind) (i : ℕ) → (i ≡ 1 → ⊥) → place_in keeps (below.Others p s k) i ≡ place_below keeps p s k (field_role k i)
others_at keeps p s k zero h = refl
others_at keeps p s k (suc zero) h = absurd (h refl)
others_at keeps p s k (suc (suc i)) h = refl
