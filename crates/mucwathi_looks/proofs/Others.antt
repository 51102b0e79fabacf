-- What is behind an item that was set is as it was.
use Rattle.std.proofs.Common.{◌≡◌, ℕ, zero, suc, ◌<◌, List, [], ◌∷◌, slice_set, get_or, refl, arith}
use Rattle.swc_tree_node.specs.declared.node.Node.{Node}

pub set_other : (ts : List Node) (i k : ℕ) (t d : Node) → i < k → get_or (slice_set ts i t) k d ≡ get_or ts k d
set_other [] zero k t d h = refl
set_other [] (suc i) k t d h = refl
set_other (x ∷ ts) zero (suc k) t d h = refl
set_other (x ∷ ts) (suc i) (suc k) t d h = set_other ts i k t d (omega (arith, h))
set_other (x ∷ ts) zero zero t d h = absurd (omega (arith, h))
set_other (x ∷ ts) (suc i) zero t d h = absurd (omega (arith, h))
