-- The field that is taken out of a node.
use Rattle.std.proofs.Common.{◌≡◌, ℕ, List, ◌∷◌, Some}
use Rattle.std.specs.List.{slice_get}
use Rattle.swc_tree_node.specs.declared.node.Node.{Node}

-- the field that is taken out at an index which is known
pub second_is : (a b : Node) (ts : List Node) (i : ℕ) (e : Node) → Some 1 ≡ Some i → slice_get (a ∷ b ∷ ts) i ≡ Some e → (1 ≡ i) × (b ≡ e)
second_is a b ts i e h g = let here : 1 ≡ i = cc in let found = rw (← here) at g in (here, cc)

pub third_is : (a b c : Node) (ts : List Node) (i : ℕ) (e : Node) → Some 2 ≡ Some i → slice_get (a ∷ b ∷ c ∷ ts) i ≡ Some e → (2 ≡ i) × (c ≡ e)
third_is a b c ts i e h g = let here : 2 ≡ i = cc in let found = rw (← here) at g in (here, cc)

pub fourth_is : (a b c d : Node) (ts : List Node) (i : ℕ) (e : Node) → Some 3 ≡ Some i → slice_get (a ∷ b ∷ c ∷ d ∷ ts) i ≡ Some e → (3 ≡ i) × (d ≡ e)
fourth_is a b c d ts i e h g = let here : 3 ≡ i = cc in let found = rw (← here) at g in (here, cc)
