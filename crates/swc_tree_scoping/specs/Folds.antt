-- Folds that know the place of each node.
use Rattle.std.specs.Prelude.{ℕ, zero, suc, List, [], ◌∷◌}
use Rattle.swc_tree_node.specs.declared.node.Node.{Node, roll-Node, map-Node, fold-Node}
use Rattle.swc_tree_node.specs.declared.node.Node.TheOpen.{Node-F}
use Rattle.swc_tree_scoping.specs.declared.places.Place.{Place}
use Rattle.swc_tree_scoping.specs.Places.{children_in, place_below}

-- each in its place
abbrev pub each_in : {X A : Type 0} → (Place → X → A) → (ℕ → Place) → List X → List A
each_in g places [] = []
each_in g places (x ∷ xs) = g (places zero) x ∷ each_in g (λ i. places (suc i)) xs

-- a node, and what is made of it in a place
pub record InPlace (A : Type 0) : Type 0 where
  pub node : Node
  pub made : Place → A

abbrev pub place_step : {A : Type 0} → (Place → Node → List A → A) → Node-F (InPlace A) → InPlace A
place_step {A = A} step y = record {
  node = roll-Node (map-Node (InPlace A) Node (λ c. c.node) y);
  made = λ w. step w (roll-Node (map-Node (InPlace A) Node (λ c. c.node) y)) (each_in (λ v c. c.made v) (place_below w (roll-Node (map-Node (InPlace A) Node (λ c. c.node) y))) (children_in y));
}

-- what a step makes of a node in its place and of what it made of the node's children, each in its own place
abbrev pub fold_in_place : {A : Type 0} → (Place → Node → List A → A) → Place → Node → A
fold_in_place {A = A} step w t = (fold-Node (InPlace A) (place_step step) t).made w
