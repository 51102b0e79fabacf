-- The walk with paths, at a node and at its children.
use Rattle.std.proofs.Common.{◌≡◌, ℕ, zero, suc, List, [], ◌∷◌, refl, ap, ◌∙◌}
use Rattle.std.specs.List.{slice_get}
use Rattle.std.specs.Option.{option_map}
use Rattle.swc_tree_node.specs.declared.node.Node.{Node, out-Node}
use Rattle.swc_tree_scoping.specs.declared.places.Place.{Place}
use Rattle.swc_tree_scoping.specs.Folds.{each_in}
use Rattle.swc_tree_scoping.specs.Places.{children_in, place_below}
use Rattle.swc_tree_scoping.proofs.Under.{fold_in_place_out}
use Rattle.swc_base_rename_analysis.specs.Walk.{walk_in, walk_layer, walks_at}
use Rattle.swc_base_rename_analysis_laws.proofs.Marked.{marked_in, marked_layer, marked_walks_at}

each_got : {A : Type 0} (g : Place → Node → A) (places : ℕ → Place) (ts : List Node) (i : ℕ) → slice_get (each_in g places ts) i ≡ option_map (g (places i)) (slice_get ts i)
each_got g places [] i = refl
each_got g places (t ∷ ts) zero = refl
each_got g places (t ∷ ts) (suc i) = each_got g (λ i. places (suc i)) ts i

pub walk_at : (w : Place) (t : Node) → walk_in w t ≡ walk_layer w (out-Node t) (walks_at (place_below w t) (children_in (out-Node t)))
walk_at w t =
    fold_in_place_out (λ w t walks. walk_layer w (out-Node t) (slice_get walks)) w t
    ∙ ap (walk_layer w (out-Node t)) (λ j i. each_got walk_in (place_below w t) (children_in (out-Node t)) i j)

pub marked_at : (w : Place) (t : Node) → marked_in w t ≡ marked_layer w (out-Node t) (marked_walks_at (place_below w t) (children_in (out-Node t)))
marked_at w t =
    fold_in_place_out (λ w t walks. marked_layer w (out-Node t) (slice_get walks)) w t
    ∙ ap (marked_layer w (out-Node t)) (λ j i. each_got marked_in (place_below w t) (children_in (out-Node t)) i j)
