use Rattle.std.proofs.Common.{◌≡◌}
use Rattle.swc_tree_scoping.specs.Below.{places_of}
use Rattle.swc_base_rename_analysis.specs.Walk.{child_at, goes, in_turn, laid_of, outside_of, round_item, walk_but, walks_at}
use Rattle.swc_base_rename_analysis.proofs.walk.+walk.Given as goal

abbrev pub invariant-walk_items-loop-i : goal.invariant-walk_items-loop-i
invariant-walk_items-loop-i l = laid_of l.layout ≡ in_turn (λ i. goes (walks_at (places_of l.places l.items) l.items i) (round_item (outside_of l.around))) l.i (laid_of l.initial.layout)

abbrev pub invariant-walk_fields-loop-turn : goal.invariant-walk_fields-loop-turn
invariant-walk_fields-loop-turn l =
    laid_of l.layout ≡ in_turn (λ i. walk_but l.head.kind l.fields (walks_at (places_of l.head.places l.fields) l.fields) l.but (child_at l.head.kind i) (outside_of l.around)) l.turn (laid_of l.initial.layout)
