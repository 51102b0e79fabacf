use Rattle.std.proofs.Common.{◌≡◌, ◌++◌, map, take}
use Rattle.std.specs.List.{flat_map}
use Rattle.swc_tree_scoping.specs.Places.{field_role}
use Rattle.swc_tree_scoping.specs.BoundNames.{bound_ids, in_parts}
use Rattle.swc_tree_scoping.proofs.bound.+bound.Given as goal

abbrev pub invariant-add_bound_in_items-loop-item : goal.invariant-add_bound_in_items-loop-item
invariant-add_bound_in_items-loop-item l = l.ids ≡ l.initial.ids ++ flat_map bound_ids (take l.item-index l.items)

abbrev pub invariant-add_bound_in_fields-loop-i : goal.invariant-add_bound_in_fields-loop-i
invariant-add_bound_in_fields-loop-i l = l.ids ≡ l.initial.ids ++ in_parts (field_role l.kind) (map bound_ids (take l.i l.fields))
