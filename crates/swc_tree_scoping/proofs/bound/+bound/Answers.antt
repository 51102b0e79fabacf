use Rattle.std.proofs.Common.{map, take, arith, subst}
use Rattle.std.specs.List.{flat_map}
use Rattle.swc_tree_scoping.specs.Places.{field_role}
use Rattle.swc_tree_scoping.specs.BoundNames.{bound_ids, in_part, in_parts, PartlyAdded}
use Rattle.swc_tree_scoping.proofs.BoundNames.{one_more, added_next, items_split, parts_split, on_err}
use Rattle.swc_tree_scoping.proofs.bound.+bound.Goals as goal

pub add_bound_in_items-returns-in_err-add_bound_ids-clause-err : goal.add_bound_in_items-returns-in_err-add_bound_ids-clause-err
add_bound_in_items-returns-in_err-add_bound_ids-clause-err t c =
    let split = items_split c.args.items.now c.loop-item.item-index c.item-item.result (omega arith) c.item-item.is in
    on_err c.from_residual.result (added_next c.args.ids.now c.loop-item.ids c.add_bound_ids.new.ids (flat_map bound_ids c.args.items.now) (bound_ids c.item-item.result)
    (flat_map bound_ids (take c.loop-item.item-index c.args.items.now)) split.0 split.1 c.loop-item.invariant c.in_err-add_bound_ids.ensures.err)

pub add_bound_in_fields-loop-i-preserved : goal.add_bound_in_fields-loop-i-preserved
add_bound_in_fields-loop-i-preserved t c =
    one_more (field_role c.args.kind) c.args.fields.now c.loop-i.i c.index-fields-i.result c.role_of_field.result c.args.ids.now c.loop-i.ids c.add_bound_in_field.new.ids
    (omega arith) c.index-fields-i.is c.role_of_field.ensures c.loop-i.invariant c.in_ok-add_bound_in_field.ensures.ok

pub add_bound_in_fields-returns-in_err-add_bound_in_field-clause-err : goal.add_bound_in_fields-returns-in_err-add_bound_in_field-clause-err
add_bound_in_fields-returns-in_err-add_bound_in_field-clause-err t c =
    let split = parts_split (field_role c.args.kind) c.args.fields.now c.loop-i.i c.index-fields-i.result (omega arith) c.index-fields-i.is in
    on_err c.from_residual.result (added_next c.args.ids.now c.loop-i.ids c.add_bound_in_field.new.ids (in_parts (field_role c.args.kind) (map bound_ids c.args.fields.now)) (in_part (field_role c.args.kind c.loop-i.i) (bound_ids c.index-fields-i.result))
    (in_parts (field_role c.args.kind) (map bound_ids (take c.loop-i.i c.args.fields.now))) split.0 split.1 c.loop-i.invariant
    (subst (λ r. PartlyAdded c.loop-i.ids (in_part r (bound_ids c.index-fields-i.result)) c.add_bound_in_field.new.ids) c.role_of_field.ensures c.in_err-add_bound_in_field.ensures.err))
