use Rattle.std.proofs.Common.{sym, ◌∙◌}
use Rattle.swc_base_fixer_unparen.proofs.Each.{added_as}
use Rattle.swc_base_fixer_unparen.proofs.Found.{fields_inside, inside_other, inside_sides, items_inside, items_pairs, own_and_inside}
use Rattle.swc_base_fixer_unparen.proofs.pairs.+pairs.Goals as goal

pub add_pairs-returns-in_ok-add_inside-in-Tree : goal.add_pairs-returns-in_ok-add_inside-in-Tree
add_pairs-returns-in_ok-add_inside-in-Tree t c =
    own_and_inside _ _ _ _ _ _ _ c.in-Tree.is c.as_slice-fields.ensures c.in_ok-add_own-in-Tree.ensures c.in_ok-add_inside-in-Tree.ensures

pub add_pairs-returns-in-List : goal.add_pairs-returns-in-List
add_pairs-returns-in-List t c = added_as c.add_each.result _ _ _ _ (items_pairs c.args.node.now c.in-List.items c.as_slice.result.now c.in-List.is c.as_slice.ensures) c.add_each.ensures

pub add_below-returns-in-List : goal.add_below-returns-in-List
add_below-returns-in-List t c = added_as c.add_each.result _ _ _ _ (items_inside c.args.node.now c.in-List.items c.as_slice.result.now c.in-List.is c.as_slice.ensures) c.add_each.ensures

pub add_below-returns-in-Tree : goal.add_below-returns-in-Tree
add_below-returns-in-Tree t c =
    added_as c.add_inside.result _ _ _ _ (fields_inside c.args.node.now c.in-Tree.kind c.in-Tree.fields c.as_slice-in-Tree.result.now c.in-Tree.is c.as_slice-in-Tree.ensures) c.add_inside.ensures

pub add_inside-returns-in_ok-add_pairs : goal.add_inside-returns-in_ok-add_pairs
add_inside-returns-in_ok-add_pairs t c =
    inside_sides c.args.kind c.args.fields.now c.index-fields-2.result c.index-fields-3.result _ _ _ (sym c.is_assignment.ensures ∙ c.if-is_assignment.true) c.index-fields-2.is c.index-fields-3.is
    c.in_ok-add_below.ensures c.in_ok-add_pairs.ensures

pub add_inside-returns-else-is_assignment : goal.add_inside-returns-else-is_assignment
add_inside-returns-else-is_assignment t c =
    added_as c.add_each.result _ _ _ _ (sym (inside_other c.args.kind c.args.fields.now (sym c.is_assignment.ensures ∙ c.if-is_assignment.false))) c.add_each.ensures
