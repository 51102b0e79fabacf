use Rattle.std.proofs.Common.{◌≡◌, ◌+◌, ◌*◌, drop, map}
use Rattle.json.specs.Tree.{depth, items_depth, members_depth}
use Rattle.json.specs.Value.{value_view, items_view}
use Rattle.jsbase_form.specs.Trees.{items_seen, members_seen, fields_at}
use Rattle.jsbase_reader.specs.Parts.{members_in}
use Rattle.jsbase_reader.proofs.Loops.{after}
use Rattle.jsbase_reader.proofs.nodes.+read.Given as goal

abbrev pub decreases-read_value : goal.decreases-read_value
decreases-read_value l = 4 * depth (value_view l.value.now)

abbrev pub decreases-read_list : goal.decreases-read_list
decreases-read_list l = 4 * items_depth (items_view l.values.now) + 1

abbrev pub decreases-read_node : goal.decreases-read_node
decreases-read_node l = 4 * members_depth (members_in (value_view l.object.now)) + 3

abbrev pub decreases-read_tree : goal.decreases-read_tree
decreases-read_tree l = 4 * members_depth (members_in (value_view l.object.now)) + 2

abbrev pub decreases-read_member : goal.decreases-read_member
decreases-read_member l = 4 * members_depth (members_in (value_view l.object.now)) + 1

abbrev pub invariant-read_list-loop-i : goal.invariant-read_list-loop-i
invariant-read_list-loop-i l = items_seen l.globals 0 (items_view l.values) l.slot ≡ after l.nodes (items_seen l.globals l.i (items_view (drop l.i l.values)) l.slot)

abbrev pub invariant-read_tree-loop-field : goal.invariant-read_tree-loop-field
invariant-read_tree-loop-field l =
    let keys = members_seen l.globals (members_in (value_view l.object)) in
    let rest = drop l.field-index l.fields in
    fields_at keys (map (λ f. (f.key.now, f.slot, f.role)) l.fields) ≡ after l.nodes (fields_at keys (map (λ f. (f.key.now, f.slot, f.role)) rest))
