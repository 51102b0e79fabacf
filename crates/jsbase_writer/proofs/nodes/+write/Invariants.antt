use Rattle.std.proofs.Common.{◌≡◌, ◌≤◌, ◌+◌, ◌*◌, ◌++◌, map, drop, IsTrue}
use Rattle.json.specs.Value.{items_of}
use Rattle.jsbase_form.specs.Known.{all_of, numbers_short}
use Rattle.jsbase_form.specs.Writing.{json}
use Rattle.jsbase_writer.specs.Members.{height, greatest, tallest, members_data, MembersShort}
use Rattle.jsbase_writer.specs.Order.{order_of}
use Rattle.jsbase_writer.specs.Ordered.{members_at, ShortAt}
use Rattle.jsbase_writer.specs.Tokens.{tokens_of_items, tokens_of_members}
use Rattle.jsbase_writer.proofs.nodes.+write.Given as goal

abbrev pub decreases-write_value : goal.decreases-write_value
decreases-write_value l = 3 * height l.node.now

abbrev pub decreases-write_all : goal.decreases-write_all
decreases-write_all l = 3 * greatest (map height l.nodes.now) + 1

abbrev pub decreases-write_sorted : goal.decreases-write_sorted
decreases-write_sorted l = 3 * greatest (map height l.nodes.now) + 2

abbrev pub decreases-write_members : goal.decreases-write_members
decreases-write_members l = 3 * tallest l.members.now + 1

abbrev pub decreases-write_in_order : goal.decreases-write_in_order
decreases-write_in_order l = 3 * greatest (map height l.nodes.now) + 1

abbrev pub invariant-write_in_order-loop-number : goal.invariant-write_in_order-loop-number
invariant-write_in_order-loop-number l =
    let order = order_of l.kind in
    let rest = drop l.number-index order in
    (l.fn.out.tokens ++ tokens_of_members (members_at l.kind l.nodes order) ≡ l.out.tokens ++ tokens_of_members (members_at l.kind l.nodes rest))
    × (l.out.before ≡ l.fn.out.before) × (ShortAt l.nodes rest → ShortAt l.nodes order)

abbrev pub invariant-write_all-loop-node : goal.invariant-write_all-loop-node
invariant-write_all-loop-node l =
    let rest = drop l.node-index l.nodes in
    (l.fn.out.tokens ++ tokens_of_items (items_of (map json l.nodes)) ≡ l.out.tokens ++ tokens_of_items (items_of (map json rest)))
    × (l.out.before ≡ l.fn.out.before) × (greatest (map height rest) ≤ greatest (map height l.nodes))
    × (IsTrue (all_of (map numbers_short rest)) → IsTrue (all_of (map numbers_short l.nodes)))

abbrev pub invariant-write_members-loop-member : goal.invariant-write_members-loop-member
invariant-write_members-loop-member l =
    let rest = drop l.member-index l.members in
    (l.fn.out.tokens ++ tokens_of_members (members_data l.members) ≡ l.out.tokens ++ tokens_of_members (members_data rest))
    × (l.out.before ≡ l.fn.out.before) × (tallest rest ≤ tallest l.members) × (MembersShort rest → MembersShort l.members)
