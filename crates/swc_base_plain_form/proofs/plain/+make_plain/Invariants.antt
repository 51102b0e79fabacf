use Rattle.std.proofs.Common.{◌≡◌, ℕ, ◌≤◌, get_or, length}
use Rattle.swc_tree_node.specs.declared.node.Node.{Node}
use Rattle.swc_base_plain_form.proofs.Past.{Past}
use Rattle.swc_base_plain_form.proofs.plain.+make_plain.Given as goal

abbrev pub invariant-make_parts_plain-loop-i : goal.invariant-make_parts_plain-loop-i
invariant-make_parts_plain-loop-i l = Past l.initial.leads l.leads l.is_body l.initial.items l.items l.i
    × ((length l.items ≡ length l.initial.items) × ((k : ℕ) (d : Node) → l.i ≤ k → get_or l.items k d ≡ get_or l.initial.items k d))
