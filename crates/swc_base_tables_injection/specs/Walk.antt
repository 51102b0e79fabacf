-- Words for the parts of the walk.
use Rattle.std.specs.Prelude.{ℕ, List, map}
use Rattle.swc_tree_node.specs.declared.node.Node.{Node, fold-Node}
use Rattle.swc_base_tables_injection.specs.declared.members.Seat.{Seat}
use Rattle.swc_base_tables_injection.specs.declared.members.Below.{Below}
use Rattle.swc_base_tables_injection.specs.declared.members.Below.TheVariants as below
use Rattle.swc_base_tables_injection.specs.Members.{each_at, field_seat, member_step}

-- the seats of a list's items, or of a node's fields
abbrev pub seats : Below → ℕ → Seat
seats (below.Items s) i = s
seats (below.Fields k) i = field_seat k i

-- each node in its seat
abbrev pub each_membered : ℕ → (ℕ → Seat) → List Node → List Node
each_membered helper seats ts = each_at seats (map (fold-Node (Seat → Node) (member_step helper)) ts)
