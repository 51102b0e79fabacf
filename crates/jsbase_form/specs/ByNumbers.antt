-- Paths by the numbers of children, as steps from JSON values into parts.
use Rattle.std.specs.Prelude.{ℕ, List, [], ◌∷◌, Option, Some, None}
use Rattle.std.specs.List.{slice_get}
use Rattle.swc_tree_node.specs.declared.node.Node.{Node, out-Node}
use Rattle.swc_tree_node.specs.declared.node.Node.TheOpen.{Node-F}
use Rattle.swc_tree_node.specs.declared.slot.Role.{Role}
use Rattle.swc_tree_node.specs.declared.slot.Slot.{Slot}
use Rattle.swc_tree_node.specs.Parts.{children_of}
use Rattle.swc_tree_node.specs.Table.{fields_of}
use Rattle.jsbase_form.specs.Reads.{Part, Path, key, index}

-- a field by its key
abbrev pub part_of_field : Option (List ℕ × Slot × Role) → ℕ → Part
part_of_field (Some f) i = key f.0
part_of_field None i = index i

-- the child of a number: a field, or an item of a list
abbrev pub part_in : Node-F Node → ℕ → Part
part_in (Node-F.Tree k ts) i = part_of_field (slice_get (fields_of k) i) i
part_in _ i = index i

-- what a child leads to, if it stands there
abbrev pub led_by : Option Node → (Node → Path) → Path
led_by None f = []
led_by (Some t) f = f t

-- the parts that numbers of children lead over, as far as children stand there
abbrev pub parts_to : Node → List ℕ → Path
parts_to t [] = []
parts_to t (i ∷ numbers) = part_in (out-Node t) i ∷ led_by (slice_get (children_of t) i) (λ c. parts_to c numbers)
