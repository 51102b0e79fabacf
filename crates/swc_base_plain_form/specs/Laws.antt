-- What a plain form keeps.
use Rattle.std.specs.Prelude.{◌≡◌, false, IsTrue, is_some}
use Rattle.swc_tree_node.specs.declared.node.Node.{Node}
use Rattle.swc_tree_node.specs.declared.slot.Slot.{Slot}
use Rattle.swc_tree_node.specs.Fits.{Fits}
use Rattle.swc_tree_scoping.specs.Places.{Path}
use Rattle.swc_tree_scoping.specs.WellScoped.{IsClean}
use Rattle.swc_tree_spaces.specs.Spaces.{has_types}
use Rattle.swc_tree_walk.specs.Nodes.{node_at}
use Rattle.swc_base_plain_form.specs.PlainForm.{plain_form}

-- a plain form stands where the tree may
abbrev pub PlainFormFits : Type 0
PlainFormFits = (t : Node) (s : Slot) → Fits t s → Fits (plain_form t) s

-- no context comes in
abbrev pub PlainFormIsClean : Type 0
PlainFormIsClean = (t : Node) → IsClean t → IsClean (plain_form t)

-- nor do types
abbrev pub PlainFormAddsNoTypes : Type 0
PlainFormAddsNoTypes = (t : Node) → has_types t ≡ false → has_types (plain_form t) ≡ false

-- nor do places: where something stands in a plain form, something stands in the tree
abbrev pub PlainFormAddsNoPlaces : Type 0
PlainFormAddsNoPlaces = (t : Node) (p : Path) → IsTrue (is_some (node_at (plain_form t) p)) → IsTrue (is_some (node_at t p))
