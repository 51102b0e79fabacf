-- What a place takes, and what a node of one kind is read as.
use Rattle.std.specs.Prelude.{ℕ, List, Ok, ◌==◌, if◌then◌else◌, Option, Some, None}
use Rattle.json.specs.Json.{Json, object, Members, no_members}
use Rattle.swc_tree_node.specs.declared.kind.Class.{Class}
use Rattle.swc_tree_node.specs.declared.kind.Kind.{Kind}
use Rattle.swc_tree_node.specs.declared.node.Node.{Node, Identifier, Tree}
use Rattle.swc_tree_node.specs.declared.slot.Content.TheVariants as content
use Rattle.swc_tree_node.specs.declared.slot.Slot.{Slot}
use Rattle.swc_tree_node.specs.declared.slot.Slot.TheVariants as slot
use Rattle.swc_tree_marks.specs.declared.ident.Ident.{Ident}
use Rattle.jsbase_form.specs.Reads.{Read, ◌>>=◌}

-- the place of each of so many items, if the place takes a list of so many
abbrev pub item_slot : Slot → ℕ → Option Slot
item_slot (slot.List c) n = Some (slot.One c)
item_slot (slot.OptionalList c) n = Some (slot.One c)
item_slot (slot.Holes c) n = Some (slot.Optional c)
item_slot slot.Pair n = if n == 2 then Some (slot.One content.Text) else None
item_slot slot.Pairs n = Some slot.Pair
item_slot _ n = None

-- the class of the node that a place takes, if it takes one
abbrev pub class_in : Slot → Option Class
class_in (slot.One (content.Node c)) = Some c
class_in (slot.Optional (content.Node c)) = Some c
class_in _ = None

abbrev pub identifier_of : Kind → Read Ident → Read Node
identifier_of k ident = ident >>= (λ i. Ok (Identifier k i))

abbrev pub tree_of : Kind → Read (List Node) → Read Node
tree_of k fields = fields >>= (λ ts. Ok (Tree k ts))

-- the members of an object; other values have none
abbrev pub members_in : Json → Members
members_in (object ms) = ms
members_in _ = no_members
