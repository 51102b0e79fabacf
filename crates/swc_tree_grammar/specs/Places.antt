-- Places where parentheses may go.
use Rattle.std.specs.Prelude.{Bool, true, not, ◌&&◌, ◌||◌, Option, Some, None}
use Rattle.std.specs.List.{list_all}
use Rattle.swc_tree_node.specs.declared.kind.Kind.TheVariants as kind
use Rattle.swc_tree_node.specs.declared.kind.Class.{Class}
use Rattle.swc_tree_node.specs.declared.kind.Class.TheVariants as class
use Rattle.swc_tree_node.specs.declared.slot.Content.{Content}
use Rattle.swc_tree_node.specs.declared.slot.Content.TheVariants as content
use Rattle.swc_tree_node.specs.declared.slot.Slot.{Slot}
use Rattle.swc_tree_node.specs.declared.slot.Slot.TheVariants as slot
use Rattle.swc_tree_node.specs.Table.{kinds_of}
use Rattle.swc_tree_node.specs.Fits.{belongs}

-- each kind of the one class is one of the other
abbrev pub takes_all : Class → Class → Bool
takes_all c d = list_all (λ k. belongs k d) (kinds_of c)

-- what stands in a place, one or many
abbrev pub content_of : Slot → Option Content
content_of (slot.One c) = Some c
content_of (slot.Optional c) = Some c
content_of (slot.List c) = Some c
content_of (slot.Holes c) = Some c
content_of (slot.OptionalList c) = Some c
content_of _ = None

abbrev pub open_content : Option Content → Bool
open_content (Some (content.Node c)) = (not (belongs kind.ParenExpr c) && not (belongs kind.SeqExpr c)) || takes_all class.Expr c
open_content _ = true

-- a place that takes parentheses or sequences takes any expression: so do all but that of a target
abbrev pub is_open : Slot → Bool
is_open s = open_content (content_of s)
