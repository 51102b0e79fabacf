-- What becomes of the identifiers that name helpers, where each helper is an object whose member `_` is the function.
use Rattle.std.specs.Prelude.{ℕ, zero, suc, Bool, true, false, ◌&&◌, ◌==◌, List, [], ◌∷◌, slice_get, unwrap_or, option_map, codes, if◌then◌else◌}
use Rattle.swc_tree_marks.specs.declared.ident.Ident.{Ident}
use Rattle.swc_tree_node.specs.declared.kind.Kind.{Kind}
use Rattle.swc_tree_node.specs.declared.kind.Kind.TheVariants as kind
use Rattle.swc_tree_node.specs.declared.kind.Class.{Class}
use Rattle.swc_tree_node.specs.declared.slot.Content.{Content}
use Rattle.swc_tree_node.specs.declared.slot.Content.TheVariants as content
use Rattle.swc_tree_node.specs.declared.slot.Slot.{Slot}
use Rattle.swc_tree_node.specs.declared.slot.Slot.TheVariants as slot
use Rattle.swc_tree_node.specs.declared.slot.Role.{Role}
use Rattle.swc_tree_node.specs.declared.node.Node.{Node, Absent, Flag, Word, Text, Span, List as Many, Identifier, Tree, fold-Node}
use Rattle.swc_tree_node.specs.declared.node.Node.TheOpen.{Node-F}
use Rattle.swc_tree_node.specs.Table.{fields_of}
use Rattle.swc_tree_node.specs.Fits.{belongs}
use Rattle.swc_tree_scoping.specs.Shorthands.{shorthand_key}
use Rattle.swc_base_tables_injection.specs.declared.members.Seat.{Seat}
use Rattle.swc_base_tables_injection.specs.declared.members.Seat.TheVariants as seat

-- what an identifier is by the table: an expression where a member may stand in its place, a shorthand property where
-- one with a key may
abbrev pub in_class : Class → Seat
in_class c =
    if belongs kind.Ident c && belongs kind.MemberExpr c
    then seat.Expression
    else (if belongs kind.Ident c && belongs kind.KeyValueProp c then seat.Property else seat.Other)

abbrev pub in_content : Content → Seat
in_content (content.Node c) = in_class c
in_content _ = seat.Other

-- ... of an item, where a list stands
abbrev pub in_slot : Slot → Seat
in_slot (slot.One c) = in_content c
in_slot (slot.Optional c) = in_content c
in_slot (slot.List c) = in_content c
in_slot (slot.Holes c) = in_content c
in_slot (slot.OptionalList c) = in_content c
in_slot _ = seat.Other

-- the seat of a field, by the table
abbrev pub seat_among : List (List ℕ × Slot × Role) → ℕ → Seat
seat_among fields i = unwrap_or (option_map (λ f. in_slot f.1) (slice_get fields i)) seat.Other

abbrev pub field_seat : Kind → ℕ → Seat
field_seat k i = seat_among (fields_of k) i

-- the context is that of the one mark
abbrev pub has_only : ℕ → List ℕ → Bool
has_only mark (m ∷ []) = m == mark
has_only mark ms = false

-- `_throw._`, whose parts have the identifier's span
abbrev pub member_of : Ident → Node
member_of i = Tree kind.MemberExpr (Span i.span ∷ Identifier kind.Ident i ∷ Tree kind.IdentName (Span i.span ∷ Text (codes "_") ∷ []) ∷ [])

-- `_throw: _throw._`
abbrev pub property_of : Ident → Node
property_of i = Tree kind.KeyValueProp (shorthand_key i ∷ member_of i ∷ [])

abbrev pub helper_as : Bool → Seat → Kind → Ident → Node
helper_as true seat.Expression kind.Ident i = member_of i
helper_as true seat.Property kind.Ident i = property_of i
helper_as is_helper s k i = Identifier k i

abbrev pub each_at : (ℕ → Seat) → List (Seat → Node) → List Node
each_at seats [] = []
each_at seats (f ∷ fs) = f (seats zero) ∷ each_at (λ i. seats (suc i)) fs

abbrev pub member_step : ℕ → Node-F (Seat → Node) → Seat → Node
member_step helper Node-F.Absent s = Absent
member_step helper (Node-F.Flag x) s = Flag x
member_step helper (Node-F.Word w) s = Word w
member_step helper (Node-F.Text x) s = Text x
member_step helper (Node-F.Span x) s = Span x
member_step helper (Node-F.List fs) s = Many (each_at (λ i. s) fs)
member_step helper (Node-F.Identifier k i) s = helper_as (has_only helper i.ctxt) s k i
member_step helper (Node-F.Tree k fs) s = Tree k (each_at (field_seat k) fs)

-- the node in a seat, with the member `_` in place of each identifier expression, and a property with a key in place
-- of each shorthand, whose context is the helper mark's
abbrev pub membered : ℕ → Seat → Node → Node
membered helper s t = fold-Node (Seat → Node) (member_step helper) t s

-- the same of a whole program
abbrev pub with_members : ℕ → Node → Node
with_members helper t = membered helper seat.Other t
