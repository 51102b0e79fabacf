-- Where there is room for what is written out.
use Rattle.std.proofs.Common.{◌≡◌, Bool, true, false, not, ◌&&◌, IsTrue, Option, Some, List, map, refl, rules, arith}
use Rattle.std.specs.List.{list_all}
use Rattle.swc_tree_marks.specs.declared.ident.Ident.{Ident}
use Rattle.swc_tree_node.specs.declared.kind.Kind.{Kind}
use Rattle.swc_tree_node.specs.declared.kind.Kind.TheVariants as kind
use Rattle.swc_tree_node.specs.declared.kind.Class.{Class}
use Rattle.swc_tree_node.specs.declared.slot.Content.{Content}
use Rattle.swc_tree_node.specs.declared.slot.Content.TheVariants as content
use Rattle.swc_tree_node.specs.declared.slot.Slot.{Slot}
use Rattle.swc_tree_node.specs.declared.slot.Slot.TheVariants as slot
use Rattle.swc_tree_node.specs.declared.slot.Role.{Role}
use Rattle.swc_tree_node.specs.declared.slot.Role.TheVariants as role
use Rattle.swc_tree_node.specs.declared.node.Node.{Node, Identifier, Tree}
use Rattle.swc_tree_node.specs.Table.{slots_of, is_identifier}
use Rattle.swc_tree_node.specs.Fits.{fits, Fits, FieldsFit, single, belongs, each_fits, tree_fits, identifier_fits}
use Rattle.swc_tree_node.proofs.Fit.{fits-Tree, fits-Identifier, both, and_both, fields_open, fields_close}
use Rattle.swc_base_rename_substitution.specs.declared.place.Place.{Place}
use Rattle.swc_base_rename_substitution.specs.declared.place.Place.TheVariants as place
use Rattle.swc_base_rename_substitution.specs.Places.{within, by_role, in_kind, place_below}
use Rattle.swc_base_rename_substitution.specs.Room.{implies, has_room}

pub yes : IsTrue true
yes = grind rules

-- ---- the table

pub table_has_room : (k : Kind) → list_all has_room (slots_of k) ≡ true
table_has_room kind.Module = refl
table_has_room k = refl

-- where a shorthand property may stand, so may one with its key
abbrev pub takes_keys : Option Content → Bool
takes_keys (Some (content.Node c)) = implies (belongs kind.Ident c) (belongs kind.KeyValueProp c) && not (belongs kind.BindingIdent c)
takes_keys c = true

abbrev pub key_room : Slot → Bool
key_room (slot.List c) = takes_keys (Some c)
key_room (slot.Holes c) = takes_keys (Some c)
key_room (slot.OptionalList c) = takes_keys (Some c)
key_room s = takes_keys (single s)

abbrev pub is_short : Place → Bool
is_short place.Shorthand = true
is_short p = false

within_long : (p : Place) → is_short (within p) ≡ false
within_long place.Other = refl
within_long place.Exported = refl
within_long p = refl

role_long : (p : Place) (s : Bool) (r : Role) → is_short (by_role p s r) ≡ false
role_long p s role.Inherited = within_long p
role_long p true role.ExportLocal = refl
role_long p false role.ExportLocal = refl
role_long p s r = refl

class_long : (keeps : Bool) (q : Place) → is_short q ≡ false → is_short (in_kind keeps kind.ClassExpr q) ≡ false
class_long true place.Name h = refl
class_long false place.Name h = refl
class_long keeps q h = h

export_long : (keeps : Bool) (q : Place) → is_short q ≡ false → is_short (in_kind keeps kind.ExportDecl q) ≡ false
export_long keeps place.Other h = refl
export_long keeps q h = h

kind_long : (keeps : Bool) (k : Kind) (q : Place) → is_short q ≡ false → is_short (in_kind keeps k q) ≡ true → list_all key_room (slots_of k) ≡ true
kind_long keeps kind.ObjectLit q h g = refl
kind_long keeps kind.ExportDecl q h g = let l = export_long keeps q h in absurd (cc)
kind_long keeps kind.ClassExpr q h g = let l = class_long keeps q h in absurd (cc)
kind_long keeps k q h g = absurd (cc)

pub short_places : (keeps : Bool) (p : Place) (s : Bool) (k : Kind) (r : Role) → is_short (place_below keeps p s k r) ≡ true → list_all key_room (slots_of k) ≡ true
short_places keeps p s k r h = kind_long keeps k (by_role p s r) (role_long p s r) h

-- ---- what fits

pub implied : (a b : Bool) → implies a b ≡ true → IsTrue a → IsTrue b
implied true true h g = g
implied true false h g = absurd (cc)
implied false b h g = absurd (grind arith)

pub left : (a b : Bool) → (a && b) ≡ true → a ≡ true
left true b h = refl
left false b h = h

pub right : (a b : Bool) → (a && b) ≡ true → b ≡ true
right true b h = h
right false b h = absurd (cc)

-- a tree that fits is of a kind of the place's class
tree_at : (k : Kind) (ts : List Node) (s : Slot) (o : Option Content) → single s ≡ o → IsTrue (tree_fits k (map fits ts) o)
    → (c : Class) × (single s ≡ Some (content.Node c)) × IsTrue (not (is_identifier k)) × IsTrue (belongs k c) × FieldsFit (slots_of k) ts
tree_at k ts s (Some (content.Node c)) e h =
    let p = both (not (is_identifier k)) (belongs k c && each_fits (slots_of k) (map fits ts)) h in
    let q = both (belongs k c) (each_fits (slots_of k) (map fits ts)) p.1 in
    (c, e, p.0, q.0, fields_open (slots_of k) ts q.1)
tree_at k ts s o e h = absurd (grind arith)

pub tree_open : (k : Kind) (ts : List Node) (s : Slot) → Fits (Tree k ts) s
    → (c : Class) × (single s ≡ Some (content.Node c)) × IsTrue (not (is_identifier k)) × IsTrue (belongs k c) × FieldsFit (slots_of k) ts
tree_open k ts s h = tree_at k ts s (single s) refl (rw (← fits-Tree k ts s) h)

pub tree_close : (k : Kind) (ts : List Node) (s : Slot) (c : Class) → single s ≡ Some (content.Node c) → IsTrue (not (is_identifier k)) → IsTrue (belongs k c) → FieldsFit (slots_of k) ts → Fits (Tree k ts) s
tree_close k ts s c e i b f =
    rw (fits-Tree k ts s, e) (and_both (not (is_identifier k)) (belongs k c && each_fits (slots_of k) (map fits ts)) i
    (and_both (belongs k c) (each_fits (slots_of k) (map fits ts)) b (fields_close (slots_of k) ts f)))

identifier_at : (k : Kind) (s : Slot) (o : Option Content) → single s ≡ o → IsTrue (identifier_fits k o) → (c : Class) × (single s ≡ Some (content.Node c)) × IsTrue (is_identifier k) × IsTrue (belongs k c)
identifier_at k s (Some (content.Node c)) e h = let p = both (is_identifier k) (belongs k c) h in (c, e, p.0, p.1)
identifier_at k s o e h = absurd (grind arith)

pub identifier_open : (k : Kind) (i : Ident) (s : Slot) → Fits (Identifier k i) s → (c : Class) × (single s ≡ Some (content.Node c)) × IsTrue (is_identifier k) × IsTrue (belongs k c)
identifier_open k i s h = identifier_at k s (single s) refl (rw (← fits-Identifier k i s) h)

pub identifier_close : (k : Kind) (i : Ident) (s : Slot) (c : Class) → single s ≡ Some (content.Node c) → IsTrue (is_identifier k) → IsTrue (belongs k c) → Fits (Identifier k i) s
identifier_close k i s c e a b = rw (fits-Identifier k i s, e) (and_both (is_identifier k) (belongs k c) a b)
