-- A tree with members for the identifiers that name helpers fits where the tree did.
use Rattle.std.proofs.Common.{◌≡◌, ℕ, Bool, true, false, ◌&&◌, IsTrue, Some, List, [], ◌∷◌, map, refl, sym, ap, subst, rules, if◌then◌else◌}
use Rattle.swc_tree_marks.specs.declared.ident.Ident.{Ident}
use Rattle.swc_tree_node.specs.declared.kind.Kind.{Kind}
use Rattle.swc_tree_node.specs.declared.kind.Kind.TheVariants as kind
use Rattle.swc_tree_node.specs.declared.kind.Class.{Class}
use Rattle.swc_tree_node.specs.declared.kind.Class.TheVariants as class
use Rattle.swc_tree_node.specs.declared.slot.Content.TheVariants as content
use Rattle.swc_tree_node.specs.declared.slot.Slot.{Slot}
use Rattle.swc_tree_node.specs.declared.slot.Slot.TheVariants as slot
use Rattle.swc_tree_node.specs.declared.slot.Role.{Role}
use Rattle.swc_tree_node.specs.declared.node.Node.{Node, Absent, Flag, Word, Text, Span, List as Many, Identifier, Tree, roll-Node, map-Node, ind-Node}
use Rattle.swc_tree_node.specs.declared.node.Node.TheVariants.{rolls-Absent, rolls-Flag, rolls-Word, rolls-Text, rolls-Span, rolls-List, rolls-Identifier, rolls-Tree}
use Rattle.swc_tree_node.specs.declared.node.Node.TheOpen.{Node-F}
use Rattle.swc_tree_node.specs.Table.{fields_of}
use Rattle.swc_tree_node.specs.Fits.{fits, Fits, AllFit, FieldsFit, list_fits, single, belongs}
use Rattle.swc_tree_node.proofs.Fit.{fits-List, fitting, and_both, both, fields_open, fields_close, all_open, all_close}
use Rattle.swc_tree_scoping.specs.Shorthands.{computed_key, key_of, shorthand_key}
use Rattle.swc_base_tables_injection.specs.declared.members.Seat.{Seat}
use Rattle.swc_base_tables_injection.specs.declared.members.Seat.TheVariants as seat
use Rattle.swc_base_tables_injection.specs.Members.{field_seat, has_only, helper_as, in_class, in_slot, member_of, membered, property_of, seat_among, with_members}
use Rattle.swc_base_tables_injection.specs.Walk.{each_membered}
use Rattle.swc_base_tables_injection.proofs.Equations.{membered-Absent, membered-Flag, membered-Word, membered-Text, membered-Span, membered_identifier, membered_list, membered_tree}
use Rattle.swc_base_tables_injection.proofs.Fitting.{identifier_open, tree_close, tree_open}

-- ---- identifiers

-- the seat of a place that takes one node
seat_single : (s : Slot) (c : Class) → single s ≡ Some (content.Node c) → in_slot s ≡ in_class c
seat_single (slot.One (content.Node d)) c e = let same : d ≡ c = cc in ap in_class same
seat_single (slot.Optional (content.Node d)) c e = let same : d ≡ c = cc in ap in_class same
seat_single s c e = absurd (cc)

chosen_first : (a b : Bool) → (if a then seat.Expression else (if b then seat.Property else seat.Other)) ≡ seat.Expression → a ≡ true
chosen_first true b h = refl
chosen_first false true h = absurd (cc)
chosen_first false false h = absurd (cc)

chosen_second : (a b : Bool) → (if a then seat.Expression else (if b then seat.Property else seat.Other)) ≡ seat.Property → b ≡ true
chosen_second true b h = absurd (cc)
chosen_second false true h = refl
chosen_second false false h = absurd (cc)

takes_members : (c : Class) → in_class c ≡ seat.Expression → IsTrue (belongs kind.MemberExpr c)
takes_members c h = (both (belongs kind.Ident c) (belongs kind.MemberExpr c) (chosen_first (belongs kind.Ident c && belongs kind.MemberExpr c) (belongs kind.Ident c && belongs kind.KeyValueProp c) h)).1

takes_properties : (c : Class) → in_class c ≡ seat.Property → IsTrue (belongs kind.KeyValueProp c)
takes_properties c h = (both (belongs kind.Ident c) (belongs kind.KeyValueProp c) (chosen_second (belongs kind.Ident c && belongs kind.MemberExpr c) (belongs kind.Ident c && belongs kind.KeyValueProp c) h)).1

yes : IsTrue true
yes = grind rules

-- the member itself, wherever a member may stand
member_fits : (i : Ident) (c : Class) → IsTrue (belongs kind.MemberExpr c) → Fits (member_of i) (slot.One (content.Node c))
member_fits i c b = simp fitting (and_both (belongs kind.MemberExpr c) true b yes)

key_fits : (i : Ident) → Fits (key_of i) (slot.One (content.Node class.PropName))
key_fits i = simp fitting

computed_fits : (i : Ident) → Fits (computed_key i) (slot.One (content.Node class.PropName))
computed_fits i = simp fitting

either_fits : (b : Bool) (t u : Node) (s : Slot) → Fits t s → Fits u s → Fits (if b then t else u) s
either_fits true t u s h g = h
either_fits false t u s h g = g

shorthand_fits : (i : Ident) → Fits (shorthand_key i) (slot.One (content.Node class.PropName))
shorthand_fits i = either_fits _ (computed_key i) (key_of i) (slot.One (content.Node class.PropName)) (computed_fits i) (key_fits i)

-- by the place's class
member_in : (i : Ident) (s : Slot) (c : Class) → single s ≡ Some (content.Node c) → in_class c ≡ seat.Expression → Fits (member_of i) s
member_in i s c e h =
    let f : Fits (member_of i) (slot.One (content.Node c)) = member_fits i c (takes_members c h) in
    let o = tree_open kind.MemberExpr _ (slot.One (content.Node c)) f in
    tree_close kind.MemberExpr _ s c e o.2 (takes_members c h) o.4

property_in : (i : Ident) (s : Slot) (c : Class) → single s ≡ Some (content.Node c) → in_class c ≡ seat.Property → Fits (property_of i) s
property_in i s c e h = tree_close kind.KeyValueProp (shorthand_key i ∷ member_of i ∷ []) s c e yes (takes_properties c h) (shorthand_fits i, (member_fits i class.Expr yes, tt))

helper_fits : (b : Bool) (q : Seat) (k : Kind) (i : Ident) (s : Slot) (c : Class) → single s ≡ Some (content.Node c) → in_class c ≡ q → Fits (Identifier k i) s → Fits (helper_as b q k i) s
helper_fits true seat.Expression kind.Ident i s c e h f = member_in i s c e h
helper_fits true seat.Property kind.Ident i s c e h f = property_in i s c e h
helper_fits b q k i s c e h f = f

-- ---- the whole

abbrev Keeps : ℕ → Node → Type 0
Keeps m t = (s : Slot) → Fits t s → Fits (membered m (in_slot s) t) s

abbrev Kept : ℕ → Type 0
Kept m = (t : Node) × Keeps m t

abbrev nodes : (m : ℕ) → List (Kept m) → List Node
nodes m es = map (λ e. e.0) es

each_item : (m : ℕ) (q : Seat) (s : Slot) (es : List (Kept m)) → in_slot s ≡ q → AllFit s (nodes m es) → AllFit s (each_membered m (λ i. q) (nodes m es))
each_item m q s [] e h = tt
each_item m q s (x ∷ es) e h = (subst (λ q. Fits (membered m q x.0) s) e (x.1 s h.0), each_item m q s es e h.1)

each_field : (m : ℕ) (fs : List (List ℕ × Slot × Role)) (es : List (Kept m)) → FieldsFit (map (λ f. f.1) fs) (nodes m es) → FieldsFit (map (λ f. f.1) fs) (each_membered m (seat_among fs) (nodes m es))
each_field m [] [] h = h
each_field m [] (x ∷ es) h = absurd h
each_field m (f ∷ fs) [] h = absurd h
each_field m (f ∷ fs) (x ∷ es) h = (x.1 f.1 h.0, each_field m fs es h.1)

each_text : (m : ℕ) (es : List (Kept m)) → FieldsFit (slot.One content.Text ∷ slot.One content.Text ∷ []) (nodes m es)
    → FieldsFit (slot.One content.Text ∷ slot.One content.Text ∷ []) (each_membered m (λ i. seat.Other) (nodes m es))
each_text m [] h = h
each_text m (a ∷ []) h = absurd h.1
each_text m (a ∷ b ∷ []) h = (a.1 (slot.One content.Text) h.0, (b.1 (slot.One content.Text) h.1.0, tt))
each_text m (a ∷ b ∷ c ∷ es) h = absurd h.1.1

list_kept_in : (m : ℕ) (s : Slot) (es : List (Kept m)) → IsTrue (list_fits (map fits (nodes m es)) s) → IsTrue (list_fits (map fits (each_membered m (λ i. in_slot s) (nodes m es))) s)
list_kept_in m (slot.List c) es h = all_close (slot.One c) _ (each_item m (in_slot (slot.List c)) (slot.One c) es refl (all_open (slot.One c) (nodes m es) h))
list_kept_in m (slot.Holes c) es h = all_close (slot.Optional c) _ (each_item m (in_slot (slot.Holes c)) (slot.Optional c) es refl (all_open (slot.Optional c) (nodes m es) h))
list_kept_in m (slot.OptionalList c) es h = all_close (slot.One c) _ (each_item m (in_slot (slot.OptionalList c)) (slot.One c) es refl (all_open (slot.One c) (nodes m es) h))
list_kept_in m slot.Pair es h =
    fields_close (slot.One content.Text ∷ slot.One content.Text ∷ []) _ (each_text m es (fields_open (slot.One content.Text ∷ slot.One content.Text ∷ []) (nodes m es) h))
list_kept_in m slot.Pairs es h = all_close slot.Pair _ (each_item m seat.Other slot.Pair es refl (all_open slot.Pair (nodes m es) h))
list_kept_in m (slot.One c) es h = absurd (cc)
list_kept_in m (slot.Optional c) es h = absurd (cc)

list_kept : (m : ℕ) (es : List (Kept m)) → Keeps m (Many (nodes m es))
list_kept m es s h =
    rw (membered_list m (in_slot s) (nodes m es), fits-List (each_membered m (λ i. in_slot s) (nodes m es)) s) (list_kept_in m s es (rw (← fits-List (nodes m es) s) h))

identifier_kept : (m : ℕ) (k : Kind) (i : Ident) → Keeps m (Identifier k i)
identifier_kept m k i s h =
    let o = identifier_open k i s h in
    rw (membered_identifier m (in_slot s) k i) (helper_fits (has_only m i.ctxt) (in_slot s) k i s o.0 o.1 (sym (seat_single s o.0 o.1)) h)

tree_kept : (m : ℕ) (k : Kind) (es : List (Kept m)) → Keeps m (Tree k (nodes m es))
tree_kept m k es s h =
    let o = tree_open k (nodes m es) s h in
    rw (membered_tree m (in_slot s) k (nodes m es)) (tree_close k (each_membered m (field_seat k) (nodes m es)) s o.0 o.1 o.2 o.3 (each_field m (fields_of k) es o.4))

same : (m : ℕ) (t : Node) → ((q : Seat) → membered m q t ≡ t) → Keeps m t
same m t e s h = subst (λ u. Fits u s) (sym (e (in_slot s))) h

layer : (m : ℕ) (y : Node-F (Kept m)) → Keeps m (roll-Node (map-Node (Kept m) Node (λ e. e.0) y))
layer m Node-F.Absent = subst (Keeps m) (sym rolls-Absent) (same m Absent (λ q. membered-Absent m q))
layer m (Node-F.Flag x) = subst (Keeps m) (sym (rolls-Flag x)) (same m (Flag x) (λ q. membered-Flag m q x))
layer m (Node-F.Word w) = subst (Keeps m) (sym (rolls-Word w)) (same m (Word w) (λ q. membered-Word m q w))
layer m (Node-F.Text x) = subst (Keeps m) (sym (rolls-Text x)) (same m (Text x) (λ q. membered-Text m q x))
layer m (Node-F.Span x) = subst (Keeps m) (sym (rolls-Span x)) (same m (Span x) (λ q. membered-Span m q x))
layer m (Node-F.List es) = subst (Keeps m) (sym (rolls-List (nodes m es))) (list_kept m es)
layer m (Node-F.Identifier k i) = subst (Keeps m) (sym (rolls-Identifier k i)) (identifier_kept m k i)
layer m (Node-F.Tree k es) = subst (Keeps m) (sym (rolls-Tree k (nodes m es))) (tree_kept m k es)

keeps_fit : (m : ℕ) (t : Node) → Keeps m t
keeps_fit m t = ind-Node (Keeps m) (λ x all e. subst (λ x. Keeps m (roll-Node x)) e (layer m all)) t

-- a tree's own place does not bear on it
pub members_fit : (m : ℕ) (k : Kind) (ts : List Node) (s : Slot) → Fits (Tree k ts) s → Fits (with_members m (Tree k ts)) s
members_fit m k ts s h = rw (membered_tree m seat.Other k ts) (rw (← membered_tree m (in_slot s) k ts) (keeps_fit m (Tree k ts) s h))
