-- In a tree that fits, what stands where an expression or a pattern may is a reference or part of a pattern, and an identifier
-- expression is a reference.
use Rattle.std.proofs.Common.{◌≡◌, ℕ, zero, suc, Bool, true, false, not, ◌&&◌, ◌||◌, IsTrue, Option, Some, None, List, [], ◌∷◌, map, option_map, unwrap_or, refl, sym, ap, ◌∙◌, subst, cond}
use Rattle.std.specs.List.{list_all, slice_get}
use Rattle.swc_tree_node.specs.declared.kind.Kind.{Kind}
use Rattle.swc_tree_node.specs.declared.kind.Kind.TheVariants as kind
use Rattle.swc_tree_node.specs.declared.kind.Class.{Class}
use Rattle.swc_tree_node.specs.declared.kind.Word.{Word}
use Rattle.swc_tree_node.specs.declared.kind.Word.TheVariants as word
use Rattle.swc_tree_node.specs.declared.slot.Content.{Content}
use Rattle.swc_tree_node.specs.declared.slot.Content.TheVariants as content
use Rattle.swc_tree_node.specs.declared.slot.Slot.{Slot}
use Rattle.swc_tree_node.specs.declared.slot.Slot.TheVariants as slot
use Rattle.swc_tree_node.specs.declared.slot.Role.{Role}
use Rattle.swc_tree_node.specs.declared.slot.Role.TheVariants as role
use Rattle.swc_tree_node.specs.declared.node.Node.{Node, Tree, out-Node}
use Rattle.swc_tree_node.specs.declared.node.Node.TheOpen.{Node-F}
use Rattle.swc_tree_node.specs.Table.{fields_of, slots_of}
use Rattle.swc_tree_node.specs.Fits.{Fits, belongs, fits, list_fits, single}
use Rattle.swc_tree_node.proofs.Fit.{all_open, both, fields_open}
use Rattle.swc_tree_scoping.specs.declared.places.Standing.{Standing}
use Rattle.swc_tree_scoping.specs.declared.places.Standing.TheVariants as standing
use Rattle.swc_tree_scoping.specs.declared.places.Place.{Place}
use Rattle.swc_tree_scoping.specs.Places.{binds_patterns, by_keyword, by_word, child, children_in, field_role, is_expression_in, keyword_in, part_standing, place_below, place_in, standing_below}
use Rattle.swc_tree_scoping.specs.Scopes.{is_reference}
use Rattle.swc_tree_scoping.proofs.Remarked.{tree_is}
use Rattle.swc_base_resolver_laws.proofs.Fitting.{all_at, field_at, layer_fits}
use Rattle.swc_base_tables_injection.specs.declared.members.Seat.{Seat}
use Rattle.swc_base_tables_injection.specs.declared.members.Seat.TheVariants as seat
use Rattle.swc_base_tables_injection.specs.Members.{field_seat, in_class, in_slot}
use Rattle.swc_base_tables_injection.proofs.Fitting.{tree_open}
use Rattle.swc_base_tables_laws.proofs.Declarers.{some_same}
use Rattle.swc_base_tables_laws.proofs.Membered.{seat_in}

impossible : {A : Type 0} → false ≡ true → A
impossible h = absurd (cc)

or_left : (a b : Bool) → a ≡ true → (a || b) ≡ true
or_left true b h = refl
or_left false b h = impossible h

or_right : (a b : Bool) → b ≡ true → (a || b) ≡ true
or_right true b h = refl
or_right false b h = h

-- a reference, or part of a pattern
abbrev pub is_part : Standing → Bool
is_part r = binds_patterns r || is_reference r

-- where identifiers change
abbrev pub changes_there : Seat → Bool
changes_there seat.Other = false
changes_there _ = true

-- the kinds whose parts stand as they do themselves
abbrev hands_on : Kind → Bool
hands_on kind.ArrayPat = true
hands_on kind.RestPat = true
hands_on kind.ObjectPat = true
hands_on kind.AssignPat = true
hands_on kind.KeyValuePatProp = true
hands_on kind.VarDeclarator = true
hands_on _ = false

-- places that take such parts
abbrev class_parts : Class → Bool
class_parts c = changes_there (in_class c) || (belongs kind.ArrayPat c || (belongs kind.RestPat c || (belongs kind.ObjectPat c || (belongs kind.AssignPat c || (belongs kind.KeyValuePatProp c || belongs kind.VarDeclarator c)))))

abbrev content_parts : Content → Bool
content_parts (content.Node c) = class_parts c
content_parts _ = false

abbrev pub takes_parts : Slot → Bool
takes_parts (slot.One x) = content_parts x
takes_parts (slot.Optional x) = content_parts x
takes_parts (slot.List x) = content_parts x
takes_parts (slot.Holes x) = content_parts x
takes_parts (slot.OptionalList x) = content_parts x
takes_parts _ = false

handed : (k : Kind) (c : Class) → hands_on k ≡ true → belongs k c ≡ true → class_parts c ≡ true
handed kind.ArrayPat c h b = or_right (changes_there (in_class c)) _ (or_left (belongs kind.ArrayPat c) _ b)
handed kind.RestPat c h b = or_right (changes_there (in_class c)) _ (or_right (belongs kind.ArrayPat c) _ (or_left (belongs kind.RestPat c) _ b))
handed kind.ObjectPat c h b = or_right (changes_there (in_class c)) _ (or_right (belongs kind.ArrayPat c) _ (or_right (belongs kind.RestPat c) _ (or_left (belongs kind.ObjectPat c) _ b)))
handed kind.AssignPat c h b =
    or_right (changes_there (in_class c)) _ (or_right (belongs kind.ArrayPat c) _ (or_right (belongs kind.RestPat c) _ (or_right (belongs kind.ObjectPat c) _ (or_left (belongs kind.AssignPat c) _ b))))
handed kind.KeyValuePatProp c h b =
    or_right (changes_there (in_class c)) _ (or_right (belongs kind.ArrayPat c) _ (or_right (belongs kind.RestPat c) _ (or_right (belongs kind.ObjectPat c) _ (or_right (belongs kind.AssignPat c) _ (or_left (belongs kind.KeyValuePatProp c) _ b)))))
handed kind.VarDeclarator c h b =
    or_right (changes_there (in_class c)) _ (or_right (belongs kind.ArrayPat c) _ (or_right (belongs kind.RestPat c) _ (or_right (belongs kind.ObjectPat c) _ (or_right (belongs kind.AssignPat c) _ (or_right (belongs kind.KeyValuePatProp c) _ b)))))
handed _ c h b = impossible h

-- the table: where parts stand, the role makes them so, or hands on what the node is
abbrev Row : Type 0
Row = List ℕ × Slot × Role

abbrev makes_parts : Kind → Role → Bool
makes_parts k role.Reference = true
makes_parts k role.FunctionBody = true
makes_parts k role.Declared = true
makes_parts k role.Lexical = true
makes_parts k role.Parameter = true
makes_parts k role.Catch = true
makes_parts k role.Inherited = hands_on k
makes_parts k _ = false

-- an identifier is made a reference by no role of the others
abbrev makes_references : Role → Bool
makes_references role.Declared = false
makes_references role.Lexical = false
makes_references _ = true

abbrev is_row : Kind → Row → Bool
is_row k f = (not (takes_parts f.1) || makes_parts k f.2) && (not (changes_there (in_slot f.1)) || makes_references f.2)

rows : (k : Kind) → list_all (is_row k) (fields_of k) ≡ true
rows kind.Module = refl
rows k = refl

-- the seat of a field is that of its slot
abbrev slots : List Row → List Slot
slots fs = map (λ (f : Row). f.1) fs

field_is : (fs : List Row) (i : ℕ) (s : Slot) → slice_get (slots fs) i ≡ Some s → (f : Row) × (slice_get fs i ≡ Some f) × (f.1 ≡ s)
field_is [] i s e = absurd (cc)
field_is (f ∷ fs) zero s e = (f, refl, some_same f.1 s e)
field_is (f ∷ fs) (suc i) s e = field_is fs i s e

row_at : (p : Row → Bool) (fs : List Row) (i : ℕ) (f : Row) → list_all p fs ≡ true → slice_get fs i ≡ Some f → p f ≡ true
row_at p [] i f h e = absurd (cc)
row_at p (g ∷ fs) zero f h e = subst (λ f. p f ≡ true) (some_same g f e) (both (p g) (list_all p fs) h).0
row_at p (g ∷ fs) (suc i) f h e = row_at p fs i f (both (p g) (list_all p fs) h).1 e

either : (a b : Bool) → (not a || b) ≡ true → a ≡ true → b ≡ true
either true b h e = h
either false b h e = impossible e

-- what stands in a place is right for it
abbrev pub IsRight : Place → Slot → Node → Type 0
IsRight w s t = (takes_parts s ≡ true → is_part w.standing ≡ true) × (changes_there (in_slot s) ≡ true → is_expression_in (out-Node t) ≡ true → is_reference w.standing ≡ true)

part_stays : (r : Standing) (b : Bool) → is_part r ≡ true → is_part (cond (binds_patterns r && b) standing.Reference r) ≡ true
part_stays r b h = by (binds_patterns r && b)
  where
    by : (c : Bool) → is_part (cond c standing.Reference r) ≡ true
    by true = refl
    by false = h

refers_as : (r : Standing) (b : Bool) → is_part r ≡ true → b ≡ true → is_reference (cond (binds_patterns r && b) standing.Reference r) ≡ true
refers_as r true h e = by (binds_patterns r) refl
  where
    by : (c : Bool) → binds_patterns r ≡ c → is_reference (cond (binds_patterns r && true) standing.Reference r) ≡ true
    by true e = ap (λ c. is_reference (cond (c && true) standing.Reference r)) e
    by false e = ap (λ c. is_reference (cond (c && true) standing.Reference r)) e ∙ sym (ap (λ c. c || is_reference r) e) ∙ h
refers_as r false h e = impossible e

by_word_part : (ts : List Node) → is_part (by_keyword ts) ≡ true
by_word_part [] = refl
by_word_part (t ∷ ts) = at (out-Node t) (by_word_part ts)
  where
    words : (w : Word) → is_part (by_word w) ≡ true
    words word.Var = refl
    words w = refl

    at : (y : Node-F Node) → is_part (by_keyword ts) ≡ true → is_part (keyword_in y (by_keyword ts)) ≡ true
    at (Node-F.Word w) h = words w
    at (Node-F.Identifier k i) h = h
    at (Node-F.Tree k cs) h = h
    at (Node-F.List cs) h = h
    at y h = h

-- a child stands as its node does, where the role hands that on
module _ (ts : List Node) (i : ℕ) (c : Node) (at : slice_get ts i ≡ Some c) where
  inherited : (r : Standing) → is_part r ≡ true → is_part (part_standing r (slice_get ts i)) ≡ true
  inherited r h = subst (λ o. is_part (part_standing r o) ≡ true) (sym at) (part_stays r (is_expression_in (out-Node c)) h)

  inherited_refers : (r : Standing) → is_part r ≡ true → is_expression_in (out-Node c) ≡ true → is_reference (part_standing r (slice_get ts i)) ≡ true
  inherited_refers r h e = subst (λ o. is_reference (part_standing r o) ≡ true) (sym at) (refers_as r (is_expression_in (out-Node c)) h e)

  module _ (w : Place) (k : Kind) (handing : hands_on k ≡ true → is_part w.standing ≡ true) where
    part_below : (r : Role) → makes_parts k r ≡ true → is_part (standing_below w k ts i r) ≡ true
    part_below role.Reference h = refl
    part_below role.FunctionBody h = refl
    part_below role.Declared h = by_word_part ts
    part_below role.Lexical h = refl
    part_below role.Parameter h = inherited standing.Parameter refl
    part_below role.Catch h = inherited standing.CatchParameter refl
    part_below role.Inherited h = inherited w.standing (handing h)
    part_below _ h = impossible h

    refers_below : (r : Role) → makes_parts k r ≡ true → makes_references r ≡ true → is_expression_in (out-Node c) ≡ true → is_reference (standing_below w k ts i r) ≡ true
    refers_below role.Reference h n e = refl
    refers_below role.FunctionBody h n e = refl
    refers_below role.Declared h n e = impossible n
    refers_below role.Lexical h n e = impossible n
    refers_below role.Parameter h n e = inherited_refers standing.Parameter refl e
    refers_below role.Catch h n e = inherited_refers standing.CatchParameter refl e
    refers_below role.Inherited h n e = inherited_refers w.standing (handing h) e
    refers_below _ h n e = impossible h

-- where identifiers change, parts stand
class_changes : (c : Class) → changes_there (in_class c) ≡ true → class_parts c ≡ true
class_changes c h = or_left (changes_there (in_class c)) _ h

changes_take : (s : Slot) → changes_there (in_slot s) ≡ true → takes_parts s ≡ true
changes_take (slot.One (content.Node c)) h = class_changes c h
changes_take (slot.Optional (content.Node c)) h = class_changes c h
changes_take (slot.List (content.Node c)) h = class_changes c h
changes_take (slot.Holes (content.Node c)) h = class_changes c h
changes_take (slot.OptionalList (content.Node c)) h = class_changes c h
changes_take s h = impossible h

parts_single : (s : Slot) (c : Class) → single s ≡ Some (content.Node c) → takes_parts s ≡ class_parts c
parts_single (slot.One (content.Node d)) c e = let same : d ≡ c = cc in ap class_parts same
parts_single (slot.Optional (content.Node d)) c e = let same : d ≡ c = cc in ap class_parts same
parts_single s c e = absurd (cc)

-- a node fits, and is right for its place, whose seat is known
abbrev pub Seated : Place → Slot → Seat → Node → Type 0
Seated w s q t = Fits t s × (q ≡ in_slot s) × IsRight w s t

abbrev ChildSeated : Place → Node-F Node → Seat → ℕ → Node → Type 0
ChildSeated w y q i c = (u : Slot) × Seated (place_in w y i) u (seat_in q y i) c

tree_child : (w : Place) (s : Slot) (q : Seat) (k : Kind) (ts : List Node) (i : ℕ) (c : Node) → Fits (Tree k ts) s → (takes_parts s ≡ true → is_part w.standing ≡ true) → slice_get ts i ≡ Some c → ChildSeated w (Node-F.Tree k ts) q i c
tree_child w s q k ts i c f parts at =
    let (cl, one, other, belong, fields) = tree_open k ts s f in
    let (u, slot_at, fit) = field_at (slots_of k) ts i c fields at in
    let (r, row, is) = field_is (fields_of k) i u slot_at in
    let (makes, refers) = both (not (takes_parts r.1) || makes_parts k r.2) (not (changes_there (in_slot r.1)) || makes_references r.2) (row_at (is_row k) (fields_of k) i r (rows k) row) in
    let role_is : r.2 ≡ field_role k i = ap (λ o. unwrap_or (option_map (λ (f : Row). f.2) o) role.Plain) (sym row) in
    let seat_is : field_seat k i ≡ in_slot u = ap (λ o. unwrap_or (option_map (λ (f : Row). in_slot f.1) o) seat.Other) row ∙ ap in_slot is in
    let handing : hands_on k ≡ true → is_part w.standing ≡ true = λ h. parts (parts_single s cl one ∙ handed k cl h belong) in
    let part : takes_parts u ≡ true → is_part (standing_below w k ts i (field_role k i)) ≡ true = λ takes.
    subst (λ r. is_part (standing_below w k ts i r) ≡ true) role_is (part_below ts i c at w k handing r.2 (either (takes_parts r.1) (makes_parts k r.2) makes (ap takes_parts is ∙ takes))) in
    let reference : changes_there (in_slot u) ≡ true → is_expression_in (out-Node c) ≡ true → is_reference (standing_below w k ts i (field_role k i)) ≡ true = λ changes e.
    let there = ap (λ s. changes_there (in_slot s)) is ∙ changes in
    subst (λ r. is_reference (standing_below w k ts i r) ≡ true) role_is
    (refers_below ts i c at w k handing r.2 (either (takes_parts r.1) (makes_parts k r.2) makes (changes_take r.1 there)) (either (changes_there (in_slot r.1)) (makes_references r.2) refers there) e) in
    (u, (fit, seat_is, (part, reference)))

-- an item of a list that does
item_right : (w : Place) (ts : List Node) (i : ℕ) (c : Node) (u : Slot) → slice_get ts i ≡ Some c → (takes_parts u ≡ true → is_part w.standing ≡ true) → IsRight (place_in w (Node-F.List ts) i) u c
item_right w ts i c u at parts = ((λ takes. inherited ts i c at w.standing (parts takes)), (λ changes e. inherited_refers ts i c at w.standing (parts (changes_take u changes)) e))

pair_at : (i : ℕ) (u : Slot) → slice_get (slot.One content.Text ∷ slot.One content.Text ∷ []) i ≡ Some u → u ≡ slot.One content.Text
pair_at zero u e = sym (some_same (slot.One content.Text) u e)
pair_at (suc zero) u e = sym (some_same (slot.One content.Text) u e)
pair_at (suc (suc i)) u e = absurd (cc)

list_child : (w : Place) (s : Slot) (ts : List Node) (i : ℕ) (c : Node) → IsTrue (list_fits (map fits ts) s) → (takes_parts s ≡ true → is_part w.standing ≡ true) → slice_get ts i ≡ Some c → ChildSeated w (Node-F.List ts) (in_slot s) i c
list_child w (slot.List x) ts i c h parts at = (slot.One x, (all_at (slot.One x) ts i c (all_open (slot.One x) ts h) at, refl, item_right w ts i c (slot.One x) at parts))
list_child w (slot.Holes x) ts i c h parts at = (slot.Optional x, (all_at (slot.Optional x) ts i c (all_open (slot.Optional x) ts h) at, refl, item_right w ts i c (slot.Optional x) at parts))
list_child w (slot.OptionalList x) ts i c h parts at = (slot.One x, (all_at (slot.One x) ts i c (all_open (slot.One x) ts h) at, refl, item_right w ts i c (slot.One x) at parts))
list_child w slot.Pair ts i c h parts at =
    let (u, there, f) = field_at (slot.One content.Text ∷ slot.One content.Text ∷ []) ts i c (fields_open (slot.One content.Text ∷ slot.One content.Text ∷ []) ts h) at in
    let is = pair_at i u there in
    (u, (f, ap in_slot (sym is), item_right w ts i c u at (λ takes. impossible (sym (ap takes_parts is) ∙ takes))))
list_child w slot.Pairs ts i c h parts at = (slot.Pair, (all_at slot.Pair ts i c (all_open slot.Pair ts h) at, refl, item_right w ts i c slot.Pair at impossible))
list_child w (slot.One x) ts i c h parts at = impossible h
list_child w (slot.Optional x) ts i c h parts at = impossible h

-- each child
pub child_seated : (w : Place) (s : Slot) (q : Seat) (t c : Node) (i : ℕ) → Seated w s q t → child t i ≡ Some c → (u : Slot) × Seated (place_below w t i) u (seat_in q (out-Node t) i) c
child_seated w s q t c i (f, is, right) at = by (out-Node t) refl
  where
    there : (y : Node-F Node) → out-Node t ≡ y → slice_get (children_in y) i ≡ Some c
    there y o = ap (λ y. slice_get (children_in y) i) (sym o) ∙ at

    none : {A : Type 0} (y : Node-F Node) → out-Node t ≡ y → children_in y ≡ [] → A
    none y o e = let z : ◌≡◌ {A = Option Node} None (Some c) = ap (λ l. slice_get l i) (sym e) ∙ there y o in absurd (cc)

    by : (y : Node-F Node) → out-Node t ≡ y → ChildSeated w (out-Node t) q i c
    by (Node-F.Tree k ts) o = subst (λ y. ChildSeated w y q i c) (sym o) (tree_child w s q k ts i c (subst (λ t. Fits t s) (tree_is t k ts o) f) right.0 (there (Node-F.Tree k ts) o))
    by (Node-F.List ts) o =
        subst (λ y. ChildSeated w y q i c) (sym o) (subst (λ q. ChildSeated w (Node-F.List ts) q i c) (sym is) (list_child w s ts i c (layer_fits t (Node-F.List ts) s o f) right.0 (there (Node-F.List ts) o)))
    by (Node-F.Identifier k j) o = none (Node-F.Identifier k j) o refl
    by Node-F.Absent o = none Node-F.Absent o refl
    by (Node-F.Flag x) o = none (Node-F.Flag x) o refl
    by (Node-F.Word x) o = none (Node-F.Word x) o refl
    by (Node-F.Text x) o = none (Node-F.Text x) o refl
    by (Node-F.Span x) o = none (Node-F.Span x) o refl
