-- A writable exported declaration declares the same when all is written out.
use Rattle.std.proofs.Common.{◌≡◌, Bool, true, false, not, ◌&&◌, ◌||◌, IsTrue, List, [], ◌∷◌, ◌++◌, map, refl, sym, ap, ◌∙◌, subst, rules}
use Rattle.std.specs.Prelude.{if◌then◌else◌}
use Rattle.std.specs.List.{flat_map}
use Rattle.swc_tree_marks.specs.declared.span.Span.{Span as Range}
use Rattle.swc_tree_marks.specs.declared.ident.Ident.{Ident}
use Rattle.swc_tree_node.specs.declared.kind.Kind.{Kind}
use Rattle.swc_tree_node.specs.declared.kind.Kind.TheVariants as kind
use Rattle.swc_tree_node.specs.declared.kind.Class.TheVariants as class
use Rattle.swc_tree_node.specs.declared.slot.Content.{Content}
use Rattle.swc_tree_node.specs.declared.slot.Content.TheVariants as content
use Rattle.swc_tree_node.specs.declared.slot.Slot.{Slot}
use Rattle.swc_tree_node.specs.declared.slot.Slot.TheVariants as slot
use Rattle.swc_tree_node.specs.declared.node.Node.{Node, Absent, Flag, Word, Text, Span, List as Many, Identifier, Tree, out-Node, roll-Node, roll-out-Node, the_lemmas}
use Rattle.swc_tree_node.specs.declared.node.Node.TheVariants.{outs-Absent, outs-Flag, outs-Word, outs-Text, outs-Span, outs-List, outs-Identifier, outs-Tree, rolls-Tree}
use Rattle.swc_tree_node.specs.declared.node.Node.TheOpen.{Node-F}
use Rattle.swc_tree_node.specs.Table.{slots_of}
use Rattle.swc_tree_node.specs.Fits.{AllFit, belongs, FieldsFit, Fits}
use Rattle.swc_tree_node.proofs.Fit.{fits-Absent, fits-Flag, fits-Identifier, fits-Span, fits-Text, fits-Tree, fits-Word, holes_open}
use Rattle.swc_tree_scoping.specs.BoundNames.{bound_ids, declared_ids, declared_in}
use Rattle.swc_tree_scoping.specs.Shorthands.{key_of}
use Rattle.swc_tree_scoping.proofs.BoundNames.{bound-Identifier, bound-List, bound-Tree}
use Rattle.swc_tree_grammar.specs.Shapes.{items_in, items_of}
use Rattle.swc_tree_grammar.specs.Levels.{is_absent, is_absent_in}
use Rattle.swc_tree_grammar.specs.Forms.{form_in, is_using, is_using_form}
use Rattle.swc_tree_grammar.specs.Kinds.{has_kind, has_kind_in, is_rest}
use Rattle.swc_tree_grammar.specs.Targets.{is_target}
use Rattle.swc_tree_grammar.specs.Stripped.{stripped}
use Rattle.swc_tree_grammar.specs.Normal.{as_pattern, pattern_in, with_default, written_out, written_step}
use Rattle.swc_tree_grammar.specs.Writable.{Round, all_sound, binding, default_in, element, elements, is_element, is_plain_pattern_in, pattern, pattern_of, pattern_of_param_in, property_in}
use Rattle.swc_tree_grammar.proofs.Asked.{of, sound, sound_list, sound_tree}
use Rattle.swc_tree_grammar.proofs.Induction.{Each, by_children}
use Rattle.swc_tree_grammar.proofs.Items.{items_of_list, listed}
use Rattle.swc_tree_grammar.proofs.Places.{stands}
use Rattle.swc_tree_grammar.proofs.Stripped.{is_other, stripped_of_list, stripped_other}
use Rattle.swc_base_rename_laws.proofs.NormalFormRows.{out-Absent, out-Identifier, out-List, out-Tree}
use Rattle.swc_base_rename_laws.proofs.NormalFormWritten.{key_is}
use Rattle.swc_base_rename_laws.proofs.NormalFormFits.{binding_name, ident_name}
use Rattle.swc_base_rename_laws.proofs.NormalFormModule.{tree_only}
use Rattle.swc_base_rename_laws.proofs.Impossible.{impossible}

-- ---- the normal form of a part

abbrev N : Node → Node
N t = written_out (stripped t)

-- nothing is left to be read as a pattern, and the same is bound
abbrev Good : Node → Type 0
Good t = (as_pattern (N t) ≡ N t) × (bound_ids (N t) ≡ bound_ids t)

good_tree : (t : Node) (k : Kind) (us : List Node) → N t ≡ Tree k us → bound_ids (Tree k us) ≡ bound_ids t → Good t
good_tree t k us e h = (ap as_pattern e ∙ ap (pattern_in (Tree k us)) (outs-Tree k us) ∙ sym e, ap bound_ids e ∙ h)

strip_identifier : (k : Kind) (i : Ident) → stripped (Identifier k i) ≡ Identifier k i
strip_identifier k i = search (rules, the_lemmas)

strip_absent : stripped Absent ≡ Absent
strip_absent = search (rules, the_lemmas)

good_name : (i : Ident) → Good (Identifier kind.BindingIdent i)
good_name i =
    let same : N (Identifier kind.BindingIdent i) ≡ Identifier kind.BindingIdent i = ap written_out (strip_identifier kind.BindingIdent i) ∙ out-Identifier kind.BindingIdent i in
    (ap as_pattern same ∙ ap (pattern_in (Identifier kind.BindingIdent i)) (outs-Identifier kind.BindingIdent i) ∙ sym same, ap bound_ids same)

good_absent : Good Absent
good_absent =
    let same : N Absent ≡ Absent = ap written_out strip_absent ∙ out-Absent in
    (ap as_pattern same ∙ ap (pattern_in Absent) outs-Absent ∙ sym same, ap bound_ids same)

tree_form : (k : Kind) (ts : List Node) → IsTrue (is_other k) → N (Tree k ts) ≡ written_step (Node-F.Tree k (map written_out (map stripped ts)))
tree_form k ts o = ap written_out (stripped_other k ts o) ∙ out-Tree k (map stripped ts)

list_form : (ts : List Node) → N (Many ts) ≡ Many (map written_out (map stripped ts))
list_form ts = ap written_out (stripped_of_list ts) ∙ out-List (map stripped ts)

list_items : (ts : List Node) → items_of (N (Many ts)) ≡ map written_out (map stripped ts)
list_items ts = ap items_of (list_form ts) ∙ items_of_list (map written_out (map stripped ts))

each_bound : (ts : List Node) → Each Good ts → flat_map bound_ids (map written_out (map stripped ts)) ≡ flat_map bound_ids ts
each_bound [] h = refl
each_bound (t ∷ ts) h = ap (λ l. l ++ flat_map bound_ids (map written_out (map stripped ts))) h.0.1 ∙ ap (λ l. bound_ids t ++ l) (each_bound ts h.1)

each_pattern : (ts : List Node) → Each Good ts → map as_pattern (map written_out (map stripped ts)) ≡ map written_out (map stripped ts)
each_pattern [] h = refl
each_pattern (t ∷ ts) h = ap (λ u. u ∷ map as_pattern (map written_out (map stripped ts))) h.0.0 ∙ ap (λ l. N t ∷ l) (each_pattern ts h.1)

list_bound : (ts : List Node) → Each Good ts → bound_ids (Many (map written_out (map stripped ts))) ≡ bound_ids (Many ts)
list_bound ts h = bound-List (map written_out (map stripped ts)) ∙ each_bound ts h ∙ sym (bound-List ts)

-- ---- patterns, given that their parts are good

good_array : (a : Node) (ts : List Node) → Each Good ts → Good (Tree kind.ArrayPat (a ∷ Many ts ∷ []))
good_array a ts h = good_tree _ kind.ArrayPat (N a ∷ Many (map written_out (map stripped ts)) ∷ [])
    (tree_form kind.ArrayPat (a ∷ Many ts ∷ []) refl ∙ ap (λ l. Tree kind.ArrayPat (N a ∷ Many (map as_pattern l) ∷ [])) (list_items ts) ∙ ap (λ l. Tree kind.ArrayPat (N a ∷ Many l ∷ [])) (each_pattern ts h))
    (bound-Tree kind.ArrayPat _ ∙ ap (λ l. l ++ []) (list_bound ts h) ∙ sym (bound-Tree kind.ArrayPat (a ∷ Many ts ∷ [])))

good_object : (a : Node) (ts : List Node) → Each Good ts → Good (Tree kind.ObjectPat (a ∷ Many ts ∷ []))
good_object a ts h = good_tree _ kind.ObjectPat (N a ∷ Many (map written_out (map stripped ts)) ∷ [])
    (tree_form kind.ObjectPat (a ∷ Many ts ∷ []) refl ∙ rolls-Tree kind.ObjectPat _ ∙ ap (λ l. Tree kind.ObjectPat (N a ∷ l ∷ [])) (list_form ts))
    (bound-Tree kind.ObjectPat _ ∙ ap (λ l. l ++ []) (list_bound ts h) ∙ sym (bound-Tree kind.ObjectPat (a ∷ Many ts ∷ [])))

good_rest : (a t : Node) → Good t → Good (Tree kind.RestPat (a ∷ t ∷ []))
good_rest a t h = good_tree _ kind.RestPat (N a ∷ N t ∷ [])
    (tree_form kind.RestPat (a ∷ t ∷ []) refl ∙ ap (λ u. Tree kind.RestPat (N a ∷ u ∷ [])) h.0)
    (bound-Tree kind.RestPat _ ∙ ap (λ l. l ++ []) h.1 ∙ sym (bound-Tree kind.RestPat (a ∷ t ∷ [])))

good_default : (a t v : Node) → Good t → Good (Tree kind.AssignPat (a ∷ t ∷ v ∷ []))
good_default a t v h = good_tree _ kind.AssignPat (N a ∷ N t ∷ N v ∷ [])
    (tree_form kind.AssignPat (a ∷ t ∷ v ∷ []) refl ∙ ap (λ u. Tree kind.AssignPat (N a ∷ u ∷ N v ∷ [])) h.0)
    (bound-Tree kind.AssignPat _ ∙ ap (λ l. l ++ []) h.1 ∙ sym (bound-Tree kind.AssignPat (a ∷ t ∷ v ∷ [])))

good_value : (a t : Node) → Good t → Good (Tree kind.KeyValuePatProp (a ∷ t ∷ []))
good_value a t h = good_tree _ kind.KeyValuePatProp (N a ∷ N t ∷ [])
    (tree_form kind.KeyValuePatProp (a ∷ t ∷ []) refl ∙ ap (λ u. Tree kind.KeyValuePatProp (N a ∷ u ∷ [])) h.0)
    (bound-Tree kind.KeyValuePatProp _ ∙ ap (λ l. l ++ []) h.1 ∙ sym (bound-Tree kind.KeyValuePatProp (a ∷ t ∷ [])))

name_ids : (i : Ident) → bound_ids (Identifier kind.BindingIdent i) ≡ (i.sym, i.ctxt) ∷ []
name_ids i = bound-Identifier kind.BindingIdent i

default_ids : (b : Bool) (s : Range) (i : Ident) (v : Node)
    → bound_ids (if b then Identifier kind.BindingIdent i else Tree kind.AssignPat (Span s ∷ Identifier kind.BindingIdent i ∷ v ∷ [])) ≡ (i.sym, i.ctxt) ∷ []
default_ids true s i v = name_ids i
default_ids false s i v = bound-Tree kind.AssignPat _ ∙ ap (λ l. l ++ []) (name_ids i)

good_key : (a : Node) (i : Ident) (v : Node) → Good (Tree kind.AssignPatProp (a ∷ Identifier kind.BindingIdent i ∷ v ∷ []))
good_key a i v = good_tree _ kind.KeyValuePatProp (key_of i ∷ with_default (Span i.span) (Identifier kind.BindingIdent i) (N v) ∷ [])
    (ap written_out (stripped_other kind.AssignPatProp (a ∷ Identifier kind.BindingIdent i ∷ v ∷ []) refl ∙ ap (λ t. Tree kind.AssignPatProp (stripped a ∷ t ∷ stripped v ∷ [])) (strip_identifier kind.BindingIdent i))
    ∙ key_is (stripped a) i (stripped v))
    (bound-Tree kind.KeyValuePatProp _ ∙ ap (λ l. l ++ []) (default_ids (is_absent (N v)) i.span i (N v))
    ∙ sym (bound-Tree kind.AssignPatProp (a ∷ Identifier kind.BindingIdent i ∷ v ∷ []) ∙ ap (λ l. l ++ []) (name_ids i)))

-- ---- what is asked of patterns

abbrev is_pattern : Kind → Bool
is_pattern kind.ArrayPat = true
is_pattern kind.ObjectPat = true
is_pattern kind.RestPat = true
is_pattern kind.AssignPat = true
is_pattern kind.KeyValuePatProp = true
is_pattern kind.AssignPatProp = true
is_pattern k = false

abbrev shaped_in : Node-F Node → Bool
shaped_in Node-F.Absent = true
shaped_in (Node-F.Identifier kind.BindingIdent i) = true
shaped_in (Node-F.Tree k ts) = is_pattern k
shaped_in y = false

abbrev shaped : Node → Bool
shaped t = shaped_in (out-Node t)

both_left : (a b : Bool) → (a && b) ≡ true → a ≡ true
both_left true b h = refl
both_left false b h = h

both_right : (a b : Bool) → (a && b) ≡ true → b ≡ true
both_right true b h = h
both_right false b h = absurd (cc)

-- what is asked where a name may be bound
abbrev test : Node-F Node → Bool
test y = is_absent_in y || (property_in y || (default_in y || (is_plain_pattern_in y || false)))

tested : (y : Node-F Node) → test y ≡ true → shaped_in y ≡ true
tested Node-F.Absent h = refl
tested (Node-F.Identifier kind.BindingIdent i) h = refl
tested (Node-F.Identifier k i) h = impossible h
tested (Node-F.Tree kind.ArrayPat ts) h = refl
tested (Node-F.Tree kind.ObjectPat ts) h = refl
tested (Node-F.Tree kind.RestPat ts) h = refl
tested (Node-F.Tree kind.AssignPat ts) h = refl
tested (Node-F.Tree kind.KeyValuePatProp ts) h = refl
tested (Node-F.Tree kind.AssignPatProp ts) h = refl
tested (Node-F.Tree k ts) h = impossible h
tested y h = impossible h

or_right : (a b : Bool) → b ≡ true → (a || b) ≡ true
or_right true b h = refl
or_right false b h = h

unassigned : (a x : Bool) → a ≡ false → (a && x) ≡ false
unassigned a x e = ap (λ a. a && x) e

pattern_shaped : (t : Node) (r : Round) → r.assigned ≡ false → pattern t r ≡ true → shaped t ≡ true
pattern_shaped t r a h =
    tested (out-Node t) (or_right (is_absent t) _ (or_right (property_in (out-Node t)) _ (or_right (default_in (out-Node t)) _
    (ap (λ b. is_plain_pattern_in (out-Node t) || b) (sym (unassigned r.assigned (is_target t) a)) ∙ h))))

element_shaped : (t : Node) (r : Round) → r.assigned ≡ false → element t r ≡ true → shaped t ≡ true
element_shaped t r a h =
    tested (out-Node t) (or_right (is_absent t) _ (or_right (property_in (out-Node t)) _
    (ap (λ b. default_in (out-Node t) || (is_plain_pattern_in (out-Node t) || b)) (sym (unassigned r.assigned (is_target t) a)) ∙ h)))

abbrev pats : Slot
pats = slot.Optional (content.Node class.Pat)

-- no parameter stands in a pattern
own_pattern : (t : Node) (y : Node-F Node) → t ≡ roll-Node y → Fits t pats → pattern_of_param_in t y ≡ t
own_pattern t (Node-F.Tree kind.Param ts) e f =
    let w = stands kind.Param ts pats (subst (λ t. Fits t pats) (e ∙ rolls-Tree kind.Param ts) f) in
    let same : class.Pat ≡ w.in_class = let p = w.place in cc in
    let no : IsTrue (belongs kind.Param class.Pat) = subst (λ c. IsTrue (belongs kind.Param c)) (sym same) w.belonging in
    absurd (cc)
own_pattern t y e f = refl

item_shaped : (t : Node) (r : Round) → r.assigned ≡ false → Fits t pats → is_element r t ≡ true → shaped t ≡ true
item_shaped t r a f h =
    let own : pattern_of t ≡ t = own_pattern t (out-Node t) (sym (roll-out-Node t)) f in
    tested (out-Node t)
    (ap (λ b. is_absent t || (property_in (out-Node t) || (default_in (out-Node t) || (is_plain_pattern_in (out-Node t) || b)))) (sym (unassigned r.assigned (is_target t) a))
    ∙ sym (ap (λ u. is_absent t || (property_in (out-Node t) || element u r)) own) ∙ h)

rest_in : (y : Node-F Node) → has_kind_in is_rest y ≡ true → shaped_in y ≡ true
rest_in (Node-F.Tree kind.RestPat ts) h = refl
rest_in (Node-F.Tree k ts) h = impossible h
rest_in y h = impossible h

last_shaped : (t : Node) (r : Round) (b : Bool) → r.assigned ≡ false → Fits t pats → has_kind is_rest (pattern_of t) ≡ b → (b || is_element r t) ≡ true → shaped t ≡ true
last_shaped t r true a f e h =
    let own : pattern_of t ≡ t = own_pattern t (out-Node t) (sym (roll-out-Node t)) f in
    rest_in (out-Node t) (sym (ap (has_kind is_rest) own) ∙ e)
last_shaped t r false a f e h = item_shaped t r a f h

-- ---- patterns

abbrev Holds : Node → Type 0
Holds t = (s : Slot) (r : Round) → r.assigned ≡ false → Fits t s → shaped t ≡ true → sound t r ≡ true → Good t

abbrev Whole : Node → Type 0
Whole t = Holds t × Each Holds (items_of t)

sound_first : (t : Node) (ts : List Node) (r : Round) → all_sound (map of (t ∷ ts)) r ≡ true → sound t r ≡ true
sound_first t ts r h = both_right _ _ (both_left _ _ h)

sound_rest : (t : Node) (ts : List Node) (r : Round) → all_sound (map of (t ∷ ts)) r ≡ true → all_sound (map of ts) r ≡ true
sound_rest t ts r h = both_right _ _ h

elements_good : (r : Round) → r.assigned ≡ false → (ts : List Node) → Each Holds ts → AllFit pats ts → elements r ts ≡ true → all_sound (map of ts) r ≡ true → Each Good ts
elements_good r a [] e f h s = tt
elements_good r a (t ∷ []) e f h s = (e.0 pats r a f.0 (last_shaped t r _ a f.0 refl h) (sound_first t [] r s), tt)
elements_good r a (t ∷ u ∷ ts) e f h s =
    (e.0 pats r a f.0 (item_shaped t r a f.0 (both_left _ _ h)) (sound_first t (u ∷ ts) r s), elements_good r a (u ∷ ts) e.1 f.1 (both_right _ _ h) (sound_rest t (u ∷ ts) r s))

abbrev patterns : Slot
patterns = slot.One (content.Node class.ObjectPatProp)

prop_kind : (k : Kind) → IsTrue (belongs k class.ObjectPatProp) → is_pattern k ≡ true
prop_kind kind.KeyValuePatProp h = refl
prop_kind kind.AssignPatProp h = refl
prop_kind kind.RestPat h = refl
prop_kind k h = impossible h

prop_shaped : (t : Node) → Fits t patterns → shaped t ≡ true
prop_shaped t f = let x = tree_only class.ObjectPatProp refl refl t f in ap shaped x.2 ∙ ap shaped_in (outs-Tree x.0 x.1) ∙ prop_kind x.0 x.4

props_good : (r : Round) → r.assigned ≡ false → (ts : List Node) → Each Holds ts → AllFit patterns ts → all_sound (map of ts) r ≡ true → Each Good ts
props_good r a [] e f s = tt
props_good r a (t ∷ ts) e f s = (e.0 patterns r a f.0 (prop_shaped t f.0) (sound_first t ts r s), props_good r a ts e.1 f.1 (sound_rest t ts r s))

abbrev Listed : Node → Content → Type 0
Listed t c = (ts : List Node) × (t ≡ Many ts) × AllFit (slot.Optional c) ts

holes : (c : Content) (t : Node) → Fits t (slot.Holes c) → Listed t c
holes c t = by_children (λ t. Fits t (slot.Holes c) → Listed t c) (
  λ h. absurd (cc (sym (fits-Absent (slot.Holes c)) ∙ h)),
  λ x h. absurd (cc (sym (fits-Flag x (slot.Holes c)) ∙ h)),
  λ x h. absurd (cc (sym (fits-Word x (slot.Holes c)) ∙ h)),
  λ x h. absurd (cc (sym (fits-Text x (slot.Holes c)) ∙ h)),
  λ x h. absurd (cc (sym (fits-Span x (slot.Holes c)) ∙ h)),
  λ k i h. absurd (cc (sym (fits-Identifier k i (slot.Holes c)) ∙ h)),
)
    (λ ts l h. (ts, refl, holes_open ts c h))
    (λ k ts l h. absurd (cc (sym (fits-Tree k ts (slot.Holes c)) ∙ h))) t

items_each : (t : Node) (ts : List Node) → t ≡ Many ts → Whole t → Each Holds ts
items_each t ts e w = subst (Each Holds) (ap items_of e ∙ items_of_list ts) w.1

array_good : (a : Node) (ts : List Node) (r : Round) → r.assigned ≡ false → Each Holds ts → AllFit pats ts → sound (Tree kind.ArrayPat (a ∷ Many ts ∷ [])) r ≡ true → Good (Tree kind.ArrayPat (a ∷ Many ts ∷ []))
array_good a ts r n e f h =
    let s : (elements r (items_of (Many ts)) && sound (Many ts) r) ≡ true = sym (sound_tree kind.ArrayPat (a ∷ Many ts ∷ []) r) ∙ h in
    good_array a ts (elements_good r n ts e f (sym (ap (elements r) (items_of_list ts)) ∙ both_left _ _ s) (sym (sound_list ts r) ∙ both_right _ _ s))

object_good : (a : Node) (ts : List Node) (r : Round) → r.assigned ≡ false → Each Holds ts → AllFit patterns ts → sound (Tree kind.ObjectPat (a ∷ Many ts ∷ [])) r ≡ true → Good (Tree kind.ObjectPat (a ∷ Many ts ∷ []))
object_good a ts r n e f h =
    let s : (elements r (items_of (Many ts)) && sound (Many ts) r) ≡ true = sym (sound_tree kind.ObjectPat (a ∷ Many ts ∷ []) r) ∙ h in
    good_object a ts (props_good r n ts e f (sym (sound_list ts r) ∙ both_right _ _ s))

tree_good : (k : Kind) (ts : List Node) → is_pattern k ≡ true → FieldsFit (slots_of k) ts → Each Whole ts → (r : Round) → r.assigned ≡ false → sound (Tree k ts) r ≡ true → Good (Tree k ts)
tree_good kind.ArrayPat [] p f e r n h = absurd f
tree_good kind.ArrayPat (x ∷ []) p f e r n h = absurd f.1
tree_good kind.ArrayPat (x ∷ y ∷ z ∷ ts) p f e r n h = absurd f.1.1
tree_good kind.ArrayPat (x ∷ y ∷ []) p f e r n h =
    let (ts, is, g) = holes (content.Node class.Pat) y f.1.0 in
    subst (λ y. Good (Tree kind.ArrayPat (x ∷ y ∷ []))) (sym is) (array_good x ts r n (items_each y ts is e.1.0) g (subst (λ y. sound (Tree kind.ArrayPat (x ∷ y ∷ [])) r ≡ true) is h))
tree_good kind.ObjectPat [] p f e r n h = absurd f
tree_good kind.ObjectPat (x ∷ []) p f e r n h = absurd f.1
tree_good kind.ObjectPat (x ∷ y ∷ z ∷ ts) p f e r n h = absurd f.1.1
tree_good kind.ObjectPat (x ∷ y ∷ []) p f e r n h =
    let l = listed y (content.Node class.ObjectPatProp) f.1.0 in
    subst (λ y. Good (Tree kind.ObjectPat (x ∷ y ∷ []))) (sym l.is) (object_good x l.items r n (items_each y l.items l.is e.1.0) l.fit (subst (λ y. sound (Tree kind.ObjectPat (x ∷ y ∷ [])) r ≡ true) l.is h))
tree_good kind.RestPat [] p f e r n h = absurd f
tree_good kind.RestPat (x ∷ []) p f e r n h = absurd f.1
tree_good kind.RestPat (x ∷ y ∷ z ∷ ts) p f e r n h = absurd f.1.1
tree_good kind.RestPat (x ∷ y ∷ []) p f e r n h =
    let s : (pattern y r && sound y r) ≡ true = sym (sound_tree kind.RestPat (x ∷ y ∷ []) r) ∙ h in
    good_rest x y (e.1.0.0 (slot.One (content.Node class.Pat)) r n f.1.0 (pattern_shaped y r n (both_left _ _ s)) (both_right _ _ s))
tree_good kind.AssignPat [] p f e r n h = absurd f
tree_good kind.AssignPat (x ∷ []) p f e r n h = absurd f.1
tree_good kind.AssignPat (x ∷ y ∷ []) p f e r n h = absurd f.1.1
tree_good kind.AssignPat (x ∷ y ∷ z ∷ t ∷ ts) p f e r n h = absurd f.1.1.1
tree_good kind.AssignPat (x ∷ y ∷ z ∷ []) p f e r n h =
    let s : (pattern y r && (sound y r && all_sound (of z ∷ []) (binding r))) ≡ true = sym (sound_tree kind.AssignPat (x ∷ y ∷ z ∷ []) r) ∙ h in
    good_default x y z (e.1.0.0 (slot.One (content.Node class.Pat)) r n f.1.0 (pattern_shaped y r n (both_left _ _ s)) (both_left _ _ (both_right _ _ s)))
tree_good kind.KeyValuePatProp [] p f e r n h = absurd f
tree_good kind.KeyValuePatProp (x ∷ []) p f e r n h = absurd f.1
tree_good kind.KeyValuePatProp (x ∷ y ∷ z ∷ ts) p f e r n h = absurd f.1.1
tree_good kind.KeyValuePatProp (x ∷ y ∷ []) p f e r n h =
    let s : (element y r && (sound x (binding r) && sound y r)) ≡ true = sym (sound_tree kind.KeyValuePatProp (x ∷ y ∷ []) r) ∙ h in
    good_value x y (e.1.0.0 (slot.One (content.Node class.Pat)) r n f.1.0 (element_shaped y r n (both_left _ _ s)) (both_right _ _ (both_right _ _ s)))
tree_good kind.AssignPatProp [] p f e r n h = absurd f
tree_good kind.AssignPatProp (x ∷ []) p f e r n h = absurd f.1
tree_good kind.AssignPatProp (x ∷ y ∷ []) p f e r n h = absurd f.1.1
tree_good kind.AssignPatProp (x ∷ y ∷ z ∷ t ∷ ts) p f e r n h = absurd f.1.1.1
tree_good kind.AssignPatProp (x ∷ y ∷ z ∷ []) p f e r n h =
    let (i, is) = binding_name y f.1.0 in
    subst (λ y. Good (Tree kind.AssignPatProp (x ∷ y ∷ z ∷ []))) (sym is) (good_key x i z)
tree_good k ts p f e r n h = impossible p

no_items : (t : Node) (y : Node-F Node) → out-Node t ≡ y → items_in y ≡ [] → Each Holds (items_of t)
no_items t y e f = subst (Each Holds) (sym (ap items_in e ∙ f)) tt

unshaped : (t : Node) (y : Node-F Node) → out-Node t ≡ y → shaped_in y ≡ false → Holds t
unshaped t y e n s r a f h k = let no : shaped t ≡ false = ap shaped_in e ∙ n in absurd (cc)

name_holds : (k : Kind) (i : Ident) → Holds (Identifier k i)
name_holds kind.BindingIdent i s r a f h k = good_name i
name_holds k i s r a f h g = unshaped (Identifier k i) (Node-F.Identifier k i) (outs-Identifier k i) refl s r a f h g

tree_holds : (k : Kind) (ts : List Node) → Each Whole ts → Holds (Tree k ts)
tree_holds k ts e s r a f h g = tree_good k ts (sym (ap shaped_in (outs-Tree k ts)) ∙ h) (stands k ts s f).fields e r a g

first_of : (ts : List Node) → Each Whole ts → Each Holds ts
first_of [] e = tt
first_of (t ∷ ts) e = (e.0.0, first_of ts e.1)

holds : (t : Node) → Whole t
holds t = by_children Whole (
  (λ s r a f h g. good_absent, no_items Absent _ outs-Absent refl),
  λ x. (unshaped (Flag x) _ (outs-Flag x) refl, no_items (Flag x) _ (outs-Flag x) refl),
  λ x. (unshaped (Word x) _ (outs-Word x) refl, no_items (Word x) _ (outs-Word x) refl),
  λ x. (unshaped (Text x) _ (outs-Text x) refl, no_items (Text x) _ (outs-Text x) refl),
  λ x. (unshaped (Span x) _ (outs-Span x) refl, no_items (Span x) _ (outs-Span x) refl),
  λ k i. (name_holds k i, no_items (Identifier k i) _ (outs-Identifier k i) refl),
)
    (λ ts e. (unshaped (Many ts) _ (outs-List ts) refl, subst (Each Holds) (sym (items_of_list ts)) (first_of ts e)))
    (λ k ts e. (tree_holds k ts e, no_items (Tree k ts) _ (outs-Tree k ts) refl)) t

-- ---- declarations

abbrev Same : Node → Type 0
Same t = bound_ids (N t) ≡ bound_ids t

each_same : (ts : List Node) → Each Same ts → flat_map bound_ids (map written_out (map stripped ts)) ≡ flat_map bound_ids ts
each_same [] h = refl
each_same (t ∷ ts) h = ap (λ l. l ++ flat_map bound_ids (map written_out (map stripped ts))) h.0 ∙ ap (λ l. bound_ids t ++ l) (each_same ts h.1)

declarator_same : (a t v : Node) → Good t → Same (Tree kind.VarDeclarator (a ∷ t ∷ v ∷ []))
declarator_same a t v h =
    ap bound_ids (tree_form kind.VarDeclarator (a ∷ t ∷ v ∷ []) refl ∙ ap (λ u. Tree kind.VarDeclarator (N a ∷ u ∷ N v ∷ [])) h.0)
    ∙ bound-Tree kind.VarDeclarator _ ∙ ap (λ l. l ++ []) h.1 ∙ sym (bound-Tree kind.VarDeclarator (a ∷ t ∷ v ∷ []))

declarator_of : (k : Kind) (ts : List Node) (r : Round) → IsTrue (belongs k class.VarDeclarator) → FieldsFit (slots_of k) ts → sound (Tree k ts) r ≡ true → Same (Tree k ts)
declarator_of kind.VarDeclarator [] r b f h = absurd f
declarator_of kind.VarDeclarator (x ∷ []) r b f h = absurd f.1
declarator_of kind.VarDeclarator (x ∷ y ∷ []) r b f h = absurd f.1.1
declarator_of kind.VarDeclarator (x ∷ y ∷ z ∷ t ∷ ts) r b f h = absurd f.1.1.1
declarator_of kind.VarDeclarator (x ∷ y ∷ z ∷ []) r b f h =
    let s : (pattern y (binding r) && (sound y (binding r) && all_sound (of z ∷ []) (binding r))) ≡ true = sym (sound_tree kind.VarDeclarator (x ∷ y ∷ z ∷ []) r) ∙ h in
    declarator_same x y z ((holds y).0 (slot.One (content.Node class.Pat)) (binding r) refl f.1.0 (pattern_shaped y (binding r) refl (both_left _ _ s)) (both_left _ _ (both_right _ _ s)))
declarator_of k ts r b f h = impossible b

declarators_same : (ts : List Node) (r : Round) → AllFit (slot.One (content.Node class.VarDeclarator)) ts → all_sound (map of ts) r ≡ true → Each Same ts
declarators_same [] r f h = tt
declarators_same (t ∷ ts) r f h =
    let x = tree_only class.VarDeclarator refl refl t f.0 in
    (subst Same (sym x.2) (declarator_of x.0 x.1 r x.4 x.5 (subst (λ t. sound t r ≡ true) x.2 (sound_first t ts r h))), declarators_same ts r f.1 (sound_rest t ts r h))

abbrev Declares : Node → Type 0
Declares d = declared_ids (N d) ≡ declared_ids d

variables_declare : (a w : Node) (ts : List Node) → Each Same ts → Declares (Tree kind.VarDecl (a ∷ w ∷ Many ts ∷ []))
variables_declare a w ts h =
    let us = N a ∷ N w ∷ Many (map written_out (map stripped ts)) ∷ [] in
    ap declared_ids (tree_form kind.VarDecl (a ∷ w ∷ Many ts ∷ []) refl ∙ rolls-Tree kind.VarDecl _ ∙ ap (λ l. Tree kind.VarDecl (N a ∷ N w ∷ l ∷ [])) (list_form ts))
    ∙ ap (declared_in (Tree kind.VarDecl us)) (outs-Tree kind.VarDecl us)
    ∙ bound-Tree kind.VarDecl us
    ∙ ap (λ l. l ++ []) (bound-List (map written_out (map stripped ts)) ∙ each_same ts h ∙ sym (bound-List ts))
    ∙ sym (bound-Tree kind.VarDecl (a ∷ w ∷ Many ts ∷ []))
    ∙ sym (ap (declared_in (Tree kind.VarDecl (a ∷ w ∷ Many ts ∷ []))) (outs-Tree kind.VarDecl (a ∷ w ∷ Many ts ∷ [])))

variables_of : (a w : Node) (ts : List Node) (r : Round) → AllFit (slot.One (content.Node class.VarDeclarator)) ts → sound (Tree kind.VarDecl (a ∷ w ∷ Many ts ∷ [])) r ≡ true
    → Declares (Tree kind.VarDecl (a ∷ w ∷ Many ts ∷ []))
variables_of a w ts r f h =
    variables_declare a w ts (declarators_same ts r f (sym (sound_list ts r) ∙ both_right _ _ (sym (sound_tree kind.VarDecl (a ∷ w ∷ Many ts ∷ []) r) ∙ h)))

name_same : (l : Kind) (i : Ident) → N (Identifier l i) ≡ Identifier l i
name_same l i = ap written_out (strip_identifier l i) ∙ out-Identifier l i

function_declares : (l : Kind) (i : Ident) (t : Node) → Declares (Tree kind.FnDecl (Identifier l i ∷ t ∷ []))
function_declares l i t =
    ap declared_ids (tree_form kind.FnDecl (Identifier l i ∷ t ∷ []) refl ∙ rolls-Tree kind.FnDecl _ ∙ ap (λ u. Tree kind.FnDecl (u ∷ N t ∷ [])) (name_same l i))
    ∙ ap (declared_in _) (outs-Tree kind.FnDecl (Identifier l i ∷ N t ∷ []))
    ∙ sym (ap (declared_in _) (outs-Tree kind.FnDecl (Identifier l i ∷ t ∷ [])))

class_declares : (l : Kind) (i : Ident) (t : Node) → Declares (Tree kind.ClassDecl (Identifier l i ∷ t ∷ []))
class_declares l i t =
    ap declared_ids (tree_form kind.ClassDecl (Identifier l i ∷ t ∷ []) refl ∙ rolls-Tree kind.ClassDecl _ ∙ ap (λ u. Tree kind.ClassDecl (u ∷ N t ∷ [])) (name_same l i))
    ∙ ap (declared_in _) (outs-Tree kind.ClassDecl (Identifier l i ∷ N t ∷ []))
    ∙ sym (ap (declared_in _) (outs-Tree kind.ClassDecl (Identifier l i ∷ t ∷ [])))

using_tree : (ts : List Node) → not (is_using (Tree kind.UsingDecl ts)) ≡ false
using_tree ts = ap (λ y. not (is_using_form (form_in y))) (outs-Tree kind.UsingDecl ts)

declaration_of : (k : Kind) (ts : List Node) (r : Round) → IsTrue (belongs k class.Decl) → FieldsFit (slots_of k) ts → not (is_using (Tree k ts)) ≡ true → sound (Tree k ts) r ≡ true → Declares (Tree k ts)
declaration_of kind.ClassDecl [] r b f u h = absurd f
declaration_of kind.ClassDecl (x ∷ []) r b f u h = absurd f.1
declaration_of kind.ClassDecl (x ∷ y ∷ z ∷ ts) r b f u h = absurd f.1.1
declaration_of kind.ClassDecl (x ∷ y ∷ []) r b f u h = let (l, i, is, c) = ident_name x f.0 in subst (λ x. Declares (Tree kind.ClassDecl (x ∷ y ∷ []))) (sym is) (class_declares l i y)
declaration_of kind.FnDecl [] r b f u h = absurd f
declaration_of kind.FnDecl (x ∷ []) r b f u h = absurd f.1
declaration_of kind.FnDecl (x ∷ y ∷ z ∷ ts) r b f u h = absurd f.1.1
declaration_of kind.FnDecl (x ∷ y ∷ []) r b f u h = let (l, i, is, c) = ident_name x f.0 in subst (λ x. Declares (Tree kind.FnDecl (x ∷ y ∷ []))) (sym is) (function_declares l i y)
declaration_of kind.UsingDecl ts r b f u h = let no = using_tree ts in absurd (cc)
declaration_of kind.VarDecl [] r b f u h = absurd f
declaration_of kind.VarDecl (x ∷ []) r b f u h = absurd f.1
declaration_of kind.VarDecl (x ∷ y ∷ []) r b f u h = absurd f.1.1
declaration_of kind.VarDecl (x ∷ y ∷ z ∷ t ∷ ts) r b f u h = absurd f.1.1.1
declaration_of kind.VarDecl (x ∷ y ∷ z ∷ []) r b f u h =
    let l = listed z (content.Node class.VarDeclarator) f.1.1.0 in
    subst (λ z. Declares (Tree kind.VarDecl (x ∷ y ∷ z ∷ []))) (sym l.is) (variables_of x y l.items r l.fit (subst (λ z. sound (Tree kind.VarDecl (x ∷ y ∷ z ∷ [])) r ≡ true) l.is h))
declaration_of kind.TsInterfaceDecl ts r b f u h = absurd (cc (sym (sound_tree kind.TsInterfaceDecl ts r) ∙ h))
declaration_of kind.TsTypeAliasDecl ts r b f u h = absurd (cc (sym (sound_tree kind.TsTypeAliasDecl ts r) ∙ h))
declaration_of kind.TsEnumDecl ts r b f u h = absurd (cc (sym (sound_tree kind.TsEnumDecl ts r) ∙ h))
declaration_of kind.TsModuleDecl ts r b f u h = absurd (cc (sym (sound_tree kind.TsModuleDecl ts r) ∙ h))
declaration_of k ts r b f u h = impossible b

declares : (d : Node) (r : Round) → Fits d (slot.One (content.Node class.Decl)) → not (is_using d) ≡ true → sound d r ≡ true → Declares d
declares d r f u h =
    let x = tree_only class.Decl refl refl d f in
    subst Declares (sym x.2) (declaration_of x.0 x.1 r x.4 x.5 (subst (λ d. not (is_using d) ≡ true) x.2 u) (subst (λ d. sound d r ≡ true) x.2 h))

-- the names that a writable exported declaration declares stay when it is written out
pub exported_declares : (a d : Node) (r : Round) → Fits (Tree kind.ExportDecl (a ∷ d ∷ [])) (slot.One (content.Node class.ModuleItem)) → sound (Tree kind.ExportDecl (a ∷ d ∷ [])) r ≡ true
    → declared_ids (written_out (stripped d)) ≡ declared_ids d
exported_declares a d r f h =
    let w = stands kind.ExportDecl (a ∷ d ∷ []) (slot.One (content.Node class.ModuleItem)) f in
    let s : (not (is_using d) && sound d r) ≡ true = sym (sound_tree kind.ExportDecl (a ∷ d ∷ []) r) ∙ h in
    declares d r w.fields.1.0 (both_left _ _ s) (both_right _ _ s)
