-- A tree without a module in it stays one when it is stripped.
use Rattle.std.proofs.Common.{◌≡◌, Bool, true, false, not, ◌&&◌, IsTrue, Some, List, [], ◌∷◌, ◌++◌, map, take, refl, sym, ap, ◌∙◌, rules}
use Rattle.std.specs.Prelude.{if◌then◌else◌}
use Rattle.std.specs.List.{flat_map, filter, list_all}
use Rattle.swc_tree_marks.specs.declared.ident.Ident.{Ident}
use Rattle.swc_tree_node.specs.declared.kind.Kind.{Kind}
use Rattle.swc_tree_node.specs.declared.kind.Kind.TheVariants as kind
use Rattle.swc_tree_node.specs.declared.kind.Class.{Class}
use Rattle.swc_tree_node.specs.declared.kind.Class.TheVariants as class
use Rattle.swc_tree_node.specs.declared.slot.Content.{Content}
use Rattle.swc_tree_node.specs.declared.slot.Content.TheVariants as content
use Rattle.swc_tree_node.specs.declared.slot.Slot.{Slot}
use Rattle.swc_tree_node.specs.declared.slot.Slot.TheVariants as slot
use Rattle.swc_tree_node.specs.declared.node.Node.{Node, Absent, Flag, Word, Text, Span, List as Many, Identifier, Tree, fold-Node, the_lemmas}
use Rattle.swc_tree_node.specs.declared.node.Node.TheVariants.{rolls-Tree}
use Rattle.swc_tree_node.specs.declared.node.Node.TheOpen.{Node-F}
use Rattle.swc_tree_node.specs.Table.{slots_of}
use Rattle.swc_tree_node.specs.Fits.{belongs, fits, Fits, FieldsFit, AllFit, list_fits, single}
use Rattle.swc_tree_node.proofs.Fit.{both, and_both, fits-List, fields_open, all_open}
use Rattle.swc_tree_grammar.specs.Shapes.{items_of}
use Rattle.swc_tree_grammar.specs.Stripped.{stripped, strip_step, parts, parts_in, effects, busy, is_idle, is_void, front, end, settled, sequence, target, target_in, is_member}
use Rattle.swc_tree_grammar.proofs.Induction.{Each, by_children}
use Rattle.swc_tree_grammar.proofs.Places.{stands}
use Rattle.swc_tree_grammar.proofs.Stripped.{effects_of_list, effects_of_tree, effects_of_sequence, effects_of_void, effects_of_other, stripped_of_list, stripped_of_tree}
use Rattle.swc_tree_grammar.proofs.Items.{items_of_list}

abbrev inner_step : Node-F Bool → Bool
inner_step (Node-F.Tree kind.Module bs) = false
inner_step (Node-F.Tree k bs) = list_all (λ b. b) bs
inner_step (Node-F.List bs) = list_all (λ b. b) bs
inner_step _ = true

-- no node of the tree is a module
abbrev pub is_inner : Node → Bool
is_inner = fold-Node Bool inner_step

abbrev All : List Node → Type 0
All ts = IsTrue (list_all is_inner ts)

each_is : (ts : List Node) → list_all (λ b. b) (map is_inner ts) ≡ list_all is_inner ts
each_is [] = refl
each_is (t ∷ ts) = ap (λ b. is_inner t && b) (each_is ts)

inner_tree : (k : Kind) (ts : List Node) → is_inner (Tree k ts) ≡ inner_step (Node-F.Tree k (map is_inner ts))
inner_tree k ts = search (rules, the_lemmas)

inner_many : (ts : List Node) → is_inner (Many ts) ≡ list_all (λ b. b) (map is_inner ts)
inner_many ts = search (rules, the_lemmas)

abbrev pub no_module : Kind → Bool
no_module kind.Module = false
no_module _ = true

step_is : (k : Kind) (ts : List Node) → IsTrue (no_module k) → inner_step (Node-F.Tree k (map is_inner ts)) ≡ list_all (λ b. b) (map is_inner ts)
step_is kind.Module ts h = absurd (cc)
step_is k ts h = refl

pub tree_is : (k : Kind) (ts : List Node) → IsTrue (no_module k) → is_inner (Tree k ts) ≡ list_all is_inner ts
tree_is k ts h = inner_tree k ts ∙ step_is k ts h ∙ each_is ts

pub list_is : (ts : List Node) → is_inner (Many ts) ≡ list_all is_inner ts
list_is ts = inner_many ts ∙ each_is ts

append : (ts us : List Node) → All ts → All us → All (ts ++ us)
append [] us h g = g
append (t ∷ ts) us h g = let p = both (is_inner t) (list_all is_inner ts) h in and_both (is_inner t) (list_all is_inner (ts ++ us)) p.0 (append ts us p.1 g)

items : (t : Node) → IsTrue (is_inner t) → All (items_of t)
items t = by_children (λ t. IsTrue (is_inner t) → All (items_of t))
    (λ h. search (rules, the_lemmas), λ x h. search (rules, the_lemmas), λ w h. search (rules, the_lemmas), λ x h. search (rules, the_lemmas), λ s h. search (rules, the_lemmas), λ k i h. search (rules, the_lemmas))
    (λ ts l h. rw (items_of_list ts) (sym (list_is ts) ∙ h))
    (λ k ts l h. search (rules, the_lemmas)) t

parts_of_tree : (k : Kind) (ts : List Node) → parts (Tree k ts) ≡ parts_in (Tree k ts) (Node-F.Tree k ts)
parts_of_tree k ts = search (rules, the_lemmas)

second : (a b : Node) → All (a ∷ b ∷ []) → IsTrue (is_inner b)
second a b h = (both (is_inner b) true ((both (is_inner a) (is_inner b && true) h).1)).0

parts_tree : (k : Kind) (ts : List Node) → IsTrue (is_inner (Tree k ts)) → All (parts_in (Tree k ts) (Node-F.Tree k ts))
parts_tree kind.SeqExpr (span ∷ exprs ∷ []) h = items exprs (second span exprs (sym (tree_is kind.SeqExpr (span ∷ exprs ∷ []) refl) ∙ h))
parts_tree k ts h = and_both (is_inner (Tree k ts)) true h refl

alone : (t : Node) → IsTrue (is_inner t) → All (t ∷ [])
alone t h = and_both (is_inner t) true h refl

in_parts : (t : Node) → IsTrue (is_inner t) → All (parts t)
in_parts t = by_children (λ t. IsTrue (is_inner t) → All (parts t)) (
  λ h. (let e : parts Absent ≡ Absent ∷ [] = search (rules, the_lemmas) in rw e (alone Absent h)),
  λ x h. (let e : parts (Flag x) ≡ Flag x ∷ [] = search (rules, the_lemmas) in rw e (alone (Flag x) h)),
  λ w h. (let e : parts (Word w) ≡ Word w ∷ [] = search (rules, the_lemmas) in rw e (alone (Word w) h)),
  λ x h. (let e : parts (Text x) ≡ Text x ∷ [] = search (rules, the_lemmas) in rw e (alone (Text x) h)),
  λ s h. (let e : parts (Span s) ≡ Span s ∷ [] = search (rules, the_lemmas) in rw e (alone (Span s) h)),
  λ k i h. (let e : parts (Identifier k i) ≡ Identifier k i ∷ [] = search (rules, the_lemmas) in rw e (alone (Identifier k i) h)),
)
    (λ ts l h. (let e : parts (Many ts) ≡ Many ts ∷ [] = search (rules, the_lemmas) in rw e (alone (Many ts) h)))
    (λ k ts l h. rw (parts_of_tree k ts) (parts_tree k ts h)) t

flat : (ts : List Node) → All ts → All (flat_map parts ts)
flat [] h = refl
flat (t ∷ ts) h = let p = both (is_inner t) (list_all is_inner ts) h in append (parts t) (flat_map parts ts) (in_parts t p.0) (flat ts p.1)

abbrev Left : Node → Type 0
Left t = IsTrue (is_inner t) → All (effects t)

each_left : (ts : List Node) → Each Left ts → All ts → All (flat_map effects ts)
each_left [] l h = refl
each_left (t ∷ ts) l h = let p = both (is_inner t) (list_all is_inner ts) h in append (effects t) (flat_map effects ts) (l.0 p.0) (each_left ts l.1 p.1)

third : (a b c : Node) → All (a ∷ b ∷ c ∷ []) → IsTrue (is_inner c)
third a b c h = second b c ((both (is_inner a) (list_all is_inner (b ∷ c ∷ [])) h).1)

void_left : (b : Bool) (span op arg : Node) → is_void op ≡ b → IsTrue (is_inner (Tree kind.UnaryExpr (span ∷ op ∷ arg ∷ []))) → Left arg → All (effects (Tree kind.UnaryExpr (span ∷ op ∷ arg ∷ [])))
void_left true span op arg e h l = rw (effects_of_void span op arg e) (l (third span op arg (sym (tree_is kind.UnaryExpr (span ∷ op ∷ arg ∷ []) refl) ∙ h)))
void_left false span op arg e h l = rw (effects_of_other span op arg e) (alone (Tree kind.UnaryExpr (span ∷ op ∷ arg ∷ [])) h)

tree_left : (k : Kind) (ts : List Node) → Each Left ts → Left (Tree k ts)
tree_left kind.SeqExpr (span ∷ exprs ∷ []) l h = rw (effects_of_sequence span exprs) (l.1.0 (second span exprs (sym (tree_is kind.SeqExpr (span ∷ exprs ∷ []) refl) ∙ h)))
tree_left kind.UnaryExpr (span ∷ op ∷ arg ∷ []) l h = void_left (is_void op) span op arg refl h l.1.1.0
tree_left k ts l h = rw (effects_of_tree k ts) (alone (Tree k ts) h)

left : (t : Node) → Left t
left t = by_children Left (
  λ h. (let e : effects Absent ≡ Absent ∷ [] = search (rules, the_lemmas) in rw e (alone Absent h)),
  λ x h. (let e : effects (Flag x) ≡ Flag x ∷ [] = search (rules, the_lemmas) in rw e (alone (Flag x) h)),
  λ w h. (let e : effects (Word w) ≡ Word w ∷ [] = search (rules, the_lemmas) in rw e (alone (Word w) h)),
  λ x h. (let e : effects (Text x) ≡ Text x ∷ [] = search (rules, the_lemmas) in rw e (alone (Text x) h)),
  λ s h. (let e : effects (Span s) ≡ Span s ∷ [] = search (rules, the_lemmas) in rw e (alone (Span s) h)),
  λ k i h. (let e : effects (Identifier k i) ≡ Identifier k i ∷ [] = search (rules, the_lemmas) in rw e (alone (Identifier k i) h)),
)
    (λ ts l h. rw (effects_of_list ts) (each_left ts l (sym (list_is ts) ∙ h)))
    tree_left t

effects_all : (ts : List Node) → All ts → All (flat_map effects ts)
effects_all [] h = refl
effects_all (t ∷ ts) h = let p = both (is_inner t) (list_all is_inner ts) h in append (effects t) (flat_map effects ts) (left t p.0) (effects_all ts p.1)

in_front : (ts : List Node) → All ts → All (front ts)
in_front [] h = refl
in_front (t ∷ []) h = refl
in_front (t ∷ u ∷ ts) h = let p = both (is_inner t) (list_all is_inner (u ∷ ts)) h in and_both (is_inner t) (list_all is_inner (front (u ∷ ts))) p.0 (in_front (u ∷ ts) p.1)

at_end : (ts : List Node) → All ts → All (end ts)
at_end [] h = refl
at_end (t ∷ []) h = h
at_end (t ∷ u ∷ ts) h = at_end (u ∷ ts) ((both (is_inner t) (list_all is_inner (u ∷ ts)) h).1)

filter_if : (b : Bool) (t : Node) (ts : List Node) → IsTrue (is_inner t) → All ts → All (if b then t ∷ ts else ts)
filter_if true t ts h g = and_both (is_inner t) (list_all is_inner ts) h g
filter_if false t ts h g = g

filtered : (p : Node → Bool) (ts : List Node) → All ts → All (filter p ts)
filtered p [] h = refl
filtered p (t ∷ ts) h = let q = both (is_inner t) (list_all is_inner ts) h in filter_if (p t) t (filter p ts) q.0 (filtered p ts q.1)

first : (ts : List Node) → All ts → All (take 1 ts)
first [] h = refl
first (t ∷ ts) h = alone t ((both (is_inner t) (list_all is_inner ts) h).0)

busy_if : (b : Bool) (ts : List Node) → All ts → All (if b then take 1 ts else filter (λ e. not (is_idle e)) ts)
busy_if true ts h = first ts h
busy_if false ts h = filtered (λ e. not (is_idle e)) ts h

settled_all : (ts : List Node) → All ts → All (settled ts)
settled_all ts h = append (busy (flat_map effects (front ts))) (end ts)
    (busy_if (list_all is_idle (flat_map effects (front ts))) (flat_map effects (front ts)) (effects_all (front ts) (in_front ts h))) (at_end ts h)

two : (a b : Node) → IsTrue (is_inner a) → IsTrue (is_inner b) → All (a ∷ b ∷ [])
two a b h g = and_both (is_inner a) (is_inner b && true) h (alone b g)

in_sequence : (span : Node) (ts : List Node) → IsTrue (is_inner span) → All ts → IsTrue (is_inner (sequence span ts))
in_sequence span (t ∷ []) s h = (both (is_inner t) true h).0
in_sequence span [] s h = tree_is kind.SeqExpr (span ∷ Many [] ∷ []) refl ∙ two span (Many []) s (list_is [] ∙ h)
in_sequence span (t ∷ u ∷ ts) s h = tree_is kind.SeqExpr (span ∷ Many (t ∷ u ∷ ts) ∷ []) refl ∙ two span (Many (t ∷ u ∷ ts)) s (list_is (t ∷ u ∷ ts) ∙ h)

one_name : (k : Kind) (i : Ident) → IsTrue (is_inner (target_in (Identifier k i) (Node-F.Identifier k i)))
one_name kind.Ident i = search (rules, the_lemmas)
one_name k i = search (rules, the_lemmas)

named : (k : Kind) (i : Ident) → IsTrue (is_inner (target (Identifier k i)))
named k i = (let e : target (Identifier k i) ≡ target_in (Identifier k i) (Node-F.Identifier k i) = search (rules, the_lemmas) in rw e (one_name k i))

as_target : (t : Node) → IsTrue (is_inner t) → IsTrue (is_inner (target t))
as_target t = by_children (λ t. IsTrue (is_inner t) → IsTrue (is_inner (target t))) (
  λ h. (let e : target Absent ≡ Absent = search (rules, the_lemmas) in rw e h),
  λ x h. (let e : target (Flag x) ≡ Flag x = search (rules, the_lemmas) in rw e h),
  λ w h. (let e : target (Word w) ≡ Word w = search (rules, the_lemmas) in rw e h),
  λ x h. (let e : target (Text x) ≡ Text x = search (rules, the_lemmas) in rw e h),
  λ s h. (let e : target (Span s) ≡ Span s = search (rules, the_lemmas) in rw e h),
  λ k i h. named k i,
)
    (λ ts l h. (let e : target (Many ts) ≡ Many ts = search (rules, the_lemmas) in rw e h))
    (λ k ts l h. (let e : target (Tree k ts) ≡ Tree k ts = search (rules, the_lemmas) in rw e h)) t

-- ---- stripping

step_inner : (k : Kind) (us : List Node) → IsTrue (no_module k) → All us → IsTrue (is_inner (strip_step (Node-F.Tree k us)))
step_inner kind.ParenExpr (a ∷ e ∷ []) n h = second a e h
step_inner kind.SeqExpr (a ∷ e ∷ []) n h =
    in_sequence a (settled (flat_map parts (items_of e))) ((both (is_inner a) (is_inner e && true) h).0)
    (settled_all (flat_map parts (items_of e)) (flat (items_of e) (items e (second a e h))))
step_inner kind.AssignExpr (a ∷ o ∷ l ∷ r ∷ []) n h =
    let p = both (is_inner a) (list_all is_inner (o ∷ l ∷ r ∷ [])) h in
    let q = both (is_inner o) (list_all is_inner (l ∷ r ∷ [])) p.1 in
    let t = both (is_inner l) (list_all is_inner (r ∷ [])) q.1 in
    tree_is kind.AssignExpr (a ∷ o ∷ target l ∷ r ∷ []) refl
    ∙ and_both (is_inner a) (list_all is_inner (o ∷ target l ∷ r ∷ [])) p.0
    (and_both (is_inner o) (list_all is_inner (target l ∷ r ∷ [])) q.0
    (and_both (is_inner (target l)) (list_all is_inner (r ∷ [])) (as_target l t.0) t.1))
step_inner kind.Class (a ∷ c ∷ b ∷ []) n h =
    let p = both (is_inner a) (list_all is_inner (c ∷ b ∷ [])) h in
    let q = both (is_inner c) (list_all is_inner (b ∷ [])) p.1 in
    let members = filtered is_member (items_of b) (items b ((both (is_inner b) true q.1).0)) in
    tree_is kind.Class (a ∷ c ∷ Many (filter is_member (items_of b)) ∷ []) refl
    ∙ and_both (is_inner a) (list_all is_inner (c ∷ Many (filter is_member (items_of b)) ∷ [])) p.0
    (two c (Many (filter is_member (items_of b))) q.0 (list_is (filter is_member (items_of b)) ∙ members))
step_inner k us n h = rw (rolls-Tree k us) (tree_is k us n ∙ h)

pub no_module_of : (k : Kind) (ts : List Node) → IsTrue (is_inner (Tree k ts)) → IsTrue (no_module k)
no_module_of kind.Module ts h = absurd (cc (sym (inner_tree kind.Module ts) ∙ h))
no_module_of k ts h = refl

abbrev Strips : Node → Type 0
Strips t = IsTrue (is_inner t) → IsTrue (is_inner (stripped t))

each_strips : (ts : List Node) → Each Strips ts → All ts → All (map stripped ts)
each_strips [] l h = refl
each_strips (t ∷ ts) l h = let p = both (is_inner t) (list_all is_inner ts) h in and_both (is_inner (stripped t)) (list_all is_inner (map stripped ts)) (l.0 p.0) (each_strips ts l.1 p.1)

pub stripped_inner : (t : Node) → Strips t
stripped_inner t = by_children Strips
    (λ h. search (rules, the_lemmas), λ x h. search (rules, the_lemmas), λ w h. search (rules, the_lemmas), λ x h. search (rules, the_lemmas), λ r h. search (rules, the_lemmas), λ k i h. search (rules, the_lemmas))
    (λ ts l h. rw (stripped_of_list ts) (list_is (map stripped ts) ∙ each_strips ts l (sym (list_is ts) ∙ h)))
    (λ k ts l h. rw (stripped_of_tree k ts) (step_inner k (map stripped ts) (no_module_of k ts h) (each_strips ts l (sym (tree_is k ts (no_module_of k ts h)) ∙ h)))) t

-- ---- what fits a place of no module

abbrev other_class : Class → Bool
other_class class.Module = false
other_class _ = true

abbrev other_content : Content → Bool
other_content (content.Node c) = other_class c
other_content _ = true

abbrev pub holds_none : Slot → Bool
holds_none (slot.One c) = other_content c
holds_none (slot.Optional c) = other_content c
holds_none (slot.List c) = other_content c
holds_none (slot.OptionalList c) = other_content c
holds_none (slot.Holes c) = other_content c
holds_none _ = true

module_alone : (c : Class) → other_class c ≡ true → belongs kind.Module c ≡ false
module_alone class.Module h = absurd (cc)
module_alone c h = refl

table_inner : (k : Kind) → list_all holds_none (slots_of k) ≡ true
table_inner kind.Module = refl
table_inner k = refl

belongs_other : (k : Kind) (c : Class) → other_class c ≡ true → IsTrue (belongs k c) → IsTrue (no_module k)
belongs_other kind.Module c o b = absurd (let never : true ≡ false = sym b ∙ module_alone c o in cc)
belongs_other k c o b = refl

single_other : (s : Slot) (c : Class) → holds_none s ≡ true → single s ≡ Some (content.Node c) → other_class c ≡ true
single_other (slot.One d) c h e = let same : d ≡ content.Node c = cc in ap other_content (sym same) ∙ h
single_other (slot.Optional d) c h e = let same : d ≡ content.Node c = cc in ap other_content (sym same) ∙ h
single_other s c h e = absurd (cc)

abbrev Inner : Node → Type 0
Inner t = (s : Slot) → holds_none s ≡ true → Fits t s → IsTrue (is_inner t)

fields_inner : (ss : List Slot) (ts : List Node) → Each Inner ts → list_all holds_none ss ≡ true → FieldsFit ss ts → All ts
fields_inner [] [] l o f = refl
fields_inner [] (t ∷ ts) l o f = absurd f
fields_inner (s ∷ ss) [] l o f = absurd f
fields_inner (s ∷ ss) (t ∷ ts) l o f = let p = both (holds_none s) (list_all holds_none ss) o in and_both (is_inner t) (list_all is_inner ts) (l.0 s p.0 f.0) (fields_inner ss ts l.1 p.1 f.1)

items_inner : (s : Slot) (ts : List Node) → Each Inner ts → holds_none s ≡ true → AllFit s ts → All ts
items_inner s [] l o f = refl
items_inner s (t ∷ ts) l o f = and_both (is_inner t) (list_all is_inner ts) (l.0 s o f.0) (items_inner s ts l.1 o f.1)

list_inner : (s : Slot) (ts : List Node) → Each Inner ts → holds_none s ≡ true → IsTrue (list_fits (map fits ts) s) → All ts
list_inner (slot.List c) ts l o f = items_inner (slot.One c) ts l o (all_open (slot.One c) ts f)
list_inner (slot.OptionalList c) ts l o f = items_inner (slot.One c) ts l o (all_open (slot.One c) ts f)
list_inner (slot.Holes c) ts l o f = items_inner (slot.Optional c) ts l o (all_open (slot.Optional c) ts f)
list_inner slot.Pairs ts l o f = items_inner slot.Pair ts l refl (all_open slot.Pair ts f)
list_inner slot.Pair ts l o f = let texts : List Slot = slot.One content.Text ∷ slot.One content.Text ∷ [] in fields_inner texts ts l refl (fields_open texts ts f)
list_inner (slot.One c) ts l o f = absurd (cc)
list_inner (slot.Optional c) ts l o f = absurd (cc)

tree_inner : (k : Kind) (ts : List Node) → Each Inner ts → Inner (Tree k ts)
tree_inner k ts l s o f =
    let w = stands k ts s f in
    tree_is k ts (belongs_other k w.in_class (single_other s w.in_class o w.place) w.belonging) ∙ fields_inner (slots_of k) ts l (table_inner k) w.fields

pub fits_inner : (t : Node) → Inner t
fits_inner t = by_children Inner
    (λ s o f. search (rules, the_lemmas), λ x s o f. search (rules, the_lemmas), λ w s o f. search (rules, the_lemmas), λ x s o f. search (rules, the_lemmas), λ r s o f. search (rules, the_lemmas), λ k i s o f. search (rules, the_lemmas))
    (λ ts l s o f. list_is ts ∙ list_inner s ts l o (sym (fits-List ts s) ∙ f))
    tree_inner t
