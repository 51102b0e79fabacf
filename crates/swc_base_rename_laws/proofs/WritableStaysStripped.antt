-- A sequence that can be written down stays one when it is stripped: it has two items or more.
use Rattle.std.proofs.Common.{◌≡◌, Bool, true, false, not, ◌&&◌, List, [], ◌∷◌, ◌++◌, map, length, take, nat_le, rules, refl, sym, ap, ◌∙◌}
use Rattle.std.specs.Prelude.{if◌then◌else◌}
use Rattle.std.specs.List.{list_all, filter, flat_map}
use Rattle.swc_tree_node.specs.declared.kind.Kind.{Kind}
use Rattle.swc_tree_node.specs.declared.kind.Kind.TheVariants as kind
use Rattle.swc_tree_node.specs.declared.node.Node.{Node, Absent, Flag, Word, Text, Span, List as Many, Identifier, Tree, the_lemmas}
use Rattle.swc_tree_node.specs.declared.node.Node.TheVariants.{outs-List, outs-Tree, rolls-Tree}
use Rattle.swc_tree_node.specs.declared.node.Node.TheOpen.{Node-F}
use Rattle.swc_tree_node.specs.declared.kind.Class.{Class}
use Rattle.swc_tree_node.specs.declared.kind.Class.TheVariants as class
use Rattle.swc_tree_node.specs.declared.slot.Content.TheVariants as content
use Rattle.swc_tree_node.specs.declared.slot.Slot.TheVariants as slot
use Rattle.swc_tree_node.specs.Table.{slots_of}
use Rattle.swc_tree_node.specs.Fits.{AllFit, FieldsFit, Fits, fits}
use Rattle.swc_tree_node.proofs.Fit.{fits-List, list_opens, tree_opens}
use Rattle.swc_tree_grammar.specs.Shapes.{items_in, items_of}
use Rattle.swc_tree_grammar.specs.Stripped.{busy, effects, end, front, is_idle, is_void, parts, parts_in, sequence, settled, stripped, target}
use Rattle.swc_tree_grammar.specs.Writable.{Asked, Round, all_sound, binding, sound_in}
use Rattle.swc_tree_grammar.proofs.Asked.{of, sound, sound_list, sound_tree}
use Rattle.swc_tree_grammar.proofs.Induction.{Each, by_children}
use Rattle.swc_tree_grammar.proofs.Stripped.{effects_of_list, effects_of_tree, effects_of_sequence, effects_of_void, effects_of_other, stripped_of_list, stripped_of_tree}
use Rattle.swc_base_rename_substitution.proofs.Room.{left, right}
use Rattle.swc_base_rename_laws.proofs.WritableStaysNames.{both_true}

abbrev nonempty : List Node → Bool
nonempty [] = false
nonempty (e ∷ es) = true

abbrev is_long : List Node → Bool
is_long (e ∷ d ∷ es) = true
is_long _ = false

-- something is left of the node in a sequence
abbrev rich : Node → Bool
rich t = nonempty (effects t)

abbrev all_rich : List Node → Bool
all_rich es = list_all rich es

-- ---- what is left of a node is left of itself

own : (t : Node) → effects t ≡ t ∷ [] → all_rich (effects t) ≡ true
own t e = ap all_rich e ∙ ap (λ l. nonempty l && true) e

append_rich : (es ds : List Node) → all_rich es ≡ true → all_rich ds ≡ true → all_rich (es ++ ds) ≡ true
append_rich [] ds h g = g
append_rich (e ∷ es) ds h g = both_true (left _ _ h) (append_rich es ds (right (rich e) _ h) g)

abbrev Stays : Node → Type 0
Stays t = all_rich (effects t) ≡ true

each_stays : (ts : List Node) → Each Stays ts → all_rich (flat_map effects ts) ≡ true
each_stays [] l = refl
each_stays (t ∷ ts) l = append_rich (effects t) _ l.0 (each_stays ts l.1)

void_stays : (b : Bool) (s o a : Node) → is_void o ≡ b → Stays a → Stays (Tree kind.UnaryExpr (s ∷ o ∷ a ∷ []))
void_stays true s o a e h = ap all_rich (effects_of_void s o a e) ∙ h
void_stays false s o a e h = own (Tree kind.UnaryExpr (s ∷ o ∷ a ∷ [])) (effects_of_other s o a e)

tree_stays : (k : Kind) (ts : List Node) → Each Stays ts → Stays (Tree k ts)
tree_stays kind.SeqExpr (a ∷ b ∷ []) l = ap all_rich (effects_of_sequence a b) ∙ l.1.0
tree_stays kind.UnaryExpr (s ∷ o ∷ a ∷ []) l = void_stays (is_void o) s o a refl l.1.1.0
tree_stays k ts l = own (Tree k ts) (effects_of_tree k ts)

stays : (t : Node) → Stays t
stays t = by_children Stays (
  own Absent (search (rules, the_lemmas)),
  λ x. own (Flag x) (search (rules, the_lemmas)),
  λ w. own (Word w) (search (rules, the_lemmas)),
  λ x. own (Text x) (search (rules, the_lemmas)),
  λ s. own (Span s) (search (rules, the_lemmas)),
  λ k i. own (Identifier k i) (search (rules, the_lemmas)),
)
    (λ ts l. ap all_rich (effects_of_list ts) ∙ each_stays ts l) tree_stays t

all_stay : (ts : List Node) → all_rich (flat_map effects ts) ≡ true
all_stay [] = refl
all_stay (t ∷ ts) = append_rich (effects t) _ (stays t) (all_stay ts)

-- ---- lists

nonempty_append : (es ds : List Node) → nonempty es ≡ true → nonempty (es ++ ds) ≡ true
nonempty_append [] ds h = absurd (cc)
nonempty_append (e ∷ es) ds h = refl

long_append : (es ds : List Node) → nonempty es ≡ true → nonempty ds ≡ true → is_long (es ++ ds) ≡ true
long_append [] ds h g = absurd (cc)
long_append (e ∷ es) [] h g = absurd (cc)
long_append (e ∷ []) (d ∷ ds) h g = refl
long_append (e ∷ f ∷ es) (d ∷ ds) h g = refl

long_nonempty : (es : List Node) → is_long es ≡ true → nonempty es ≡ true
long_nonempty [] h = absurd (cc)
long_nonempty (e ∷ es) h = refl

flat_nonempty : (es : List Node) → nonempty es ≡ true → all_rich es ≡ true → nonempty (flat_map effects es) ≡ true
flat_nonempty [] h g = absurd (cc)
flat_nonempty (e ∷ es) h g = nonempty_append (effects e) _ (left _ _ g)

filter_if : (b : Bool) (e : Node) (es : List Node) → rich e ≡ true → all_rich es ≡ true → all_rich (if b then e ∷ es else es) ≡ true
filter_if true e es h g = both_true h g
filter_if false e es h g = g

filter_rich : (p : Node → Bool) (es : List Node) → all_rich es ≡ true → all_rich (filter p es) ≡ true
filter_rich p [] h = refl
filter_rich p (e ∷ es) h = filter_if (p e) e (filter p es) (left _ _ h) (filter_rich p es (right (rich e) _ h))

kept_if : (b : Bool) (e : Node) (es : List Node) → (not b ≡ false → nonempty es ≡ true) → nonempty (if not b then e ∷ es else es) ≡ true
kept_if true e es h = h refl
kept_if false e es h = refl

and_false : (a b : Bool) → (a && b) ≡ false → a ≡ true → b ≡ false
and_false true b h g = h
and_false false b h g = absurd (cc)

not_false : (b : Bool) → not b ≡ false → b ≡ true
not_false true h = refl
not_false false h = absurd (cc)

filter_nonempty : (es : List Node) → list_all is_idle es ≡ false → nonempty (filter (λ e. not (is_idle e)) es) ≡ true
filter_nonempty [] h = absurd (cc)
filter_nonempty (e ∷ es) h = kept_if (is_idle e) e (filter (λ e. not (is_idle e)) es) (λ n. filter_nonempty es (and_false (is_idle e) _ h (not_false (is_idle e) n)))

busy_if : (b : Bool) (es : List Node) → list_all is_idle es ≡ b → nonempty es ≡ true → all_rich es ≡ true
    → (nonempty (if b then take 1 es else filter (λ e. not (is_idle e)) es) ≡ true) × (all_rich (if b then take 1 es else filter (λ e. not (is_idle e)) es) ≡ true)
busy_if true [] i h g = absurd (cc)
busy_if true (e ∷ es) i h g = (refl, both_true (left _ _ g) refl)
busy_if false es i h g = (filter_nonempty es i, filter_rich (λ e. not (is_idle e)) es g)

front_nonempty : (es : List Node) → is_long es ≡ true → nonempty (front es) ≡ true
front_nonempty [] h = absurd (cc)
front_nonempty (e ∷ []) h = absurd (cc)
front_nonempty (e ∷ d ∷ es) h = refl

front_rich : (es : List Node) → all_rich es ≡ true → all_rich (front es) ≡ true
front_rich [] h = refl
front_rich (e ∷ []) h = refl
front_rich (e ∷ d ∷ es) h = both_true (left _ _ h) (front_rich (d ∷ es) (right (rich e) _ h))

end_nonempty : (es : List Node) → nonempty es ≡ true → nonempty (end es) ≡ true
end_nonempty [] h = absurd (cc)
end_nonempty (e ∷ []) h = refl
end_nonempty (e ∷ d ∷ es) h = end_nonempty (d ∷ es) refl

end_rich : (es : List Node) → all_rich es ≡ true → all_rich (end es) ≡ true
end_rich [] h = refl
end_rich (e ∷ []) h = h
end_rich (e ∷ d ∷ es) h = end_rich (d ∷ es) (right (rich e) _ h)

settled_long : (es : List Node) → is_long es ≡ true → all_rich es ≡ true → (is_long (settled es) ≡ true) × (all_rich (settled es) ≡ true)
settled_long es h g =
    let ds : List Node = flat_map effects (front es) in
    let b = busy_if (list_all is_idle ds) ds refl (flat_nonempty (front es) (front_nonempty es h) (front_rich es g)) (all_stay (front es)) in
    (long_append (busy ds) (end es) b.0 (end_nonempty es (long_nonempty es h)), append_rich (busy ds) (end es) b.1 (end_rich es g))

long_sequence : (span : Node) (es : List Node) → is_long es ≡ true → sequence span es ≡ Tree kind.SeqExpr (span ∷ Many es ∷ [])
long_sequence span [] h = absurd (cc)
long_sequence span (e ∷ []) h = absurd (cc)
long_sequence span (e ∷ d ∷ es) h = refl

-- ---- nodes that can be written down

-- what a node adds to a sequence as an item, and before its last item
abbrev Full : Node → Type 0
Full t = (nonempty (parts (stripped t)) ≡ true) × (all_rich (parts (stripped t)) ≡ true) × (rich (stripped t) ≡ true)

abbrev pub items : Node → List Node
items t = flat_map parts (items_of (stripped t))

abbrev Fills : Node → Type 0
Fills t = (nat_le 2 (length (items_of t)) ≡ true → (is_long (items t) ≡ true) × (all_rich (items t) ≡ true))

abbrev IsFull : Node → Type 0
IsFull t = (r : Round) → sound t r ≡ true → ((c : Class) → Fits t (slot.One (content.Node c)) → Full t) × ((c : Class) → Fits t (slot.List (content.Node c)) → Fills t)

pub first_sound : (t : Node) (es : List Asked) (r : Round) → all_sound (of t ∷ es) r ≡ true → sound t r ≡ true
first_sound t es r h = right _ _ (left _ _ h)

pub rest_sound : (t : Node) (es : List Asked) (r : Round) → all_sound (of t ∷ es) r ≡ true → all_sound es r ≡ true
rest_sound t es r h = right _ _ h

flat_parts : (ts : List Node) (r : Round) (c : Class) → Each IsFull ts → AllFit (slot.One (content.Node c)) ts → all_sound (map of ts) r ≡ true → all_rich (flat_map parts (map stripped ts)) ≡ true
flat_parts [] r c l f h = refl
flat_parts (t ∷ ts) r c l f h = append_rich (parts (stripped t)) _ (((l.0 r (first_sound t _ r h)).0 c f.0).1) (flat_parts ts r c l.1 f.1 (rest_sound t _ r h))

flat_long : (ts : List Node) (r : Round) (c : Class) → Each IsFull ts → AllFit (slot.One (content.Node c)) ts → all_sound (map of ts) r ≡ true → nat_le 2 (length ts) ≡ true
    → is_long (flat_map parts (map stripped ts)) ≡ true
flat_long [] r c l f h n = absurd (cc)
flat_long (t ∷ []) r c l f h n = absurd (cc)
flat_long (t ∷ u ∷ ts) r c l f h n =
    long_append (parts (stripped t)) _ (((l.0 r (first_sound t (of u ∷ map of ts) r h)).0 c f.0).0)
    (nonempty_append (parts (stripped u)) _ (((l.1.0 r (first_sound u (map of ts) r (rest_sound t (of u ∷ map of ts) r h))).0 c f.1.0).0))

-- a node that is its only item
lone : (t u : Node) → stripped t ≡ u → parts u ≡ u ∷ [] → rich u ≡ true → Full t
lone t u s p h = (ap (λ v. nonempty (parts v)) s ∙ ap nonempty p, ap (λ v. all_rich (parts v)) s ∙ ap all_rich p ∙ both_true h refl, ap rich s ∙ h)

no_fill : (t : Node) → items_of t ≡ [] → Fills t
no_fill t e h = let never : nat_le 2 (length (items_of t)) ≡ false = ap (λ l. nat_le 2 (length l)) e in absurd (cc)

parts_of_tree : (k : Kind) (ts : List Node) → parts (Tree k ts) ≡ parts_in (Tree k ts) (Node-F.Tree k ts)
parts_of_tree k ts = ap (parts_in (Tree k ts)) (outs-Tree k ts)

-- a sequence becomes one
pub sequence_strips : (a b : Node) → is_long (items b) ≡ true → all_rich (items b) ≡ true → stripped (Tree kind.SeqExpr (a ∷ b ∷ [])) ≡ Tree kind.SeqExpr (stripped a ∷ Many (settled (items b)) ∷ [])
sequence_strips a b h g = stripped_of_tree kind.SeqExpr (a ∷ b ∷ []) ∙ long_sequence (stripped a) (settled (items b)) ((settled_long (items b) h g).0)

sequence_full : (a b : Node) → is_long (items b) ≡ true → all_rich (items b) ≡ true → Full (Tree kind.SeqExpr (a ∷ b ∷ []))
sequence_full a b h g =
    let es : List Node = settled (items b) in
    let s = sequence_strips a b h g in
    let w = settled_long (items b) h g in
    let p : parts (Tree kind.SeqExpr (stripped a ∷ Many es ∷ [])) ≡ es = parts_of_tree kind.SeqExpr (stripped a ∷ Many es ∷ []) ∙ ap items_in (outs-List es) in
    let f : effects (Tree kind.SeqExpr (stripped a ∷ Many es ∷ [])) ≡ flat_map effects es = effects_of_sequence (stripped a) (Many es) ∙ effects_of_list es in
    (ap (λ v. nonempty (parts v)) s ∙ ap nonempty p ∙ long_nonempty es w.0, ap (λ v. all_rich (parts v)) s ∙ ap all_rich p ∙ w.1, ap rich s ∙ ap nonempty f ∙ flat_nonempty es (long_nonempty es w.0) w.1)

void_rich : (b : Bool) (s o a : Node) → is_void o ≡ b → rich a ≡ true → rich (Tree kind.UnaryExpr (s ∷ o ∷ a ∷ [])) ≡ true
void_rich true s o a e h = ap nonempty (effects_of_void s o a e) ∙ h
void_rich false s o a e h = ap nonempty (effects_of_other s o a e)

full_row : (k : Kind) (ts : List Node) (r : Round) (c : Class) → Each IsFull ts → FieldsFit (slots_of k) ts → sound_in (Node-F.Tree k (map of ts)) r ≡ true → Full (Tree k ts)
full_row kind.ParenExpr (a ∷ b ∷ []) r c l f h =
    let s = stripped_of_tree kind.ParenExpr (a ∷ b ∷ []) in
    let w = (l.1.0 (binding r) (first_sound b [] (binding r) (rest_sound a (of b ∷ []) (binding r) h))).0 class.Expr f.1.0 in
    (ap (λ v. nonempty (parts v)) s ∙ w.0, ap (λ v. all_rich (parts v)) s ∙ w.1, ap rich s ∙ w.2)
full_row kind.SeqExpr (a ∷ b ∷ []) r c l f h = let w = (l.1.0 r (right _ _ h)).1 class.Expr f.1.0 (left _ _ h) in sequence_full a b w.0 w.1
full_row kind.UnaryExpr (s ∷ o ∷ a ∷ []) r c l f h =
    let us : List Node = stripped s ∷ stripped o ∷ stripped a ∷ [] in
    lone (Tree kind.UnaryExpr (s ∷ o ∷ a ∷ [])) (Tree kind.UnaryExpr us) (stripped_of_tree kind.UnaryExpr (s ∷ o ∷ a ∷ []) ∙ rolls-Tree kind.UnaryExpr us) (parts_of_tree kind.UnaryExpr us)
    (void_rich (is_void (stripped o)) (stripped s) (stripped o) (stripped a) refl
    (((l.1.1.0 (binding r) (first_sound a [] (binding r) (rest_sound o (of a ∷ []) (binding r) (rest_sound s (of o ∷ of a ∷ []) (binding r) h)))).0 class.Expr f.1.1.0).2))
full_row kind.AssignExpr (a ∷ b ∷ c ∷ d ∷ []) r e l f h =
    let us : List Node = stripped a ∷ stripped b ∷ target (stripped c) ∷ stripped d ∷ [] in
    lone (Tree kind.AssignExpr (a ∷ b ∷ c ∷ d ∷ [])) (Tree kind.AssignExpr us) (stripped_of_tree kind.AssignExpr (a ∷ b ∷ c ∷ d ∷ [])) (parts_of_tree kind.AssignExpr us) (ap nonempty (effects_of_tree kind.AssignExpr us))
full_row kind.Class (a ∷ b ∷ c ∷ []) r e l f h = lone (Tree kind.Class (a ∷ b ∷ c ∷ [])) _ (stripped_of_tree kind.Class (a ∷ b ∷ c ∷ [])) (parts_of_tree kind.Class _) (ap nonempty (effects_of_tree kind.Class _))
full_row k ts r c l f h = lone (Tree k ts) (Tree k (map stripped ts)) (stripped_of_tree k ts ∙ rolls-Tree k (map stripped ts)) (parts_of_tree k (map stripped ts)) (ap nonempty (effects_of_tree k (map stripped ts)))

leaf_full : (t : Node) → stripped t ≡ t → parts t ≡ t ∷ [] → effects t ≡ t ∷ [] → items_of t ≡ [] → IsFull t
leaf_full t s p e n r h = (λ c f. lone t t s p (ap nonempty e), λ c f. no_fill t n)

list_parts : (ts : List Node) → items (Many ts) ≡ flat_map parts (map stripped ts)
list_parts ts = ap (λ u. flat_map parts (items_of u)) (stripped_of_list ts) ∙ ap (λ y. flat_map parts (items_in y)) (outs-List (map stripped ts))

list_full : (ts : List Node) → Each IsFull ts → IsFull (Many ts)
list_full ts l r h = (
  λ c f. (let never : fits (Many ts) (slot.One (content.Node c)) ≡ false = fits-List ts (slot.One (content.Node c)) in absurd (cc)),
  λ c f n. (
      let s : all_sound (map of ts) r ≡ true = sym (sound_list ts r) ∙ h in
      let n' : nat_le 2 (length ts) ≡ true = sym (ap (λ y. nat_le 2 (length (items_in y))) (outs-List ts)) ∙ n in
      (ap is_long (list_parts ts) ∙ flat_long ts r c l (list_opens ts (content.Node c) f) s n', ap all_rich (list_parts ts) ∙ flat_parts ts r c l (list_opens ts (content.Node c) f) s)
      ),
)

tree_full : (k : Kind) (ts : List Node) → Each IsFull ts → IsFull (Tree k ts)
tree_full k ts l r h = (
  λ c f. full_row k ts r c l ((tree_opens k ts c f).2) (sym (sound_tree k ts r) ∙ h),
  λ c f. no_fill (Tree k ts) (ap items_in (outs-Tree k ts)),
)

pub is_full : (t : Node) → IsFull t
is_full t = by_children IsFull (
  leaf_full Absent (search (rules, the_lemmas)) (search (rules, the_lemmas)) (search (rules, the_lemmas)) (search (rules, the_lemmas)),
  λ x. leaf_full (Flag x) (search (rules, the_lemmas)) (search (rules, the_lemmas)) (search (rules, the_lemmas)) (search (rules, the_lemmas)),
  λ w. leaf_full (Word w) (search (rules, the_lemmas)) (search (rules, the_lemmas)) (search (rules, the_lemmas)) (search (rules, the_lemmas)),
  λ x. leaf_full (Text x) (search (rules, the_lemmas)) (search (rules, the_lemmas)) (search (rules, the_lemmas)) (search (rules, the_lemmas)),
  λ s. leaf_full (Span s) (search (rules, the_lemmas)) (search (rules, the_lemmas)) (search (rules, the_lemmas)) (search (rules, the_lemmas)),
  λ k i. leaf_full (Identifier k i) (search (rules, the_lemmas)) (search (rules, the_lemmas)) (search (rules, the_lemmas)) (search (rules, the_lemmas)),
)
    list_full tree_full t
