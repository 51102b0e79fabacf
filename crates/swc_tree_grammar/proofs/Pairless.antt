-- A stripped tree has no parentheses.
use Rattle.std.proofs.Common.{◌≡◌, Bool, true, false, not, ◌&&◌, IsTrue, List, [], ◌∷◌, ◌++◌, map, take, refl, sym, ap, ◌∙◌, rules}
use Rattle.std.specs.Prelude.{if◌then◌else◌}
use Rattle.std.specs.List.{flat_map, filter, list_all}
use Rattle.swc_tree_node.specs.Lower.swc_tree_marks.specs.declared.ident.Ident.{Ident}
use Rattle.swc_tree_node.specs.declared.kind.Kind.{Kind}
use Rattle.swc_tree_node.specs.declared.kind.Kind.TheVariants as kind
use Rattle.swc_tree_node.specs.declared.slot.Content.TheVariants as content
use Rattle.swc_tree_node.specs.declared.slot.Slot.{Slot}
use Rattle.swc_tree_node.specs.declared.slot.Slot.TheVariants as slot
use Rattle.swc_tree_node.specs.declared.node.Node.{Node, Absent, Flag, Word, Text, Span, List as Many, Identifier, Tree, the_lemmas}
use Rattle.swc_tree_node.specs.declared.node.Node.TheVariants.{rolls-Tree}
use Rattle.swc_tree_node.specs.declared.node.Node.TheOpen.{Node-F}
use Rattle.swc_tree_node.specs.Table.{slots_of}
use Rattle.swc_tree_node.specs.Fits.{fits, Fits, FieldsFit, AllFit, list_fits}
use Rattle.swc_tree_node.proofs.Fit.{both, and_both, fits-List, fields_open, all_open}
use Rattle.swc_tree_grammar.specs.Shapes.{items_of}
use Rattle.swc_tree_grammar.specs.Stripped.{stripped, strip_step, parts, parts_in, effects, busy, is_idle, is_void, front, end, settled, sequence, target, target_in, is_member, is_pairless, pairless_step}
use Rattle.swc_tree_grammar.specs.Blocks.{with_blocks, block_step, branch, block, takes_else, span_of}
use Rattle.swc_tree_grammar.proofs.Induction.{Each, by_children}
use Rattle.swc_tree_grammar.proofs.Places.{stands}
use Rattle.swc_tree_grammar.proofs.Stripped.{effects_of_list, effects_of_tree, effects_of_sequence, effects_of_void, effects_of_other, stripped_of_list, stripped_of_tree, stripped_other, is_other}
use Rattle.swc_tree_grammar.proofs.Walks.{blocks_of_tree, blocks_of_list}
use Rattle.swc_tree_grammar.proofs.Items.{items_of_list}

abbrev All : List Node → Type 0
All ts = IsTrue (list_all is_pairless ts)

each_is : (ts : List Node) → list_all (λ b. b) (map is_pairless ts) ≡ list_all is_pairless ts
each_is [] = refl
each_is (t ∷ ts) = ap (λ b. is_pairless t && b) (each_is ts)

pairless_tree : (k : Kind) (ts : List Node) → is_pairless (Tree k ts) ≡ pairless_step (Node-F.Tree k (map is_pairless ts))
pairless_tree k ts = search (rules, the_lemmas)

pairless_many : (ts : List Node) → is_pairless (Many ts) ≡ list_all (λ b. b) (map is_pairless ts)
pairless_many ts = search (rules, the_lemmas)

abbrev no_paren : Kind → Bool
no_paren kind.ParenExpr = false
no_paren _ = true

step_is : (k : Kind) (ts : List Node) → IsTrue (no_paren k) → pairless_step (Node-F.Tree k (map is_pairless ts)) ≡ list_all (λ b. b) (map is_pairless ts)
step_is kind.ParenExpr ts h = absurd (cc)
step_is k ts h = refl

tree_is : (k : Kind) (ts : List Node) → IsTrue (no_paren k) → is_pairless (Tree k ts) ≡ list_all is_pairless ts
tree_is k ts h = pairless_tree k ts ∙ step_is k ts h ∙ each_is ts

list_is : (ts : List Node) → is_pairless (Many ts) ≡ list_all is_pairless ts
list_is ts = pairless_many ts ∙ each_is ts

append : (ts us : List Node) → All ts → All us → All (ts ++ us)
append [] us h g = g
append (t ∷ ts) us h g = let p = both (is_pairless t) (list_all is_pairless ts) h in and_both (is_pairless t) (list_all is_pairless (ts ++ us)) p.0 (append ts us p.1 g)

items : (t : Node) → IsTrue (is_pairless t) → All (items_of t)
items t = by_children (λ t. IsTrue (is_pairless t) → All (items_of t))
    (λ h. search (rules, the_lemmas), λ x h. search (rules, the_lemmas), λ w h. search (rules, the_lemmas), λ x h. search (rules, the_lemmas), λ s h. search (rules, the_lemmas), λ k i h. search (rules, the_lemmas))
    (λ ts l h. rw (items_of_list ts) (sym (list_is ts) ∙ h))
    (λ k ts l h. search (rules, the_lemmas)) t

parts_of_tree : (k : Kind) (ts : List Node) → parts (Tree k ts) ≡ parts_in (Tree k ts) (Node-F.Tree k ts)
parts_of_tree k ts = search (rules, the_lemmas)

second : (a b : Node) → All (a ∷ b ∷ []) → IsTrue (is_pairless b)
second a b h = (both (is_pairless b) true ((both (is_pairless a) (is_pairless b && true) h).1)).0

parts_tree : (k : Kind) (ts : List Node) → IsTrue (is_pairless (Tree k ts)) → All (parts_in (Tree k ts) (Node-F.Tree k ts))
parts_tree kind.SeqExpr (span ∷ exprs ∷ []) h = items exprs (second span exprs (sym (tree_is kind.SeqExpr (span ∷ exprs ∷ []) refl) ∙ h))
parts_tree k ts h = and_both (is_pairless (Tree k ts)) true h refl

alone : (t : Node) → IsTrue (is_pairless t) → All (t ∷ [])
alone t h = and_both (is_pairless t) true h refl

in_parts : (t : Node) → IsTrue (is_pairless t) → All (parts t)
in_parts t = by_children (λ t. IsTrue (is_pairless t) → All (parts t)) (
  λ h. (let e : parts Absent ≡ Absent ∷ [] = search (rules, the_lemmas) in rw e (alone Absent h)),
  λ x h. (let e : parts (Flag x) ≡ Flag x ∷ [] = search (rules, the_lemmas) in rw e (alone (Flag x) h)),
  λ w h. (let e : parts (Word w) ≡ Word w ∷ [] = search (rules, the_lemmas) in rw e (alone (Word w) h)),
  λ x h. (let e : parts (Text x) ≡ Text x ∷ [] = search (rules, the_lemmas) in rw e (alone (Text x) h)),
  λ s h. (let e : parts (Span s) ≡ Span s ∷ [] = search (rules, the_lemmas) in rw e (alone (Span s) h)),
  λ k i h. (let e : parts (Identifier k i) ≡ Identifier k i ∷ [] = search (rules, the_lemmas) in rw e (alone (Identifier k i) h)),
)
    (λ ts l h. (let e : parts (Many ts) ≡ Many ts ∷ [] = search (rules, the_lemmas) in rw e (alone (Many ts) h)))
    (λ k ts l h. rw (parts_of_tree k ts) (parts_tree k ts h)) t

flat : (ts : List Node) → All ts → All (flat_map parts ts)
flat [] h = refl
flat (t ∷ ts) h = let p = both (is_pairless t) (list_all is_pairless ts) h in append (parts t) (flat_map parts ts) (in_parts t p.0) (flat ts p.1)

abbrev Left : Node → Type 0
Left t = IsTrue (is_pairless t) → All (effects t)

each_left : (ts : List Node) → Each Left ts → All ts → All (flat_map effects ts)
each_left [] l h = refl
each_left (t ∷ ts) l h = let p = both (is_pairless t) (list_all is_pairless ts) h in append (effects t) (flat_map effects ts) (l.0 p.0) (each_left ts l.1 p.1)

third : (a b c : Node) → All (a ∷ b ∷ c ∷ []) → IsTrue (is_pairless c)
third a b c h = second b c ((both (is_pairless a) (list_all is_pairless (b ∷ c ∷ [])) h).1)

void_left : (b : Bool) (span op arg : Node) → is_void op ≡ b → IsTrue (is_pairless (Tree kind.UnaryExpr (span ∷ op ∷ arg ∷ []))) → Left arg → All (effects (Tree kind.UnaryExpr (span ∷ op ∷ arg ∷ [])))
void_left true span op arg e h l = rw (effects_of_void span op arg e) (l (third span op arg (sym (tree_is kind.UnaryExpr (span ∷ op ∷ arg ∷ []) refl) ∙ h)))
void_left false span op arg e h l = rw (effects_of_other span op arg e) (alone (Tree kind.UnaryExpr (span ∷ op ∷ arg ∷ [])) h)

tree_left : (k : Kind) (ts : List Node) → Each Left ts → Left (Tree k ts)
tree_left kind.SeqExpr (span ∷ exprs ∷ []) l h = rw (effects_of_sequence span exprs) (l.1.0 (second span exprs (sym (tree_is kind.SeqExpr (span ∷ exprs ∷ []) refl) ∙ h)))
tree_left kind.UnaryExpr (span ∷ op ∷ arg ∷ []) l h = void_left (is_void op) span op arg refl h l.1.1.0
tree_left k ts l h = rw (effects_of_tree k ts) (alone (Tree k ts) h)

left : (t : Node) → Left t
left t = by_children Left (
  λ h. (let e : effects Absent ≡ Absent ∷ [] = search (rules, the_lemmas) in rw e (alone Absent h)),
  λ x h. (let e : effects (Flag x) ≡ Flag x ∷ [] = search (rules, the_lemmas) in rw e (alone (Flag x) h)),
  λ w h. (let e : effects (Word w) ≡ Word w ∷ [] = search (rules, the_lemmas) in rw e (alone (Word w) h)),
  λ x h. (let e : effects (Text x) ≡ Text x ∷ [] = search (rules, the_lemmas) in rw e (alone (Text x) h)),
  λ s h. (let e : effects (Span s) ≡ Span s ∷ [] = search (rules, the_lemmas) in rw e (alone (Span s) h)),
  λ k i h. (let e : effects (Identifier k i) ≡ Identifier k i ∷ [] = search (rules, the_lemmas) in rw e (alone (Identifier k i) h)),
)
    (λ ts l h. rw (effects_of_list ts) (each_left ts l (sym (list_is ts) ∙ h)))
    tree_left t

effects_all : (ts : List Node) → All ts → All (flat_map effects ts)
effects_all [] h = refl
effects_all (t ∷ ts) h = let p = both (is_pairless t) (list_all is_pairless ts) h in append (effects t) (flat_map effects ts) (left t p.0) (effects_all ts p.1)

in_front : (ts : List Node) → All ts → All (front ts)
in_front [] h = refl
in_front (t ∷ []) h = refl
in_front (t ∷ u ∷ ts) h = let p = both (is_pairless t) (list_all is_pairless (u ∷ ts)) h in and_both (is_pairless t) (list_all is_pairless (front (u ∷ ts))) p.0 (in_front (u ∷ ts) p.1)

at_end : (ts : List Node) → All ts → All (end ts)
at_end [] h = refl
at_end (t ∷ []) h = h
at_end (t ∷ u ∷ ts) h = at_end (u ∷ ts) ((both (is_pairless t) (list_all is_pairless (u ∷ ts)) h).1)

filter_if : (b : Bool) (t : Node) (ts : List Node) → IsTrue (is_pairless t) → All ts → All (if b then t ∷ ts else ts)
filter_if true t ts h g = and_both (is_pairless t) (list_all is_pairless ts) h g
filter_if false t ts h g = g

filtered : (p : Node → Bool) (ts : List Node) → All ts → All (filter p ts)
filtered p [] h = refl
filtered p (t ∷ ts) h = let q = both (is_pairless t) (list_all is_pairless ts) h in filter_if (p t) t (filter p ts) q.0 (filtered p ts q.1)

first : (ts : List Node) → All ts → All (take 1 ts)
first [] h = refl
first (t ∷ ts) h = alone t ((both (is_pairless t) (list_all is_pairless ts) h).0)

busy_if : (b : Bool) (ts : List Node) → All ts → All (if b then take 1 ts else filter (λ e. not (is_idle e)) ts)
busy_if true ts h = first ts h
busy_if false ts h = filtered (λ e. not (is_idle e)) ts h

settled_all : (ts : List Node) → All ts → All (settled ts)
settled_all ts h = append (busy (flat_map effects (front ts))) (end ts)
    (busy_if (list_all is_idle (flat_map effects (front ts))) (flat_map effects (front ts)) (effects_all (front ts) (in_front ts h))) (at_end ts h)

two : (a b : Node) → IsTrue (is_pairless a) → IsTrue (is_pairless b) → All (a ∷ b ∷ [])
two a b h g = and_both (is_pairless a) (is_pairless b && true) h (alone b g)

in_sequence : (span : Node) (ts : List Node) → IsTrue (is_pairless span) → All ts → IsTrue (is_pairless (sequence span ts))
in_sequence span (t ∷ []) s h = (both (is_pairless t) true h).0
in_sequence span [] s h = tree_is kind.SeqExpr (span ∷ Many [] ∷ []) refl ∙ two span (Many []) s (list_is [] ∙ h)
in_sequence span (t ∷ u ∷ ts) s h = tree_is kind.SeqExpr (span ∷ Many (t ∷ u ∷ ts) ∷ []) refl ∙ two span (Many (t ∷ u ∷ ts)) s (list_is (t ∷ u ∷ ts) ∙ h)

one_name : (k : Kind) (i : Ident) → IsTrue (is_pairless (target_in (Identifier k i) (Node-F.Identifier k i)))
one_name kind.Ident i = search (rules, the_lemmas)
one_name k i = search (rules, the_lemmas)

named : (k : Kind) (i : Ident) → IsTrue (is_pairless (target (Identifier k i)))
named k i = (let e : target (Identifier k i) ≡ target_in (Identifier k i) (Node-F.Identifier k i) = search (rules, the_lemmas) in rw e (one_name k i))

as_target : (t : Node) → IsTrue (is_pairless t) → IsTrue (is_pairless (target t))
as_target t = by_children (λ t. IsTrue (is_pairless t) → IsTrue (is_pairless (target t))) (
  λ h. (let e : target Absent ≡ Absent = search (rules, the_lemmas) in rw e h),
  λ x h. (let e : target (Flag x) ≡ Flag x = search (rules, the_lemmas) in rw e h),
  λ w h. (let e : target (Word w) ≡ Word w = search (rules, the_lemmas) in rw e h),
  λ x h. (let e : target (Text x) ≡ Text x = search (rules, the_lemmas) in rw e h),
  λ s h. (let e : target (Span s) ≡ Span s = search (rules, the_lemmas) in rw e h),
  λ k i h. named k i,
)
    (λ ts l h. (let e : target (Many ts) ≡ Many ts = search (rules, the_lemmas) in rw e h))
    (λ k ts l h. (let e : target (Tree k ts) ≡ Tree k ts = search (rules, the_lemmas) in rw e h)) t

-- what stripping leaves has no pair, where the tree stands in a place
abbrev Pairless : Node → Type 0
Pairless t = (s : Slot) → Fits t s → IsTrue (is_pairless (stripped t))

fields_pairless : (ss : List Slot) (ts : List Node) → Each Pairless ts → FieldsFit ss ts → All (map stripped ts)
fields_pairless [] [] l f = refl
fields_pairless [] (t ∷ ts) l f = absurd f
fields_pairless (s ∷ ss) [] l f = absurd f
fields_pairless (s ∷ ss) (t ∷ ts) l f = and_both (is_pairless (stripped t)) (list_all is_pairless (map stripped ts)) (l.0 s f.0) (fields_pairless ss ts l.1 f.1)

items_pairless : (s : Slot) (ts : List Node) → Each Pairless ts → AllFit s ts → All (map stripped ts)
items_pairless s [] l f = refl
items_pairless s (t ∷ ts) l f = and_both (is_pairless (stripped t)) (list_all is_pairless (map stripped ts)) (l.0 s f.0) (items_pairless s ts l.1 f.1)

list_pairless : (s : Slot) (ts : List Node) → Each Pairless ts → IsTrue (list_fits (map fits ts) s) → All (map stripped ts)
list_pairless (slot.List c) ts l f = items_pairless (slot.One c) ts l (all_open (slot.One c) ts f)
list_pairless (slot.OptionalList c) ts l f = items_pairless (slot.One c) ts l (all_open (slot.One c) ts f)
list_pairless (slot.Holes c) ts l f = items_pairless (slot.Optional c) ts l (all_open (slot.Optional c) ts f)
list_pairless slot.Pairs ts l f = items_pairless slot.Pair ts l (all_open slot.Pair ts f)
list_pairless slot.Pair ts l f = let texts : List Slot = slot.One content.Text ∷ slot.One content.Text ∷ [] in fields_pairless texts ts l (fields_open texts ts f)
list_pairless (slot.One c) ts l f = absurd (cc)
list_pairless (slot.Optional c) ts l f = absurd (cc)

-- the fields of a tree, stripped
below : (k : Kind) (ts : List Node) → Each Pairless ts → (s : Slot) → Fits (Tree k ts) s → All (map stripped ts)
below k ts l s f = fields_pairless (slots_of k) ts l (stands k ts s f).fields

other_pairless : (k : Kind) (ts : List Node) → IsTrue (is_other k) → IsTrue (no_paren k) → Each Pairless ts → Pairless (Tree k ts)
other_pairless k ts o n l s f = rw (stripped_other k ts o) (tree_is k (map stripped ts) n ∙ below k ts l s f)

step_pairless : (k : Kind) (ts : List Node) → FieldsFit (slots_of k) ts → All (map stripped ts) → IsTrue (is_pairless (strip_step (Node-F.Tree k (map stripped ts))))
step_pairless kind.ParenExpr (a ∷ e ∷ []) f h = second (stripped a) (stripped e) h
step_pairless kind.ParenExpr [] f h = absurd f
step_pairless kind.ParenExpr (a ∷ []) f h = absurd f.1
step_pairless kind.ParenExpr (a ∷ e ∷ d ∷ ts) f h = absurd f.1.1
step_pairless kind.SeqExpr (a ∷ e ∷ []) f h =
    in_sequence (stripped a) (settled (flat_map parts (items_of (stripped e)))) ((both (is_pairless (stripped a)) (is_pairless (stripped e) && true) h).0)
    (settled_all (flat_map parts (items_of (stripped e))) (flat (items_of (stripped e)) (items (stripped e) (second (stripped a) (stripped e) h))))
step_pairless kind.AssignExpr (a ∷ o ∷ l ∷ r ∷ []) f h =
    let p = both (is_pairless (stripped a)) (list_all is_pairless (stripped o ∷ stripped l ∷ stripped r ∷ [])) h in
    let q = both (is_pairless (stripped o)) (list_all is_pairless (stripped l ∷ stripped r ∷ [])) p.1 in
    let t = both (is_pairless (stripped l)) (list_all is_pairless (stripped r ∷ [])) q.1 in
    tree_is kind.AssignExpr (stripped a ∷ stripped o ∷ target (stripped l) ∷ stripped r ∷ []) refl
    ∙ and_both (is_pairless (stripped a)) (list_all is_pairless (stripped o ∷ target (stripped l) ∷ stripped r ∷ [])) p.0
    (and_both (is_pairless (stripped o)) (list_all is_pairless (target (stripped l) ∷ stripped r ∷ [])) q.0
    (and_both (is_pairless (target (stripped l))) (list_all is_pairless (stripped r ∷ [])) (as_target (stripped l) t.0) t.1))
step_pairless kind.Class (a ∷ c ∷ b ∷ []) f h =
    let p = both (is_pairless (stripped a)) (list_all is_pairless (stripped c ∷ stripped b ∷ [])) h in
    let q = both (is_pairless (stripped c)) (list_all is_pairless (stripped b ∷ [])) p.1 in
    let members = filtered is_member (items_of (stripped b)) (items (stripped b) ((both (is_pairless (stripped b)) true q.1).0)) in
    tree_is kind.Class (stripped a ∷ stripped c ∷ Many (filter is_member (items_of (stripped b))) ∷ []) refl
    ∙ and_both (is_pairless (stripped a)) (list_all is_pairless (stripped c ∷ Many (filter is_member (items_of (stripped b))) ∷ [])) p.0
    (two (stripped c) (Many (filter is_member (items_of (stripped b)))) q.0 (list_is (filter is_member (items_of (stripped b))) ∙ members))
step_pairless kind.SeqExpr [] f h = absurd f
step_pairless kind.SeqExpr (a ∷ []) f h = absurd f.1
step_pairless kind.SeqExpr (a ∷ e ∷ d ∷ ts) f h = absurd f.1.1
step_pairless kind.AssignExpr [] f h = absurd f
step_pairless kind.AssignExpr (a ∷ []) f h = absurd f.1
step_pairless kind.AssignExpr (a ∷ o ∷ []) f h = absurd f.1.1
step_pairless kind.AssignExpr (a ∷ o ∷ l ∷ []) f h = absurd f.1.1.1
step_pairless kind.AssignExpr (a ∷ o ∷ l ∷ r ∷ e ∷ ts) f h = absurd f.1.1.1.1
step_pairless kind.Class [] f h = absurd f
step_pairless kind.Class (a ∷ []) f h = absurd f.1
step_pairless kind.Class (a ∷ c ∷ []) f h = absurd f.1.1
step_pairless kind.Class (a ∷ c ∷ b ∷ d ∷ ts) f h = absurd f.1.1.1
step_pairless k ts f h = rw (rolls-Tree k (map stripped ts)) (tree_is k (map stripped ts) refl ∙ h)

pub stripped_pairless : (t : Node) → Pairless t
stripped_pairless t = by_children Pairless
    (λ s f. search (rules, the_lemmas), λ x s f. search (rules, the_lemmas), λ w s f. search (rules, the_lemmas), λ x s f. search (rules, the_lemmas), λ r s f. search (rules, the_lemmas), λ k i s f. search (rules, the_lemmas))
    (λ ts l s f. rw (stripped_of_list ts) (list_is (map stripped ts) ∙ list_pairless s ts l (sym (fits-List ts s) ∙ f)))
    (λ k ts l s f. rw (stripped_of_tree k ts) (step_pairless k ts (stands k ts s f).fields (below k ts l s f))) t

-- blocks add none
branch_if : (b : Bool) (t : Node) → IsTrue (is_pairless t) → IsTrue (is_pairless (if b then block t else t))
branch_if true t h = tree_is kind.BlockStmt (Span (span_of t) ∷ Many (t ∷ []) ∷ []) refl ∙ two (Span (span_of t)) (Many (t ∷ [])) (search (rules, the_lemmas)) (list_is (t ∷ []) ∙ alone t h)
branch_if false t h = h

abbrev Blocked : Node → Type 0
Blocked t = IsTrue (is_pairless t) → IsTrue (is_pairless (with_blocks t))

each_blocked : (ts : List Node) → Each Blocked ts → All ts → All (map with_blocks ts)
each_blocked [] l h = refl
each_blocked (t ∷ ts) l h = let p = both (is_pairless t) (list_all is_pairless ts) h in and_both (is_pairless (with_blocks t)) (list_all is_pairless (map with_blocks ts)) (l.0 p.0) (each_blocked ts l.1 p.1)

step_blocked : (k : Kind) (ts : List Node) → IsTrue (no_paren k) → All ts → IsTrue (is_pairless (block_step (Node-F.Tree k ts)))
step_blocked kind.IfStmt (a ∷ t ∷ c ∷ d ∷ []) n h =
    let p = both (is_pairless a) (list_all is_pairless (t ∷ c ∷ d ∷ [])) h in
    let q = both (is_pairless t) (list_all is_pairless (c ∷ d ∷ [])) p.1 in
    let r = both (is_pairless c) (list_all is_pairless (d ∷ [])) q.1 in
    tree_is kind.IfStmt (a ∷ t ∷ branch c ∷ d ∷ []) refl
    ∙ and_both (is_pairless a) (list_all is_pairless (t ∷ branch c ∷ d ∷ [])) p.0
    (and_both (is_pairless t) (list_all is_pairless (branch c ∷ d ∷ [])) q.0 (and_both (is_pairless (branch c)) (list_all is_pairless (d ∷ [])) (branch_if (takes_else c) c r.0) r.1))
step_blocked k ts n h = rw (rolls-Tree k ts) (tree_is k ts n ∙ h)

no_paren_of : (k : Kind) (ts : List Node) → IsTrue (is_pairless (Tree k ts)) → IsTrue (no_paren k)
no_paren_of kind.ParenExpr ts h = absurd (cc (sym (pairless_tree kind.ParenExpr ts) ∙ h))
no_paren_of k ts h = refl

blocks_pairless : (t : Node) → Blocked t
blocks_pairless t = by_children Blocked
    (λ h. search (rules, the_lemmas), λ x h. search (rules, the_lemmas), λ w h. search (rules, the_lemmas), λ x h. search (rules, the_lemmas), λ r h. search (rules, the_lemmas), λ k i h. search (rules, the_lemmas))
    (λ ts l h. rw (blocks_of_list ts) (list_is (map with_blocks ts) ∙ each_blocked ts l (sym (list_is ts) ∙ h)))
    (λ k ts l h. rw (blocks_of_tree k ts) (step_blocked k (map with_blocks ts) (no_paren_of k ts h) (each_blocked ts l (sym (tree_is k ts (no_paren_of k ts h)) ∙ h)))) t

-- the stripped tree with its blocks has no parentheses
pub unparened_pairless : (t u : Node) (s : Slot) → u ≡ with_blocks (stripped t) → Fits t s → IsTrue (is_pairless u)
unparened_pairless t u s e f = rw e (blocks_pairless (stripped t) (stripped_pairless t s f))
