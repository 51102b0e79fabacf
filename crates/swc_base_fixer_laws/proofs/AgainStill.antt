-- What stripping leaves, stripping leaves as it is.
use Rattle.std.proofs.Common.{◌≡◌, Bool, true, false, not, ◌&&◌, List, [], ◌∷◌, ◌++◌, map, take, refl, sym, ap, ◌∙◌, rules, true≢false}
use Rattle.std.specs.Prelude.{Option, Some, IsTrue, if◌then◌else◌}
use Rattle.std.specs.List.{flat_map, filter, list_all}
use Rattle.swc_tree_marks.specs.declared.ident.Ident.{Ident}
use Rattle.swc_tree_node.specs.declared.kind.Kind.{Kind}
use Rattle.swc_tree_node.specs.declared.kind.Kind.TheVariants as kind
use Rattle.swc_tree_node.specs.declared.node.Node.{Node, Absent, Flag, Word, Text, Span, List as Many, Identifier, Tree, out-Node, the_lemmas}
use Rattle.swc_tree_node.specs.declared.node.Node.TheVariants.{rolls-Tree}
use Rattle.swc_tree_node.specs.declared.node.Node.TheOpen.{Node-F}
use Rattle.swc_tree_node.specs.declared.slot.Content.{Content}
use Rattle.swc_tree_node.specs.declared.slot.Content.TheVariants as content
use Rattle.swc_tree_node.specs.declared.slot.Slot.{Slot}
use Rattle.swc_tree_node.specs.Table.{slots_of, is_identifier}
use Rattle.swc_tree_node.specs.Fits.{Fits, belongs, identifier_fits, single as single_of}
use Rattle.swc_tree_node.proofs.Fit.{fits-Identifier, fits-List}
use Rattle.swc_tree_grammar.specs.Shapes.{Paren, Seq, Unary, Assign, Class, items_of}
use Rattle.swc_tree_grammar.specs.Stripped.{stripped, strip_step, effects, is_void, is_idle, busy, parts, parts_in, front, end, settled, sequence, target, target_in, is_member}
use Rattle.swc_tree_grammar.proofs.Induction.{Each, by_children}
use Rattle.swc_tree_grammar.proofs.Places.{stands}
use Rattle.swc_tree_grammar.proofs.Stripped.{stripped_of_tree, stripped_of_list, effects_of_list, effects_of_tree, effects_of_sequence, effects_of_void, effects_of_other}
use Rattle.swc_tree_grammar_laws.specs.Every.{every}
use Rattle.swc_tree_grammar_laws.proofs.Every.{every_tree, every_list}
use Rattle.swc_tree_grammar_laws.proofs.Levelled.{both, also_both}
use Rattle.swc_tree_grammar_laws.proofs.Blocked.{Somewhere, fields_fit, items_fit}
use Rattle.swc_base_fixer_laws.proofs.NormalKeptBlocks.{each_stays}

-- no sequence
abbrev pub single_in : Node-F Node → Bool
single_in (Seq span exprs) = false
single_in _ = true

abbrev pub single : Node → Bool
single t = single_in (out-Node t)

-- an expression that stays where its value is dropped
abbrev pub loose_in : Node-F Node → Bool
loose_in (Node-F.List ts) = false
loose_in (Seq span exprs) = false
loose_in (Unary span op arg) = not (is_void op)
loose_in _ = true

abbrev pub loose : Node → Bool
loose t = loose_in (out-Node t)

-- a name that is no target
abbrev pub bare_name_in : Node-F Node → Bool
bare_name_in (Node-F.Identifier kind.Ident i) = true
bare_name_in _ = false

abbrev pub bare_name : Node → Bool
bare_name t = bare_name_in (out-Node t)

abbrev pub is_list_in : Node-F Node → Bool
is_list_in (Node-F.List ts) = true
is_list_in _ = false

abbrev pub is_list : Node → Bool
is_list t = is_list_in (out-Node t)

-- no idle items, or one alone
abbrev pub quiet : List Node → Bool
quiet (e ∷ []) = true
quiet es = list_all (λ e. not (is_idle e)) es

-- the items of a sequence that is stripped
abbrev pub firm : List Node → Bool
firm [] = true
firm (e ∷ []) = false
firm (e ∷ d ∷ es) = list_all single (e ∷ d ∷ es) && (list_all loose (front (e ∷ d ∷ es)) && quiet (front (e ∷ d ∷ es)))

abbrev pub still_in : Node-F Node → Bool
still_in (Paren span expr) = false
still_in (Seq span exprs) = is_list exprs && firm (items_of exprs)
still_in (Assign span op left right) = not (bare_name left)
still_in (Class span super_class body) = is_list body && list_all is_member (items_of body)
still_in (Node-F.Identifier k i) = is_identifier k
still_in _ = true

-- stripped through and through
abbrev pub still : Node → Bool
still = every still_in

-- lists
all_append : (q : Node → Bool) (ts us : List Node) → list_all q ts ≡ true → list_all q us ≡ true → list_all q (ts ++ us) ≡ true
all_append q [] us h g = g
all_append q (t ∷ ts) us h g = let p = both (q t) (list_all q ts) h in also_both (q t) (list_all q (ts ++ us)) p.0 (all_append q ts us p.1 g)

filter_if : (b : Bool) (q : Node → Bool) (t : Node) (ts : List Node) → q t ≡ true → list_all q ts ≡ true → list_all q (if b then t ∷ ts else ts) ≡ true
filter_if true q t ts h g = also_both (q t) (list_all q ts) h g
filter_if false q t ts h g = g

all_filter : (q r : Node → Bool) (ts : List Node) → list_all q ts ≡ true → list_all q (filter r ts) ≡ true
all_filter q r [] h = refl
all_filter q r (t ∷ ts) h = let p = both (q t) (list_all q ts) h in filter_if (r t) q t (filter r ts) p.0 (all_filter q r ts p.1)

kept_if : (b : Bool) (q : Node → Bool) (t : Node) (ts : List Node) → q t ≡ b → list_all q ts ≡ true → list_all q (if b then t ∷ ts else ts) ≡ true
kept_if true q t ts h g = also_both (q t) (list_all q ts) h g
kept_if false q t ts h g = g

filter_holds : (q : Node → Bool) (ts : List Node) → list_all q (filter q ts) ≡ true
filter_holds q [] = refl
filter_holds q (t ∷ ts) = kept_if (q t) q t (filter q ts) refl (filter_holds q ts)

filter_stays : (q : Node → Bool) (ts : List Node) → list_all q ts ≡ true → filter q ts ≡ ts
filter_stays q [] h = refl
filter_stays q (t ∷ ts) h = let p = both (q t) (list_all q ts) h in rw (p.0, filter_stays q ts p.1) refl

all_take : (q : Node → Bool) (ts : List Node) → list_all q ts ≡ true → list_all q (take 1 ts) ≡ true
all_take q [] h = refl
all_take q (t ∷ ts) h = also_both (q t) true (both (q t) (list_all q ts) h).0 refl

all_weaker : (q r : Node → Bool) → ((t : Node) → q t ≡ true → r t ≡ true) → (ts : List Node) → list_all q ts ≡ true → list_all r ts ≡ true
all_weaker q r f [] h = refl
all_weaker q r f (t ∷ ts) h = let p = both (q t) (list_all q ts) h in also_both (r t) (list_all r ts) (f t p.0) (all_weaker q r f ts p.1)

all_front : (q : Node → Bool) (ts : List Node) → list_all q ts ≡ true → list_all q (front ts) ≡ true
all_front q [] h = refl
all_front q (t ∷ []) h = refl
all_front q (t ∷ u ∷ ts) h = let p = both (q t) (list_all q (u ∷ ts)) h in also_both (q t) (list_all q (front (u ∷ ts))) p.0 (all_front q (u ∷ ts) p.1)

all_flat : (q r : Node → Bool) (f : Node → List Node) → ((t : Node) → q t ≡ true → list_all r (f t) ≡ true) → (ts : List Node) → list_all q ts ≡ true → list_all r (flat_map f ts) ≡ true
all_flat q r f g [] h = refl
all_flat q r f g (t ∷ ts) h = let p = both (q t) (list_all q ts) h in all_append r (f t) (flat_map f ts) (g t p.0) (all_flat q r f g ts p.1)

flat_stays : (q : Node → Bool) (f : Node → List Node) → ((t : Node) → q t ≡ true → f t ≡ t ∷ []) → (ts : List Node) → list_all q ts ≡ true → flat_map f ts ≡ ts
flat_stays q f g [] h = refl
flat_stays q f g (t ∷ ts) h = let p = both (q t) (list_all q ts) h in rw (g t p.0, flat_stays q f g ts p.1) refl

front_end : (ts : List Node) → (front ts ++ end ts) ≡ ts
front_end [] = refl
front_end (t ∷ []) = refl
front_end (t ∷ u ∷ ts) = ap (λ us. t ∷ us) (front_end (u ∷ ts))

-- parts and effects of what is single or loose
parts_of_tree : (k : Kind) (ts : List Node) → parts (Tree k ts) ≡ parts_in (Tree k ts) (Node-F.Tree k ts)
parts_of_tree k ts = search (rules, the_lemmas)

single_of_tree : (k : Kind) (ts : List Node) → single (Tree k ts) ≡ single_in (Node-F.Tree k ts)
single_of_tree k ts = search (rules, the_lemmas)

single_row : (k : Kind) (ts : List Node) → single_in (Node-F.Tree k ts) ≡ true → parts_in (Tree k ts) (Node-F.Tree k ts) ≡ Tree k ts ∷ []
single_row kind.SeqExpr (s ∷ e ∷ []) h = absurd (true≢false (sym h))
single_row k ts h = refl

parts_single : (t : Node) → single t ≡ true → parts t ≡ t ∷ []
parts_single t = by_children (λ t. single t ≡ true → parts t ≡ t ∷ [])
    (λ h. search (rules, the_lemmas), λ x h. search (rules, the_lemmas), λ w h. search (rules, the_lemmas), λ x h. search (rules, the_lemmas), λ r h. search (rules, the_lemmas), λ k i h. search (rules, the_lemmas))
    (λ ts l h. search (rules, the_lemmas))
    (λ k ts l h. parts_of_tree k ts ∙ single_row k ts (sym (single_of_tree k ts) ∙ h)) t

loose_of_tree : (k : Kind) (ts : List Node) → loose (Tree k ts) ≡ loose_in (Node-F.Tree k ts)
loose_of_tree k ts = search (rules, the_lemmas)

not_true : (b : Bool) → not b ≡ true → b ≡ false
not_true true h = absurd (cc)
not_true false h = refl

loose_row : (k : Kind) (ts : List Node) → loose_in (Node-F.Tree k ts) ≡ true → effects (Tree k ts) ≡ Tree k ts ∷ []
loose_row kind.SeqExpr (s ∷ e ∷ []) h = absurd (true≢false (sym h))
loose_row kind.UnaryExpr (s ∷ o ∷ a ∷ []) h = effects_of_other s o a (not_true (is_void o) h)
loose_row k ts h = effects_of_tree k ts

effects_loose : (t : Node) → loose t ≡ true → effects t ≡ t ∷ []
effects_loose t = by_children (λ t. loose t ≡ true → effects t ≡ t ∷ [])
    (λ h. search (rules, the_lemmas), λ x h. search (rules, the_lemmas), λ w h. search (rules, the_lemmas), λ x h. search (rules, the_lemmas), λ r h. search (rules, the_lemmas), λ k i h. search (rules, the_lemmas))
    (λ ts l h. absurd (cc (sym (let e : loose (Many ts) ≡ false = search (rules, the_lemmas) in e) ∙ h)))
    (λ k ts l h. loose_row k ts (sym (loose_of_tree k ts) ∙ h)) t

-- stripping leaves it
busy_one : (b : Bool) (e : Node) → is_idle e ≡ b → busy (e ∷ []) ≡ e ∷ []
busy_one true e h = rw h refl
busy_one false e h = rw h refl

quiet_stays : (es : List Node) → quiet es ≡ true → busy es ≡ es
quiet_stays [] h = refl
quiet_stays (e ∷ []) h = busy_one (is_idle e) e refl
quiet_stays (e ∷ d ∷ es) h = (
    let p = both (not (is_idle e)) (list_all (λ e. not (is_idle e)) (d ∷ es)) h in
    rw (not_true (is_idle e) p.0) (ap (λ us. e ∷ us) (filter_stays (λ e. not (is_idle e)) (d ∷ es) p.1)))

firm_settled : (e d : Node) (es : List Node) → firm (e ∷ d ∷ es) ≡ true → settled (flat_map parts (e ∷ d ∷ es)) ≡ e ∷ d ∷ es
firm_settled e d es h =
    let ts : List Node = e ∷ d ∷ es in
    let p = both (list_all single ts) (list_all loose (front ts) && quiet (front ts)) h in let q = both (list_all loose (front ts)) (quiet (front ts)) p.1 in
    ap settled (flat_stays single parts parts_single ts p.0)
    ∙ ap (λ us. busy us ++ end ts) (flat_stays loose effects effects_loose (front ts) q.0)
    ∙ ap (λ us. us ++ end ts) (quiet_stays (front ts) q.1) ∙ front_end ts

firm_sequence : (s : Node) (ts : List Node) → firm ts ≡ true → sequence s (settled (flat_map parts ts)) ≡ Tree kind.SeqExpr (s ∷ Many ts ∷ [])
firm_sequence s [] h = refl
firm_sequence s (e ∷ []) h = absurd (cc)
firm_sequence s (e ∷ d ∷ es) h = ap (sequence s) (firm_settled e d es h)

pub list_is : (t : Node) → is_list t ≡ true → Many (items_of t) ≡ t
list_is t = by_children (λ t. is_list t ≡ true → Many (items_of t) ≡ t) (
  λ h. absurd (cc (sym (let e : is_list Absent ≡ false = search (rules, the_lemmas) in e) ∙ h)),
  λ x h. absurd (cc (sym (let e : is_list (Flag x) ≡ false = search (rules, the_lemmas) in e) ∙ h)),
  λ w h. absurd (cc (sym (let e : is_list (Word w) ≡ false = search (rules, the_lemmas) in e) ∙ h)),
  λ x h. absurd (cc (sym (let e : is_list (Text x) ≡ false = search (rules, the_lemmas) in e) ∙ h)),
  λ r h. absurd (cc (sym (let e : is_list (Span r) ≡ false = search (rules, the_lemmas) in e) ∙ h)),
  λ k i h. absurd (cc (sym (let e : is_list (Identifier k i) ≡ false = search (rules, the_lemmas) in e) ∙ h)),
)
    (λ ts l h. search (rules, the_lemmas))
    (λ k ts l h. absurd (cc (sym (let e : is_list (Tree k ts) ≡ false = search (rules, the_lemmas) in e) ∙ h))) t

name_row : (k : Kind) (i : Ident) → bare_name_in (Node-F.Identifier k i) ≡ false → target_in (Identifier k i) (Node-F.Identifier k i) ≡ Identifier k i
name_row kind.Ident i h = absurd (cc)
name_row k i h = refl

target_stays : (t : Node) → bare_name t ≡ false → target t ≡ t
target_stays t = by_children (λ t. bare_name t ≡ false → target t ≡ t) (
  λ h. search (rules, the_lemmas),
  λ x h. search (rules, the_lemmas),
  λ w h. search (rules, the_lemmas),
  λ x h. search (rules, the_lemmas),
  λ r h. search (rules, the_lemmas),
  λ k i h. (let e : target (Identifier k i) ≡ target_in (Identifier k i) (Node-F.Identifier k i) = search (rules, the_lemmas) in let f : bare_name (Identifier k i) ≡ bare_name_in (Node-F.Identifier k i) = search (rules, the_lemmas) in e ∙ name_row k i (sym f ∙ h)),
)
    (λ ts l h. search (rules, the_lemmas))
    (λ k ts l h. search (rules, the_lemmas)) t

stays_row : (k : Kind) (ts : List Node) → still_in (Node-F.Tree k ts) ≡ true → strip_step (Node-F.Tree k ts) ≡ Tree k ts
stays_row kind.ParenExpr (s ∷ e ∷ []) h = absurd (true≢false (sym h))
stays_row kind.SeqExpr (s ∷ e ∷ []) h =
    let p = both (is_list e) (firm (items_of e)) h in
    firm_sequence s (items_of e) p.1 ∙ ap (λ e. Tree kind.SeqExpr (s ∷ e ∷ [])) (list_is e p.0)
stays_row kind.AssignExpr (s ∷ o ∷ l ∷ r ∷ []) h = ap (λ l. Tree kind.AssignExpr (s ∷ o ∷ l ∷ r ∷ [])) (target_stays l (not_true (bare_name l) h))
stays_row kind.Class (s ∷ c ∷ b ∷ []) h =
    let p = both (is_list b) (list_all is_member (items_of b)) h in
    ap (λ us. Tree kind.Class (s ∷ c ∷ Many us ∷ [])) (filter_stays is_member (items_of b) p.1) ∙ ap (λ b. Tree kind.Class (s ∷ c ∷ b ∷ [])) (list_is b p.0)
stays_row k ts h = rolls-Tree k ts

abbrev Stays : Node → Type 0
Stays t = still t ≡ true → stripped t ≡ t

each_still : (ts : List Node) → Each Stays ts → list_all still ts ≡ true → Each (λ t. stripped t ≡ t) ts
each_still [] l h = tt
each_still (t ∷ ts) l h = let p = both (still t) (list_all still ts) h in (l.0 p.0, each_still ts l.1 p.1)

pub stripped_stays : (t : Node) → Stays t
stripped_stays t = by_children Stays
    (λ h. search (rules, the_lemmas), λ x h. search (rules, the_lemmas), λ w h. search (rules, the_lemmas), λ x h. search (rules, the_lemmas), λ r h. search (rules, the_lemmas), λ k i h. search (rules, the_lemmas))
    (λ ts l h. stripped_of_list ts ∙ ap Many (each_stays stripped ts (each_still ts l (sym (every_list still_in ts) ∙ h))))
    (λ k ts l h.
    (let p = both (still_in (Node-F.Tree k ts)) (list_all still ts) (sym (every_tree still_in k ts) ∙ h) in
    stripped_of_tree k ts ∙ ap (λ us. strip_step (Node-F.Tree k us)) (each_stays stripped ts (each_still ts l p.1)) ∙ stays_row k ts p.0)) t

-- stripping makes it so
items_many : (ts : List Node) → items_of (Many ts) ≡ ts
items_many ts = search (rules, the_lemmas)

items_still : (t : Node) → still t ≡ true → list_all still (items_of t) ≡ true
items_still t = by_children (λ t. still t ≡ true → list_all still (items_of t) ≡ true)
    (λ h. search (rules, the_lemmas), λ x h. search (rules, the_lemmas), λ w h. search (rules, the_lemmas), λ x h. search (rules, the_lemmas), λ r h. search (rules, the_lemmas), λ k i h. search (rules, the_lemmas))
    (λ ts l h. rw (items_many ts) (sym (every_list still_in ts) ∙ h))
    (λ k ts l h. search (rules, the_lemmas)) t

-- what is left as a part of a sequence
abbrev part : Node → Bool
part t = still t && single t

abbrev good : Node → Bool
good t = still t && (single t && loose t)

all_both : (q r : Node → Bool) (ts : List Node) → list_all q ts ≡ true → list_all r ts ≡ true → list_all (λ t. q t && r t) ts ≡ true
all_both q r [] h g = refl
all_both q r (t ∷ ts) h g = let a = both (q t) (list_all q ts) h in let b = both (r t) (list_all r ts) g in also_both (q t && r t) (list_all (λ t. q t && r t) ts) (also_both (q t) (r t) a.0 b.0) (all_both q r ts a.1 b.1)

firm_single : (ts : List Node) → firm ts ≡ true → list_all single ts ≡ true
firm_single [] h = refl
firm_single (e ∷ []) h = absurd (cc)
firm_single (e ∷ d ∷ es) h = (both (list_all single (e ∷ d ∷ es)) (list_all loose (front (e ∷ d ∷ es)) && quiet (front (e ∷ d ∷ es))) h).0

below : (k : Kind) (ts : List Node) → still (Tree k ts) ≡ true → (still_in (Node-F.Tree k ts) ≡ true) × (list_all still ts ≡ true)
below k ts h = both (still_in (Node-F.Tree k ts)) (list_all still ts) (sym (every_tree still_in k ts) ∙ h)

one_part : (t : Node) → still t ≡ true → single t ≡ true → list_all part (t ∷ []) ≡ true
one_part t h g = also_both (part t) true (also_both (still t) (single t) h g) refl

parts_row : (k : Kind) (ts : List Node) → still (Tree k ts) ≡ true → list_all part (parts_in (Tree k ts) (Node-F.Tree k ts)) ≡ true
parts_row kind.SeqExpr (s ∷ e ∷ []) h =
    let p = below kind.SeqExpr (s ∷ e ∷ []) h in let f = both (is_list e) (firm (items_of e)) p.0 in let q = both (still s) (still e && true) p.1 in
    all_both still single (items_of e) (items_still e (both (still e) true q.1).0) (firm_single (items_of e) f.1)
parts_row k ts h = one_part (Tree k ts) h (single_of_tree k ts)

parts_still : (t : Node) → still t ≡ true → list_all part (parts t) ≡ true
parts_still t = by_children (λ t. still t ≡ true → list_all part (parts t) ≡ true)
    (λ h. search (rules, the_lemmas), λ x h. search (rules, the_lemmas), λ w h. search (rules, the_lemmas), λ x h. search (rules, the_lemmas), λ r h. search (rules, the_lemmas), λ k i h. (let e : parts (Identifier k i) ≡ Identifier k i ∷ [] = search (rules, the_lemmas) in rw e (one_part (Identifier k i) h (search (rules, the_lemmas)))))
    (λ ts l h. (let e : parts (Many ts) ≡ Many ts ∷ [] = search (rules, the_lemmas) in rw e (one_part (Many ts) h (search (rules, the_lemmas)))))
    (λ k ts l h. rw (parts_of_tree k ts) (parts_row k ts h)) t

abbrev Left : Node → Type 0
Left t = still t ≡ true → list_all good (effects t) ≡ true

each_left : (ts : List Node) → Each Left ts → list_all still ts ≡ true → list_all good (flat_map effects ts) ≡ true
each_left [] l h = refl
each_left (t ∷ ts) l h = let p = both (still t) (list_all still ts) h in all_append good (effects t) (flat_map effects ts) (l.0 p.0) (each_left ts l.1 p.1)

one_good : (t : Node) → still t ≡ true → single t ≡ true → loose t ≡ true → list_all good (t ∷ []) ≡ true
one_good t h g f = also_both (good t) true (also_both (still t) (single t && loose t) h (also_both (single t) (loose t) g f)) refl

unary_if : (b : Bool) (s o a : Node) → is_void o ≡ b → still (Tree kind.UnaryExpr (s ∷ o ∷ a ∷ [])) ≡ true → Left a → list_all good (effects (Tree kind.UnaryExpr (s ∷ o ∷ a ∷ []))) ≡ true
unary_if true s o a e h l =
    let p = below kind.UnaryExpr (s ∷ o ∷ a ∷ []) h in let q = both (still s) (still o && (still a && true)) p.1 in let r = both (still o) (still a && true) q.1 in
    rw (effects_of_void s o a e) (l (both (still a) true r.1).0)
unary_if false s o a e h l =
    rw (effects_of_other s o a e) (one_good (Tree kind.UnaryExpr (s ∷ o ∷ a ∷ [])) h (single_of_tree kind.UnaryExpr (s ∷ o ∷ a ∷ [])) (loose_of_tree kind.UnaryExpr (s ∷ o ∷ a ∷ []) ∙ rw e refl))

left_row : (k : Kind) (ts : List Node) → Each Left ts → Left (Tree k ts)
left_row kind.SeqExpr (s ∷ e ∷ []) l h =
    let p = below kind.SeqExpr (s ∷ e ∷ []) h in let q = both (still s) (still e && true) p.1 in
    rw (effects_of_sequence s e) (l.1.0 (both (still e) true q.1).0)
left_row kind.UnaryExpr (s ∷ o ∷ a ∷ []) l h = unary_if (is_void o) s o a refl h l.1.1.0
left_row k ts l h = rw (effects_of_tree k ts) (one_good (Tree k ts) h (single_of_tree k ts) (loose_of_tree k ts))

effects_good : (t : Node) → Left t
effects_good t = by_children Left
    (λ h. search (rules, the_lemmas), λ x h. search (rules, the_lemmas), λ w h. search (rules, the_lemmas), λ x h. search (rules, the_lemmas), λ r h. search (rules, the_lemmas), λ k i h. (let e : effects (Identifier k i) ≡ Identifier k i ∷ [] = search (rules, the_lemmas) in rw e (one_good (Identifier k i) h (search (rules, the_lemmas)) (search (rules, the_lemmas)))))
    (λ ts l h. rw (effects_of_list ts) (each_left ts l (sym (every_list still_in ts) ∙ h)))
    left_row t

quiet_of : (es : List Node) → list_all (λ e. not (is_idle e)) es ≡ true → quiet es ≡ true
quiet_of [] h = refl
quiet_of (e ∷ []) h = refl
quiet_of (e ∷ d ∷ es) h = h

take_quiet : (es : List Node) → quiet (take 1 es) ≡ true
take_quiet [] = refl
take_quiet (e ∷ es) = refl

busy_if : (b : Bool) (es : List Node) → list_all good es ≡ true
    → (list_all good (if b then take 1 es else filter (λ e. not (is_idle e)) es) ≡ true) × (quiet (if b then take 1 es else filter (λ e. not (is_idle e)) es) ≡ true)
busy_if true es h = (all_take good es h, take_quiet es)
busy_if false es h = (all_filter good (λ e. not (is_idle e)) es h, quiet_of (filter (λ e. not (is_idle e)) es) (filter_holds (λ e. not (is_idle e)) es))

end_is : (t : Node) (ts : List Node) → list_all part (t ∷ ts) ≡ true → (z : Node) × (end (t ∷ ts) ≡ z ∷ []) × (part z ≡ true)
end_is t [] h = (t, refl, (both (part t) true h).0)
end_is t (u ∷ ts) h = end_is u ts (both (part t) (list_all part (u ∷ ts)) h).1

front_before : (b : Node) (bs : List Node) (z : Node) → front (b ∷ (bs ++ z ∷ [])) ≡ b ∷ bs
front_before b [] z = refl
front_before b (c ∷ bs) z = ap (λ us. b ∷ us) (front_before c bs z)

good_still : (t : Node) → good t ≡ true → still t ≡ true
good_still t h = (both (still t) (single t && loose t) h).0

good_single : (t : Node) → good t ≡ true → single t ≡ true
good_single t h = (both (single t) (loose t) (both (still t) (single t && loose t) h).1).0

good_loose : (t : Node) → good t ≡ true → loose t ≡ true
good_loose t h = (both (single t) (loose t) (both (still t) (single t && loose t) h).1).1

-- a sequence of two items or more
sequence_of : (s b c : Node) (ts : List Node) → still s ≡ true → list_all still (b ∷ c ∷ ts) ≡ true → firm (b ∷ c ∷ ts) ≡ true → still (Tree kind.SeqExpr (s ∷ Many (b ∷ c ∷ ts) ∷ [])) ≡ true
sequence_of s b c ts h g f =
    let us : List Node = b ∷ c ∷ ts in let l : is_list (Many us) ≡ true = search (rules, the_lemmas) in
    every_tree still_in kind.SeqExpr (s ∷ Many us ∷ []) ∙ rw (l, items_many us, h, every_list still_in us) (also_both (firm us) (list_all still us && true) f (also_both (list_all still us) true g refl))

firm_of : (b c : Node) (ts : List Node) (fs : List Node) → front (b ∷ c ∷ ts) ≡ fs → list_all single (b ∷ c ∷ ts) ≡ true → list_all loose fs ≡ true → quiet fs ≡ true → firm (b ∷ c ∷ ts) ≡ true
firm_of b c ts fs e h g f =
    let us : List Node = front (b ∷ c ∷ ts) in
    also_both (list_all single (b ∷ c ∷ ts)) (list_all loose us && quiet us) h (also_both (list_all loose us) (quiet us) (ap (list_all loose) e ∙ g) (ap quiet e ∙ f))

ended : (s : Node) (bs : List Node) (z : Node) → still s ≡ true → list_all good bs ≡ true → quiet bs ≡ true → part z ≡ true → still (sequence s (bs ++ z ∷ [])) ≡ true
ended s [] z h g q p = (both (still z) (single z) p).0
ended s (b ∷ []) z h g q p =
    let r = both (still z) (single z) p in
    sequence_of s b z [] h (all_append still (b ∷ []) (z ∷ []) (all_weaker good still good_still (b ∷ []) g) (also_both (still z) true r.0 refl))
    (firm_of b z [] (b ∷ []) refl (all_append single (b ∷ []) (z ∷ []) (all_weaker good single good_single (b ∷ []) g) (also_both (single z) true r.1 refl)) (all_weaker good loose good_loose (b ∷ []) g) q)
ended s (b ∷ c ∷ bs) z h g q p =
    let r = both (still z) (single z) p in
    sequence_of s b c (bs ++ z ∷ []) h (all_append still (b ∷ c ∷ bs) (z ∷ []) (all_weaker good still good_still (b ∷ c ∷ bs) g) (also_both (still z) true r.0 refl))
    (firm_of b c (bs ++ z ∷ []) (b ∷ c ∷ bs) (front_before b (c ∷ bs) z) (all_append single (b ∷ c ∷ bs) (z ∷ []) (all_weaker good single good_single (b ∷ c ∷ bs) g) (also_both (single z) true r.1 refl)) (all_weaker good loose good_loose (b ∷ c ∷ bs) g) q)

part_still : (t : Node) → part t ≡ true → still t ≡ true
part_still t h = (both (still t) (single t) h).0

empty_sequence : (s : Node) → still s ≡ true → still (Tree kind.SeqExpr (s ∷ Many [] ∷ [])) ≡ true
empty_sequence s h = every_tree still_in kind.SeqExpr (s ∷ Many [] ∷ []) ∙ (let e : still (Many []) ≡ true = search (rules, the_lemmas) in let l : is_list (Many []) ≡ true = search (rules, the_lemmas) in rw (l, items_many [], h, e) refl)

settled_still : (s : Node) (ws : List Node) → still s ≡ true → list_all part ws ≡ true → still (sequence s (settled ws)) ≡ true
settled_still s [] h g = empty_sequence s h
settled_still s (w ∷ ws) h g =
    let es : List Node = flat_map effects (front (w ∷ ws)) in
    let f = all_flat still good effects effects_good (front (w ∷ ws)) (all_weaker part still part_still (front (w ∷ ws)) (all_front part (w ∷ ws) g)) in
    let b = busy_if (list_all is_idle es) es f in let e = end_is w ws g in
    rw e.1 (ended s (busy es) e.0 h b.0 b.1 e.2)

-- targets and members
target_of_tree : (k : Kind) (ts : List Node) → target (Tree k ts) ≡ Tree k ts
target_of_tree k ts = search (rules, the_lemmas)

abbrev IsTarget : Node → Type 0
IsTarget t = (still t ≡ true → still (target t) ≡ true) × (bare_name (target t) ≡ false)

name_target : (k : Kind) (i : Ident) → (still (Identifier k i) ≡ true → still (target_in (Identifier k i) (Node-F.Identifier k i)) ≡ true) × (bare_name (target_in (Identifier k i) (Node-F.Identifier k i)) ≡ false)
name_target kind.Ident i = (λ h. search (rules, the_lemmas), search (rules, the_lemmas))
name_target k i = (λ h. h, (let f : bare_name (Identifier k i) ≡ bare_name_in (Node-F.Identifier k i) = search (rules, the_lemmas) in f))

same_target : (t : Node) → target t ≡ t → bare_name t ≡ false → IsTarget t
same_target t e h = rw e (λ g. g, h)

target_is : (t : Node) → IsTarget t
target_is t = by_children IsTarget (
  same_target Absent (search (rules, the_lemmas)) (search (rules, the_lemmas)),
  λ x. same_target (Flag x) (search (rules, the_lemmas)) (search (rules, the_lemmas)),
  λ w. same_target (Word w) (search (rules, the_lemmas)) (search (rules, the_lemmas)),
  λ x. same_target (Text x) (search (rules, the_lemmas)) (search (rules, the_lemmas)),
  λ r. same_target (Span r) (search (rules, the_lemmas)) (search (rules, the_lemmas)),
  λ k i. (let e : target (Identifier k i) ≡ target_in (Identifier k i) (Node-F.Identifier k i) = search (rules, the_lemmas) in rw e (name_target k i)),
)
    (λ ts l. same_target (Many ts) (search (rules, the_lemmas)) (search (rules, the_lemmas)))
    (λ k ts l. same_target (Tree k ts) (target_of_tree k ts) (search (rules, the_lemmas))) t

strip_row : (k : Kind) (us : List Node) → list_all still us ≡ true → still (strip_step (Node-F.Tree k us)) ≡ true
strip_row kind.ParenExpr (s ∷ e ∷ []) h = let p = both (still s) (still e && true) h in (both (still e) true p.1).0
strip_row kind.SeqExpr (s ∷ e ∷ []) h =
    let p = both (still s) (still e && true) h in
    settled_still s (flat_map parts (items_of e)) p.0 (all_flat still part parts parts_still (items_of e) (items_still e (both (still e) true p.1).0))
strip_row kind.AssignExpr (s ∷ o ∷ l ∷ r ∷ []) h =
    let p = both (still s) (still o && (still l && (still r && true))) h in let q = both (still o) (still l && (still r && true)) p.1 in let x = both (still l) (still r && true) q.1 in
    every_tree still_in kind.AssignExpr (s ∷ o ∷ target l ∷ r ∷ []) ∙ rw ((target_is l).1, p.0, q.0, (target_is l).0 x.0) x.1
strip_row kind.Class (s ∷ c ∷ b ∷ []) h =
    let p = both (still s) (still c && (still b && true)) h in let q = both (still c) (still b && true) p.1 in let x = both (still b) true q.1 in
    let ms : List Node = filter is_member (items_of b) in let l : is_list (Many ms) ≡ true = search (rules, the_lemmas) in
    every_tree still_in kind.Class (s ∷ c ∷ Many ms ∷ []) ∙ rw (l, items_many ms, p.0, q.0, every_list still_in ms) (also_both (list_all is_member ms) (list_all still ms && true) (filter_holds is_member (items_of b)) (also_both (list_all still ms) true (all_filter still is_member (items_of b) (items_still b x.0)) refl))
strip_row k us h = ap still (rolls-Tree k us) ∙ every_tree still_in k us ∙ h

-- each identifier is of a kind of identifiers, as in what fits the table
abbrev pub well_in : Node-F Node → Bool
well_in (Node-F.Identifier k i) = is_identifier k
well_in _ = true

abbrev pub well : Node → Bool
well = every well_in

abbrev Kept : Node → Type 0
Kept t = well t ≡ true → still (stripped t) ≡ true

each_kept : (ts : List Node) → Each Kept ts → list_all well ts ≡ true → list_all still (map stripped ts) ≡ true
each_kept [] l h = refl
each_kept (t ∷ ts) l h = let p = both (well t) (list_all well ts) h in also_both (still (stripped t)) (list_all still (map stripped ts)) (l.0 p.0) (each_kept ts l.1 p.1)

name_well : (k : Kind) (i : Ident) → still (stripped (Identifier k i)) ≡ well (Identifier k i)
name_well k i = search (rules, the_lemmas)

pub stripped_still : (t : Node) → Kept t
stripped_still t = by_children Kept
    (λ h. search (rules, the_lemmas), λ x h. search (rules, the_lemmas), λ w h. search (rules, the_lemmas), λ x h. search (rules, the_lemmas), λ r h. search (rules, the_lemmas), λ k i h. name_well k i ∙ h)
    (λ ts l h. rw (stripped_of_list ts) (every_list still_in (map stripped ts) ∙ each_kept ts l (sym (every_list well_in ts) ∙ h)))
    (λ k ts l h. ap still (stripped_of_tree k ts) ∙ strip_row k (map stripped ts) (each_kept ts l (sym (every_tree well_in k ts) ∙ h))) t

-- what fits
all_well : (ts : List Node) → Each (λ t. (s : Slot) → Fits t s → well t ≡ true) ts → Each Somewhere ts → list_all well ts ≡ true
all_well [] l f = refl
all_well (t ∷ ts) l f = also_both (well t) (list_all well ts) (l.0 f.0.0 f.0.1) (all_well ts l.1 f.1)

kind_well : (k : Kind) (o : Option Content) → IsTrue (identifier_fits k o) → is_identifier k ≡ true
kind_well k (Some (content.Node c)) h = (both (is_identifier k) (belongs k c) h).0
kind_well k o h = absurd (cc)

leaf_well : (k : Kind) (i : Ident) → well (Identifier k i) ≡ is_identifier k
leaf_well k i = search (rules, the_lemmas)

pub fits_well : (t : Node) (s : Slot) → Fits t s → well t ≡ true
fits_well t = by_children (λ t. (s : Slot) → Fits t s → well t ≡ true)
    (λ s f. search (rules, the_lemmas), λ x s f. search (rules, the_lemmas), λ w s f. search (rules, the_lemmas), λ x s f. search (rules, the_lemmas), λ r s f. search (rules, the_lemmas), λ k i s f. leaf_well k i ∙ kind_well k (single_of s) (sym (fits-Identifier k i s) ∙ f))
    (λ ts l s f. every_list well_in ts ∙ all_well ts l (items_fit s ts (sym (fits-List ts s) ∙ f)))
    (λ k ts l s f. every_tree well_in k ts ∙ all_well ts l (fields_fit (slots_of k) ts (stands k ts s f).fields)) t
