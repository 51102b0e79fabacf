-- What is left of a sequence that can be written down can be.
use Rattle.std.proofs.Common.{◌≡◌, Bool, true, false, List, [], ◌∷◌, map, refl, sym, ap, ◌∙◌, rules, arith}
use Rattle.std.specs.Prelude.{nat_le, length}
use Rattle.std.proofs.lemmas.Bool.{le-leb}
use Rattle.std.specs.List.{flat_map, filter}
use Rattle.swc_tree_node.specs.declared.kind.Kind.{Kind}
use Rattle.swc_tree_node.specs.declared.kind.Kind.TheVariants as kind
use Rattle.swc_tree_node.specs.declared.kind.Class.TheVariants as class
use Rattle.swc_tree_node.specs.declared.slot.Content.TheVariants as content
use Rattle.swc_tree_node.specs.declared.node.Node.{Node, List as Many, Identifier, Tree, the_lemmas}
use Rattle.swc_tree_node.specs.declared.node.Node.TheOpen.{Node-F}
use Rattle.swc_tree_node.specs.Table.{slots_of}
use Rattle.swc_tree_node.specs.Fits.{Fits, AllFit, FieldsFit}
use Rattle.swc_tree_node.proofs.Fit.{fits-Absent, fits-Flag, fits-Word, fits-Text, fits-Span, fits-List, fits-Identifier, fits-Tree, tree_opens, list_opens}
use Rattle.swc_tree_grammar.specs.Shapes.{items_of}
use Rattle.swc_tree_grammar.specs.Stripped.{stripped, effects, parts, parts_in, is_void, front, settled}
use Rattle.swc_tree_grammar.specs.Writable.{Round, all_sound, binding}
use Rattle.swc_tree_grammar.proofs.Asked.{asked, same as whole, sound}
use Rattle.swc_tree_grammar.proofs.Induction.{Each, by_children}
use Rattle.swc_tree_grammar.proofs.Places.{one}
use Rattle.swc_tree_grammar.proofs.Items.{items_fit, flat_fit}
use Rattle.swc_tree_grammar.proofs.Stripped.{effects_of_list, effects_of_tree, effects_of_sequence, effects_of_void, effects_of_other, effects_of_identifier}
use Rattle.swc_tree_grammar_laws.proofs.Levelled.{half, also}
use Rattle.swc_tree_grammar_laws.proofs.Blocked.{no}
use Rattle.swc_tree_grammar_laws.proofs.Derived.{named, Heard, heard, sound_tree, sound_list}
use Rattle.swc_base_fixer_laws.specs.Sets.{FieldsSet}
use Rattle.swc_base_fixer_laws.specs.Sets.FieldsSet.{nil, field}
use Rattle.swc_base_fixer_laws.proofs.SetsLevels.{expressions, fields_same}
use Rattle.swc_base_fixer_laws.proofs.RecastSound.{rest_sound}
use Rattle.swc_base_fixer_laws.proofs.Sequences.{has_two, left_of, each_flat, each_front, each_settled, each_filter}

pub all_heard : (ts : List Node) (r : Round) → Each (Heard r) ts → all_sound (map asked ts) r ≡ true
all_heard [] r h = refl
all_heard (t ∷ ts) r h = also (also (ap named (whole t) ∙ h.0.0) h.0.1) (all_heard ts r h.1)

items_many : (ts : List Node) → items_of (Many ts) ≡ ts
items_many ts = search (rules, the_lemmas)

pub items_heard : (t : Node) (r : Round) → sound t r ≡ true → Each (Heard r) (items_of t)
items_heard t r = by_children (λ t. sound t r ≡ true → Each (Heard r) (items_of t))
    (λ h. search (rules, the_lemmas), λ x h. search (rules, the_lemmas), λ w h. search (rules, the_lemmas), λ x h. search (rules, the_lemmas), λ s h. search (rules, the_lemmas), λ k i h. search (rules, the_lemmas))
    (λ ts l h. rw (items_many ts) (heard ts r (sym (sound_list ts r) ∙ h)))
    (λ k ts l h. search (rules, the_lemmas)) t

-- parts
parts_of_tree : (k : Kind) (ts : List Node) → parts (Tree k ts) ≡ parts_in (Tree k ts) (Node-F.Tree k ts)
parts_of_tree k ts = search (rules, the_lemmas)

parts_tree : (k : Kind) (ts : List Node) (r : Round) → Heard r (Tree k ts) → Each (Heard r) (parts_in (Tree k ts) (Node-F.Tree k ts))
parts_tree kind.SeqExpr (span ∷ exprs ∷ []) r h = let p = half (sym (sound_tree kind.SeqExpr (span ∷ exprs ∷ []) r) ∙ h.1) in items_heard exprs r p.1
parts_tree k ts r h = (h, tt)

parts_alone : (t : Node) (r : Round) → parts t ≡ t ∷ [] → Heard r t → Each (Heard r) (parts t)
parts_alone t r e h = rw e (h, tt)

parts_heard : (t : Node) (r : Round) → Heard r t → Each (Heard r) (parts t)
parts_heard t r = by_children (λ t. Heard r t → Each (Heard r) (parts t)) (
  λ h. parts_alone _ r (search (rules, the_lemmas)) h,
  λ x h. parts_alone _ r (search (rules, the_lemmas)) h,
  λ w h. parts_alone _ r (search (rules, the_lemmas)) h,
  λ x h. parts_alone _ r (search (rules, the_lemmas)) h,
  λ s h. parts_alone _ r (search (rules, the_lemmas)) h,
  λ k i h. parts_alone (Identifier k i) r (search (rules, the_lemmas)) h,
)
    (λ ts l h. parts_alone (Many ts) r (search (rules, the_lemmas)) h)
    (λ k ts l h. rw (parts_of_tree k ts) (parts_tree k ts r h)) t

all_parts : (ts : List Node) (r : Round) → Each (Heard r) ts → Each (λ t. Each (Heard r) (parts t)) ts
all_parts [] r h = tt
all_parts (t ∷ ts) r h = (parts_heard t r h.0, all_parts ts r h.1)

-- what is left where a value is dropped
abbrev Left : Round → Node → Type 0
Left r t = (Fits t (one class.Expr) → Heard (binding r) t → Each (Heard (binding r)) (effects t)) × (Fits t expressions → sound t (binding r) ≡ true → Each (Heard (binding r)) (effects t))

each_left : (r : Round) (ts : List Node) → Each (Left r) ts → AllFit (one class.Expr) ts → Each (Heard (binding r)) ts → Each (λ t. Each (Heard (binding r)) (effects t)) ts
each_left r [] l f h = tt
each_left r (t ∷ ts) l f h = (l.0.0 f.0 h.0, each_left r ts l.1 f.1 h.1)

void_left : (r : Round) (b : Bool) (span op arg : Node) → is_void op ≡ b → Fits arg (one class.Expr) → Heard (binding r) (Tree kind.UnaryExpr (span ∷ op ∷ arg ∷ [])) → Left r arg → Each (Heard (binding r)) (effects (Tree kind.UnaryExpr (span ∷ op ∷ arg ∷ [])))
void_left r true span op arg e f h l =
    let m = heard (arg ∷ []) (binding r) (rest_sound op (asked arg ∷ []) (binding r) (rest_sound span (asked op ∷ asked arg ∷ []) (binding r) (sym (sound_tree kind.UnaryExpr (span ∷ op ∷ arg ∷ []) (binding r)) ∙ h.1))) in
    rw (effects_of_void span op arg e) (l.0 f m.0)
void_left r false span op arg e f h l = rw (effects_of_other span op arg e) (h, tt)

left_row : (r : Round) (k : Kind) {ts us : List Node} → FieldsSet (slots_of k) ts us → Each (Left r) ts → FieldsFit (slots_of k) ts → Heard (binding r) (Tree k ts) → Each (Heard (binding r)) (effects (Tree k ts))
left_row r kind.SeqExpr (field {t = a} x (field {t = e} y nil)) l f h =
    let p = half (sym (sound_tree kind.SeqExpr (a ∷ e ∷ []) (binding r)) ∙ h.1) in rw (effects_of_sequence a e) (l.1.0.1 f.1.0 p.1)
left_row r kind.UnaryExpr (field {t = a} x (field {t = o} y (field {t = e} z nil))) l f h = void_left r (is_void o) a o e refl f.1.1.0 h l.1.1.0
left_row r k {ts = ts} x l f h = rw (effects_of_tree k ts) (h, tt)

left : (r : Round) (t : Node) → Left r t
left r t = by_children (Left r) (
  (λ h. absurd (no (sym (fits-Absent (one class.Expr)) ∙ h)), λ h. absurd (no (sym (fits-Absent expressions) ∙ h))),
  λ x. (λ h. absurd (no (sym (fits-Flag x (one class.Expr)) ∙ h)), λ h. absurd (no (sym (fits-Flag x expressions) ∙ h))),
  λ w. (λ h. absurd (no (sym (fits-Word w (one class.Expr)) ∙ h)), λ h. absurd (no (sym (fits-Word w expressions) ∙ h))),
  λ x. (λ h. absurd (no (sym (fits-Text x (one class.Expr)) ∙ h)), λ h. absurd (no (sym (fits-Text x expressions) ∙ h))),
  λ s. (λ h. absurd (no (sym (fits-Span s (one class.Expr)) ∙ h)), λ h. absurd (no (sym (fits-Span s expressions) ∙ h))),
  λ k i. (λ f h. rw (effects_of_identifier k i) (h, tt), λ h. absurd (no (sym (fits-Identifier k i expressions) ∙ h))),
)
    (λ ts l. (λ h. absurd (no (sym (fits-List ts (one class.Expr)) ∙ h)), λ f h. rw (effects_of_list ts) (each_flat (Heard (binding r)) effects ts (each_left r ts l (list_opens ts (content.Node class.Expr) f) (heard ts (binding r) (sym (sound_list ts (binding r)) ∙ h))))))
    (λ k ts l. (λ h m. (let f = tree_opens k ts class.Expr h in left_row r k (fields_same (slots_of k) ts f.2) l f.2 m), λ h. absurd (no (sym (fits-Tree k ts expressions) ∙ h)))) t

-- an expression of the table that can be written down
abbrev Good : Round → Node → Type 0
Good r t = Fits t (one class.Expr) × Heard (binding r) t

each_good : (r : Round) (ts : List Node) → AllFit (one class.Expr) ts → Each (Heard (binding r)) ts → Each (Good r) ts
each_good r [] f h = tt
each_good r (t ∷ ts) f h = ((f.0, h.0), each_good r ts f.1 h.1)

each_effects : (r : Round) (ts : List Node) → Each (Good r) ts → Each (λ t. Each (Heard (binding r)) (effects t)) ts
each_effects r [] g = tt
each_effects r (t ∷ ts) g = ((left r t).0 g.0.0 g.0.1, each_effects r ts g.1)

items_left : (r : Round) (ts : List Node) → AllFit (one class.Expr) ts → Each (Heard (binding r)) ts → Each (Heard (binding r)) (settled ts)
items_left r ts f h = each_settled (Heard (binding r)) ts (each_flat (Heard (binding r)) effects (front ts) (each_effects r (front ts) (each_front (Good r) ts (each_good r ts f h)))) h

two_at_least : (ts : List Node) → has_two ts ≡ true → nat_le 2 (length ts) ≡ true
two_at_least [] h = absurd (no h)
two_at_least (t ∷ []) h = absurd (no h)
two_at_least (t ∷ u ∷ ts) h = le-leb 2 (length (t ∷ u ∷ ts)) (omega arith)

-- what is left of the items of a sequence
pub left_sound : (span exprs : Node) (r : Round) → Fits (stripped exprs) expressions → sound (stripped exprs) (binding r) ≡ true → has_two (left_of exprs) ≡ true → sound (Tree kind.SeqExpr (span ∷ Many (left_of exprs) ∷ [])) (binding r) ≡ true
left_sound span exprs r f h two =
    let es = items_of (stripped exprs) in
    let g = flat_fit es (items_fit (stripped exprs) (content.Node class.Expr) f) in
    let m = items_left r (flat_map parts es) g (each_flat (Heard (binding r)) parts es (all_parts es (binding r) (items_heard (stripped exprs) (binding r) h))) in
    sound_tree kind.SeqExpr (span ∷ Many (left_of exprs) ∷ []) (binding r)
    ∙ also (ap (λ t. nat_le 2 (length (items_of t))) (whole (Many (left_of exprs))) ∙ ap (λ ts. nat_le 2 (length ts)) (items_many (left_of exprs)) ∙ two_at_least (left_of exprs) two)
    (sound_list (left_of exprs) (binding r) ∙ all_heard (left_of exprs) (binding r) m)

-- members of a class, but for the empty ones
pub members_left : (p : Node → Bool) (t : Node) (r : Round) → sound t r ≡ true → sound (Many (filter p (items_of t))) r ≡ true
members_left p t r h = sound_list (filter p (items_of t)) r ∙ all_heard (filter p (items_of t)) r (each_filter (Heard r) p (items_of t) (items_heard t r h))
