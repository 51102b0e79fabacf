-- Of a sequence that can be written down stripping leaves a sequence: no item before the last is lost altogether.
use Rattle.std.proofs.Common.{◌≡◌, Bool, true, false, not, ◌&&◌, List, [], ◌∷◌, ◌++◌, map, take, refl, sym, ap, ◌∙◌, rules, true≢false}
use Rattle.std.specs.Prelude.{if◌then◌else◌, nat_le, length}
use Rattle.std.specs.List.{flat_map, filter, list_all}
use Rattle.swc_tree_marks.specs.declared.ident.Ident.{Ident}
use Rattle.swc_tree_node.specs.declared.kind.Kind.{Kind}
use Rattle.swc_tree_node.specs.declared.kind.Kind.TheVariants as kind
use Rattle.swc_tree_node.specs.declared.kind.Class.TheVariants as class
use Rattle.swc_tree_node.specs.declared.slot.Content.TheVariants as content
use Rattle.swc_tree_node.specs.declared.node.Node.{Node, List as Many, Identifier, Tree, the_lemmas}
use Rattle.swc_tree_node.specs.declared.node.Node.TheOpen.{Node-F}
use Rattle.swc_tree_node.specs.Table.{slots_of}
use Rattle.swc_tree_node.specs.Fits.{Fits, FieldsFit, AllFit, belongs}
use Rattle.swc_tree_node.proofs.Fit.{fits-Absent, fits-Flag, fits-Word, fits-Text, fits-Span, fits-List, fits-Identifier, fits-Tree, tree_opens, list_opens}
use Rattle.swc_tree_grammar.specs.Shapes.{items_of}
use Rattle.swc_tree_grammar.specs.Stripped.{stripped, target, effects, parts, parts_in, is_idle, is_void, busy, front, end, settled, sequence}
use Rattle.swc_tree_grammar.specs.Writable.{Round, sound_in, all_sound, binding}
use Rattle.swc_tree_grammar.proofs.Asked.{asked, same as whole, sound}
use Rattle.swc_tree_grammar.proofs.Induction.{Each, by_children}
use Rattle.swc_tree_grammar.proofs.Places.{one}
use Rattle.swc_tree_grammar.proofs.Stripped.{stripped_of_list, stripped_of_tree, stripped_other, effects_of_list, effects_of_tree, effects_of_sequence, effects_of_void, effects_of_other, effects_of_identifier, effects_of_absent, effects_of_flag, effects_of_word, effects_of_text, effects_of_span}
use Rattle.swc_tree_grammar_laws.proofs.Levelled.{half}
use Rattle.swc_tree_grammar_laws.proofs.Blocked.{no}
use Rattle.swc_tree_grammar_laws.proofs.Derived.{sound_tree, sound_list}
use Rattle.swc_base_fixer_laws.specs.Sets.{FieldsSet}
use Rattle.swc_base_fixer_laws.specs.Sets.FieldsSet.{nil, field}
use Rattle.swc_base_fixer_laws.proofs.RecastSound.{last_sound, rest_sound}
use Rattle.swc_base_fixer_laws.proofs.SetsLevels.{expressions, fields_same, of_list}

-- lists
abbrev pub has_some : List Node → Bool
has_some [] = false
has_some (t ∷ ts) = true

abbrev pub has_two : List Node → Bool
has_two [] = false
has_two (t ∷ []) = false
has_two (t ∷ u ∷ ts) = true

some_append : (ts us : List Node) → has_some ts ≡ true → has_some (ts ++ us) ≡ true
some_append [] us h = absurd (no h)
some_append (t ∷ ts) us h = refl

two_append : (ts us : List Node) → has_some ts ≡ true → has_some us ≡ true → has_two (ts ++ us) ≡ true
two_append [] us h g = absurd (no h)
two_append (t ∷ []) [] h g = absurd (no g)
two_append (t ∷ []) (u ∷ us) h g = refl
two_append (t ∷ v ∷ ts) us h g = refl

each_append : (P : Node → Type 0) (ts us : List Node) → Each P ts → Each P us → Each P (ts ++ us)
each_append P [] us h g = g
each_append P (t ∷ ts) us h g = (h.0, each_append P ts us h.1 g)

each_filter_if : (P : Node → Type 0) (b : Bool) (t : Node) (ts : List Node) → P t → Each P ts → Each P (if b then t ∷ ts else ts)
each_filter_if P true t ts h g = (h, g)
each_filter_if P false t ts h g = g

pub each_filter : (P : Node → Type 0) (p : Node → Bool) (ts : List Node) → Each P ts → Each P (filter p ts)
each_filter P p [] h = tt
each_filter P p (t ∷ ts) h = each_filter_if P (p t) t (filter p ts) h.0 (each_filter P p ts h.1)

pub each_front : (P : Node → Type 0) (ts : List Node) → Each P ts → Each P (front ts)
each_front P [] h = tt
each_front P (t ∷ []) h = tt
each_front P (t ∷ u ∷ ts) h = (h.0, each_front P (u ∷ ts) h.1)

each_end : (P : Node → Type 0) (ts : List Node) → Each P ts → Each P (end ts)
each_end P [] h = tt
each_end P (t ∷ []) h = h
each_end P (t ∷ u ∷ ts) h = each_end P (u ∷ ts) h.1

each_first : (P : Node → Type 0) (ts : List Node) → Each P ts → Each P (take 1 ts)
each_first P [] h = tt
each_first P (t ∷ ts) h = (h.0, tt)

each_busy_if : (P : Node → Type 0) (b : Bool) (ts : List Node) → Each P ts → Each P (if b then take 1 ts else filter (λ e. not (is_idle e)) ts)
each_busy_if P true ts h = each_first P ts h
each_busy_if P false ts h = each_filter P (λ e. not (is_idle e)) ts h

-- what holds of what each item leaves, and of the last, holds of what is left of a sequence
pub each_settled : (P : Node → Type 0) (ts : List Node) → Each P (flat_map effects (front ts)) → Each P ts → Each P (settled ts)
each_settled P ts h g = each_append P (busy (flat_map effects (front ts))) (end ts) (each_busy_if P (list_all is_idle (flat_map effects (front ts))) (flat_map effects (front ts)) h) (each_end P ts g)

pub each_flat : (P : Node → Type 0) (f : Node → List Node) (ts : List Node) → Each (λ t. Each P (f t)) ts → Each P (flat_map f ts)
each_flat P f [] h = tt
each_flat P f (t ∷ ts) h = each_append P (f t) (flat_map f ts) h.0 (each_flat P f ts h.1)

-- each leaves something
abbrev pub Leaving : (Node → List Node) → List Node → Type 0
Leaving f ts = Each (λ t. has_some (f t) ≡ true) ts

some_flat : (f : Node → List Node) (ts : List Node) → has_some ts ≡ true → Leaving f ts → has_some (flat_map f ts) ≡ true
some_flat f [] h l = absurd (no h)
some_flat f (t ∷ ts) h l = some_append (f t) (flat_map f ts) l.0

two_flat : (f : Node → List Node) (ts : List Node) → has_two ts ≡ true → Leaving f ts → has_two (flat_map f ts) ≡ true
two_flat f [] h l = absurd (no h)
two_flat f (t ∷ []) h l = absurd (no h)
two_flat f (t ∷ u ∷ ts) h l = two_append (f t) (f u ++ flat_map f ts) l.0 (some_append (f u) (flat_map f ts) l.1.0)

some_front : (ts : List Node) → has_two ts ≡ true → has_some (front ts) ≡ true
some_front [] h = absurd (no h)
some_front (t ∷ []) h = absurd (no h)
some_front (t ∷ u ∷ ts) h = refl

pub some_end : (ts : List Node) → has_some ts ≡ true → has_some (end ts) ≡ true
some_end [] h = absurd (no h)
some_end (t ∷ []) h = refl
some_end (t ∷ u ∷ ts) h = some_end (u ∷ ts) refl

two_some : (ts : List Node) → has_two ts ≡ true → has_some ts ≡ true
two_some [] h = absurd (no h)
two_some (t ∷ ts) h = refl

not_idle_if : (b : Bool) (t : Node) (ts : List Node) → (b && list_all is_idle ts) ≡ false → (list_all is_idle ts ≡ false → has_some (filter (λ e. not (is_idle e)) ts) ≡ true) → has_some (if not b then t ∷ filter (λ e. not (is_idle e)) ts else filter (λ e. not (is_idle e)) ts) ≡ true
not_idle_if true t ts h f = f h
not_idle_if false t ts h f = refl

some_not_idle : (ts : List Node) → list_all is_idle ts ≡ false → has_some (filter (λ e. not (is_idle e)) ts) ≡ true
some_not_idle [] h = absurd (no (sym h))
some_not_idle (t ∷ ts) h = not_idle_if (is_idle t) t ts h (some_not_idle ts)

some_first : (ts : List Node) → has_some ts ≡ true → has_some (take 1 ts) ≡ true
some_first [] h = absurd (no h)
some_first (t ∷ ts) h = refl

some_busy_if : (b : Bool) (ts : List Node) → list_all is_idle ts ≡ b → has_some ts ≡ true → has_some (if b then take 1 ts else filter (λ e. not (is_idle e)) ts) ≡ true
some_busy_if true ts e h = some_first ts h
some_busy_if false ts e h = some_not_idle ts e

two_settled : (ts : List Node) → has_two ts ≡ true → Leaving effects ts → has_two (settled ts) ≡ true
two_settled ts h l =
    let ds = flat_map effects (front ts) in
    two_append (busy ds) (end ts) (some_busy_if (list_all is_idle ds) ds refl (some_flat effects (front ts) (some_front ts h) (each_front (λ t. has_some (effects t) ≡ true) ts l))) (some_end ts (two_some ts h))

pub sequence_two : (span : Node) (ts : List Node) → has_two ts ≡ true → sequence span ts ≡ Tree kind.SeqExpr (span ∷ Many ts ∷ [])
sequence_two span [] h = absurd (no h)
sequence_two span (t ∷ []) h = absurd (no h)
sequence_two span (t ∷ u ∷ ts) h = refl

-- what an expression leaves where its value is dropped leaves itself
abbrev Leaves : Node → Type 0
Leaves t = Leaving effects (effects t)

leaves_void : (b : Bool) (span op arg : Node) → is_void op ≡ b → Leaves arg → Leaves (Tree kind.UnaryExpr (span ∷ op ∷ arg ∷ []))
leaves_void true span op arg e l = rw (effects_of_void span op arg e) l
leaves_void false span op arg e l = rw (effects_of_other span op arg e) (ap has_some (effects_of_other span op arg e), tt)

leaves_all : (ts : List Node) → Each Leaves ts → Leaving effects (flat_map effects ts)
leaves_all ts l = each_flat (λ t. has_some (effects t) ≡ true) effects ts l

leaves_tree : (k : Kind) (ts : List Node) → Each Leaves ts → Leaves (Tree k ts)
leaves_tree kind.SeqExpr (span ∷ exprs ∷ []) l = rw (effects_of_sequence span exprs) l.1.0
leaves_tree kind.UnaryExpr (span ∷ op ∷ arg ∷ []) l = leaves_void (is_void op) span op arg refl l.1.1.0
leaves_tree k ts l = rw (effects_of_tree k ts) (ap has_some (effects_of_tree k ts), tt)

leaves : (t : Node) → Leaves t
leaves t = by_children Leaves (
  rw effects_of_absent (ap has_some effects_of_absent, tt),
  λ x. rw (effects_of_flag x) (ap has_some (effects_of_flag x), tt),
  λ w. rw (effects_of_word w) (ap has_some (effects_of_word w), tt),
  λ x. rw (effects_of_text x) (ap has_some (effects_of_text x), tt),
  λ s. rw (effects_of_span s) (ap has_some (effects_of_span s), tt),
  λ k i. rw (effects_of_identifier k i) (ap has_some (effects_of_identifier k i), tt),
)
    (λ ts l. rw (effects_of_list ts) (leaves_all ts l))
    leaves_tree t

-- it leaves something, and so does each of its parts
pub record Full (t : Node) : Type 0 where
  pub effective : has_some (effects t) ≡ true
  pub parted : has_some (parts t) ≡ true
  pub parts_effective : Leaving effects (parts t)

parts_of_tree : (k : Kind) (ts : List Node) → parts (Tree k ts) ≡ parts_in (Tree k ts) (Node-F.Tree k ts)
parts_of_tree k ts = search (rules, the_lemmas)

full_alone : (t : Node) → parts t ≡ t ∷ [] → has_some (effects t) ≡ true → Full t
full_alone t e h = record { effective = h; parted = ap has_some e; parts_effective = rw e (h, tt) }

all_parted : (ts : List Node) → Each Full ts → Leaving parts ts
all_parted [] l = tt
all_parted (t ∷ ts) l = let f = l.0 in (f.parted, all_parted ts l.1)

all_parts_effective : (ts : List Node) → Each Full ts → Each (λ t. Leaving effects (parts t)) ts
all_parts_effective [] l = tt
all_parts_effective (t ∷ ts) l = let f = l.0 in (f.parts_effective, all_parts_effective ts l.1)

-- the parts of the items of a sequence
two_parts : (ts : List Node) → has_two ts ≡ true → Each Full ts → has_two (flat_map parts ts) ≡ true
two_parts ts h l = two_flat parts ts h (all_parted ts l)

effective_parts : (ts : List Node) → Each Full ts → Leaving effects (flat_map parts ts)
effective_parts ts l = each_flat (λ t. has_some (effects t) ≡ true) parts ts (all_parts_effective ts l)

left_two : (ts : List Node) → has_two ts ≡ true → Each Full ts → has_two (settled (flat_map parts ts)) ≡ true
left_two ts h l = two_settled (flat_map parts ts) (two_parts ts h l) (effective_parts ts l)

all_leave : (ts : List Node) → Each Leaves ts
all_leave [] = tt
all_leave (t ∷ ts) = (leaves t, all_leave ts)

left_effective : (ts : List Node) → Each Full ts → Leaving effects (settled (flat_map parts ts))
left_effective ts l = each_settled (λ t. has_some (effects t) ≡ true) (flat_map parts ts) (leaves_all (front (flat_map parts ts)) (all_leave (front (flat_map parts ts)))) (effective_parts ts l)

items_many : (ts : List Node) → items_of (Many ts) ≡ ts
items_many ts = search (rules, the_lemmas)

full_sequence : (span : Node) (es : List Node) → has_two es ≡ true → Leaving effects es → Full (Tree kind.SeqExpr (span ∷ Many es ∷ []))
full_sequence span es h l =
    let e : parts (Tree kind.SeqExpr (span ∷ Many es ∷ [])) ≡ es = parts_of_tree kind.SeqExpr (span ∷ Many es ∷ []) ∙ items_many es in
    record {
      effective = ap has_some (effects_of_sequence span (Many es) ∙ effects_of_list es) ∙ some_flat effects es (two_some es h) l;
      parted = ap has_some e ∙ two_some es h;
      parts_effective = rw e l;
    }

-- what stripping leaves of a sequence that can be written down
two_items : (ts : List Node) → nat_le 2 (length ts) ≡ true → has_two ts ≡ true
two_items [] h = absurd (no h)
two_items (t ∷ []) h = absurd (no h)
two_items (t ∷ u ∷ ts) h = refl

two_stripped : (ts : List Node) → has_two ts ≡ true → has_two (map stripped ts) ≡ true
two_stripped [] h = absurd (no h)
two_stripped (t ∷ []) h = absurd (no h)
two_stripped (t ∷ u ∷ ts) h = refl

-- of a list each item
abbrev Filled : Node → Type 0
Filled t = (Fits t (one class.Expr) → (r : Round) → sound t r ≡ true → Full (stripped t)) × (Fits t expressions → (r : Round) → sound t r ≡ true → Each Full (items_of (stripped t)))

all_filled : (ts : List Node) → Each Filled ts → AllFit (one class.Expr) ts → (r : Round) → all_sound (map asked ts) r ≡ true → Each Full (map stripped ts)
all_filled [] l f r h = tt
all_filled (t ∷ ts) l f r h = let p = half h in let q = half p.0 in (l.0.0 f.0 r q.1, all_filled ts l.1 f.1 r p.1)

filled_void : (b : Bool) (span op arg : Node) → is_void op ≡ b → Full arg → Full (Tree kind.UnaryExpr (span ∷ op ∷ arg ∷ []))
filled_void true span op arg e l = full_alone (Tree kind.UnaryExpr (span ∷ op ∷ arg ∷ [])) (parts_of_tree kind.UnaryExpr (span ∷ op ∷ arg ∷ [])) (ap has_some (effects_of_void span op arg e) ∙ l.effective)
filled_void false span op arg e l = full_alone (Tree kind.UnaryExpr (span ∷ op ∷ arg ∷ [])) (parts_of_tree kind.UnaryExpr (span ∷ op ∷ arg ∷ [])) (ap has_some (effects_of_other span op arg e))

of_list_items : (t : Node) → Fits t expressions → has_two (items_of t) ≡ true → has_two (items_of (stripped t)) ≡ true
of_list_items t f = of_list (λ t. has_two (items_of t) ≡ true → has_two (items_of (stripped t)) ≡ true) (λ ts h. (
    let e : items_of (stripped (Many ts)) ≡ map stripped ts = ap items_of (stripped_of_list ts) ∙ items_many (map stripped ts) in
    ap has_two e ∙ two_stripped ts (sym (ap has_two (items_many ts)) ∙ h))) t f

stripped_sequence : (span exprs : Node) → has_two (items_of (stripped exprs)) ≡ true → Each Full (items_of (stripped exprs))
    → stripped (Tree kind.SeqExpr (span ∷ exprs ∷ [])) ≡ Tree kind.SeqExpr (stripped span ∷ Many (settled (flat_map parts (items_of (stripped exprs)))) ∷ [])
stripped_sequence span exprs h l = stripped_of_tree kind.SeqExpr (span ∷ exprs ∷ []) ∙ sequence_two (stripped span) (settled (flat_map parts (items_of (stripped exprs)))) (left_two (items_of (stripped exprs)) h l)

moved : (t u : Node) → t ≡ u → Full u → Full t
moved t u e f = rw e f

filled_row : (k : Kind) {ts us : List Node} → FieldsSet (slots_of k) ts us → Each Filled ts → belongs k class.Expr ≡ true → FieldsFit (slots_of k) ts → (r : Round) → sound_in (Node-F.Tree k (map asked ts)) r ≡ true → Full (stripped (Tree k ts))
filled_row kind.ParenExpr (field {t = a} x (field {t = e} b nil)) l g f r h =
    let p = half h in let q = half p.1 in let m = half q.0 in
    moved (stripped (Tree kind.ParenExpr (a ∷ e ∷ []))) (stripped e) (stripped_of_tree kind.ParenExpr (a ∷ e ∷ [])) (l.1.0.0 f.1.0 (binding r) m.1)
filled_row kind.SeqExpr (field {t = a} x (field {t = e} b nil)) l g f r h =
    let p = half h in
    let two = of_list_items e f.1.0 (two_items (items_of e) (sym (ap (λ t. nat_le 2 (length (items_of t))) (whole e)) ∙ p.0)) in
    let each = l.1.0.1 f.1.0 r p.1 in
    moved (stripped (Tree kind.SeqExpr (a ∷ e ∷ []))) (Tree kind.SeqExpr (stripped a ∷ Many (settled (flat_map parts (items_of (stripped e)))) ∷ [])) (stripped_sequence a e two each)
    (full_sequence (stripped a) (settled (flat_map parts (items_of (stripped e)))) (left_two (items_of (stripped e)) two each) (left_effective (items_of (stripped e)) each))
filled_row kind.UnaryExpr (field {t = a} x (field {t = o} y (field {t = e} b nil))) l g f r h =
    moved (stripped (Tree kind.UnaryExpr (a ∷ o ∷ e ∷ []))) (Tree kind.UnaryExpr (stripped a ∷ stripped o ∷ stripped e ∷ [])) (stripped_other kind.UnaryExpr (a ∷ o ∷ e ∷ []) refl)
    (filled_void (is_void (stripped o)) (stripped a) (stripped o) (stripped e) refl (l.1.1.0.0 f.1.1.0 (binding r) (last_sound o e (binding r) (rest_sound a (asked o ∷ asked e ∷ []) (binding r) h))))
filled_row kind.AssignExpr (field {t = a} x (field {t = o} y (field {t = e} b (field {t = d} z nil)))) l g f r h =
    let us = stripped a ∷ stripped o ∷ target (stripped e) ∷ stripped d ∷ [] in
    moved (stripped (Tree kind.AssignExpr (a ∷ o ∷ e ∷ d ∷ []))) (Tree kind.AssignExpr us) (stripped_of_tree kind.AssignExpr (a ∷ o ∷ e ∷ d ∷ []))
    (full_alone (Tree kind.AssignExpr us) (parts_of_tree kind.AssignExpr us) (ap has_some (effects_of_tree kind.AssignExpr us)))
filled_row kind.Class x l g f r h = absurd (true≢false (sym g))
filled_row k {ts = ts} x l g f r h =
    moved (stripped (Tree k ts)) (Tree k (map stripped ts)) (stripped_other k ts refl) (full_alone (Tree k (map stripped ts)) (parts_of_tree k (map stripped ts)) (ap has_some (effects_of_tree k (map stripped ts))))

filled_name : (k : Kind) (i : Ident) → Full (stripped (Identifier k i))
filled_name k i =
    let e : stripped (Identifier k i) ≡ Identifier k i = search (rules, the_lemmas) in
    let p : parts (Identifier k i) ≡ Identifier k i ∷ [] = search (rules, the_lemmas) in
    moved (stripped (Identifier k i)) (Identifier k i) e (full_alone (Identifier k i) p (ap has_some (effects_of_identifier k i)))

items_stripped : (ts : List Node) → items_of (stripped (Many ts)) ≡ map stripped ts
items_stripped ts = ap items_of (stripped_of_list ts) ∙ items_many (map stripped ts)

filled : (t : Node) → Filled t
filled t = by_children Filled (
  (λ h. absurd (no (sym (fits-Absent (one class.Expr)) ∙ h)), λ h. absurd (no (sym (fits-Absent expressions) ∙ h))),
  λ x. (λ h. absurd (no (sym (fits-Flag x (one class.Expr)) ∙ h)), λ h. absurd (no (sym (fits-Flag x expressions) ∙ h))),
  λ w. (λ h. absurd (no (sym (fits-Word w (one class.Expr)) ∙ h)), λ h. absurd (no (sym (fits-Word w expressions) ∙ h))),
  λ x. (λ h. absurd (no (sym (fits-Text x (one class.Expr)) ∙ h)), λ h. absurd (no (sym (fits-Text x expressions) ∙ h))),
  λ s. (λ h. absurd (no (sym (fits-Span s (one class.Expr)) ∙ h)), λ h. absurd (no (sym (fits-Span s expressions) ∙ h))),
  λ k i. (λ h r m. filled_name k i, λ h. absurd (no (sym (fits-Identifier k i expressions) ∙ h))),
)
    (λ ts l. (λ h. absurd (no (sym (fits-List ts (one class.Expr)) ∙ h)), λ h r m. rw (items_stripped ts) (all_filled ts l (list_opens ts (content.Node class.Expr) h) r (sym (sound_list ts r) ∙ m))))
    (λ k ts l. (λ h r m. (let f = tree_opens k ts class.Expr h in filled_row k (fields_same (slots_of k) ts f.2) l f.1 f.2 r (sym (sound_tree k ts r) ∙ m)), λ h. absurd (no (sym (fits-Tree k ts expressions) ∙ h)))) t

-- a sequence stays one
abbrev pub left_of : Node → List Node
left_of exprs = settled (flat_map parts (items_of (stripped exprs)))

two_below : (span exprs : Node) (r : Round) → Fits exprs expressions → sound (Tree kind.SeqExpr (span ∷ exprs ∷ [])) r ≡ true → has_two (items_of (stripped exprs)) ≡ true
two_below span exprs r f h =
    let p = half (sym (sound_tree kind.SeqExpr (span ∷ exprs ∷ []) r) ∙ h) in
    of_list_items exprs f (two_items (items_of exprs) (sym (ap (λ t. nat_le 2 (length (items_of t))) (whole exprs)) ∙ p.0))

full_below : (span exprs : Node) (r : Round) → Fits exprs expressions → sound (Tree kind.SeqExpr (span ∷ exprs ∷ [])) r ≡ true → Each Full (items_of (stripped exprs))
full_below span exprs r f h = let p = half (sym (sound_tree kind.SeqExpr (span ∷ exprs ∷ []) r) ∙ h) in (filled exprs).1 f r p.1

pub two_left : (span exprs : Node) (r : Round) → Fits exprs expressions → sound (Tree kind.SeqExpr (span ∷ exprs ∷ [])) r ≡ true → has_two (left_of exprs) ≡ true
two_left span exprs r f h = left_two (items_of (stripped exprs)) (two_below span exprs r f h) (full_below span exprs r f h)

pub sequence_stays : (span exprs : Node) (r : Round) → Fits exprs expressions → sound (Tree kind.SeqExpr (span ∷ exprs ∷ [])) r ≡ true
    → stripped (Tree kind.SeqExpr (span ∷ exprs ∷ [])) ≡ Tree kind.SeqExpr (stripped span ∷ Many (left_of exprs) ∷ [])
sequence_stays span exprs r f h = stripped_sequence span exprs (two_below span exprs r f h) (full_below span exprs r f h)
