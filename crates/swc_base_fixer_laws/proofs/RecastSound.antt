-- A tree that can be written down can be once its parts are made anew, if each part is.
use Rattle.std.proofs.Common.{◌≡◌, Bool, true, false, not, ◌&&◌, ◌||◌, Option, List, [], ◌∷◌, map, refl, sym, ap, ◌∙◌, rules, true≢false}
use Rattle.std.specs.Prelude.{suc, is_some, nat_le, nat_eq, length, if◌then◌else◌}
use Rattle.std.specs.List.{list_all}
use Rattle.swc_tree_node.specs.declared.kind.Kind.{Kind}
use Rattle.swc_tree_node.specs.declared.kind.Kind.TheVariants as kind
use Rattle.swc_tree_node.specs.declared.kind.Class.TheVariants as class
use Rattle.swc_tree_node.specs.declared.kind.Word.{Word as Word'}
use Rattle.swc_tree_node.specs.declared.slot.Slot.{Slot}
use Rattle.swc_tree_node.specs.declared.node.Node.{Node, List as Many, Tree, out-Node, the_lemmas}
use Rattle.swc_tree_node.specs.declared.node.Node.TheOpen.{Node-F}
use Rattle.swc_tree_node.specs.Table.{slots_of}
use Rattle.swc_tree_node.specs.Fits.{Fits, belongs}
use Rattle.swc_tree_scoping.specs.Places.{has_use_strict, string_of, literal_in}
use Rattle.swc_tree_grammar.specs.Shapes.{items_of}
use Rattle.swc_tree_grammar.specs.Kinds.{has_kind, has_kind_in, is_private_name, is_paren, is_chain}
use Rattle.swc_tree_grammar.specs.Levels.{is_absent, word_of, is_in}
use Rattle.swc_tree_grammar.specs.Stripped.{stripped}
use Rattle.swc_tree_grammar.specs.Targets.{is_target}
use Rattle.swc_tree_grammar.specs.Forms.{form, is_body, is_branch, is_using, is_strict, are_named, holds}
use Rattle.swc_tree_grammar.specs.Writable.{Round, Asked, sound_in, in_head_in, all_sound, no_private, binding, assigning, strictly, bound, name_is, pattern, element, elements, left_side, base_goes_on_in, constructor_key_in, accessor, initialised_in, is_const, is_string, local_specifier_in, loop_body, branch, head, declares_in, one_bare, is_pattern_target, is_plain_assignment}
use Rattle.swc_tree_grammar.proofs.Asked.{asked, same as whole, sound}
use Rattle.swc_tree_grammar.proofs.Places.{one}
use Rattle.swc_tree_grammar_laws.proofs.Levelled.{both, half, also, also_both}
use Rattle.swc_tree_grammar_laws.proofs.Derived.{sound_tree, in_head_tree}
use Rattle.swc_base_fixer_laws.proofs.Up.{kind_of_tree}
use Rattle.swc_base_fixer_laws.proofs.Kept.{not_up}
use Rattle.swc_base_fixer_laws.proofs.Recasts.{Recasts, AllRecast, FieldsRecast, of_expression, target_up}
use Rattle.swc_base_fixer_laws.proofs.Recasts.Recasts.{same, items, tree, kind_kept, expression}
use Rattle.swc_base_fixer_laws.proofs.Recasts.AllRecast.{none, more}
use Rattle.swc_base_fixer_laws.proofs.Recasts.FieldsRecast.{nil, field}
use Rattle.swc_base_fixer_laws.proofs.RecastLooks.{absent_same, word_same, flag_same, form_same, using_same, no_using_same, declares_same, or_up, pattern_up, element_up, elements_up, bound_up, length_same, accessor_same, all_initialised, one_bare_same, all_named, all_local, key_up}

-- an expression that is a statement: what stripping makes a string is one
abbrev pub stays_string : Node → Bool
stays_string e = not (is_string (stripped e)) || is_string e

-- what is kept of a node that can be written down
pub record Keeps (t u : Node) : Type 0 where
  pub keeps : (r : Round) → sound t r ≡ true → sound u r ≡ true
  pub heads : (r : Round) → (asked t).in_head r ≡ true → (asked u).in_head r ≡ true
  pub public : (r : Round) → sound t r ≡ true → has_kind is_private_name t ≡ false → has_kind is_private_name u ≡ false
  pub says : (r : Round) → sound t r ≡ true → string_of u ≡ string_of t
  pub strict : (r : Round) → sound t r ≡ true → is_strict u ≡ is_strict t
  pub leads : (r : Round) → sound t r ≡ true → has_use_strict (items_of u) ≡ has_use_strict (items_of t)
  pub text : Fits t (one class.Expr) → (r : Round) → sound t r ≡ true → stays_string t ≡ true → literal_in (out-Node u) ≡ literal_in (out-Node t)
  pub string : Fits t (one class.Expr) → (r : Round) → sound t r ≡ true → is_string (stripped u) ≡ is_string (stripped t)
  pub chain : Fits t (one class.Expr) → (r : Round) → sound t r ≡ true → is_chain (stripped u) ≡ is_chain (stripped t)
  pub goes_on : (r : Round) → sound t r ≡ true → base_goes_on_in (out-Node t) ≡ true → base_goes_on_in (out-Node u) ≡ true

pub keeps_same : (t : Node) → Keeps t t
keeps_same t = record {
  keeps = λ r h. h;
  heads = λ r h. h;
  public = λ r h g. g;
  says = λ r h. refl;
  strict = λ r h. refl;
  leads = λ r h. refl;
  text = λ f r h g. refl;
  string = λ f r h. refl;
  chain = λ f r h. refl;
  goes_on = λ r h g. g;
}

still_string : (t u : Node) → is_string (stripped u) ≡ is_string (stripped t) → literal_in (out-Node u) ≡ literal_in (out-Node t) → stays_string t ≡ true → stays_string u ≡ true
still_string t u e f h = ap (λ b. not b || is_string u) e ∙ ap (λ x. not (is_string (stripped t)) || is_some x) f ∙ h

-- fields that are kept, each in its place, and items
pub data Kept : List Slot → List Node → List Node → Type 0 where
  nought : Kept [] [] []
  also_kept : {s : Slot} {ss : List Slot} {t u : Node} {ts us : List Node} → Recasts s t u → Fits t s → Keeps t u → Kept ss ts us → Kept (s ∷ ss) (t ∷ ts) (u ∷ us)

pub data AllKept : Slot → List Node → List Node → Type 0 where
  none_kept : {s : Slot} → AllKept s [] []
  more_kept : {s : Slot} {t u : Node} {ts us : List Node} → Recasts s t u → Keeps t u → AllKept s ts us → AllKept s (t ∷ ts) (u ∷ us)

pub fields_recast : {ss : List Slot} {ts us : List Node} → Kept ss ts us → FieldsRecast ss ts us
fields_recast nought = nil
fields_recast (also_kept d f x k) = field d (fields_recast k)

pub all_recast : {s : Slot} {ts us : List Node} → AllKept s ts us → AllRecast s ts us
all_recast none_kept = none
all_recast (more_kept d x k) = more d (all_recast k)

-- a fact of a node, as it is asked
at : (q : Node → Bool) {s : Slot} {t u : Node} → Recasts s t u → (q t ≡ true → q u ≡ true) → q (asked t).whole ≡ true → q (asked u).whole ≡ true
at q {t = t} {u = u} d f h = ap q (whole u) ∙ f (sym (ap q (whole t)) ∙ h)

same_at : {X : Type 0} (q : Node → X) {s : Slot} {t u : Node} → Recasts s t u → q u ≡ q t → q (asked u).whole ≡ q (asked t).whole
same_at q {t = t} {u = u} d e = ap q (whole u) ∙ e ∙ sym (ap q (whole t))

bool_at : (q : Node → Bool) {s : Slot} {t u : Node} → Recasts s t u → q u ≡ q t → q (asked t).whole ≡ true → q (asked u).whole ≡ true
bool_at q d e h = same_at q d e ∙ h

private_at : {t u : Node} → Keeps t u → (r : Round) → sound t r ≡ true → no_private (asked t) ≡ true → no_private (asked u) ≡ true
private_at {t = t} {u = u} x r g h =
    ap (λ t. not (has_kind is_private_name t)) (whole u) ∙ not_up (has_kind is_private_name t) (has_kind is_private_name u) (x.public r g) (sym (ap (λ t. not (has_kind is_private_name t)) (whole t)) ∙ h)

all : {ss : List Slot} {ts us : List Node} → Kept ss ts us → (r : Round) → all_sound (map asked ts) r ≡ true → all_sound (map asked us) r ≡ true
all nought r h = refl
all (also_kept d f x k) r h = let p = half h in let q = half p.0 in also (also (private_at x r q.1 q.0) (x.keeps r q.1)) (all k r p.1)

alone : {s : Slot} {t u : Node} → Recasts s t u → Fits t s → Keeps t u → (r : Round) → all_sound (asked t ∷ []) r ≡ true → all_sound (asked u ∷ []) r ≡ true
alone d f x r h = all (also_kept d f x nought) r h

-- the only one, and the last of two, of those that are sound
pub only_sound : (t : Node) (r : Round) → all_sound (asked t ∷ []) r ≡ true → sound t r ≡ true
only_sound t r h = let p = half h in let q = half p.0 in q.1

pub rest_sound : (t : Node) (es : List Asked) (r : Round) → all_sound (asked t ∷ es) r ≡ true → all_sound es r ≡ true
rest_sound t es r h = let p = half h in p.1

pub last_sound : (t u : Node) (r : Round) → all_sound (asked t ∷ asked u ∷ []) r ≡ true → sound u r ≡ true
last_sound t u r h = let p = half h in only_sound u r p.1

body_at : {s : Slot} {t u : Node} → Recasts s t u → Keeps t u → (r : Round) → loop_body (asked t) r ≡ true → loop_body (asked u) r ≡ true
body_at d x r h = let p = half h in also (bool_at (λ t. is_body (form t)) d (ap is_body (form_same d)) p.0) (x.keeps r p.1)

branch_at : {s : Slot} {t u : Node} → Recasts s t u → Keeps t u → (r : Round) → branch (asked t) r ≡ true → branch (asked u) r ≡ true
branch_at d x r h = let p = half h in also (bool_at (λ t. is_branch r.strict (form t)) d (ap (is_branch r.strict) (form_same d)) p.0) (x.keeps r p.1)

bound_at : {s : Slot} {t u : Node} → Recasts s t u → (r : Round) → bound (asked t) r ≡ true → bound (asked u) r ≡ true
bound_at d r h = at (λ t. name_is r.strict (out-Node t)) d (bound_up d r.strict) h

elements_at : (r : Round) {s : Slot} {t u : Node} → Recasts s t u → elements r (items_of (asked t).whole) ≡ true → elements r (items_of (asked u).whole) ≡ true
elements_at r d h = at (λ t. elements r (items_of t)) d (elements_up d r) h

-- code that a body may make strict
strict_at : (b b' : Node) → is_strict b' ≡ is_strict b → {ss : List Slot} {ts us : List Node} → Kept ss ts us → (r : Round) → all_sound (map asked ts) (strictly (is_strict (asked b).whole) r) ≡ true → all_sound (map asked us) (strictly (is_strict (asked b').whole) r) ≡ true
strict_at b b' e {us = us} k r h = ap (λ v. all_sound (map asked us) (strictly v r)) (ap is_strict (whole b') ∙ e ∙ sym (ap is_strict (whole b))) ∙ all k (strictly (is_strict (asked b).whole) r) h

-- the left side of an assignment
pattern_hidden : (k : Kind) (ts : List Node) → belongs k class.Expr ≡ true → is_pattern_target k ≡ false
pattern_hidden kind.ArrayPat ts h = absurd (true≢false (sym h))
pattern_hidden kind.ObjectPat ts h = absurd (true≢false (sym h))
pattern_hidden k ts h = refl

of_kinds : (op : Option Word') (t u : Node) → has_kind is_pattern_target u ≡ has_kind is_pattern_target t → has_kind is_paren u ≡ has_kind is_paren t → (is_target t ≡ true → is_target u ≡ true) → left_side op t ≡ true → left_side op u ≡ true
of_kinds op t u e f g h =
    let p = half h in
    also (ap (λ b. not b || is_plain_assignment op) e ∙ p.0) (or_up (not (has_kind is_paren t)) (is_target t) (not (has_kind is_paren u)) (is_target u) (λ n. ap not f ∙ n) g p.1)

pub bare_left : (op : Option Word') (u : Node) → has_kind is_pattern_target u ≡ false → has_kind is_paren u ≡ false → left_side op u ≡ true
bare_left op u e f = rw (e, f) refl

left_up : {s : Slot} {t u : Node} → Recasts s t u → (op : Option Word') → left_side op t ≡ true → left_side op u ≡ true
left_up (same t) op h = h
left_up (items ts us d) op h = let e : left_side op (Many us) ≡ true = search (rules, the_lemmas) in e
left_up {s = s} (tree k ts us d) op h =
    of_kinds op (Tree k ts) (Tree k us) (kind_of_tree is_pattern_target k us ∙ sym (kind_of_tree is_pattern_target k ts)) (kind_of_tree is_paren k us ∙ sym (kind_of_tree is_paren k ts)) (target_up (tree {s = s} k ts us d)) h
left_up {s = s} (kind_kept k ts us d) op h =
    of_kinds op (Tree k ts) (Tree k us) (kind_of_tree is_pattern_target k us ∙ sym (kind_of_tree is_pattern_target k ts)) (kind_of_tree is_paren k us ∙ sym (kind_of_tree is_paren k ts)) (target_up (kind_kept {s = s} k ts us d)) h
left_up (expression k ts u x f g y) op h = bare_left op u (of_expression Bool (has_kind_in is_pattern_target) false pattern_hidden (λ k i h. refl) u f) g

left_at : {s c : Slot} {o o' l l' : Node} → Recasts s o o' → Recasts c l l' → left_side (word_of (asked o).whole) (asked l).whole ≡ true → left_side (word_of (asked o').whole) (asked l').whole ≡ true
left_at {o = o} {o' = o'} {l = l} {l' = l'} c d h =
    let g : left_side (word_of o) l ≡ true = sym (ap (λ t. left_side (word_of o) t) (whole l)) ∙ sym (ap (λ t. left_side (word_of t) (asked l).whole) (whole o)) ∙ h in
    ap (λ t. left_side (word_of t) (asked l').whole) (whole o') ∙ ap (λ t. left_side (word_of o') t) (whole l') ∙ ap (λ x. left_side x l') (word_same c) ∙ left_up d (word_of o) g

quasis_at : {s r : Slot} {e e' q q' : Node} → Recasts s e e' → Recasts r q q' → nat_eq (length (items_of (asked q).whole)) (suc (length (items_of (asked e).whole))) ≡ true → nat_eq (length (items_of (asked q').whole)) (suc (length (items_of (asked e').whole))) ≡ true
quasis_at c d h = rw (same_at (λ t. length (items_of t)) c (length_same c), same_at (λ t. length (items_of t)) d (length_same d)) h

accessor_at : {s r : Slot} {f f' k k' : Node} → Recasts s f f' → Recasts r k k' → accessor (asked f).whole (asked k).whole ≡ true → accessor (asked f').whole (asked k').whole ≡ true
accessor_at {f = f} {f' = f'} {k = k} {k' = k'} c d h =
    ap (λ t. accessor t (asked k').whole) (whole f') ∙ ap (λ t. accessor f' t) (whole k') ∙ accessor_same c d ∙ sym (ap (λ t. accessor f t) (whole k)) ∙ sym (ap (λ t. accessor t (asked k).whole) (whole f)) ∙ h

declared_at : {s r : Slot} {w w' d d' : Node} → Recasts s w w' → Recasts r d d'
    → list_all (λ d. initialised_in (is_const (word_of (asked w).whole)) (out-Node d)) (items_of (asked d).whole) ≡ true → list_all (λ d. initialised_in (is_const (word_of (asked w').whole)) (out-Node d)) (items_of (asked d').whole) ≡ true
declared_at {w = w} {d = d} {d' = d'} a b h =
    ap (λ x. list_all (λ d. initialised_in (is_const x) (out-Node d)) (items_of (asked d').whole)) (same_at word_of a (word_same a))
    ∙ at (λ t. list_all (λ d. initialised_in (is_const (word_of (asked w).whole)) (out-Node d)) (items_of t)) b (all_initialised (is_const (word_of (asked w).whole)) b) h

-- the heads of `for` in and of
head_if : (b : Bool) {s : Slot} {t u : Node} → Recasts s t u → Keeps t u → (r : Round) → declares_in (out-Node (asked t).whole) ≡ b → declares_in (out-Node (asked u).whole) ≡ b → head (asked t) r ≡ true → head (asked u) r ≡ true
head_if true {t = t} {u = u} d x r e f h = ap (λ b. if b then (asked u).in_head r else (pattern (asked u).whole (assigning r) && sound u (assigning r))) f ∙ x.heads r (sym (ap (λ b. if b then (asked t).in_head r else (pattern (asked t).whole (assigning r) && sound t (assigning r))) e) ∙ h)
head_if false {t = t} {u = u} d x r e f h =
    let p = both (pattern (asked t).whole (assigning r)) (sound t (assigning r)) (sym (ap (λ b. if b then (asked t).in_head r else (pattern (asked t).whole (assigning r) && sound t (assigning r))) e) ∙ h) in
    ap (λ b. if b then (asked u).in_head r else (pattern (asked u).whole (assigning r) && sound u (assigning r))) f
    ∙ also_both (pattern (asked u).whole (assigning r)) (sound u (assigning r)) (at (λ t. pattern t (assigning r)) d (pattern_up d (assigning r)) p.0) (x.keeps (assigning r) p.1)

head_at : {s : Slot} {t u : Node} → Recasts s t u → Keeps t u → (r : Round) → head (asked t) r ≡ true → head (asked u) r ≡ true
head_at {t = t} d x r h = head_if (declares_in (out-Node (asked t).whole)) d x r refl (same_at (λ t. declares_in (out-Node t)) d (declares_same d)) h

-- each kind of node
row : (k : Kind) {ts us : List Node} → Kept (slots_of k) ts us → (r : Round) → sound_in (Node-F.Tree k (map asked ts)) r ≡ true → sound_in (Node-F.Tree k (map asked us)) r ≡ true
row kind.SeqExpr (also_kept a _ _ (also_kept d f x nought)) r h = let p = half h in also (bool_at (λ t. nat_le 2 (length (items_of t))) d (ap (nat_le 2) (length_same d)) p.0) (x.keeps r p.1)
row kind.AssignExpr (also_kept a _ _ (also_kept o _ _ (also_kept l f x (also_kept d g y nought)))) r h = let p = half h in let q = half p.1 in also (left_at o l p.0) (also (x.keeps (assigning r) q.0) (alone d g y (binding r) q.1))
row kind.UpdateExpr (also_kept a _ _ (also_kept o _ _ (also_kept b _ _ (also_kept d f x nought)))) r h = let p = half h in also (at is_target d (target_up d) p.0) (x.keeps (binding r) p.1)
row kind.BinExpr (also_kept a _ _ (also_kept {t = o} {u = o'} b _ _ (also_kept {t = l} {u = l'} c f x (also_kept d g y nought)))) r h =
    let p = half h in let q = half p.1 in
    also (or_up (is_in (word_of (asked o).whole)) (no_private (asked l)) (is_in (word_of (asked o').whole)) (no_private (asked l')) (bool_at (λ t. is_in (word_of t)) b (ap is_in (word_same b))) (private_at x (binding r) q.0) p.0) (also (x.keeps (binding r) q.0) (alone d g y (binding r) q.1))
row kind.MemberExpr (also_kept a _ _ (also_kept c f x (also_kept d g y nought))) r h = let p = half h in let q = half p.1 in also (private_at x (binding r) q.0 p.0) (also (x.keeps (binding r) q.0) (y.keeps (binding r) q.1))
row kind.Tpl (also_kept a _ _ (also_kept c f x (also_kept d g y nought))) r h = let p = half h in also (quasis_at c d p.0) (x.keeps (binding r) p.1)
row kind.OptChainExpr (also_kept a _ _ (also_kept {t = o} {u = o'} c f x (also_kept {t = b} {u = b'} d g y nought))) r h =
    let p = half h in
    also (or_up (holds (asked o).whole) (base_goes_on_in (out-Node (asked b).whole)) (holds (asked o').whole) (base_goes_on_in (out-Node (asked b').whole)) (bool_at holds c (flag_same c)) (at (λ t. base_goes_on_in (out-Node t)) d (y.goes_on (binding r) p.1)) p.0) (y.keeps (binding r) p.1)
row kind.ArrayPat (also_kept a _ _ (also_kept d f x nought)) r h = let p = half h in also (elements_at r d p.0) (x.keeps r p.1)
row kind.ObjectPat (also_kept a _ _ (also_kept d f x nought)) r h = let p = half h in also (elements_at r d p.0) (x.keeps r p.1)
row kind.RestPat (also_kept a _ _ (also_kept d f x nought)) r h = let p = half h in also (at (λ t. pattern t r) d (pattern_up d r) p.0) (x.keeps r p.1)
row kind.KeyValuePatProp (also_kept c f x (also_kept d g y nought)) r h = let p = half h in let q = half p.1 in also (at (λ t. element t r) d (element_up d r) p.0) (also (x.keeps (binding r) q.0) (y.keeps r q.1))
row kind.AssignPat (also_kept a _ _ (also_kept c f x (also_kept d g y nought))) r h = let p = half h in let q = half p.1 in also (at (λ t. pattern t r) c (pattern_up c r) p.0) (also (x.keeps r q.0) (alone d g y (binding r) q.1))
row kind.AssignPatProp (also_kept a _ _ (also_kept c f x (also_kept d g y nought))) r h = let p = half h in also (x.keeps r p.0) (alone d g y (binding r) p.1)
row kind.ArrowExpr (also_kept a _ _ (also_kept {t = t} c f x (also_kept {t = b} {u = b'} d g y (also_kept i _ _ nought)))) r h =
    let p = half h in also (elements_at (binding r) c p.0) (strict_at b b' (y.strict (strictly (is_strict (asked b).whole) r) (last_sound t b (strictly (is_strict (asked b).whole) r) p.1)) (also_kept c f x (also_kept d g y nought)) r p.1)
row kind.Function (also_kept a _ _ (also_kept {t = t} c f x (also_kept {t = b} {u = b'} d g y (also_kept i _ _ (also_kept j _ _ nought))))) r h =
    let p = half h in also (elements_at (binding r) c p.0) (strict_at b b' (y.strict (strictly (is_strict (asked b).whole) r) (last_sound t b (strictly (is_strict (asked b).whole) r) p.1)) (also_kept c f x (also_kept d g y nought)) r p.1)
row kind.Constructor (also_kept a _ _ (also_kept b _ _ (also_kept c f x (also_kept d g y nought)))) r h =
    let p = half h in let q = half p.1 in
    also (at (λ t. constructor_key_in (out-Node t)) b (key_up b) p.0) (also (elements_at (binding r) c q.0) (all (also_kept c f x (also_kept d g y nought)) (binding r) q.1))
row kind.GetterProp (also_kept a _ _ (also_kept c f x (also_kept {t = b} {u = b'} d g y nought))) r h =
    let p = half h in also (alone c f x (binding r) p.0) (strict_at b b' (y.strict (strictly (is_strict (asked b).whole) r) (only_sound b (strictly (is_strict (asked b).whole) r) p.1)) (also_kept d g y nought) r p.1)
row kind.SetterProp (also_kept a _ _ (also_kept k i z (also_kept {t = t} c f x (also_kept {t = b} {u = b'} d g y nought)))) r h =
    let p = half h in let q = half p.1 in
    also (at (λ t. element t (binding r)) c (element_up c (binding r)) p.0) (also (alone k i z (binding r) q.0) (strict_at b b' (y.strict (strictly (is_strict (asked b).whole) r) (last_sound t b (strictly (is_strict (asked b).whole) r) q.1)) (also_kept c f x (also_kept d g y nought)) r q.1))
row kind.ClassMethod (also_kept a _ _ (also_kept b f x (also_kept c g y (also_kept d _ _ (also_kept i _ _ nought))))) r h = let p = half h in let q = half p.1 in also (accessor_at c d p.0) (also (x.keeps (binding r) q.0) (y.keeps r q.1))
row kind.PrivateMethod (also_kept a _ _ (also_kept b f x (also_kept c g y (also_kept d _ _ (also_kept i _ _ nought))))) r h = let p = half h in also (accessor_at c d p.0) (y.keeps r p.1)
row kind.PrivateProp (also_kept a _ _ (also_kept b f x (also_kept c g y (also_kept d _ _ nought)))) r h = alone c g y (binding r) h
row kind.Class (also_kept a _ _ (also_kept c f x (also_kept d g y nought))) r h = all (also_kept c f x (also_kept d g y nought)) (strictly true r) h
row kind.FnDecl (also_kept c f x (also_kept d g y nought)) r h = let p = half h in also (bound_at c r p.0) (y.keeps r p.1)
row kind.FnExpr (also_kept c f x (also_kept d g y nought)) r h = let p = half h in also (bound_at c r p.0) (y.keeps r p.1)
row kind.ClassDecl (also_kept c f x (also_kept d g y nought)) r h = let p = half h in also (bound_at c (strictly true r) p.0) (y.keeps r p.1)
row kind.ClassExpr (also_kept c f x (also_kept d g y nought)) r h = let p = half h in also (bound_at c (strictly true r) p.0) (y.keeps r p.1)
row kind.VarDeclarator (also_kept a _ _ (also_kept c f x (also_kept d g y nought))) r h = let p = half h in let q = half p.1 in also (at (λ t. pattern t (binding r)) c (pattern_up c (binding r)) p.0) (also (x.keeps (binding r) q.0) (alone d g y (binding r) q.1))
row kind.VarDecl (also_kept a _ _ (also_kept c f x (also_kept d g y nought))) r h = let p = half h in also (declared_at c d p.0) (y.keeps r p.1)
row kind.UsingDecl (also_kept a _ _ (also_kept c f x (also_kept d g y nought))) r h = let p = half h in also (at (λ t. are_named true (items_of t)) d (all_named true d) p.0) (y.keeps r p.1)
row kind.ExprStmt (also_kept a _ _ (also_kept {t = t} {u = u} d f x nought)) r h =
    let p = half h in let m = only_sound t (binding r) p.1 in
    also (at stays_string d (λ g. still_string t u (x.string f (binding r) m) (x.text f (binding r) m g) g) p.0) (alone d f x (binding r) p.1)
row kind.CatchClause (also_kept a _ _ (also_kept {t = t} {u = u} c f x (also_kept d g y nought))) r h =
    let p = half h in let q = half p.1 in
    also (or_up (is_absent (asked t).whole) (pattern (asked t).whole (binding r)) (is_absent (asked u).whole) (pattern (asked u).whole (binding r)) (bool_at is_absent c (absent_same c)) (at (λ t. pattern t (binding r)) c (pattern_up c (binding r))) p.0) (also (x.keeps (binding r) q.0) (y.keeps r q.1))
row kind.WithStmt (also_kept a _ _ (also_kept c f x (also_kept d g y nought))) r h = let p = half h in also (alone c f x (binding r) p.0) (body_at d y r p.1)
row kind.LabeledStmt (also_kept a _ _ (also_kept c f x (also_kept d g y nought))) r h = let p = half h in also (x.keeps r p.0) (branch_at d y r p.1)
row kind.IfStmt (also_kept a _ _ (also_kept c f x (also_kept d g y (also_kept {t = t} {u = u} b i z nought)))) r h =
    let p = half h in let q = half p.1 in
    also (alone c f x (binding r) p.0) (also (branch_at d y r q.0) (or_up (is_absent (asked t).whole) (branch (asked t) r) (is_absent (asked u).whole) (branch (asked u) r) (bool_at is_absent b (absent_same b)) (branch_at b z r) q.1))
row kind.SwitchCase (also_kept a _ _ (also_kept c f x (also_kept d g y nought))) r h = let p = half h in let q = half p.1 in also (alone c f x (binding r) p.0) (also (bool_at (λ t. list_all (λ t. not (is_using t)) (items_of t)) d (no_using_same d) q.0) (y.keeps r q.1))
row kind.WhileStmt (also_kept a _ _ (also_kept c f x (also_kept d g y nought))) r h = let p = half h in also (alone c f x (binding r) p.0) (body_at d y r p.1)
row kind.DoWhileStmt (also_kept a _ _ (also_kept d g y (also_kept c f x nought))) r h = let p = half h in also (alone c f x (binding r) p.0) (body_at d y r p.1)
row kind.ForStmt (also_kept a _ _ (also_kept b i x (also_kept c j y (also_kept d l z (also_kept g m w nought))))) r h = let p = half h in also (all (also_kept b i x (also_kept c j y (also_kept d l z nought))) (binding r) p.0) (body_at g w r p.1)
row kind.ForInStmt (also_kept a _ _ (also_kept b i x (also_kept c j y (also_kept d l z nought)))) r h =
    let p = half h in let q = half p.1 in let n = half q.1 in also (bool_at (λ t. not (is_using t)) b (ap not (using_same b)) p.0) (also (head_at b x r q.0) (also (alone c j y (binding r) n.0) (body_at d z r n.1)))
row kind.ForOfStmt (also_kept a _ _ (also_kept o _ _ (also_kept b i x (also_kept c j y (also_kept d l z nought))))) r h = let q = half h in let n = half q.1 in also (head_at b x r q.0) (also (alone c j y (binding r) n.0) (body_at d z r n.1))
row kind.ImportNamedSpecifier (also_kept a _ _ (also_kept c f x (also_kept d g y nought))) r h = bound_at c r h
row kind.ImportDefaultSpecifier (also_kept a _ _ (also_kept c f x nought)) r h = bound_at c r h
row kind.ImportStarAsSpecifier (also_kept a _ _ (also_kept c f x nought)) r h = bound_at c r h
row kind.NamedExport (also_kept a _ _ (also_kept {t = t} {u = u} c f x (also_kept {t = s} {u = s'} d g y (also_kept b _ _ nought)))) r h =
    or_up (not (is_absent (asked s).whole)) (list_all (λ t. local_specifier_in (out-Node t)) (items_of (asked t).whole) && sound t r) (not (is_absent (asked s').whole)) (list_all (λ t. local_specifier_in (out-Node t)) (items_of (asked u).whole) && sound u r)
    (bool_at (λ t. not (is_absent t)) d (ap not (absent_same d))) (λ h. (let p = half h in also (at (λ t. list_all (λ t. local_specifier_in (out-Node t)) (items_of t)) c (all_local c) p.0) (x.keeps r p.1))) h
row kind.ExportNamedSpecifier (also_kept a _ _ (also_kept c f x (also_kept d g y nought))) r h = x.keeps r h
row kind.ExportNamespaceSpecifier k r h = refl
row kind.ExportDecl (also_kept a _ _ (also_kept d f x nought)) r h = let p = half h in also (bool_at (λ t. not (is_using t)) d (ap not (using_same d)) p.0) (x.keeps r p.1)
row kind.Module (also_kept a _ _ (also_kept c f x (also_kept d g y nought))) r h = x.keeps (strictly true r) h
row kind.Script (also_kept a _ _ (also_kept {t = t} {u = u} c f x (also_kept d g y nought))) r h =
    let p = half h in
    also (bool_at (λ t. list_all (λ t. not (is_using t)) (items_of t)) c (no_using_same c) p.0)
    (ap (λ b. sound u (strictly b r)) (same_at (λ t. has_use_strict (items_of t)) c (x.leads (strictly (has_use_strict (items_of (asked t).whole)) r) p.1)) ∙ x.keeps (strictly (has_use_strict (items_of (asked t).whole)) r) p.1)
row kind.TsInterfaceDecl d r h = absurd (true≢false (sym h))
row kind.TsTypeAliasDecl d r h = absurd (true≢false (sym h))
row kind.TsEnumDecl d r h = absurd (true≢false (sym h))
row kind.TsModuleDecl d r h = absurd (true≢false (sym h))
row k d r h = all d (binding r) h

head_row : (k : Kind) {ts us : List Node} → Kept (slots_of k) ts us → (r : Round) → in_head_in (Node-F.Tree k (map asked ts)) r ≡ true → in_head_in (Node-F.Tree k (map asked us)) r ≡ true
head_row kind.VarDecl (also_kept a _ _ (also_kept c f x (also_kept d g y nought))) r h = let p = half h in also (bool_at (λ t. one_bare (items_of t)) d (one_bare_same d) p.0) (y.keeps (binding r) p.1)
head_row kind.UsingDecl (also_kept a _ _ (also_kept c f x (also_kept d g y nought))) r h = let p = half h in let q = half p.1 in also (bool_at (λ t. one_bare (items_of t)) d (one_bare_same d) p.0) (also (at (λ t. are_named false (items_of t)) d (all_named false d) q.0) (y.keeps (binding r) q.1))
head_row k d r h = absurd (true≢false (sym h))

pub tree_sound : (k : Kind) {ts us : List Node} → Kept (slots_of k) ts us → (r : Round) → sound (Tree k ts) r ≡ true → sound (Tree k us) r ≡ true
tree_sound k {ts = ts} {us = us} x r h = sound_tree k us r ∙ row k x r (sym (sound_tree k ts r) ∙ h)

pub tree_head : (k : Kind) {ts us : List Node} → Kept (slots_of k) ts us → (r : Round) → (asked (Tree k ts)).in_head r ≡ true → (asked (Tree k us)).in_head r ≡ true
tree_head k {ts = ts} {us = us} x r h = in_head_tree k us r ∙ head_row k x r (sym (in_head_tree k ts r) ∙ h)

pub all_kept : {s : Slot} {ts us : List Node} → AllKept s ts us → (r : Round) → all_sound (map asked ts) r ≡ true → all_sound (map asked us) r ≡ true
all_kept none_kept r h = refl
all_kept (more_kept d x k) r h = let p = half h in let q = half p.0 in also (also (private_at x r q.1 q.0) (x.keeps r q.1)) (all_kept k r p.1)
