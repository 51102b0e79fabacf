-- A tree that can be written down can be with pairs set in it.
use Rattle.std.proofs.Common.{◌≡◌, Bool, true, false, not, ◌&&◌, ◌||◌, IsTrue, List, [], ◌∷◌, map, refl, sym, ap, ◌∙◌, rules, true≢false}
use Rattle.std.specs.Prelude.{suc, nat_le, nat_eq, length, if◌then◌else◌}
use Rattle.std.specs.List.{list_all}
use Rattle.swc_tree_marks.specs.declared.span.Span.{Span as Range}
use Rattle.swc_tree_marks.specs.declared.ident.Ident.{Ident}
use Rattle.swc_tree_node.specs.declared.kind.Kind.{Kind}
use Rattle.swc_tree_node.specs.declared.kind.Kind.TheVariants as kind
use Rattle.swc_tree_node.specs.declared.kind.Class.TheVariants as class
use Rattle.swc_tree_node.specs.declared.slot.Content.TheVariants as content
use Rattle.swc_tree_node.specs.declared.slot.Slot.{Slot}
use Rattle.swc_tree_node.specs.declared.slot.Slot.TheVariants as slot
use Rattle.swc_tree_node.specs.declared.node.Node.{Node, Absent, Flag, Word, Text, Span, List as Many, Identifier, Tree, out-Node, the_lemmas}
use Rattle.swc_tree_node.specs.declared.node.Node.TheOpen.{Node-F}
use Rattle.swc_tree_node.specs.Table.{slots_of}
use Rattle.swc_tree_node.specs.Fits.{Fits, FieldsFit, AllFit}
use Rattle.swc_tree_node.proofs.Fit.{fits-List}
use Rattle.swc_tree_scoping.specs.Places.{has_use_strict}
use Rattle.swc_tree_grammar.specs.Shapes.{items_of}
use Rattle.swc_tree_grammar.specs.Kinds.{has_kind, is_private_name}
use Rattle.swc_tree_grammar.specs.Levels.{is_absent, word_of, is_in}
use Rattle.swc_tree_grammar.specs.Stripped.{stripped}
use Rattle.swc_tree_grammar.specs.Targets.{is_target}
use Rattle.swc_tree_grammar.specs.Forms.{form, is_body, is_branch, is_using, is_strict, are_named, holds}
use Rattle.swc_tree_grammar.specs.Writable.{Round, sound_in, in_head_in, all_sound, no_private, binding, assigning, strictly, bound, name_is, pattern, element, elements, left_side, base_goes_on_in, constructor_key_in, accessor, initialised_in, is_const, is_string, local_specifier_in, loop_body, branch, head, declares_in, one_bare, is_identifier_text}
use Rattle.swc_tree_grammar.proofs.Asked.{asked, head_list, same as whole, sound}
use Rattle.swc_tree_grammar.proofs.Induction.{by_children}
use Rattle.swc_tree_grammar.proofs.Places.{one, stands}
use Rattle.swc_tree_grammar_laws.proofs.Levelled.{both, half, also, also_both}
use Rattle.swc_tree_grammar_laws.proofs.Begins.{or_right}
use Rattle.swc_tree_grammar_laws.proofs.Derived.{sound_tree, sound_list, in_head_tree}
use Rattle.swc_base_fixer_laws.specs.Sets.{Sets, AllSet, FieldsSet, pairable, can_pair, is_directive_in}
use Rattle.swc_base_fixer_laws.specs.Sets.Sets.{same, after, around, named, items, tree}
use Rattle.swc_base_fixer_laws.specs.Sets.AllSet.{none, more}
use Rattle.swc_base_fixer_laws.specs.Sets.FieldsSet.{nil, field}
use Rattle.swc_base_fixer_laws.proofs.Up.{up, no_pair}
use Rattle.swc_base_fixer_laws.proofs.Kept.{not_up}
use Rattle.swc_base_fixer_laws.proofs.ElseKept.{pairable_tree}
use Rattle.swc_base_fixer_laws.proofs.FitsKept.{fits_kept, expression_fits}
use Rattle.swc_base_fixer_laws.proofs.SetsRows.{items_open}
use Rattle.swc_base_fixer_laws.proofs.Looks.{private_kept, pair_private, same_fixed, target_kept, pattern_kept, element_kept}
use Rattle.swc_base_fixer_laws.proofs.Elements.{elements_kept, of_items}
use Rattle.swc_base_fixer_laws.proofs.FormsKept.{form_kept, declares_kept, key_kept, strict_list, strict_kept}
use Rattle.swc_base_fixer_laws.proofs.PartsKept.{length_kept, accessor_kept, all_initialised, all_named, one_bare_kept, using_kept, no_using_kept, all_local, stripped_string, base_kept, left_kept}
use Rattle.swc_base_fixer_laws.proofs.Rounds.{freed}

-- what is kept of a node: what is asked of it, also as the declaration in the head of a `for` in or of
pub record Keeps (t u : Node) : Type 0 where
  pub keeps : (r : Round) → sound t r ≡ true → sound u r ≡ true
  pub heads : (r : Round) → (asked t).in_head r ≡ true → (asked u).in_head r ≡ true

-- fields that are kept, each in its place
data Kept : List Slot → List Node → List Node → Type 0 where
  nought : Kept [] [] []
  also_kept : {s : Slot} {ss : List Slot} {t u : Node} {ts us : List Node} → Sets s t u → Fits t s → Keeps t u → Kept ss ts us → Kept (s ∷ ss) (t ∷ ts) (u ∷ us)

-- a fact of a node, as it is asked
at : (q : Node → Bool) {s : Slot} {t u : Node} → Sets s t u → q u ≡ q t → q (asked t).whole ≡ true → q (asked u).whole ≡ true
at q {t = t} {u = u} d e h = ap q (whole u) ∙ e ∙ sym (ap q (whole t)) ∙ h

same_at : {X : Type 0} (q : Node → X) {s : Slot} {t u : Node} → Sets s t u → q u ≡ q t → q (asked u).whole ≡ q (asked t).whole
same_at q {t = t} {u = u} d e = ap q (whole u) ∙ e ∙ sym (ap q (whole t))

private_at : {s : Slot} {t u : Node} → Sets s t u → no_private (asked t) ≡ true → no_private (asked u) ≡ true
private_at {t = t} {u = u} d h =
    ap (λ t. not (has_kind is_private_name t)) (whole u) ∙ not_up (has_kind is_private_name t) (has_kind is_private_name u) (private_kept d) (sym (ap (λ t. not (has_kind is_private_name t)) (whole t)) ∙ h)

all : {ss : List Slot} {ts us : List Node} → Kept ss ts us → (r : Round) → all_sound (map asked ts) r ≡ true → all_sound (map asked us) r ≡ true
all nought r h = refl
all (also_kept d f x k) r h = let p = half h in let q = half p.0 in also (also (private_at d q.0) (x.keeps r q.1)) (all k r p.1)

or_up : (a b c d : Bool) → c ≡ a → (b ≡ true → d ≡ true) → (a || b) ≡ true → (c || d) ≡ true
or_up true b c d e f h = rw e refl
or_up false b c d e f h = or_right c d (f h)

alone : {s : Slot} {t u : Node} → Sets s t u → Fits t s → Keeps t u → (r : Round) → all_sound (asked t ∷ []) r ≡ true → all_sound (asked u ∷ []) r ≡ true
alone d f x r h = all (also_kept d f x nought) r h

body_at : {s : Slot} {t u : Node} → Sets s t u → Keeps t u → (r : Round) → loop_body (asked t) r ≡ true → loop_body (asked u) r ≡ true
body_at d x r h = let p = half h in also (at (λ t. is_body (form t)) d (ap is_body (form_kept d)) p.0) (x.keeps r p.1)

branch_at : {s : Slot} {t u : Node} → Sets s t u → Keeps t u → (r : Round) → branch (asked t) r ≡ true → branch (asked u) r ≡ true
branch_at d x r h = let p = half h in also (at (λ t. is_branch r.strict (form t)) d (ap (is_branch r.strict) (form_kept d)) p.0) (x.keeps r p.1)

bound_at : {s : Slot} {t u : Node} → Sets s t u → u ≡ t → (r : Round) → bound (asked t) r ≡ true → bound (asked u) r ≡ true
bound_at d e r h = at (λ t. name_is r.strict (out-Node t)) d (ap (λ t. name_is r.strict (out-Node t)) e) h

elements_at : (c : _) (r : Round) {t u : Node} → Sets (slot.List (content.Node c)) t u → elements r (items_of u) ≡ elements r (items_of t) → elements r (items_of (asked t).whole) ≡ true → elements r (items_of (asked u).whole) ≡ true
elements_at c r d e h = at (λ t. elements r (items_of t)) d e h

-- code that a body may make strict
strict_at : {s : Slot} {b b' : Node} {ss : List Slot} {ts us : List Node} → Sets s b b' → Kept ss ts us → (r : Round) → all_sound (map asked ts) (strictly (is_strict (asked b).whole) r) ≡ true → all_sound (map asked us) (strictly (is_strict (asked b').whole) r) ≡ true
strict_at {b = b} {us = us} d k r h = ap (λ x. all_sound (map asked us) (strictly x r)) (same_at is_strict d (strict_kept d)) ∙ all k (strictly (is_strict (asked b).whole) r) h

left_at : {s : Slot} {o o' l l' : Node} → Sets s o o' → Sets (slot.One (content.Node class.AssignTarget)) l l' → Fits l (one class.AssignTarget)
    → left_side (word_of (asked o).whole) (asked l).whole ≡ true → left_side (word_of (asked o').whole) (asked l').whole ≡ true
left_at {o = o} {o' = o'} {l = l} {l' = l'} c d f h =
    let w = up c in
    let g : left_side (word_of o) l ≡ true = sym (ap (λ t. left_side (word_of o) t) (whole l)) ∙ sym (ap (λ t. left_side (word_of t) (asked l).whole) (whole o)) ∙ h in
    ap (λ t. left_side (word_of t) (asked l').whole) (whole o') ∙ ap (λ t. left_side (word_of o') t) (whole l') ∙ ap (λ x. left_side x l') w.word_same ∙ left_kept d f (word_of o) g

quasis_at : {s r : Slot} {e e' q q' : Node} → Sets s e e' → Sets r q q' → length (items_of e') ≡ length (items_of e) → length (items_of q') ≡ length (items_of q)
    → nat_eq (length (items_of (asked q).whole)) (suc (length (items_of (asked e).whole))) ≡ true → nat_eq (length (items_of (asked q').whole)) (suc (length (items_of (asked e').whole))) ≡ true
quasis_at c d m n h = rw (same_at (λ t. length (items_of t)) c m, same_at (λ t. length (items_of t)) d n) h

accessor_at : {s r : Slot} {f f' k k' : Node} → Sets s f f' → Sets r k k' → accessor (asked f).whole (asked k).whole ≡ true → accessor (asked f').whole (asked k').whole ≡ true
accessor_at {f = f} {f' = f'} {k = k} {k' = k'} c d h =
    ap (λ t. accessor t (asked k').whole) (whole f') ∙ ap (λ t. accessor f' t) (whole k') ∙ accessor_kept c d ∙ sym (ap (λ t. accessor f t) (whole k)) ∙ sym (ap (λ t. accessor t (asked k).whole) (whole f)) ∙ h

declared_at : {s : Slot} {w w' d d' : Node} → Sets s w w' → Sets (slot.List (content.Node class.VarDeclarator)) d d'
    → list_all (λ d. initialised_in (is_const (word_of (asked w).whole)) (out-Node d)) (items_of (asked d).whole) ≡ true → list_all (λ d. initialised_in (is_const (word_of (asked w').whole)) (out-Node d)) (items_of (asked d').whole) ≡ true
declared_at {w = w} {d = d} {d' = d'} a b h =
    let v = up a in
    ap (λ x. list_all (λ d. initialised_in (is_const x) (out-Node d)) (items_of (asked d').whole)) (same_at word_of a v.word_same)
    ∙ at (λ t. list_all (λ d. initialised_in (is_const (word_of (asked w).whole)) (out-Node d)) (items_of t)) b (all_initialised (is_const (word_of (asked w).whole)) b) h

-- the heads of `for` in and of
abbrev a_head : Slot
a_head = slot.One (content.Node class.ForHead)

abbrev an_expression : Slot
an_expression = slot.One (content.Node class.Expr)

expression_pattern : {t u : Node} → Sets an_expression t u → (r : Round) → pattern t r ≡ true → pattern u r ≡ true
expression_pattern d r h = pattern_kept d refl r ∙ h

of_around : (x : Range) (t u : Node) → IsTrue (pairable t) → Sets an_expression t u → (r : Round) → pattern t r ≡ true → pattern (Tree kind.ParenExpr (Span x ∷ u ∷ [])) r ≡ true
of_around x t u q d r h = expression_pattern (around x t u refl q d) r h

of_items_in : (ts us : List Node) → AllSet (slot.One content.Text) ts us → (r : Round) → pattern (Many ts) r ≡ true → pattern (Many us) r ≡ true
of_items_in ts us d r h = expression_pattern (items ts us d) r h

of_tree : (k : Kind) (ts us : List Node) → is_directive_in (Node-F.Tree k us) ≡ is_directive_in (Node-F.Tree k ts) → FieldsSet (slots_of k) ts us → (r : Round) → pattern (Tree k ts) r ≡ true → pattern (Tree k us) r ≡ true
of_tree k ts us e d r h = expression_pattern (tree k ts us e d) r h

name_pattern : (x : Range) (i : Ident) (r : Round) → r.assigned ≡ true → pattern (Tree kind.ParenExpr (Span x ∷ Identifier kind.Ident i ∷ [])) r ≡ true
name_pattern x i r e = let g : is_target (Tree kind.ParenExpr (Span x ∷ Identifier kind.Ident i ∷ [])) ≡ true = search (rules, the_lemmas) in or_right _ (r.assigned && is_target (Tree kind.ParenExpr (Span x ∷ Identifier kind.Ident i ∷ []))) (also e g)

head_pattern : {t u : Node} → Sets (slot.One (content.Node class.ForHead)) t u → (r : Round) → r.assigned ≡ true → pattern t r ≡ true → pattern u r ≡ true
head_pattern (same t) r e h = h
head_pattern (after c d) r e h = head_pattern d r e (head_pattern c r e h)
head_pattern (around x t u p q d) r e h = of_around x t u q d r h
head_pattern (named x k i called) r e h = name_pattern x i r e
head_pattern (items ts us d) r e h = of_items_in ts us d r h
head_pattern (tree k ts us x d) r e h = of_tree k ts us x d r h

head_if : (b : Bool) {t u : Node} → Sets a_head t u → Keeps t u → (r : Round) → declares_in (out-Node (asked t).whole) ≡ b → declares_in (out-Node (asked u).whole) ≡ b → head (asked t) r ≡ true → head (asked u) r ≡ true
head_if true {t = t} {u = u} d x r e f h = ap (λ b. if b then (asked u).in_head r else (pattern (asked u).whole (assigning r) && sound u (assigning r))) f ∙ x.heads r (sym (ap (λ b. if b then (asked t).in_head r else (pattern (asked t).whole (assigning r) && sound t (assigning r))) e) ∙ h)
head_if false {t = t} {u = u} d x r e f h =
    let p = both (pattern (asked t).whole (assigning r)) (sound t (assigning r)) (sym (ap (λ b. if b then (asked t).in_head r else (pattern (asked t).whole (assigning r) && sound t (assigning r))) e) ∙ h) in
    ap (λ b. if b then (asked u).in_head r else (pattern (asked u).whole (assigning r) && sound u (assigning r))) f
    ∙ also_both (pattern (asked u).whole (assigning r)) (sound u (assigning r)) (ap (λ t. pattern t (assigning r)) (whole u) ∙ head_pattern d (assigning r) refl (sym (ap (λ t. pattern t (assigning r)) (whole t)) ∙ p.0)) (x.keeps (assigning r) p.1)

head_at : {t u : Node} → Sets a_head t u → Keeps t u → (r : Round) → head (asked t) r ≡ true → head (asked u) r ≡ true
head_at {t = t} d x r h = head_if (declares_in (out-Node (asked t).whole)) d x r refl (same_at (λ t. declares_in (out-Node t)) d (declares_kept d)) h

-- each kind of node; `e` says that a directive stays one
row : (k : Kind) {ts us : List Node} → is_directive_in (Node-F.Tree k us) ≡ is_directive_in (Node-F.Tree k ts) → Kept (slots_of k) ts us → (r : Round) → sound_in (Node-F.Tree k (map asked ts)) r ≡ true → sound_in (Node-F.Tree k (map asked us)) r ≡ true
row kind.SeqExpr e (also_kept a _ _ (also_kept d f x nought)) r h = let p = half h in also (at (λ t. nat_le 2 (length (items_of t))) d (ap (nat_le 2) (length_kept refl refl d)) p.0) (x.keeps r p.1)
row kind.AssignExpr e (also_kept a _ _ (also_kept o _ _ (also_kept l f x (also_kept d g y nought)))) r h = let p = half h in let q = half p.1 in also (left_at o l f p.0) (also (x.keeps (assigning r) q.0) (alone d g y (binding r) q.1))
row kind.UpdateExpr e (also_kept a _ _ (also_kept o _ _ (also_kept b _ _ (also_kept d f x nought)))) r h = let p = half h in also (at is_target d (target_kept d refl) p.0) (x.keeps (binding r) p.1)
row kind.BinExpr e (also_kept a _ _ (also_kept {t = o} {u = o'} b _ _ (also_kept {t = l} {u = l'} c f x (also_kept d g y nought)))) r h =
    let p = half h in let q = half p.1 in let w = up b in
    also (or_up (is_in (word_of (asked o).whole)) (no_private (asked l)) (is_in (word_of (asked o').whole)) (no_private (asked l')) (same_at (λ t. is_in (word_of t)) b (ap is_in w.word_same)) (private_at c) p.0) (also (x.keeps (binding r) q.0) (alone d g y (binding r) q.1))
row kind.MemberExpr e (also_kept a _ _ (also_kept c f x (also_kept d g y nought))) r h = let p = half h in let q = half p.1 in also (private_at c p.0) (also (x.keeps (binding r) q.0) (y.keeps (binding r) q.1))
row kind.Tpl e (also_kept a _ _ (also_kept c f x (also_kept d g y nought))) r h = let p = half h in also (quasis_at c d (length_kept refl refl c) (length_kept refl refl d) p.0) (x.keeps (binding r) p.1)
row kind.OptChainExpr e (also_kept a _ _ (also_kept {t = o} {u = o'} c f x (also_kept {t = b} {u = b'} d g y nought))) r h =
    let p = half h in let w = up c in
    also (or_up (holds (asked o).whole) (base_goes_on_in (out-Node (asked b).whole)) (holds (asked o').whole) (base_goes_on_in (out-Node (asked b').whole)) (same_at holds c w.flag) (at (λ t. base_goes_on_in (out-Node t)) d (base_kept d refl)) p.0) (y.keeps (binding r) p.1)
row kind.ArrayPat e (also_kept a _ _ (also_kept d f x nought)) r h = let p = half h in also (at (λ t. elements r (items_of t)) d (of_items Bool (elements r) (λ ts us c. elements_kept c refl r) refl refl d) p.0) (x.keeps r p.1)
row kind.ObjectPat e (also_kept a _ _ (also_kept d f x nought)) r h = let p = half h in also (at (λ t. elements r (items_of t)) d (of_items Bool (elements r) (λ ts us c. elements_kept c refl r) refl refl d) p.0) (x.keeps r p.1)
row kind.RestPat e (also_kept a _ _ (also_kept d f x nought)) r h = let p = half h in also (at (λ t. pattern t r) d (pattern_kept d refl r) p.0) (x.keeps r p.1)
row kind.KeyValuePatProp e (also_kept c f x (also_kept d g y nought)) r h = let p = half h in let q = half p.1 in also (at (λ t. element t r) d (element_kept d refl r) p.0) (also (x.keeps (binding r) q.0) (y.keeps r q.1))
row kind.AssignPat e (also_kept a _ _ (also_kept c f x (also_kept d g y nought))) r h = let p = half h in let q = half p.1 in also (at (λ t. pattern t r) c (pattern_kept c refl r) p.0) (also (x.keeps r q.0) (alone d g y (binding r) q.1))
row kind.AssignPatProp e (also_kept a _ _ (also_kept c f x (also_kept d g y nought))) r h = let p = half h in also (x.keeps r p.0) (alone d g y (binding r) p.1)
row kind.ArrowExpr e (also_kept a _ _ (also_kept c f x (also_kept d g y (also_kept b _ _ nought)))) r h =
    let p = half h in also (at (λ t. elements (binding r) (items_of t)) c (of_items Bool (elements (binding r)) (λ ts us c. elements_kept c refl (binding r)) refl refl c) p.0) (strict_at d (also_kept c f x (also_kept d g y nought)) r p.1)
row kind.Function e (also_kept a _ _ (also_kept c f x (also_kept d g y (also_kept b _ _ (also_kept i _ _ nought))))) r h =
    let p = half h in also (at (λ t. elements (binding r) (items_of t)) c (of_items Bool (elements (binding r)) (λ ts us c. elements_kept c refl (binding r)) refl refl c) p.0) (strict_at d (also_kept c f x (also_kept d g y nought)) r p.1)
row kind.Constructor e (also_kept a _ _ (also_kept b _ _ (also_kept c f x (also_kept d g y nought)))) r h =
    let p = half h in let q = half p.1 in
    also (at (λ t. constructor_key_in (out-Node t)) b (key_kept b refl) p.0) (also (at (λ t. elements (binding r) (items_of t)) c (of_items Bool (elements (binding r)) (λ ts us c. elements_kept c refl (binding r)) refl refl c) q.0) (all (also_kept c f x (also_kept d g y nought)) (binding r) q.1))
row kind.GetterProp e (also_kept a _ _ (also_kept c f x (also_kept d g y nought))) r h = let p = half h in also (alone c f x (binding r) p.0) (strict_at d (also_kept d g y nought) r p.1)
row kind.SetterProp e (also_kept a _ _ (also_kept b i z (also_kept c f x (also_kept d g y nought)))) r h =
    let p = half h in let q = half p.1 in also (at (λ t. element t (binding r)) c (element_kept c refl (binding r)) p.0) (also (alone b i z (binding r) q.0) (strict_at d (also_kept c f x (also_kept d g y nought)) r q.1))
row kind.ClassMethod e (also_kept a _ _ (also_kept b f x (also_kept c g y (also_kept d _ _ (also_kept i _ _ nought))))) r h = let p = half h in let q = half p.1 in also (accessor_at c d p.0) (also (x.keeps (binding r) q.0) (y.keeps r q.1))
row kind.PrivateMethod e (also_kept a _ _ (also_kept b f x (also_kept c g y (also_kept d _ _ (also_kept i _ _ nought))))) r h = let p = half h in also (accessor_at c d p.0) (y.keeps r p.1)
row kind.PrivateProp e (also_kept a _ _ (also_kept b f x (also_kept c g y (also_kept d _ _ nought)))) r h = alone c g y (binding r) h
row kind.Class e (also_kept a _ _ (also_kept c f x (also_kept d g y nought))) r h = all (also_kept c f x (also_kept d g y nought)) (strictly true r) h
row kind.FnDecl e (also_kept c f x (also_kept d g y nought)) r h = let p = half h in also (bound_at c (same_fixed c refl f) r p.0) (y.keeps r p.1)
row kind.FnExpr e (also_kept c f x (also_kept d g y nought)) r h = let p = half h in also (bound_at c (same_fixed c refl f) r p.0) (y.keeps r p.1)
row kind.ClassDecl e (also_kept c f x (also_kept d g y nought)) r h = let p = half h in also (bound_at c (same_fixed c refl f) (strictly true r) p.0) (y.keeps r p.1)
row kind.ClassExpr e (also_kept c f x (also_kept d g y nought)) r h = let p = half h in also (bound_at c (same_fixed c refl f) (strictly true r) p.0) (y.keeps r p.1)
row kind.VarDeclarator e (also_kept a _ _ (also_kept c f x (also_kept d g y nought))) r h = let p = half h in let q = half p.1 in also (at (λ t. pattern t (binding r)) c (pattern_kept c refl (binding r)) p.0) (also (x.keeps (binding r) q.0) (alone d g y (binding r) q.1))
row kind.VarDecl e (also_kept a _ _ (also_kept c f x (also_kept d g y nought))) r h = let p = half h in also (declared_at c d p.0) (y.keeps r p.1)
row kind.UsingDecl e (also_kept a _ _ (also_kept c f x (also_kept d g y nought))) r h = let p = half h in also (at (λ t. are_named true (items_of t)) d (all_named true d) p.0) (y.keeps r p.1)
row kind.ExprStmt e (also_kept a _ _ (also_kept {t = t} {u = u} d f x nought)) r h =
    let p = half h in
    also (or_up (not (is_string (stripped (asked t).whole))) (is_string (asked t).whole) (not (is_string (stripped (asked u).whole))) (is_string (asked u).whole) (same_at (λ t. not (is_string (stripped t))) d (ap not (stripped_string d))) (at is_string d e) p.0) (alone d f x (binding r) p.1)
row kind.CatchClause e (also_kept a _ _ (also_kept {t = t} {u = u} c f x (also_kept d g y nought))) r h =
    let p = half h in let q = half p.1 in let w = up c in
    also (or_up (is_absent (asked t).whole) (pattern (asked t).whole (binding r)) (is_absent (asked u).whole) (pattern (asked u).whole (binding r)) (same_at is_absent c w.absent) (at (λ t. pattern t (binding r)) c (pattern_kept c refl (binding r))) p.0) (also (x.keeps (binding r) q.0) (y.keeps r q.1))
row kind.WithStmt e (also_kept a _ _ (also_kept c f x (also_kept d g y nought))) r h = let p = half h in also (alone c f x (binding r) p.0) (body_at d y r p.1)
row kind.LabeledStmt e (also_kept a _ _ (also_kept c f x (also_kept d g y nought))) r h = let p = half h in also (x.keeps r p.0) (branch_at d y r p.1)
row kind.IfStmt e (also_kept a _ _ (also_kept c f x (also_kept d g y (also_kept {t = t} {u = u} b i z nought)))) r h =
    let p = half h in let q = half p.1 in let w = up b in
    also (alone c f x (binding r) p.0) (also (branch_at d y r q.0) (or_up (is_absent (asked t).whole) (branch (asked t) r) (is_absent (asked u).whole) (branch (asked u) r) (same_at is_absent b w.absent) (branch_at b z r) q.1))
row kind.SwitchCase e (also_kept a _ _ (also_kept c f x (also_kept d g y nought))) r h = let p = half h in let q = half p.1 in also (alone c f x (binding r) p.0) (also (at (λ t. list_all (λ t. not (is_using t)) (items_of t)) d (no_using_kept d) q.0) (y.keeps r q.1))
row kind.WhileStmt e (also_kept a _ _ (also_kept c f x (also_kept d g y nought))) r h = let p = half h in also (alone c f x (binding r) p.0) (body_at d y r p.1)
row kind.DoWhileStmt e (also_kept a _ _ (also_kept d g y (also_kept c f x nought))) r h = let p = half h in also (alone c f x (binding r) p.0) (body_at d y r p.1)
row kind.ForStmt e (also_kept a _ _ (also_kept b i x (also_kept c j y (also_kept d l z (also_kept g m w nought))))) r h = let p = half h in also (all (also_kept b i x (also_kept c j y (also_kept d l z nought))) (binding r) p.0) (body_at g w r p.1)
row kind.ForInStmt e (also_kept a _ _ (also_kept b i x (also_kept c j y (also_kept d l z nought)))) r h =
    let p = half h in let q = half p.1 in let n = half q.1 in also (at (λ t. not (is_using t)) b (ap not (using_kept b)) p.0) (also (head_at b x r q.0) (also (alone c j y (binding r) n.0) (body_at d z r n.1)))
row kind.ForOfStmt e (also_kept a _ _ (also_kept o _ _ (also_kept b i x (also_kept c j y (also_kept d l z nought))))) r h = let q = half h in let n = half q.1 in also (head_at b x r q.0) (also (alone c j y (binding r) n.0) (body_at d z r n.1))
row kind.ImportNamedSpecifier e (also_kept a _ _ (also_kept c f x (also_kept d g y nought))) r h = bound_at c (same_fixed c refl f) r h
row kind.ImportDefaultSpecifier e (also_kept a _ _ (also_kept c f x nought)) r h = bound_at c (same_fixed c refl f) r h
row kind.ImportStarAsSpecifier e (also_kept a _ _ (also_kept c f x nought)) r h = bound_at c (same_fixed c refl f) r h
row kind.NamedExport e (also_kept a _ _ (also_kept {t = t} {u = u} c f x (also_kept {t = s} {u = s'} d g y (also_kept b _ _ nought)))) r h =
    let w = up d in
    or_up (not (is_absent (asked s).whole)) (list_all (λ t. local_specifier_in (out-Node t)) (items_of (asked t).whole) && sound t r) (not (is_absent (asked s').whole)) (list_all (λ t. local_specifier_in (out-Node t)) (items_of (asked u).whole) && sound u r)
    (same_at (λ t. not (is_absent t)) d (ap not w.absent)) (λ h. (let p = half h in also (at (λ t. list_all (λ t. local_specifier_in (out-Node t)) (items_of t)) c (all_local c) p.0) (x.keeps r p.1))) h
row kind.ExportNamedSpecifier e (also_kept a _ _ (also_kept c f x (also_kept d g y nought))) r h = x.keeps r h
row kind.ExportNamespaceSpecifier e k r h = refl
row kind.ExportDecl e (also_kept a _ _ (also_kept d f x nought)) r h = let p = half h in also (at (λ t. not (is_using t)) d (ap not (using_kept d)) p.0) (x.keeps r p.1)
row kind.Module e (also_kept a _ _ (also_kept c f x (also_kept d g y nought))) r h = x.keeps (strictly true r) h
row kind.Script e (also_kept a _ _ (also_kept {t = t} {u = u} c f x (also_kept d g y nought))) r h =
    let p = half h in
    also (at (λ t. list_all (λ t. not (is_using t)) (items_of t)) c (no_using_kept c) p.0)
    (ap (λ b. sound u (strictly b r)) (same_at (λ t. has_use_strict (items_of t)) c (strict_list c)) ∙ x.keeps (strictly (has_use_strict (items_of (asked t).whole)) r) p.1)
row kind.TsInterfaceDecl e d r h = absurd (true≢false (sym h))
row kind.TsTypeAliasDecl e d r h = absurd (true≢false (sym h))
row kind.TsEnumDecl e d r h = absurd (true≢false (sym h))
row kind.TsModuleDecl e d r h = absurd (true≢false (sym h))
row k e d r h = all d (binding r) h

head_row : (k : Kind) {ts us : List Node} → Kept (slots_of k) ts us → (r : Round) → in_head_in (Node-F.Tree k (map asked ts)) r ≡ true → in_head_in (Node-F.Tree k (map asked us)) r ≡ true
head_row kind.VarDecl (also_kept a _ _ (also_kept c f x (also_kept d g y nought))) r h = let p = half h in also (at (λ t. one_bare (items_of t)) d (one_bare_kept d) p.0) (y.keeps (binding r) p.1)
head_row kind.UsingDecl (also_kept a _ _ (also_kept c f x (also_kept d g y nought))) r h = let p = half h in let q = half p.1 in also (at (λ t. one_bare (items_of t)) d (one_bare_kept d) p.0) (also (at (λ t. are_named false (items_of t)) d (all_named false d) q.0) (y.keeps (binding r) q.1))
head_row k d r h = absurd (true≢false (sym h))

-- a pair round an expression
pair_sound : (x : Range) (u : Node) (r : Round) → no_private (asked u) ≡ true → sound u (binding r) ≡ true → sound (Tree kind.ParenExpr (Span x ∷ u ∷ [])) r ≡ true
pair_sound x u r h g =
    let e : (no_private (asked (Span x)) && sound (Span x) (binding r)) ≡ true = search (rules, the_lemmas) in
    sound_tree kind.ParenExpr (Span x ∷ u ∷ []) r ∙ also_both (no_private (asked (Span x)) && sound (Span x) (binding r)) ((no_private (asked u) && sound u (binding r)) && true) e (also_both (no_private (asked u) && sound u (binding r)) true (also h g) refl)

no_head_row : (k : Kind) (ts : List Node) → can_pair k ≡ true → (r : Round) → in_head_in (Node-F.Tree k (map asked ts)) r ≡ false
no_head_row kind.VarDecl ts h r = absurd (true≢false (sym h))
no_head_row kind.UsingDecl ts h r = absurd (true≢false (sym h))
no_head_row k ts h r = refl

no_head : (t : Node) → IsTrue (pairable t) → (r : Round) → (asked t).in_head r ≡ false
no_head t = by_children (λ t. IsTrue (pairable t) → (r : Round) → (asked t).in_head r ≡ false)
    (no_pair Absent (search (rules, the_lemmas)), λ x. no_pair (Flag x) (search (rules, the_lemmas)), λ w. no_pair (Word w) (search (rules, the_lemmas)), λ x. no_pair (Text x) (search (rules, the_lemmas)), λ s. no_pair (Span s) (search (rules, the_lemmas)), λ k i. no_pair (Identifier k i) (search (rules, the_lemmas)))
    (λ ts l. no_pair (Many ts) (search (rules, the_lemmas)))
    (λ k ts l h r. in_head_tree k ts r ∙ no_head_row k ts (sym (pairable_tree k ts) ∙ h) r) t

unprivate : (t : Node) → has_kind is_private_name t ≡ false → no_private (asked t) ≡ true
unprivate t h = ap (λ t. not (has_kind is_private_name t)) (whole t) ∙ ap not h

-- a name that becomes an expression
sound_name : (k : Kind) (i : Ident) (r : Round) → sound (Identifier k i) r ≡ sound_in (Node-F.Identifier k i) r
sound_name k i r = search (rules, the_lemmas)

text_if : (b : Bool) (x y : Bool) → (if b then x else (x && y)) ≡ true → x ≡ true
text_if true x y h = h
text_if false x y h = (both x y h).0

name_text : (k : Kind) (i : Ident) (r : Round) → sound_in (Node-F.Identifier k i) r ≡ true → is_identifier_text i.sym ≡ true
name_text kind.BindingIdent i r h = text_if r.assigned (is_identifier_text i.sym) _ h
name_text k i r h = h

name_head : (k : Kind) (i : Ident) (r : Round) → (asked (Identifier k i)).in_head r ≡ false
name_head k i r = search (rules, the_lemmas)

name_public : (k : Kind) (i : Ident) → has_kind is_private_name (Identifier k i) ≡ false
name_public k i = search (rules, the_lemmas)

name_sound : (x : Range) (k : Kind) (i : Ident) (r : Round) → sound (Identifier k i) r ≡ true → sound (Tree kind.ParenExpr (Span x ∷ Identifier kind.Ident i ∷ [])) r ≡ true
name_sound x k i r h =
    pair_sound x (Identifier kind.Ident i) r (unprivate (Identifier kind.Ident i) (name_public kind.Ident i)) (sound_name kind.Ident i (binding r) ∙ name_text k i r (sym (sound_name k i r) ∙ h))

-- every node
mutual
  keep : {s : Slot} {t u : Node} → Sets s t u → Fits t s → Keeps t u
  keep (same t) f = record { keeps = λ r h. h; heads = λ r h. h }
  keep (after c d) f = let x = keep c f in let y = keep d (fits_kept c f) in record { keeps = λ r h. y.keeps r (x.keeps r h); heads = λ r h. y.heads r (x.heads r h) }
  keep {s = s} (around x t u p q d) f =
      let g = expression_fits t s q f in let y = keep d g in
      record { keeps = λ r h. pair_sound x u r (private_at d (unprivate t (pair_private t q))) (y.keeps (binding r) (freed t g r h)); heads = λ r h. absurd (cc (sym (no_head t q r) ∙ h)) }
  keep (named x k i called) f = record { keeps = λ r h. name_sound x k i r h; heads = λ r h. absurd (cc (sym (name_head k i r) ∙ h)) }
  keep {s = s} (items ts us d) f =
      let g = items_open s ts (sym (fits-List ts s) ∙ f) in
      record { keeps = λ r h. sound_list us r ∙ each d g r (sym (sound_list ts r) ∙ h); heads = λ r h. absurd (cc (sym (head_list ts r) ∙ h)) }
  keep {s = s} (tree k ts us e d) f =
      let w = stands k ts s f in let x = fields_keep d w.fields in
      record { keeps = λ r h. sound_tree k us r ∙ row k e x r (sym (sound_tree k ts r) ∙ h); heads = λ r h. in_head_tree k us r ∙ head_row k x r (sym (in_head_tree k ts r) ∙ h) }

  each : {s : Slot} {ts us : List Node} → AllSet s ts us → AllFit s ts → (r : Round) → all_sound (map asked ts) r ≡ true → all_sound (map asked us) r ≡ true
  each none f r h = refl
  each (more c d) f r h = let p = half h in let q = half p.0 in let x = keep c f.0 in also (also (private_at c q.0) (x.keeps r q.1)) (each d f.1 r p.1)

  fields_keep : {ss : List Slot} {ts us : List Node} → FieldsSet ss ts us → FieldsFit ss ts → Kept ss ts us
  fields_keep nil f = nought
  fields_keep (field c d) f = also_kept c f.0 (keep c f.0) (fields_keep d f.1)

pub sound_kept : {s : Slot} {t u : Node} → Sets s t u → Fits t s → (r : Round) → sound t r ≡ true → sound u r ≡ true
sound_kept d f r h = let x = keep d f in x.keeps r h
