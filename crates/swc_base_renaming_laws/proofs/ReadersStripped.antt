-- A tree that can be written down reads no more once it is stripped.
use Rattle.std.proofs.Common.{◌≡◌, Bool, true, false, not, ◌&&◌, ◌||◌, ◌⊎◌, inl, inr, IsTrue, List, [], ◌∷◌, ◌++◌, map, refl, sym, ap, ◌∙◌, subst, cond, rules}
use Rattle.std.specs.Prelude.{take}
use Rattle.std.specs.List.{filter, flat_map, list_all}
use Rattle.swc_tree_marks.specs.declared.ident.Ident.{Ident}
use Rattle.swc_tree_node.specs.declared.kind.Kind.{Kind}
use Rattle.swc_tree_node.specs.declared.kind.Kind.TheVariants as kind
use Rattle.swc_tree_node.specs.declared.kind.Class.TheVariants as class
use Rattle.swc_tree_node.specs.declared.slot.Slot.{Slot}
use Rattle.swc_tree_node.specs.declared.slot.Slot.TheVariants as slot
use Rattle.swc_tree_node.specs.declared.node.Node.{Node, Absent, Flag, Word, Text, Span, List as Many, Identifier, Tree, out-Node, the_lemmas}
use Rattle.swc_tree_node.specs.declared.node.Node.TheOpen.{Node-F}
use Rattle.swc_tree_node.specs.declared.node.Node.TheVariants.{outs-Identifier, outs-Tree}
use Rattle.swc_tree_node.specs.Table.{slots_of}
use Rattle.swc_tree_node.specs.Fits.{AllFit, FieldsFit, Fits, fits}
use Rattle.swc_tree_node.proofs.Fit.{both as both_are, fits-List, tree_closes}
use Rattle.swc_tree_scoping.proofs.Remarked.{tree_is}
use Rattle.swc_tree_grammar.specs.Shapes.{items_of}
use Rattle.swc_tree_grammar.specs.Stripped.{busy, effects, end, front, is_idle, is_member, is_void, parts, parts_in, sequence, settled, stripped, target, target_in}
use Rattle.swc_tree_grammar.proofs.Induction.{Each, by_children}
use Rattle.swc_tree_grammar.proofs.Places.{one, stands}
use Rattle.swc_tree_grammar.proofs.Stripped.{effects_of_absent, effects_of_flag, effects_of_identifier, effects_of_list, effects_of_other, effects_of_sequence, effects_of_span, effects_of_text, effects_of_tree, effects_of_void, effects_of_word, stripped_of_list, stripped_of_tree, stripped_other}
use Rattle.swc_base_fixer_laws.specs.Sets.{item}
use Rattle.swc_base_fixer_laws.proofs.SetsRows.{items_open}
use Rattle.swc_base_rename_units.specs.Eval.{HasEval, is_eval}
use Rattle.swc_base_renaming_laws.specs.Readers.{StrippingAddsNoReader}
use Rattle.swc_base_renaming_laws.proofs.Calm.{AllCalm, Calm, SomeRead, calm_is, calm_list, calm_through, calm_tree, eval_out, identifier_reads, items_read, list_reads, plain_calm, reads_fields, reads_list, reads_open, some_cases}
use Rattle.swc_base_renaming_laws.proofs.Sequences.{own, safe, safe_of_list, safe_of_tree, writable_safe}

-- ---- lists of expressions

alone : (t : Node) → SomeRead (t ∷ []) → HasEval t
alone t (inl h) = h
alone t (inr h) = absurd h

filtered : (f : Node → Bool) (ts : List Node) → SomeRead (filter f ts) → SomeRead ts
filtered f [] h = h
filtered f (t ∷ ts) h = next (f t) h (filtered f ts)
  where
    next : (b : Bool) → SomeRead (cond b (t ∷ filter f ts) (filter f ts)) → (SomeRead (filter f ts) → SomeRead ts) → SomeRead (t ∷ ts)
    next true (inl h) rest = inl h
    next true (inr h) rest = inr (rest h)
    next false h rest = inr (rest h)

first_read : (ts : List Node) → SomeRead (take 1 ts) → SomeRead ts
first_read [] h = h
first_read (t ∷ ts) (inl h) = inl h
first_read (t ∷ ts) (inr h) = absurd h

busy_read : (ts : List Node) → SomeRead (busy ts) → SomeRead ts
busy_read ts h = next (list_all is_idle ts) h
  where
    next : (b : Bool) → SomeRead (cond b (take 1 ts) (filter (λ e. not (is_idle e)) ts)) → SomeRead ts
    next true h = first_read ts h
    next false h = filtered (λ e. not (is_idle e)) ts h

front_read : (ts : List Node) → SomeRead (front ts) → SomeRead ts
front_read [] h = h
front_read (t ∷ []) h = absurd h
front_read (t ∷ u ∷ ts) (inl h) = inl h
front_read (t ∷ u ∷ ts) (inr h) = inr (front_read (u ∷ ts) h)

end_read : (ts : List Node) → SomeRead (end ts) → SomeRead ts
end_read [] h = h
end_read (t ∷ []) h = h
end_read (t ∷ u ∷ ts) h = inr (end_read (u ∷ ts) h)

flat_read : (f : Node → List Node) → ((t : Node) → SomeRead (f t) → HasEval t) → (ts : List Node) → SomeRead (flat_map f ts) → SomeRead ts
flat_read f g [] h = h
flat_read f g (t ∷ ts) h = by (λ r. flat_read f g ts r) (some_cases (f t) (flat_map f ts) h)
  where
    by : (SomeRead (flat_map f ts) → SomeRead ts) → SomeRead (f t) ⊎ SomeRead (flat_map f ts) → SomeRead (t ∷ ts)
    by rest (inl h) = inl (g t h)
    by rest (inr h) = inr (rest h)

-- what is left of an expression where its value is dropped
abbrev Drops : Node → Type 0
Drops t = SomeRead (effects t) → HasEval t

each_drops : (ts : List Node) → Each Drops ts → SomeRead (flat_map effects ts) → SomeRead ts
each_drops [] l h = h
each_drops (t ∷ ts) l h = by (λ r. each_drops ts l.1 r) (some_cases (effects t) (flat_map effects ts) h)
  where
    by : (SomeRead (flat_map effects ts) → SomeRead ts) → SomeRead (effects t) ⊎ SomeRead (flat_map effects ts) → SomeRead (t ∷ ts)
    by rest (inl h) = inl (l.0 h)
    by rest (inr h) = inr (rest h)

void_drops : (b : Bool) (span op arg : Node) → is_void op ≡ b → Drops arg → Drops (Tree kind.UnaryExpr (span ∷ op ∷ arg ∷ []))
void_drops true span op arg e l h = reads_fields kind.UnaryExpr (span ∷ op ∷ arg ∷ []) (inr (inr (inl (l (subst SomeRead (effects_of_void span op arg e) h)))))
void_drops false span op arg e l h = alone (Tree kind.UnaryExpr (span ∷ op ∷ arg ∷ [])) (subst SomeRead (effects_of_other span op arg e) h)

tree_drops : (k : Kind) (ts : List Node) → Each Drops ts → Drops (Tree k ts)
tree_drops kind.SeqExpr (span ∷ exprs ∷ []) l h = reads_fields kind.SeqExpr (span ∷ exprs ∷ []) (inr (inl (l.1.0 (subst SomeRead (effects_of_sequence span exprs) h))))
tree_drops kind.UnaryExpr (span ∷ op ∷ arg ∷ []) l h = void_drops (is_void op) span op arg refl l.1.1.0 h
tree_drops k ts l h = alone (Tree k ts) (subst SomeRead (effects_of_tree k ts) h)

drops : (t : Node) → Drops t
drops t = by_children Drops (
  λ h. alone _ (subst SomeRead effects_of_absent h),
  λ x h. alone _ (subst SomeRead (effects_of_flag x) h),
  λ w h. alone _ (subst SomeRead (effects_of_word w) h),
  λ x h. alone _ (subst SomeRead (effects_of_text x) h),
  λ s h. alone _ (subst SomeRead (effects_of_span s) h),
  λ k i h. alone _ (subst SomeRead (effects_of_identifier k i) h),
)
    (λ ts l h. reads_list ts (each_drops ts l (subst SomeRead (effects_of_list ts) h))) tree_drops t

settled_read : (ts : List Node) → SomeRead (settled ts) → SomeRead ts
settled_read ts h = by (some_cases (busy (flat_map effects (front ts))) (end ts) h)
  where
    by : SomeRead (busy (flat_map effects (front ts))) ⊎ SomeRead (end ts) → SomeRead ts
    by (inl h) = front_read ts (flat_read effects drops (front ts) (busy_read (flat_map effects (front ts)) h))
    by (inr h) = end_read ts h

-- what an expression adds to a sequence
parts_read : (t : Node) → SomeRead (parts t) → HasEval t
parts_read t h = by (out-Node t) refl h
  where
    by : (y : Node-F Node) → out-Node t ≡ y → SomeRead (parts_in t y) → HasEval t
    by (Node-F.Tree kind.SeqExpr (span ∷ exprs ∷ [])) o h = subst HasEval (sym (tree_is t kind.SeqExpr (span ∷ exprs ∷ []) o)) (reads_fields kind.SeqExpr (span ∷ exprs ∷ []) (inr (inl (items_read exprs h))))
    by (Node-F.Tree kind.SeqExpr []) o h = alone t h
    by (Node-F.Tree kind.SeqExpr (a ∷ [])) o h = alone t h
    by (Node-F.Tree kind.SeqExpr (a ∷ b ∷ c ∷ ts)) o h = alone t h
    by (Node-F.Tree k ts) o h = alone t h
    by (Node-F.List ts) o h = alone t h
    by (Node-F.Identifier k i) o h = alone t h
    by Node-F.Absent o h = alone t h
    by (Node-F.Flag x) o h = alone t h
    by (Node-F.Word x) o h = alone t h
    by (Node-F.Text x) o h = alone t h
    by (Node-F.Span x) o h = alone t h

sequence_read : (span : Node) (ts : List Node) → HasEval (sequence span ts) → HasEval span ⊎ SomeRead ts
sequence_read span ts h = by ts h
  where
    opened : (ts : List Node) → IsTrue false ⊎ SomeRead (span ∷ Many ts ∷ []) → HasEval span ⊎ SomeRead ts
    opened ts (inl h) = absurd (cc)
    opened ts (inr (inl h)) = inl h
    opened ts (inr (inr (inl h))) = inr (list_reads ts h)
    opened ts (inr (inr (inr h))) = absurd h

    whole : (ts : List Node) → HasEval (Tree kind.SeqExpr (span ∷ Many ts ∷ [])) → HasEval span ⊎ SomeRead ts
    whole ts h = opened ts (reads_open (Tree kind.SeqExpr (span ∷ Many ts ∷ [])) (Node-F.Tree kind.SeqExpr (span ∷ Many ts ∷ [])) (outs-Tree kind.SeqExpr (span ∷ Many ts ∷ [])) h)

    by : (ts : List Node) → HasEval (sequence span ts) → HasEval span ⊎ SomeRead ts
    by [] h = whole [] h
    by (t ∷ []) h = inr (inl h)
    by (t ∷ u ∷ ts) h = whole (t ∷ u ∷ ts) h

-- a target
target_calm : (u : Node) → Calm (target u) u
target_calm u = by (out-Node u) refl
  where
    bound : (i : Ident) → Calm (Identifier kind.BindingIdent i) u
    bound i = record {
      named = λ h. (let z : true ≡ false = sym h ∙ eval_out (Identifier kind.BindingIdent i) (Node-F.Identifier kind.BindingIdent i) (outs-Identifier kind.BindingIdent i) in absurd (cc));
      reads = λ h. absurd (identifier_reads kind.BindingIdent i h);
    }

    by : (y : Node-F Node) → out-Node u ≡ y → Calm (target_in u y) u
    by (Node-F.Identifier kind.Ident i) o = bound i
    by (Node-F.Identifier kind.BindingIdent i) o = calm_is u u refl
    by (Node-F.Identifier k i) o = calm_is u u refl
    by Node-F.Absent o = calm_is u u refl
    by (Node-F.Flag x) o = calm_is u u refl
    by (Node-F.Word x) o = calm_is u u refl
    by (Node-F.Text x) o = calm_is u u refl
    by (Node-F.Span x) o = calm_is u u refl
    by (Node-F.List x) o = calm_is u u refl
    by (Node-F.Tree k x) o = calm_is u u refl

-- ---- the tree

abbrev Claim : Node → Type 0
Claim t = (s : Slot) → Fits t s → safe t ≡ true → Calm (stripped t) t

fields_calm : (ss : List Slot) (ts : List Node) → Each Claim ts → FieldsFit ss ts → list_all safe ts ≡ true → AllCalm (map stripped ts) ts
fields_calm [] [] l f h = tt
fields_calm [] (t ∷ ts) l f h = absurd f
fields_calm (s ∷ ss) [] l f h = absurd f
fields_calm (s ∷ ss) (t ∷ ts) l f h = let p = both_are (safe t) (list_all safe ts) h in (l.0 s f.0 p.0, fields_calm ss ts l.1 f.1 p.1)

items_calm : (s : Slot) (ts : List Node) → Each Claim ts → AllFit s ts → list_all safe ts ≡ true → AllCalm (map stripped ts) ts
items_calm s [] l f h = tt
items_calm s (t ∷ ts) l f h = let p = both_are (safe t) (list_all safe ts) h in (l.0 s f.0 p.0, items_calm s ts l.1 f.1 p.1)

pair_claim : (ts : List Node) → FieldsFit (slots_of kind.ParenExpr) ts → AllCalm (map stripped ts) ts → Calm (stripped (Tree kind.ParenExpr ts)) (Tree kind.ParenExpr ts)
pair_claim [] f l = absurd f
pair_claim (a ∷ []) f l = absurd f.1
pair_claim (a ∷ e ∷ []) f l = subst (λ u. Calm u (Tree kind.ParenExpr (a ∷ e ∷ []))) (sym (stripped_of_tree kind.ParenExpr (a ∷ e ∷ []))) (record {
  named = λ h. eval_out (Tree kind.ParenExpr (a ∷ e ∷ [])) (Node-F.Tree kind.ParenExpr (a ∷ e ∷ [])) (outs-Tree kind.ParenExpr (a ∷ e ∷ [])) ∙ l.1.0.named h;
  reads = λ h. reads_fields kind.ParenExpr (a ∷ e ∷ []) (inr (inl (l.1.0.reads h)));
})
pair_claim (a ∷ e ∷ b ∷ ts) f l = absurd f.1.1

no_name : (ts : List Node) → FieldsFit (slots_of kind.SeqExpr) ts → own kind.SeqExpr ts ≡ true → is_eval (stripped (Tree kind.SeqExpr ts)) ≡ true → ⊥
no_name ts f h e =
    let fit : fits (Tree kind.SeqExpr ts) (one class.Expr) ≡ true = tree_closes kind.SeqExpr ts class.Expr refl refl f in
    let z : false ≡ true = ap (λ b. not true || not b) (sym e) ∙ ap (λ b. not b || not (is_eval (stripped (Tree kind.SeqExpr ts)))) (sym fit) ∙ h in
    absurd (cc)

sequence_claim : (ts : List Node) → FieldsFit (slots_of kind.SeqExpr) ts → own kind.SeqExpr ts ≡ true → AllCalm (map stripped ts) ts → Calm (stripped (Tree kind.SeqExpr ts)) (Tree kind.SeqExpr ts)
sequence_claim [] f h l = absurd f
sequence_claim (a ∷ []) f h l = absurd f.1
sequence_claim (a ∷ e ∷ []) f h l = record {
  named = λ g. absurd (no_name (a ∷ e ∷ []) f h g);
  reads = λ g. by (sequence_read (stripped a) (settled (flat_map parts (items_of (stripped e)))) (subst HasEval (stripped_of_tree kind.SeqExpr (a ∷ e ∷ [])) g));
}
  where
    by : HasEval (stripped a) ⊎ SomeRead (settled (flat_map parts (items_of (stripped e)))) → HasEval (Tree kind.SeqExpr (a ∷ e ∷ []))
    by (inl g) = reads_fields kind.SeqExpr (a ∷ e ∷ []) (inl (l.0.reads g))
    by (inr g) = reads_fields kind.SeqExpr (a ∷ e ∷ [])
        (inr (inl (l.1.0.reads (items_read (stripped e) (flat_read parts parts_read (items_of (stripped e)) (settled_read (flat_map parts (items_of (stripped e))) g))))))
sequence_claim (a ∷ e ∷ b ∷ ts) f h l = absurd f.1.1

assignment_claim : (ts : List Node) → FieldsFit (slots_of kind.AssignExpr) ts → AllCalm (map stripped ts) ts → Calm (stripped (Tree kind.AssignExpr ts)) (Tree kind.AssignExpr ts)
assignment_claim [] f l = absurd f
assignment_claim (a ∷ []) f l = absurd f.1
assignment_claim (a ∷ o ∷ []) f l = absurd f.1.1
assignment_claim (a ∷ o ∷ e ∷ []) f l = absurd f.1.1.1
assignment_claim (a ∷ o ∷ e ∷ d ∷ []) f l = subst (λ u. Calm u (Tree kind.AssignExpr (a ∷ o ∷ e ∷ d ∷ []))) (sym (stripped_of_tree kind.AssignExpr (a ∷ o ∷ e ∷ d ∷ [])))
    (calm_tree kind.AssignExpr (stripped a ∷ stripped o ∷ target (stripped e) ∷ stripped d ∷ []) (a ∷ o ∷ e ∷ d ∷ [])
    (l.0, (l.1.0, (calm_through (target (stripped e)) (stripped e) e (target_calm (stripped e)) l.1.1.0, (l.1.1.1.0, tt)))))
assignment_claim (a ∷ o ∷ e ∷ d ∷ b ∷ ts) f l = absurd f.1.1.1.1

class_claim : (ts : List Node) → FieldsFit (slots_of kind.Class) ts → AllCalm (map stripped ts) ts → Calm (stripped (Tree kind.Class ts)) (Tree kind.Class ts)
class_claim [] f l = absurd f
class_claim (a ∷ []) f l = absurd f.1
class_claim (a ∷ b ∷ []) f l = absurd f.1.1
class_claim (a ∷ b ∷ c ∷ []) f l = subst (λ u. Calm u (Tree kind.Class (a ∷ b ∷ c ∷ []))) (sym (stripped_of_tree kind.Class (a ∷ b ∷ c ∷ [])))
    (plain_calm kind.Class (stripped a ∷ stripped b ∷ Many (filter is_member (items_of (stripped c))) ∷ []) (Tree kind.Class (a ∷ b ∷ c ∷ [])) refl (λ h. reads_fields kind.Class (a ∷ b ∷ c ∷ []) (by h)))
  where
    by : SomeRead (stripped a ∷ stripped b ∷ Many (filter is_member (items_of (stripped c))) ∷ []) → SomeRead (a ∷ b ∷ c ∷ [])
    by (inl h) = inl (l.0.reads h)
    by (inr (inl h)) = inr (inl (l.1.0.reads h))
    by (inr (inr (inl h))) =
        inr (inr (inl (l.1.1.0.reads (items_read (stripped c) (filtered is_member (items_of (stripped c)) (list_reads (filter is_member (items_of (stripped c))) h))))))
    by (inr (inr (inr h))) = absurd h
class_claim (a ∷ b ∷ c ∷ d ∷ ts) f l = absurd f.1.1.1

kind_claim : (k : Kind) (ts : List Node) → FieldsFit (slots_of k) ts → own k ts ≡ true → AllCalm (map stripped ts) ts → Calm (stripped (Tree k ts)) (Tree k ts)
kind_claim kind.ParenExpr ts f h l = pair_claim ts f l
kind_claim kind.SeqExpr ts f h l = sequence_claim ts f h l
kind_claim kind.AssignExpr ts f h l = assignment_claim ts f l
kind_claim kind.Class ts f h l = class_claim ts f l
kind_claim k ts f h l = subst (λ u. Calm u (Tree k ts)) (sym (stripped_other k ts refl)) (calm_tree k (map stripped ts) ts l)

tree_claim : (k : Kind) (ts : List Node) → Each Claim ts → Claim (Tree k ts)
tree_claim k ts l s f h =
    let w = stands k ts s f in
    let p = both_are (own k ts) (list_all safe ts) (sym (safe_of_tree k ts) ∙ h) in
    kind_claim k ts w.fields p.0 (fields_calm (slots_of k) ts l w.fields p.1)

list_claim : (ts : List Node) → Each Claim ts → Claim (Many ts)
list_claim ts l s f h = subst (λ u. Calm u (Many ts)) (sym (stripped_of_list ts)) (calm_list (map stripped ts) ts (items_calm (item s) ts l (items_open s ts (sym (fits-List ts s) ∙ f)) (sym (safe_of_list ts) ∙ h)))

stripped_calm : (t : Node) → Claim t
stripped_calm t = by_children Claim (
  λ s f h. calm_is (stripped Absent) Absent (search (rules, the_lemmas)),
  λ x s f h. calm_is (stripped (Flag x)) (Flag x) (search (rules, the_lemmas)),
  λ w s f h. calm_is (stripped (Word w)) (Word w) (search (rules, the_lemmas)),
  λ x s f h. calm_is (stripped (Text x)) (Text x) (search (rules, the_lemmas)),
  λ r s f h. calm_is (stripped (Span r)) (Span r) (search (rules, the_lemmas)),
  λ k i s f h. calm_is (stripped (Identifier k i)) (Identifier k i) (search (rules, the_lemmas)),
)
    list_claim tree_claim t

pub stripping_adds_no_reader : StrippingAddsNoReader
stripping_adds_no_reader t s f w h = (stripped_calm t s f (writable_safe t s f w)).reads h
