-- What is stripped has its contexts emptied as the tree has.
use Rattle.std.proofs.Common.{◌≡◌, Bool, true, false, not, List, [], ◌∷◌, ◌++◌, map, take, refl, sym, ap, ◌∙◌, rules}
use Rattle.std.specs.Prelude.{if◌then◌else◌}
use Rattle.std.specs.List.{flat_map, filter, list_all}
use Rattle.swc_tree_marks.specs.declared.ident.Ident.{Ident}
use Rattle.swc_tree_node.specs.declared.kind.Kind.{Kind}
use Rattle.swc_tree_node.specs.declared.kind.Kind.TheVariants as kind
use Rattle.swc_tree_node.specs.declared.node.Node.{Node, Absent, Flag, Word, Text, Span, List as Many, Identifier, Tree, the_lemmas}
use Rattle.swc_tree_node.specs.declared.node.Node.TheVariants.{rolls-Tree}
use Rattle.swc_tree_node.specs.declared.node.Node.TheOpen.{Node-F}
use Rattle.swc_tree_scoping.specs.Readings.{by_texts}
use Rattle.swc_tree_grammar.specs.Shapes.{items_of}
use Rattle.swc_tree_grammar.specs.Stripped.{stripped, strip_step, effects, is_void, is_void_in, is_idle, is_idle_in, busy, parts, parts_in, front, end, settled, sequence, target, target_in, is_member, is_empty_in}
use Rattle.swc_tree_grammar.proofs.Induction.{Each, by_children}
use Rattle.swc_tree_grammar.proofs.Stripped.{stripped_of_tree, stripped_of_list, effects_of_list, effects_of_tree, effects_of_sequence, effects_of_void, effects_of_other, effects_of_identifier, effects_of_span}
use Rattle.swc_tree_grammar_texts.proofs.Cleared.{bare, text_span, text_name, text_list, text_tree, look, items_same, all_same}

void_same : (t : Node) → is_void (by_texts t) ≡ is_void t
void_same t = look Bool is_void_in (λ k i. refl) (λ ts. refl) (λ k ts. refl) t

empty_row : (k : Kind) (ts : List Node) → is_empty_in (Node-F.Tree k (map by_texts ts)) ≡ is_empty_in (Node-F.Tree k ts)
empty_row kind.EmptyStmt ts = refl
empty_row k ts = refl

member_same : (t : Node) → is_member (by_texts t) ≡ is_member t
member_same t = ap not (look Bool is_empty_in (λ k i. refl) (λ ts. refl) empty_row t)

front_same : (ts : List Node) → front (map by_texts ts) ≡ map by_texts (front ts)
front_same [] = refl
front_same (t ∷ []) = refl
front_same (t ∷ u ∷ ts) = ap (λ us. by_texts t ∷ us) (front_same (u ∷ ts))

-- lists
map_append : (ts us : List Node) → map by_texts (ts ++ us) ≡ map by_texts ts ++ map by_texts us
map_append [] us = refl
map_append (t ∷ ts) us = ap (λ vs. by_texts t ∷ vs) (map_append ts us)

pub flat_same : (f : Node → List Node) → ((t : Node) → f (by_texts t) ≡ map by_texts (f t)) → (ts : List Node) → flat_map f (map by_texts ts) ≡ map by_texts (flat_map f ts)
flat_same f h [] = refl
flat_same f h (t ∷ ts) = rw (h t, flat_same f h ts) (sym (map_append (f t) (flat_map f ts)))

filter_if : (b : Bool) (t : Node) (ts us : List Node) → us ≡ map by_texts ts → (if b then by_texts t ∷ us else us) ≡ map by_texts (if b then t ∷ ts else ts)
filter_if true t ts us e = ap (λ us. by_texts t ∷ us) e
filter_if false t ts us e = e

filter_same : (q : Node → Bool) → ((t : Node) → q (by_texts t) ≡ q t) → (ts : List Node) → filter q (map by_texts ts) ≡ map by_texts (filter q ts)
filter_same q h [] = refl
filter_same q h (t ∷ ts) = ap (λ b. if b then by_texts t ∷ filter q (map by_texts ts) else filter q (map by_texts ts)) (h t) ∙ filter_if (q t) t (filter q ts) (filter q (map by_texts ts)) (filter_same q h ts)

take_same : (ts : List Node) → take 1 (map by_texts ts) ≡ map by_texts (take 1 ts)
take_same [] = refl
take_same (t ∷ ts) = refl

end_same : (ts : List Node) → end (map by_texts ts) ≡ map by_texts (end ts)
end_same [] = refl
end_same (t ∷ []) = refl
end_same (t ∷ u ∷ ts) = end_same (u ∷ ts)

-- sequences
idle_same : (t : Node) → is_idle (by_texts t) ≡ is_idle t
idle_same t = look Bool is_idle_in (λ k i. refl) (λ ts. refl) (λ k ts. refl) t

busy_if : (b : Bool) (es : List Node) → (if b then take 1 (map by_texts es) else filter (λ e. not (is_idle e)) (map by_texts es)) ≡ map by_texts (if b then take 1 es else filter (λ e. not (is_idle e)) es)
busy_if true es = take_same es
busy_if false es = filter_same (λ e. not (is_idle e)) (λ t. ap not (idle_same t)) es

busy_same : (es : List Node) → busy (map by_texts es) ≡ map by_texts (busy es)
busy_same es = ap (λ b. if b then take 1 (map by_texts es) else filter (λ e. not (is_idle e)) (map by_texts es)) (all_same is_idle idle_same es) ∙ busy_if (list_all is_idle es) es

parts_of_tree : (k : Kind) (ts : List Node) → parts (Tree k ts) ≡ parts_in (Tree k ts) (Node-F.Tree k ts)
parts_of_tree k ts = search (rules, the_lemmas)

parts_row : (k : Kind) (ts : List Node) → parts_in (Tree k (map by_texts ts)) (Node-F.Tree k (map by_texts ts)) ≡ map by_texts (parts_in (Tree k ts) (Node-F.Tree k ts))
parts_row kind.SeqExpr (s ∷ e ∷ []) = items_same e
parts_row k ts = ap (λ t. t ∷ []) (sym (text_tree k ts))

alone : (f : Node → List Node) (t u : Node) → by_texts t ≡ u → f u ≡ u ∷ [] → f t ≡ t ∷ [] → f (by_texts t) ≡ map by_texts (f t)
alone f t u e g h = ap f e ∙ g ∙ ap (λ u. u ∷ []) (sym e) ∙ sym (ap (map by_texts) h)

parts_same : (t : Node) → parts (by_texts t) ≡ map by_texts (parts t)
parts_same t = by_children (λ t. parts (by_texts t) ≡ map by_texts (parts t)) (
  alone parts Absent Absent (search (rules, the_lemmas)) (search (rules, the_lemmas)) (search (rules, the_lemmas)),
  λ x. alone parts (Flag x) (Flag x) (search (rules, the_lemmas)) (search (rules, the_lemmas)) (search (rules, the_lemmas)),
  λ w. alone parts (Word w) (Word w) (search (rules, the_lemmas)) (search (rules, the_lemmas)) (search (rules, the_lemmas)),
  λ x. alone parts (Text x) (Text x) (search (rules, the_lemmas)) (search (rules, the_lemmas)) (search (rules, the_lemmas)),
  λ s. alone parts (Span s) (Span s) (text_span s) (search (rules, the_lemmas)) (search (rules, the_lemmas)),
  λ k i. alone parts (Identifier k i) (Identifier k (bare i)) (text_name k i) (search (rules, the_lemmas)) (search (rules, the_lemmas)),
)
    (λ ts l. alone parts (Many ts) (Many (map by_texts ts)) (text_list ts) (search (rules, the_lemmas)) (search (rules, the_lemmas)))
    (λ k ts l. ap parts (text_tree k ts) ∙ parts_of_tree k (map by_texts ts) ∙ parts_row k ts ∙ sym (ap (map by_texts) (parts_of_tree k ts))) t

abbrev Left : Node → Type 0
Left t = effects (by_texts t) ≡ map by_texts (effects t)

each_left : (ts : List Node) → Each Left ts → flat_map effects (map by_texts ts) ≡ map by_texts (flat_map effects ts)
each_left [] l = refl
each_left (t ∷ ts) l = rw (l.0, each_left ts l.1) (sym (map_append (effects t) (flat_map effects ts)))

void_if : (b : Bool) (s o a : Node) → is_void o ≡ b → Left a → effects (Tree kind.UnaryExpr (by_texts s ∷ by_texts o ∷ by_texts a ∷ [])) ≡ map by_texts (effects (Tree kind.UnaryExpr (s ∷ o ∷ a ∷ [])))
void_if true s o a e l = effects_of_void (by_texts s) (by_texts o) (by_texts a) (void_same o ∙ e) ∙ l ∙ sym (ap (map by_texts) (effects_of_void s o a e))
void_if false s o a e l =
    effects_of_other (by_texts s) (by_texts o) (by_texts a) (void_same o ∙ e) ∙ ap (λ t. t ∷ []) (sym (text_tree kind.UnaryExpr (s ∷ o ∷ a ∷ [])))
    ∙ sym (ap (map by_texts) (effects_of_other s o a e))

left_row : (k : Kind) (ts : List Node) → Each Left ts → effects (Tree k (map by_texts ts)) ≡ map by_texts (effects (Tree k ts))
left_row kind.SeqExpr (s ∷ e ∷ []) l = effects_of_sequence (by_texts s) (by_texts e) ∙ l.1.0 ∙ sym (ap (map by_texts) (effects_of_sequence s e))
left_row kind.UnaryExpr (s ∷ o ∷ a ∷ []) l = void_if (is_void o) s o a refl l.1.1.0
left_row k ts l = effects_of_tree k (map by_texts ts) ∙ ap (λ t. t ∷ []) (sym (text_tree k ts)) ∙ sym (ap (map by_texts) (effects_of_tree k ts))

effects_same : (t : Node) → Left t
effects_same t = by_children Left (
  alone effects Absent Absent (search (rules, the_lemmas)) (search (rules, the_lemmas)) (search (rules, the_lemmas)),
  λ x. alone effects (Flag x) (Flag x) (search (rules, the_lemmas)) (search (rules, the_lemmas)) (search (rules, the_lemmas)),
  λ w. alone effects (Word w) (Word w) (search (rules, the_lemmas)) (search (rules, the_lemmas)) (search (rules, the_lemmas)),
  λ x. alone effects (Text x) (Text x) (search (rules, the_lemmas)) (search (rules, the_lemmas)) (search (rules, the_lemmas)),
  λ s. alone effects (Span s) (Span s) (text_span s) (effects_of_span s) (effects_of_span s),
  λ k i. alone effects (Identifier k i) (Identifier k (bare i)) (text_name k i) (effects_of_identifier k (bare i)) (effects_of_identifier k i),
)
    (λ ts l. ap effects (text_list ts) ∙ effects_of_list (map by_texts ts) ∙ each_left ts l ∙ sym (ap (map by_texts) (effects_of_list ts)))
    (λ k ts l. ap effects (text_tree k ts) ∙ left_row k ts l) t

settled_same : (es : List Node) → settled (map by_texts es) ≡ map by_texts (settled es)
settled_same es =
    ap (λ us. busy (flat_map effects us) ++ end (map by_texts es)) (front_same es)
    ∙ ap (λ us. busy us ++ end (map by_texts es)) (flat_same effects effects_same (front es))
    ∙ ap (λ us. us ++ end (map by_texts es)) (busy_same (flat_map effects (front es)))
    ∙ ap (λ us. map by_texts (busy (flat_map effects (front es))) ++ us) (end_same es)
    ∙ sym (map_append (busy (flat_map effects (front es))) (end es))

whole_sequence : (s : Node) (es : List Node) → Tree kind.SeqExpr (by_texts s ∷ Many (map by_texts es) ∷ []) ≡ by_texts (Tree kind.SeqExpr (s ∷ Many es ∷ []))
whole_sequence s es = ap (λ u. Tree kind.SeqExpr (by_texts s ∷ u ∷ [])) (sym (text_list es)) ∙ sym (text_tree kind.SeqExpr (s ∷ Many es ∷ []))

sequence_same : (s : Node) (es : List Node) → sequence (by_texts s) (map by_texts es) ≡ by_texts (sequence s es)
sequence_same s [] = whole_sequence s []
sequence_same s (e ∷ []) = refl
sequence_same s (e ∷ d ∷ es) = whole_sequence s (e ∷ d ∷ es)

-- targets
target_of_name : (k : Kind) (i : Ident) → target (Identifier k i) ≡ target_in (Identifier k i) (Node-F.Identifier k i)
target_of_name k i = search (rules, the_lemmas)

name_row : (k : Kind) (i : Ident) → target_in (Identifier k (bare i)) (Node-F.Identifier k (bare i)) ≡ by_texts (target_in (Identifier k i) (Node-F.Identifier k i))
name_row kind.Ident i = sym (text_name kind.BindingIdent i)
name_row k i = sym (text_name k i)

same_target : (t u : Node) → by_texts t ≡ u → target u ≡ u → target t ≡ t → target (by_texts t) ≡ by_texts (target t)
same_target t u e g h = ap target e ∙ g ∙ sym e ∙ ap by_texts (sym h)

target_same : (t : Node) → target (by_texts t) ≡ by_texts (target t)
target_same t = by_children (λ t. target (by_texts t) ≡ by_texts (target t)) (
  same_target Absent Absent (search (rules, the_lemmas)) (search (rules, the_lemmas)) (search (rules, the_lemmas)),
  λ x. same_target (Flag x) (Flag x) (search (rules, the_lemmas)) (search (rules, the_lemmas)) (search (rules, the_lemmas)),
  λ w. same_target (Word w) (Word w) (search (rules, the_lemmas)) (search (rules, the_lemmas)) (search (rules, the_lemmas)),
  λ x. same_target (Text x) (Text x) (search (rules, the_lemmas)) (search (rules, the_lemmas)) (search (rules, the_lemmas)),
  λ s. same_target (Span s) (Span s) (text_span s) (search (rules, the_lemmas)) (search (rules, the_lemmas)),
  λ k i. ap target (text_name k i) ∙ target_of_name k (bare i) ∙ name_row k i ∙ ap by_texts (sym (target_of_name k i)),
)
    (λ ts l. same_target (Many ts) (Many (map by_texts ts)) (text_list ts) (search (rules, the_lemmas)) (search (rules, the_lemmas)))
    (λ k ts l. same_target (Tree k ts) (Tree k (map by_texts ts)) (text_tree k ts) (search (rules, the_lemmas)) (search (rules, the_lemmas))) t

strip_row : (k : Kind) (us : List Node) → strip_step (Node-F.Tree k (map by_texts us)) ≡ by_texts (strip_step (Node-F.Tree k us))
strip_row kind.ParenExpr (s ∷ e ∷ []) = refl
strip_row kind.SeqExpr (s ∷ e ∷ []) =
    ap (λ us. sequence (by_texts s) (settled (flat_map parts us))) (items_same e) ∙ ap (λ us. sequence (by_texts s) (settled us)) (flat_same parts parts_same (items_of e))
    ∙ ap (sequence (by_texts s)) (settled_same (flat_map parts (items_of e))) ∙ sequence_same s (settled (flat_map parts (items_of e)))
strip_row kind.AssignExpr (s ∷ o ∷ l ∷ r ∷ []) = ap (λ u. Tree kind.AssignExpr (by_texts s ∷ by_texts o ∷ u ∷ by_texts r ∷ [])) (target_same l) ∙ sym (text_tree kind.AssignExpr (s ∷ o ∷ target l ∷ r ∷ []))
strip_row kind.Class (s ∷ c ∷ b ∷ []) =
    let ms : List Node = filter is_member (items_of b) in
    ap (λ us. Tree kind.Class (by_texts s ∷ by_texts c ∷ Many (filter is_member us) ∷ [])) (items_same b)
    ∙ ap (λ us. Tree kind.Class (by_texts s ∷ by_texts c ∷ Many us ∷ [])) (filter_same is_member (member_same) (items_of b))
    ∙ ap (λ u. Tree kind.Class (by_texts s ∷ by_texts c ∷ u ∷ [])) (sym (text_list ms)) ∙ sym (text_tree kind.Class (s ∷ c ∷ Many ms ∷ []))
strip_row k us = rolls-Tree k (map by_texts us) ∙ sym (ap by_texts (rolls-Tree k us) ∙ text_tree k us)

abbrev Stripped : Node → Type 0
Stripped t = stripped (by_texts t) ≡ by_texts (stripped t)

each_stripped : (ts : List Node) → Each Stripped ts → map stripped (map by_texts ts) ≡ map by_texts (map stripped ts)
each_stripped [] l = refl
each_stripped (t ∷ ts) l = rw (l.0, each_stripped ts l.1) refl

pub stripped_texts : (t : Node) → Stripped t
stripped_texts t = by_children Stripped
    (search (rules, the_lemmas), λ x. search (rules, the_lemmas), λ w. search (rules, the_lemmas), λ x. search (rules, the_lemmas), λ s. search (rules, the_lemmas), λ k i. search (rules, the_lemmas))
    (λ ts l. ap stripped (text_list ts) ∙ stripped_of_list (map by_texts ts) ∙ ap Many (each_stripped ts l) ∙ sym (ap by_texts (stripped_of_list ts) ∙ text_list (map stripped ts)))
    (λ k ts l.
    ap stripped (text_tree k ts) ∙ stripped_of_tree k (map by_texts ts) ∙ ap (λ us. strip_step (Node-F.Tree k us)) (each_stripped ts l)
    ∙ strip_row k (map stripped ts) ∙ ap by_texts (sym (stripped_of_tree k ts))) t
