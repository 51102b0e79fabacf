-- Stripping and blocks on a tree without spans; so the fixer answers what is the same but for spans with the same but for spans.
use Rattle.std.proofs.Common.{◌≡◌, Bool, true, false, not, ◌&&◌, List, [], ◌∷◌, ◌++◌, map, take, refl, sym, ap, ◌∙◌, rules}
use Rattle.std.specs.Prelude.{if◌then◌else◌}
use Rattle.std.specs.List.{flat_map, filter, list_all}
use Rattle.swc_tree_marks.specs.declared.ident.Ident.{Ident}
use Rattle.swc_tree_node.specs.declared.kind.Kind.{Kind}
use Rattle.swc_tree_node.specs.declared.kind.Kind.TheVariants as kind
use Rattle.swc_tree_node.specs.declared.node.Node.{Node, Absent, Flag, Word, Text, Span, List as Many, Identifier, Tree, the_lemmas}
use Rattle.swc_tree_node.specs.declared.node.Node.TheVariants.{rolls-Tree}
use Rattle.swc_tree_node.specs.declared.node.Node.TheOpen.{Node-F}
use Rattle.swc_tree_grammar.specs.Shapes.{items_of}
use Rattle.swc_tree_grammar.specs.Kinds.{is_paren}
use Rattle.swc_tree_grammar.specs.Spanless.{spanless, SameButForSpans}
use Rattle.swc_tree_grammar.specs.Blocks.{with_blocks, branch, block, takes_else, takes_else_step, span_of, span_step, no_span}
use Rattle.swc_tree_grammar.specs.Stripped.{stripped, strip_step, effects, is_void, is_idle, busy, parts, parts_in, front, end, settled, sequence, target, target_in, is_member}
use Rattle.swc_tree_grammar.specs.Due.{Places, with_due_pairs}
use Rattle.swc_tree_grammar.specs.Fixed.{fixed}
use Rattle.swc_tree_grammar.proofs.Induction.{Each, by_children}
use Rattle.swc_tree_grammar.proofs.Stripped.{stripped_of_tree, stripped_of_list, effects_of_list, effects_of_tree, effects_of_sequence, effects_of_void, effects_of_other, effects_of_identifier, effects_of_span}
use Rattle.swc_tree_grammar.proofs.Walks.{span_of_tree, takes_else_of_tree, blocks_of_list}
use Rattle.swc_tree_grammar_laws.proofs.Every.{every_tree, every_list}
use Rattle.swc_base_fixer_laws.specs.Once.{once_in, paired_once}
use Rattle.swc_base_fixer_laws.proofs.NormalKeptBlocks.{each_same, map_after}
use Rattle.swc_base_fixer_laws.proofs.AgainMapped.{items_mapped, void_mapped, idle_mapped, member_mapped, front_mapped, all_mapped}
use Rattle.swc_base_fixer_laws.proofs.AgainLooks.{kind_mapped}
use Rattle.swc_base_fixer_laws.proofs.AgainNamed.{block_fields, blocks_fields, spanless_of_tree, spanless_of_list, spanless_mapped}
use Rattle.swc_base_fixer_laws.proofs.AgainSpans.{nowhere, span_less, name_less}
use Rattle.swc_base_fixer_laws.proofs.AgainStarts.{due_spanless}

-- lists
map_append : (ts us : List Node) → map spanless (ts ++ us) ≡ map spanless ts ++ map spanless us
map_append [] us = refl
map_append (t ∷ ts) us = ap (λ vs. spanless t ∷ vs) (map_append ts us)

pub flat_same : (f : Node → List Node) → ((t : Node) → f (spanless t) ≡ map spanless (f t)) → (ts : List Node) → flat_map f (map spanless ts) ≡ map spanless (flat_map f ts)
flat_same f h [] = refl
flat_same f h (t ∷ ts) = rw (h t, flat_same f h ts) (sym (map_append (f t) (flat_map f ts)))

filter_if : (b : Bool) (t : Node) (ts us : List Node) → us ≡ map spanless ts → (if b then spanless t ∷ us else us) ≡ map spanless (if b then t ∷ ts else ts)
filter_if true t ts us e = ap (λ us. spanless t ∷ us) e
filter_if false t ts us e = e

filter_same : (q : Node → Bool) → ((t : Node) → q (spanless t) ≡ q t) → (ts : List Node) → filter q (map spanless ts) ≡ map spanless (filter q ts)
filter_same q h [] = refl
filter_same q h (t ∷ ts) = ap (λ b. if b then spanless t ∷ filter q (map spanless ts) else filter q (map spanless ts)) (h t) ∙ filter_if (q t) t (filter q ts) (filter q (map spanless ts)) (filter_same q h ts)

take_same : (ts : List Node) → take 1 (map spanless ts) ≡ map spanless (take 1 ts)
take_same [] = refl
take_same (t ∷ ts) = refl

end_same : (ts : List Node) → end (map spanless ts) ≡ map spanless (end ts)
end_same [] = refl
end_same (t ∷ []) = refl
end_same (t ∷ u ∷ ts) = end_same (u ∷ ts)

-- sequences
idle_same : (t : Node) → is_idle (spanless t) ≡ is_idle t
idle_same t = idle_mapped spanless_mapped t

busy_if : (b : Bool) (es : List Node) → (if b then take 1 (map spanless es) else filter (λ e. not (is_idle e)) (map spanless es)) ≡ map spanless (if b then take 1 es else filter (λ e. not (is_idle e)) es)
busy_if true es = take_same es
busy_if false es = filter_same (λ e. not (is_idle e)) (λ t. ap not (idle_same t)) es

busy_same : (es : List Node) → busy (map spanless es) ≡ map spanless (busy es)
busy_same es = ap (λ b. if b then take 1 (map spanless es) else filter (λ e. not (is_idle e)) (map spanless es)) (all_mapped is_idle idle_same es) ∙ busy_if (list_all is_idle es) es

parts_of_tree : (k : Kind) (ts : List Node) → parts (Tree k ts) ≡ parts_in (Tree k ts) (Node-F.Tree k ts)
parts_of_tree k ts = search (rules, the_lemmas)

parts_row : (k : Kind) (ts : List Node) → parts_in (Tree k (map spanless ts)) (Node-F.Tree k (map spanless ts)) ≡ map spanless (parts_in (Tree k ts) (Node-F.Tree k ts))
parts_row kind.SeqExpr (s ∷ e ∷ []) = items_mapped spanless_mapped e
parts_row k ts = ap (λ t. t ∷ []) (sym (spanless_of_tree k ts))

alone : (f : Node → List Node) (t u : Node) → spanless t ≡ u → f u ≡ u ∷ [] → f t ≡ t ∷ [] → f (spanless t) ≡ map spanless (f t)
alone f t u e g h = ap f e ∙ g ∙ ap (λ u. u ∷ []) (sym e) ∙ sym (ap (map spanless) h)

parts_same : (t : Node) → parts (spanless t) ≡ map spanless (parts t)
parts_same t = by_children (λ t. parts (spanless t) ≡ map spanless (parts t)) (
  alone parts Absent Absent (search (rules, the_lemmas)) (search (rules, the_lemmas)) (search (rules, the_lemmas)),
  λ x. alone parts (Flag x) (Flag x) (search (rules, the_lemmas)) (search (rules, the_lemmas)) (search (rules, the_lemmas)),
  λ w. alone parts (Word w) (Word w) (search (rules, the_lemmas)) (search (rules, the_lemmas)) (search (rules, the_lemmas)),
  λ x. alone parts (Text x) (Text x) (search (rules, the_lemmas)) (search (rules, the_lemmas)) (search (rules, the_lemmas)),
  λ s. alone parts (Span s) (Span no_span) (span_less s) (search (rules, the_lemmas)) (search (rules, the_lemmas)),
  λ k i. alone parts (Identifier k i) (Identifier k (record i { span = no_span })) (name_less k i) (search (rules, the_lemmas)) (search (rules, the_lemmas)),
)
    (λ ts l. alone parts (Many ts) (Many (map spanless ts)) (spanless_of_list ts) (search (rules, the_lemmas)) (search (rules, the_lemmas)))
    (λ k ts l. ap parts (spanless_of_tree k ts) ∙ parts_of_tree k (map spanless ts) ∙ parts_row k ts ∙ sym (ap (map spanless) (parts_of_tree k ts))) t

abbrev Left : Node → Type 0
Left t = effects (spanless t) ≡ map spanless (effects t)

each_left : (ts : List Node) → Each Left ts → flat_map effects (map spanless ts) ≡ map spanless (flat_map effects ts)
each_left [] l = refl
each_left (t ∷ ts) l = rw (l.0, each_left ts l.1) (sym (map_append (effects t) (flat_map effects ts)))

void_if : (b : Bool) (s o a : Node) → is_void o ≡ b → Left a → effects (Tree kind.UnaryExpr (spanless s ∷ spanless o ∷ spanless a ∷ [])) ≡ map spanless (effects (Tree kind.UnaryExpr (s ∷ o ∷ a ∷ [])))
void_if true s o a e l = effects_of_void (spanless s) (spanless o) (spanless a) (void_mapped spanless_mapped o ∙ e) ∙ l ∙ sym (ap (map spanless) (effects_of_void s o a e))
void_if false s o a e l =
    effects_of_other (spanless s) (spanless o) (spanless a) (void_mapped spanless_mapped o ∙ e) ∙ ap (λ t. t ∷ []) (sym (spanless_of_tree kind.UnaryExpr (s ∷ o ∷ a ∷ [])))
    ∙ sym (ap (map spanless) (effects_of_other s o a e))

left_row : (k : Kind) (ts : List Node) → Each Left ts → effects (Tree k (map spanless ts)) ≡ map spanless (effects (Tree k ts))
left_row kind.SeqExpr (s ∷ e ∷ []) l = effects_of_sequence (spanless s) (spanless e) ∙ l.1.0 ∙ sym (ap (map spanless) (effects_of_sequence s e))
left_row kind.UnaryExpr (s ∷ o ∷ a ∷ []) l = void_if (is_void o) s o a refl l.1.1.0
left_row k ts l = effects_of_tree k (map spanless ts) ∙ ap (λ t. t ∷ []) (sym (spanless_of_tree k ts)) ∙ sym (ap (map spanless) (effects_of_tree k ts))

effects_same : (t : Node) → Left t
effects_same t = by_children Left (
  alone effects Absent Absent (search (rules, the_lemmas)) (search (rules, the_lemmas)) (search (rules, the_lemmas)),
  λ x. alone effects (Flag x) (Flag x) (search (rules, the_lemmas)) (search (rules, the_lemmas)) (search (rules, the_lemmas)),
  λ w. alone effects (Word w) (Word w) (search (rules, the_lemmas)) (search (rules, the_lemmas)) (search (rules, the_lemmas)),
  λ x. alone effects (Text x) (Text x) (search (rules, the_lemmas)) (search (rules, the_lemmas)) (search (rules, the_lemmas)),
  λ s. alone effects (Span s) (Span no_span) (span_less s) (effects_of_span no_span) (effects_of_span s),
  λ k i. alone effects (Identifier k i) (Identifier k (record i { span = no_span })) (name_less k i) (effects_of_identifier k (record i { span = no_span })) (effects_of_identifier k i),
)
    (λ ts l. ap effects (spanless_of_list ts) ∙ effects_of_list (map spanless ts) ∙ each_left ts l ∙ sym (ap (map spanless) (effects_of_list ts)))
    (λ k ts l. ap effects (spanless_of_tree k ts) ∙ left_row k ts l) t

settled_same : (es : List Node) → settled (map spanless es) ≡ map spanless (settled es)
settled_same es =
    ap (λ us. busy (flat_map effects us) ++ end (map spanless es)) (front_mapped spanless es)
    ∙ ap (λ us. busy us ++ end (map spanless es)) (flat_same effects effects_same (front es))
    ∙ ap (λ us. us ++ end (map spanless es)) (busy_same (flat_map effects (front es)))
    ∙ ap (λ us. map spanless (busy (flat_map effects (front es))) ++ us) (end_same es)
    ∙ sym (map_append (busy (flat_map effects (front es))) (end es))

whole_sequence : (s : Node) (es : List Node) → Tree kind.SeqExpr (spanless s ∷ Many (map spanless es) ∷ []) ≡ spanless (Tree kind.SeqExpr (s ∷ Many es ∷ []))
whole_sequence s es = ap (λ u. Tree kind.SeqExpr (spanless s ∷ u ∷ [])) (sym (spanless_of_list es)) ∙ sym (spanless_of_tree kind.SeqExpr (s ∷ Many es ∷ []))

sequence_same : (s : Node) (es : List Node) → sequence (spanless s) (map spanless es) ≡ spanless (sequence s es)
sequence_same s [] = whole_sequence s []
sequence_same s (e ∷ []) = refl
sequence_same s (e ∷ d ∷ es) = whole_sequence s (e ∷ d ∷ es)

-- targets
target_of_name : (k : Kind) (i : Ident) → target (Identifier k i) ≡ target_in (Identifier k i) (Node-F.Identifier k i)
target_of_name k i = search (rules, the_lemmas)

name_row : (k : Kind) (i : Ident) → target_in (Identifier k (record i { span = no_span })) (Node-F.Identifier k (record i { span = no_span })) ≡ spanless (target_in (Identifier k i) (Node-F.Identifier k i))
name_row kind.Ident i = sym (name_less kind.BindingIdent i)
name_row k i = sym (name_less k i)

same_target : (t u : Node) → spanless t ≡ u → target u ≡ u → target t ≡ t → target (spanless t) ≡ spanless (target t)
same_target t u e g h = ap target e ∙ g ∙ sym e ∙ ap spanless (sym h)

target_same : (t : Node) → target (spanless t) ≡ spanless (target t)
target_same t = by_children (λ t. target (spanless t) ≡ spanless (target t)) (
  same_target Absent Absent (search (rules, the_lemmas)) (search (rules, the_lemmas)) (search (rules, the_lemmas)),
  λ x. same_target (Flag x) (Flag x) (search (rules, the_lemmas)) (search (rules, the_lemmas)) (search (rules, the_lemmas)),
  λ w. same_target (Word w) (Word w) (search (rules, the_lemmas)) (search (rules, the_lemmas)) (search (rules, the_lemmas)),
  λ x. same_target (Text x) (Text x) (search (rules, the_lemmas)) (search (rules, the_lemmas)) (search (rules, the_lemmas)),
  λ s. same_target (Span s) (Span no_span) (span_less s) (search (rules, the_lemmas)) (search (rules, the_lemmas)),
  λ k i. ap target (name_less k i) ∙ target_of_name k (record i { span = no_span }) ∙ name_row k i ∙ ap spanless (sym (target_of_name k i)),
)
    (λ ts l. same_target (Many ts) (Many (map spanless ts)) (spanless_of_list ts) (search (rules, the_lemmas)) (search (rules, the_lemmas)))
    (λ k ts l. same_target (Tree k ts) (Tree k (map spanless ts)) (spanless_of_tree k ts) (search (rules, the_lemmas)) (search (rules, the_lemmas))) t

strip_row : (k : Kind) (us : List Node) → strip_step (Node-F.Tree k (map spanless us)) ≡ spanless (strip_step (Node-F.Tree k us))
strip_row kind.ParenExpr (s ∷ e ∷ []) = refl
strip_row kind.SeqExpr (s ∷ e ∷ []) =
    ap (λ us. sequence (spanless s) (settled (flat_map parts us))) (items_mapped spanless_mapped e) ∙ ap (λ us. sequence (spanless s) (settled us)) (flat_same parts parts_same (items_of e))
    ∙ ap (sequence (spanless s)) (settled_same (flat_map parts (items_of e))) ∙ sequence_same s (settled (flat_map parts (items_of e)))
strip_row kind.AssignExpr (s ∷ o ∷ l ∷ r ∷ []) = ap (λ u. Tree kind.AssignExpr (spanless s ∷ spanless o ∷ u ∷ spanless r ∷ [])) (target_same l) ∙ sym (spanless_of_tree kind.AssignExpr (s ∷ o ∷ target l ∷ r ∷ []))
strip_row kind.Class (s ∷ c ∷ b ∷ []) =
    let ms : List Node = filter is_member (items_of b) in
    ap (λ us. Tree kind.Class (spanless s ∷ spanless c ∷ Many (filter is_member us) ∷ [])) (items_mapped spanless_mapped b)
    ∙ ap (λ us. Tree kind.Class (spanless s ∷ spanless c ∷ Many us ∷ [])) (filter_same is_member (member_mapped spanless_mapped) (items_of b))
    ∙ ap (λ u. Tree kind.Class (spanless s ∷ spanless c ∷ u ∷ [])) (sym (spanless_of_list ms)) ∙ sym (spanless_of_tree kind.Class (s ∷ c ∷ Many ms ∷ []))
strip_row k us = rolls-Tree k (map spanless us) ∙ sym (ap spanless (rolls-Tree k us) ∙ spanless_of_tree k us)

abbrev Stripped : Node → Type 0
Stripped t = stripped (spanless t) ≡ spanless (stripped t)

each_stripped : (ts : List Node) → Each Stripped ts → map stripped (map spanless ts) ≡ map spanless (map stripped ts)
each_stripped [] l = refl
each_stripped (t ∷ ts) l = rw (l.0, each_stripped ts l.1) refl

pub stripped_spanless : (t : Node) → Stripped t
stripped_spanless t = by_children Stripped
    (search (rules, the_lemmas), λ x. search (rules, the_lemmas), λ w. search (rules, the_lemmas), λ x. search (rules, the_lemmas), λ s. search (rules, the_lemmas), λ k i. search (rules, the_lemmas))
    (λ ts l. ap stripped (spanless_of_list ts) ∙ stripped_of_list (map spanless ts) ∙ ap Many (each_stripped ts l) ∙ sym (ap spanless (stripped_of_list ts) ∙ spanless_of_list (map stripped ts)))
    (λ k ts l.
    ap stripped (spanless_of_tree k ts) ∙ stripped_of_tree k (map spanless ts) ∙ ap (λ us. strip_step (Node-F.Tree k us)) (each_stripped ts l)
    ∙ strip_row k (map stripped ts) ∙ ap spanless (sym (stripped_of_tree k ts))) t

-- blocks
pub takes_same : (t : Node) → takes_else (spanless t) ≡ takes_else t
takes_same t = by_children (λ t. takes_else (spanless t) ≡ takes_else t)
    (search (rules, the_lemmas), λ x. search (rules, the_lemmas), λ w. search (rules, the_lemmas), λ x. search (rules, the_lemmas), λ s. search (rules, the_lemmas), λ k i. search (rules, the_lemmas))
    (λ ts l. search (rules, the_lemmas))
    (λ k ts l.
    ap takes_else (spanless_of_tree k ts) ∙ takes_else_of_tree k (map spanless ts)
    ∙ ap (λ bs. takes_else_step (Node-F.Tree k bs)) (map_after takes_else spanless ts ∙ each_same (λ t. takes_else (spanless t)) takes_else ts l) ∙ sym (takes_else_of_tree k ts)) t

abbrev nowhere_at : Node → Type 0
nowhere_at t = span_of (spanless t) ≡ no_span

each_nowhere : (ts : List Node) → Each nowhere_at ts → map span_of (map spanless ts) ≡ map (λ t. no_span) ts
each_nowhere ts l = map_after span_of spanless ts ∙ each_same (λ t. span_of (spanless t)) (λ t. no_span) ts l

no_fields : (k : Kind) → span_step (Node-F.Tree k []) ≡ no_span
no_fields kind.FnExpr = refl
no_fields kind.ClassExpr = refl
no_fields k = refl

span_row : (k : Kind) (ts : List Node) → span_step (Node-F.Tree k (map (λ t. no_span) ts)) ≡ no_span
span_row k [] = no_fields k
span_row kind.FnExpr (i ∷ f ∷ []) = refl
span_row kind.ClassExpr (i ∷ c ∷ []) = refl
span_row k (t ∷ ts) = refl

spans_nowhere : (t : Node) → nowhere_at t
spans_nowhere t = by_children nowhere_at
    (search (rules, the_lemmas), λ x. search (rules, the_lemmas), λ w. search (rules, the_lemmas), λ x. search (rules, the_lemmas), λ s. search (rules, the_lemmas), λ k i. search (rules, the_lemmas))
    (λ ts l. search (rules, the_lemmas))
    (λ k ts l. ap span_of (spanless_of_tree k ts) ∙ span_of_tree k (map spanless ts) ∙ ap (λ ss. span_step (Node-F.Tree k ss)) (each_nowhere ts l) ∙ span_row k ts) t

spanless_block : (c : Node) → spanless (block c) ≡ Tree kind.BlockStmt (Span no_span ∷ Many (spanless c ∷ []) ∷ [])
spanless_block c = search (rules, the_lemmas)

branch_if : (b : Bool) (c : Node) → (if b then block (spanless c) else spanless c) ≡ spanless (if b then block c else c)
branch_if true c = ap (λ r. Tree kind.BlockStmt (Span r ∷ Many (spanless c ∷ []) ∷ [])) (spans_nowhere c) ∙ sym (spanless_block c)
branch_if false c = refl

branch_same : (c : Node) → branch (spanless c) ≡ spanless (branch c)
branch_same c = ap (λ b. if b then block (spanless c) else spanless c) (takes_same c) ∙ branch_if (takes_else c) c

fields_row : (k : Kind) (us : List Node) → block_fields k (map spanless us) ≡ map spanless (block_fields k us)
fields_row kind.IfStmt (s ∷ t ∷ c ∷ a ∷ []) = ap (λ u. spanless s ∷ spanless t ∷ u ∷ spanless a ∷ []) (branch_same c)
fields_row k us = refl

abbrev Blocked : Node → Type 0
Blocked t = with_blocks (spanless t) ≡ spanless (with_blocks t)

each_blocked : (ts : List Node) → Each Blocked ts → map with_blocks (map spanless ts) ≡ map spanless (map with_blocks ts)
each_blocked [] l = refl
each_blocked (t ∷ ts) l = rw (l.0, each_blocked ts l.1) refl

pub blocks_spanless : (t : Node) → Blocked t
blocks_spanless t = by_children Blocked
    (search (rules, the_lemmas), λ x. search (rules, the_lemmas), λ w. search (rules, the_lemmas), λ x. search (rules, the_lemmas), λ s. search (rules, the_lemmas), λ k i. search (rules, the_lemmas))
    (λ ts l. ap with_blocks (spanless_of_list ts) ∙ blocks_of_list (map spanless ts) ∙ ap Many (each_blocked ts l) ∙ sym (ap spanless (blocks_of_list ts) ∙ spanless_of_list (map with_blocks ts)))
    (λ k ts l.
    ap with_blocks (spanless_of_tree k ts) ∙ blocks_fields k (map spanless ts) ∙ ap (λ us. Tree k (block_fields k us)) (each_blocked ts l) ∙ ap (Tree k) (fields_row k (map with_blocks ts))
    ∙ sym (ap spanless (blocks_fields k ts) ∙ spanless_of_tree k (block_fields k (map with_blocks ts)))) t

-- the answer
pub fixed_spanless : (p : Places) (t : Node) → fixed nowhere (spanless t) ≡ spanless (fixed p t)
fixed_spanless p t = ap (λ u. with_due_pairs nowhere (with_blocks u)) (stripped_spanless t) ∙ ap (with_due_pairs nowhere) (blocks_spanless (stripped t)) ∙ due_spanless p (with_blocks (stripped t))

pub fixed_same : (p q : Places) (t u : Node) → SameButForSpans t u → SameButForSpans (fixed p t) (fixed q u)
fixed_same p q t u e = sym (fixed_spanless p t) ∙ ap (fixed nowhere) e ∙ fixed_spanless q u

-- pairs in pairs are seen without spans
once_row : (k : Kind) (ts : List Node) → once_in (Node-F.Tree k (map spanless ts)) ≡ once_in (Node-F.Tree k ts)
once_row kind.ParenExpr (s ∷ e ∷ []) = ap not (kind_mapped spanless_mapped is_paren e)
once_row k ts = refl

abbrev Once : Node → Type 0
Once t = paired_once (spanless t) ≡ paired_once t

each_once : (ts : List Node) → Each Once ts → list_all paired_once (map spanless ts) ≡ list_all paired_once ts
each_once [] l = refl
each_once (t ∷ ts) l = rw (l.0, each_once ts l.1) refl

pub once_spanless : (t : Node) → Once t
once_spanless t = by_children Once
    (search (rules, the_lemmas), λ x. search (rules, the_lemmas), λ w. search (rules, the_lemmas), λ x. search (rules, the_lemmas), λ s. search (rules, the_lemmas), λ k i. search (rules, the_lemmas))
    (λ ts l. ap paired_once (spanless_of_list ts) ∙ every_list once_in (map spanless ts) ∙ each_once ts l ∙ sym (every_list once_in ts))
    (λ k ts l.
    ap paired_once (spanless_of_tree k ts) ∙ every_tree once_in k (map spanless ts) ∙ ap (λ b. b && list_all paired_once (map spanless ts)) (once_row k ts)
    ∙ ap (λ b. once_in (Node-F.Tree k ts) && b) (each_once ts l) ∙ sym (every_tree once_in k ts)) t
