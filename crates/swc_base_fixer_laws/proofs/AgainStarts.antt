-- The last step of the due pairs on a tree without spans; so places of pairs change spans alone.
use Rattle.std.proofs.Common.{◌≡◌, Bool, true, false, List, [], ◌∷◌, map, refl, sym, ap, ◌∙◌, rules, true≢false}
use Rattle.std.specs.Prelude.{codes, nat_eq, if◌then◌else◌}
use Rattle.std.specs.Cmp.Lexicographic.{pointwise}
use Rattle.swc_tree_node.specs.declared.kind.Kind.{Kind}
use Rattle.swc_tree_node.specs.declared.kind.Kind.TheVariants as kind
use Rattle.swc_tree_node.specs.declared.node.Node.{Node, Absent, Flag, Word, Text, Span, List as Many, Identifier, Tree, out-Node, fold-Node, the_lemmas}
use Rattle.swc_tree_node.specs.declared.node.Node.TheVariants.{rolls-Tree}
use Rattle.swc_tree_node.specs.declared.node.Node.TheOpen.{Node-F}
use Rattle.swc_tree_grammar.specs.Kinds.{has_kind, is_paren, is_block, is_object_pattern}
use Rattle.swc_tree_grammar.specs.Grammar.{may_begin_statement, may_begin_export, may_begin_body}
use Rattle.swc_tree_grammar.specs.Spanless.{spanless, SameButForSpans}
use Rattle.swc_tree_grammar.specs.Blocks.{with_blocks, no_span}
use Rattle.swc_tree_grammar.specs.Stripped.{stripped}
use Rattle.swc_tree_grammar.specs.Fixed.{fixed}
use Rattle.swc_tree_grammar.specs.Starts.{Start, Begun, start, start_in, start_step, is_let_in, is_computed_in, is_let_bracket, let_bracket_in}
use Rattle.swc_tree_grammar.specs.Due.{Places, pair, paired_by_level, paired_in_heads, first_in, begun, begin_step, paired_at_starts, with_due_pairs}
use Rattle.swc_tree_grammar.proofs.Induction.{Each, by_children}
use Rattle.swc_tree_grammar.proofs.Wholes.{carried}
use Rattle.swc_tree_grammar_laws.proofs.Begins.{spined, first_paired, spine_whole, first_of_tree, first_empty, first_of_list, start_tree, start_list, starts_of_tree, starts_of_list}
use Rattle.swc_base_fixer_laws.proofs.AgainMapped.{is_changed, look}
use Rattle.swc_base_fixer_laws.proofs.AgainLooks.{kind_mapped, holds_mapped}
use Rattle.swc_base_fixer_laws.proofs.AgainNamed.{spanless_of_tree, spanless_of_list, spanless_mapped}
use Rattle.swc_base_fixer_laws.proofs.AgainSpans.{nowhere, span_less, name_less, pair_moves, pair_either, level_spanless, heads_spanless}

-- what a tree begins with
let_same : (t : Node) → is_let_in (out-Node (spanless t)) ≡ is_let_in (out-Node t)
let_same t = look spanless_mapped Bool is_let_in (λ s r. refl) (λ k i. ap (λ x. pointwise nat_eq x (codes "let")) (spanless_mapped.same_text i)) (λ ts. refl) (λ k ts. refl) (λ k us ts e. refl) t

computed_row : (k : Kind) (ts : List Node) → is_computed_in (Node-F.Tree k (map spanless ts)) ≡ is_computed_in (Node-F.Tree k ts)
computed_row kind.ComputedPropName (s ∷ e ∷ []) = refl
computed_row k ts = refl

computed_changed : (k : Kind) (us ts : List Node) → is_changed k ≡ true → is_computed_in (Node-F.Tree k us) ≡ is_computed_in (Node-F.Tree k ts)
computed_changed kind.IfStmt us ts e = refl
computed_changed kind.ForOfStmt us ts e = refl
computed_changed k us ts e = absurd (true≢false (sym e))

computed_same : (t : Node) → is_computed_in (out-Node (spanless t)) ≡ is_computed_in (out-Node t)
computed_same t = look spanless_mapped Bool is_computed_in (λ s r. refl) (λ k i. refl) (λ ts. refl) computed_row computed_changed t

bracket_row : (k : Kind) (ts : List Node) → let_bracket_in (Node-F.Tree k (map spanless ts)) ≡ let_bracket_in (Node-F.Tree k ts)
bracket_row kind.MemberExpr (s ∷ o ∷ m ∷ []) = rw (let_same o, computed_same m) refl
bracket_row k ts = refl

bracket_changed : (k : Kind) (us ts : List Node) → is_changed k ≡ true → let_bracket_in (Node-F.Tree k us) ≡ let_bracket_in (Node-F.Tree k ts)
bracket_changed kind.IfStmt us ts e = refl
bracket_changed kind.ForOfStmt us ts e = refl
bracket_changed k us ts e = absurd (true≢false (sym e))

pub bracket_same : (t : Node) → is_let_bracket (spanless t) ≡ is_let_bracket t
bracket_same t = look spanless_mapped Bool let_bracket_in (λ s r. refl) (λ k i. refl) (λ ts. refl) bracket_row bracket_changed t

member_same : (s o m : Node) → is_let_bracket (Tree kind.MemberExpr (spanless s ∷ spanless o ∷ spanless m ∷ [])) ≡ is_let_bracket (Tree kind.MemberExpr (s ∷ o ∷ m ∷ []))
member_same s o m = ap is_let_bracket (sym (spanless_of_tree kind.MemberExpr (s ∷ o ∷ m ∷ []))) ∙ bracket_same (Tree kind.MemberExpr (s ∷ o ∷ m ∷ []))

abbrev begun_of : Node → Begun
begun_of = fold-Node Begun start_step

begun_whole : (t : Node) → (begun_of t).whole ≡ t
begun_whole t = carried Begun start_step (λ e. e.whole) (λ x. refl) t

abbrev Begins : Node → Type 0
Begins t = start (spanless t) ≡ start t

start_row : (k : Kind) (ts : List Node) → Each Begins ts → start_in (Tree k (map spanless ts)) (Node-F.Tree k (map begun_of (map spanless ts))) ≡ start_in (Tree k ts) (Node-F.Tree k (map begun_of ts))
start_row kind.Function (s ∷ a ∷ b ∷ g ∷ x ∷ []) l = rw (begun_whole (spanless x), begun_whole x, holds_mapped spanless_mapped x) refl
start_row kind.FnExpr (i ∷ e ∷ []) l = l.1.0
start_row kind.SeqExpr (s ∷ e ∷ []) l = l.1.0
start_row kind.AssignExpr (s ∷ o ∷ e ∷ r ∷ []) l = l.1.1.0
start_row kind.CondExpr (s ∷ t ∷ c ∷ a ∷ []) l = l.1.0
start_row kind.BinExpr (s ∷ o ∷ e ∷ r ∷ []) l = l.1.1.0
start_row kind.UpdateExpr (s ∷ o ∷ f ∷ a ∷ []) l = rw (begun_whole (spanless f), begun_whole f, holds_mapped spanless_mapped f, l.1.1.1.0) refl
start_row kind.MemberExpr (s ∷ o ∷ m ∷ []) l = rw (member_same s o m, l.1.0) refl
start_row kind.CallExpr (s ∷ c ∷ a ∷ []) l = l.1.0
start_row kind.TaggedTpl (s ∷ c ∷ a ∷ []) l = l.1.0
start_row kind.OptChainExpr (s ∷ o ∷ e ∷ []) l = rw (begun_whole (spanless o), begun_whole o, begun_whole (spanless e), begun_whole e, holds_mapped spanless_mapped o, bracket_same e, l.1.1.0) refl
start_row kind.OptCall (s ∷ c ∷ a ∷ []) l = l.1.0
start_row k ts l = refl

start_items : (ts : List Node) → Each Begins ts → start (Many (map spanless ts)) ≡ start (Many ts)
start_items [] l = refl
start_items (t ∷ ts) l = start_list (spanless t) (map spanless ts) ∙ l.0 ∙ sym (start_list t ts)

pub start_same : (t : Node) → Begins t
start_same t = by_children Begins
    (search (rules, the_lemmas), λ x. search (rules, the_lemmas), λ w. search (rules, the_lemmas), λ x. search (rules, the_lemmas), λ s. search (rules, the_lemmas), λ k i. search (rules, the_lemmas))
    (λ ts l. ap start (spanless_of_list ts) ∙ start_items ts l)
    (λ k ts l. ap start (spanless_of_tree k ts) ∙ start_tree k (map spanless ts) ∙ start_row k ts l ∙ sym (start_tree k ts)) t

-- the pair round what comes first
abbrev Firsts : Places → Node → Type 0
Firsts p t = first_paired nowhere (spanless t) ≡ spanless (first_paired p t)

whole_pair : (p : Places) (k : Kind) (ts : List Node) → pair nowhere (Tree k (map spanless ts)) ≡ spanless (pair p (Tree k ts))
whole_pair p k ts = ap (pair nowhere) (sym (spanless_of_tree k ts)) ∙ sym (pair_moves p (Tree k ts))

choose : (c d : Bool) (p : Places) (k : Kind) (ts : List Node) (u v : Node) → c ≡ d → u ≡ spanless v → (if c then pair nowhere (Tree k (map spanless ts)) else u) ≡ spanless (if d then pair p (Tree k ts) else v)
choose c d p k ts u v e g = ap (λ x. if c then pair nowhere x else u) (sym (spanless_of_tree k ts)) ∙ ap (λ u. if c then pair nowhere (spanless (Tree k ts)) else u) g ∙ pair_either c d p (Tree k ts) v e

first_row : (p : Places) (k : Kind) (ts : List Node) → Each (Firsts p) ts
    → first_in nowhere (Tree k (map spanless ts)) (Node-F.Tree k (map (spined nowhere) (map spanless ts))) ≡ spanless (first_in p (Tree k ts) (Node-F.Tree k (map (spined p) ts)))
first_row p kind.SeqExpr (s ∷ e ∷ []) l = rw (spine_whole nowhere (spanless s), spine_whole p s, l.1.0) (sym (spanless_of_tree kind.SeqExpr (s ∷ first_paired p e ∷ [])))
first_row p kind.AssignExpr (s ∷ o ∷ f ∷ r ∷ []) l =
    rw (spine_whole nowhere (spanless s), spine_whole nowhere (spanless o), spine_whole nowhere (spanless f), spine_whole nowhere (spanless r), spine_whole p s, spine_whole p o, spine_whole p f, spine_whole p r, l.1.1.0)
    (choose (has_kind is_object_pattern (spanless f)) (has_kind is_object_pattern f) p kind.AssignExpr (s ∷ o ∷ f ∷ r ∷ []) (Tree kind.AssignExpr (spanless s ∷ spanless o ∷ spanless (first_paired p f) ∷ spanless r ∷ [])) (Tree kind.AssignExpr (s ∷ o ∷ first_paired p f ∷ r ∷ []))
    (kind_mapped spanless_mapped is_object_pattern f) (sym (spanless_of_tree kind.AssignExpr (s ∷ o ∷ first_paired p f ∷ r ∷ []))))
first_row p kind.CondExpr (s ∷ o ∷ f ∷ r ∷ []) l =
    rw (spine_whole nowhere (spanless s), spine_whole nowhere (spanless f), spine_whole nowhere (spanless r), spine_whole p s, spine_whole p f, spine_whole p r, l.1.0) (sym (spanless_of_tree kind.CondExpr (s ∷ first_paired p o ∷ f ∷ r ∷ [])))
first_row p kind.BinExpr (s ∷ o ∷ f ∷ r ∷ []) l =
    rw (spine_whole nowhere (spanless s), spine_whole nowhere (spanless o), spine_whole nowhere (spanless r), spine_whole p s, spine_whole p o, spine_whole p r, l.1.1.0) (sym (spanless_of_tree kind.BinExpr (s ∷ o ∷ first_paired p f ∷ r ∷ [])))
first_row p kind.UpdateExpr (s ∷ o ∷ f ∷ r ∷ []) l =
    rw (spine_whole nowhere (spanless s), spine_whole nowhere (spanless o), spine_whole nowhere (spanless f), spine_whole p s, spine_whole p o, spine_whole p f, l.1.1.1.0) (sym (spanless_of_tree kind.UpdateExpr (s ∷ o ∷ f ∷ first_paired p r ∷ [])))
first_row p kind.MemberExpr (s ∷ o ∷ m ∷ []) l =
    rw (spine_whole nowhere (spanless s), spine_whole nowhere (spanless m), spine_whole p s, spine_whole p m, l.1.0)
    (choose (is_let_bracket (Tree kind.MemberExpr (spanless s ∷ spanless o ∷ spanless m ∷ []))) (is_let_bracket (Tree kind.MemberExpr (s ∷ o ∷ m ∷ []))) p kind.MemberExpr (s ∷ o ∷ m ∷ []) (Tree kind.MemberExpr (spanless s ∷ spanless (first_paired p o) ∷ spanless m ∷ [])) (Tree kind.MemberExpr (s ∷ first_paired p o ∷ m ∷ []))
    (member_same s o m) (sym (spanless_of_tree kind.MemberExpr (s ∷ first_paired p o ∷ m ∷ []))))
first_row p kind.TaggedTpl (s ∷ o ∷ m ∷ []) l = rw (spine_whole nowhere (spanless s), spine_whole nowhere (spanless m), spine_whole p s, spine_whole p m, l.1.0) (sym (spanless_of_tree kind.TaggedTpl (s ∷ first_paired p o ∷ m ∷ [])))
first_row p kind.CallExpr (s ∷ o ∷ m ∷ []) l = rw (spine_whole nowhere (spanless s), spine_whole nowhere (spanless m), spine_whole p s, spine_whole p m, l.1.0) (sym (spanless_of_tree kind.CallExpr (s ∷ first_paired p o ∷ m ∷ [])))
first_row p kind.OptChainExpr (s ∷ o ∷ m ∷ []) l =
    rw (spine_whole nowhere (spanless s), spine_whole nowhere (spanless o), spine_whole p s, spine_whole p o, l.1.1.0)
    (choose (has_kind is_paren (spanless (first_paired p m))) (has_kind is_paren (first_paired p m)) p kind.OptChainExpr (s ∷ o ∷ m ∷ []) (Tree kind.OptChainExpr (spanless s ∷ spanless o ∷ spanless (first_paired p m) ∷ [])) (Tree kind.OptChainExpr (s ∷ o ∷ first_paired p m ∷ []))
    (kind_mapped spanless_mapped is_paren (first_paired p m)) (sym (spanless_of_tree kind.OptChainExpr (s ∷ o ∷ first_paired p m ∷ []))))
first_row p kind.OptCall (s ∷ o ∷ m ∷ []) l = rw (spine_whole nowhere (spanless s), spine_whole nowhere (spanless m), spine_whole p s, spine_whole p m, l.1.0) (sym (spanless_of_tree kind.OptCall (s ∷ first_paired p o ∷ m ∷ [])))
first_row p k ts l = whole_pair p k ts

first_leaf : (p : Places) (t u : Node) → spanless t ≡ u → first_paired nowhere u ≡ pair nowhere u → first_paired p t ≡ pair p t → Firsts p t
first_leaf p t u e g h = ap (first_paired nowhere) e ∙ g ∙ ap (pair nowhere) (sym e) ∙ sym (pair_moves p t) ∙ ap spanless (sym h)

first_list : (p : Places) (ts : List Node) → Each (Firsts p) ts → Firsts p (Many ts)
first_list p [] l = first_leaf p (Many []) (Many []) (spanless_of_list []) (first_empty nowhere) (first_empty p)
first_list p (t ∷ ts) l =
    ap (first_paired nowhere) (spanless_of_list (t ∷ ts)) ∙ first_of_list nowhere (spanless t) (map spanless ts) ∙ ap (λ u. Many (u ∷ map spanless ts)) l.0
    ∙ sym (ap spanless (first_of_list p t ts) ∙ spanless_of_list (first_paired p t ∷ ts))

first_same : (p : Places) (t : Node) → Firsts p t
first_same p t = by_children (Firsts p) (
  first_leaf p Absent Absent (search (rules, the_lemmas)) (search (rules, the_lemmas)) (search (rules, the_lemmas)),
  λ x. first_leaf p (Flag x) (Flag x) (search (rules, the_lemmas)) (search (rules, the_lemmas)) (search (rules, the_lemmas)),
  λ w. first_leaf p (Word w) (Word w) (search (rules, the_lemmas)) (search (rules, the_lemmas)) (search (rules, the_lemmas)),
  λ x. first_leaf p (Text x) (Text x) (search (rules, the_lemmas)) (search (rules, the_lemmas)) (search (rules, the_lemmas)),
  λ s. first_leaf p (Span s) (Span no_span) (span_less s) (search (rules, the_lemmas)) (search (rules, the_lemmas)),
  λ k i. first_leaf p (Identifier k i) (Identifier k (record i { span = no_span })) (name_less k i) (search (rules, the_lemmas)) (search (rules, the_lemmas)),
)
    (λ ts l. first_list p ts l)
    (λ k ts l. ap (first_paired nowhere) (spanless_of_tree k ts) ∙ first_of_tree nowhere k (map spanless ts) ∙ first_row p k ts l ∙ ap spanless (sym (first_of_tree p k ts))) t

-- the places that ask
begun_if : (c d : Bool) (p : Places) (e : Node) → c ≡ d → (if c then spanless e else first_paired nowhere (spanless e)) ≡ spanless (if d then e else first_paired p e)
begun_if true true p e h = refl
begun_if false false p e h = first_same p e
begun_if true false p e h = absurd (cc)
begun_if false true p e h = absurd (cc)

begun_same : (p : Places) (may : Start → Bool) (e : Node) → begun nowhere may (spanless e) ≡ spanless (begun p may e)
begun_same p may e = begun_if (may (start (spanless e))) (may (start e)) p e (ap may (start_same e))

body_if : (c d : Bool) (p : Places) (e : Node) → c ≡ d → (if c then spanless e else begun nowhere may_begin_body (spanless e)) ≡ spanless (if d then e else begun p may_begin_body e)
body_if true true p e h = refl
body_if false false p e h = begun_same p may_begin_body e
body_if true false p e h = absurd (cc)
body_if false true p e h = absurd (cc)

begin_row : (p : Places) (k : Kind) (us : List Node) → begin_step nowhere (Node-F.Tree k (map spanless us)) ≡ spanless (begin_step p (Node-F.Tree k us))
begin_row p kind.ExprStmt (s ∷ e ∷ []) = rw (begun_same p may_begin_statement e) (sym (spanless_of_tree kind.ExprStmt (s ∷ begun p may_begin_statement e ∷ [])))
begin_row p kind.ExportDefaultExpr (s ∷ e ∷ []) = rw (begun_same p may_begin_export e) (sym (spanless_of_tree kind.ExportDefaultExpr (s ∷ begun p may_begin_export e ∷ [])))
begin_row p kind.ArrowExpr (s ∷ a ∷ e ∷ f ∷ []) =
    ap (λ u. Tree kind.ArrowExpr (spanless s ∷ spanless a ∷ u ∷ spanless f ∷ [])) (body_if (has_kind is_block (spanless e)) (has_kind is_block e) p e (kind_mapped spanless_mapped is_block e))
    ∙ sym (spanless_of_tree kind.ArrowExpr (s ∷ a ∷ (if has_kind is_block e then e else begun p may_begin_body e) ∷ f ∷ []))
begin_row p k us = rolls-Tree k (map spanless us) ∙ sym (ap spanless (rolls-Tree k us) ∙ spanless_of_tree k us)

abbrev Started : Places → Node → Type 0
Started p t = paired_at_starts nowhere (spanless t) ≡ spanless (paired_at_starts p t)

each_started : (p : Places) (ts : List Node) → Each (Started p) ts → map (paired_at_starts nowhere) (map spanless ts) ≡ map spanless (map (paired_at_starts p) ts)
each_started p [] l = refl
each_started p (t ∷ ts) l = rw (l.0, each_started p ts l.1) refl

starts_spanless : (p : Places) (t : Node) → Started p t
starts_spanless p t = by_children (Started p)
    (search (rules, the_lemmas), λ x. search (rules, the_lemmas), λ w. search (rules, the_lemmas), λ x. search (rules, the_lemmas), λ s. search (rules, the_lemmas), λ k i. search (rules, the_lemmas))
    (λ ts l. ap (paired_at_starts nowhere) (spanless_of_list ts) ∙ starts_of_list nowhere (map spanless ts) ∙ ap Many (each_started p ts l) ∙ sym (ap spanless (starts_of_list p ts) ∙ spanless_of_list (map (paired_at_starts p) ts)))
    (λ k ts l.
    ap (paired_at_starts nowhere) (spanless_of_tree k ts) ∙ starts_of_tree nowhere k (map spanless ts) ∙ ap (λ us. begin_step nowhere (Node-F.Tree k us)) (each_started p ts l)
    ∙ begin_row p k (map (paired_at_starts p) ts) ∙ ap spanless (sym (starts_of_tree p k ts))) t

-- the due pairs of a tree without spans
pub due_spanless : (p : Places) (t : Node) → with_due_pairs nowhere (spanless t) ≡ spanless (with_due_pairs p t)
due_spanless p t = ap (λ u. paired_at_starts nowhere (paired_in_heads nowhere u)) (level_spanless p t) ∙ ap (paired_at_starts nowhere) (heads_spanless p (paired_by_level p t)) ∙ starts_spanless p (paired_in_heads p (paired_by_level p t))

pub due_same : (p q : Places) (t u : Node) → SameButForSpans t u → SameButForSpans (with_due_pairs p t) (with_due_pairs q u)
due_same p q t u e = sym (due_spanless p t) ∙ ap (with_due_pairs nowhere) e ∙ due_spanless q u

pub places_change_spans : (p q : Places) (t : Node) → SameButForSpans (fixed p t) (fixed q t)
places_change_spans p q t = due_same p q (with_blocks (stripped t)) (with_blocks (stripped t)) refl
