-- The last step of the due pairs, and blocks, in a tree without contexts: so fixing it is fixing the tree, without contexts.
use Rattle.std.proofs.Common.{◌≡◌, Bool, true, false, List, [], ◌∷◌, map, refl, sym, ap, ◌∙◌, rules}
use Rattle.std.specs.Prelude.{codes, nat_eq, if◌then◌else◌}
use Rattle.std.specs.Cmp.Lexicographic.{pointwise}
use Rattle.swc_tree_node.specs.declared.kind.Kind.{Kind}
use Rattle.swc_tree_node.specs.declared.kind.Kind.TheVariants as kind
use Rattle.swc_tree_node.specs.declared.node.Node.{Node, Absent, Flag, Word, Text, Span, List as Many, Identifier, Tree, out-Node, fold-Node, the_lemmas}
use Rattle.swc_tree_node.specs.declared.node.Node.TheVariants.{rolls-Tree}
use Rattle.swc_tree_node.specs.declared.node.Node.TheOpen.{Node-F}
use Rattle.swc_tree_grammar.specs.Kinds.{has_kind, is_paren, is_block, is_object_pattern}
use Rattle.swc_tree_grammar.specs.Grammar.{may_begin_statement, may_begin_export, may_begin_body}
use Rattle.swc_tree_scoping.specs.Readings.{by_texts}
use Rattle.swc_tree_grammar.specs.Blocks.{block, block_step, branch, span_of, takes_else, takes_else_step, with_blocks}
use Rattle.swc_tree_grammar.specs.Stripped.{stripped}
use Rattle.swc_tree_grammar.specs.Starts.{Start, Begun, start, start_in, start_step, is_let_in, is_computed_in, is_let_bracket, let_bracket_in}
use Rattle.swc_tree_grammar.specs.Due.{Places, pair, paired_by_level, paired_in_heads, first_in, begun, begin_step, paired_at_starts, with_due_pairs}
use Rattle.swc_tree_grammar.proofs.Induction.{Each, by_children}
use Rattle.swc_tree_grammar.proofs.Walks.{blocks_of_list, blocks_of_tree, takes_else_of_tree}
use Rattle.swc_tree_grammar.proofs.Wholes.{carried}
use Rattle.swc_tree_grammar_laws.proofs.Begins.{spined, first_paired, spine_whole, first_of_tree, first_empty, first_of_list, start_tree, start_list, starts_of_tree, starts_of_list}
use Rattle.swc_base_fixer_laws.proofs.AgainMapped.{is_changed, look}
use Rattle.swc_base_fixer_laws.proofs.AgainLooks.{kind_mapped, holds_mapped}
use Rattle.swc_tree_grammar_texts.proofs.Cleared.{text_list, text_name, text_span, text_tree}
use Rattle.swc_tree_grammar_texts.proofs.ClearedStripped.{stripped_texts}
use Rattle.swc_base_fixer_texts.specs.Laws.{FixingNeedsNoContexts}
use Rattle.swc_base_fixer_texts.proofs.Heads.{heads_texts, level_texts, pair_either, pair_moves, span_same, texts_mapped}

-- what a tree begins with
let_same : (t : Node) → is_let_in (out-Node (by_texts t)) ≡ is_let_in (out-Node t)
let_same t = look texts_mapped Bool is_let_in (λ s r. refl) (λ k i. ap (λ x. pointwise nat_eq x (codes "let")) (texts_mapped.same_text i)) (λ ts. refl) (λ k ts. refl) (λ k us ts e. refl) t

computed_row : (k : Kind) (ts : List Node) → is_computed_in (Node-F.Tree k (map by_texts ts)) ≡ is_computed_in (Node-F.Tree k ts)
computed_row kind.ComputedPropName (s ∷ e ∷ []) = refl
computed_row k ts = refl

computed_changed : (k : Kind) (us ts : List Node) → is_changed k ≡ true → is_computed_in (Node-F.Tree k us) ≡ is_computed_in (Node-F.Tree k ts)
computed_changed kind.IfStmt us ts e = refl
computed_changed kind.ForOfStmt us ts e = refl
computed_changed k us ts e = absurd (cc)

computed_same : (t : Node) → is_computed_in (out-Node (by_texts t)) ≡ is_computed_in (out-Node t)
computed_same t = look texts_mapped Bool is_computed_in (λ s r. refl) (λ k i. refl) (λ ts. refl) computed_row computed_changed t

bracket_row : (k : Kind) (ts : List Node) → let_bracket_in (Node-F.Tree k (map by_texts ts)) ≡ let_bracket_in (Node-F.Tree k ts)
bracket_row kind.MemberExpr (s ∷ o ∷ m ∷ []) = rw (let_same o, computed_same m) refl
bracket_row k ts = refl

bracket_changed : (k : Kind) (us ts : List Node) → is_changed k ≡ true → let_bracket_in (Node-F.Tree k us) ≡ let_bracket_in (Node-F.Tree k ts)
bracket_changed kind.IfStmt us ts e = refl
bracket_changed kind.ForOfStmt us ts e = refl
bracket_changed k us ts e = absurd (cc)

bracket_same : (t : Node) → is_let_bracket (by_texts t) ≡ is_let_bracket t
bracket_same t = look texts_mapped Bool let_bracket_in (λ s r. refl) (λ k i. refl) (λ ts. refl) bracket_row bracket_changed t

member_same : (s o m : Node) → is_let_bracket (Tree kind.MemberExpr (by_texts s ∷ by_texts o ∷ by_texts m ∷ [])) ≡ is_let_bracket (Tree kind.MemberExpr (s ∷ o ∷ m ∷ []))
member_same s o m = ap is_let_bracket (sym (text_tree kind.MemberExpr (s ∷ o ∷ m ∷ []))) ∙ bracket_same (Tree kind.MemberExpr (s ∷ o ∷ m ∷ []))

abbrev begun_of : Node → Begun
begun_of = fold-Node Begun start_step

begun_whole : (t : Node) → (begun_of t).whole ≡ t
begun_whole t = carried Begun start_step (λ e. e.whole) (λ x. refl) t

abbrev Begins : Node → Type 0
Begins t = start (by_texts t) ≡ start t

start_row : (k : Kind) (ts : List Node) → Each Begins ts → start_in (Tree k (map by_texts ts)) (Node-F.Tree k (map begun_of (map by_texts ts))) ≡ start_in (Tree k ts) (Node-F.Tree k (map begun_of ts))
start_row kind.Function (s ∷ a ∷ b ∷ g ∷ x ∷ []) l = rw (begun_whole (by_texts x), begun_whole x, holds_mapped texts_mapped x) refl
start_row kind.FnExpr (i ∷ e ∷ []) l = l.1.0
start_row kind.SeqExpr (s ∷ e ∷ []) l = l.1.0
start_row kind.AssignExpr (s ∷ o ∷ e ∷ r ∷ []) l = l.1.1.0
start_row kind.CondExpr (s ∷ t ∷ c ∷ a ∷ []) l = l.1.0
start_row kind.BinExpr (s ∷ o ∷ e ∷ r ∷ []) l = l.1.1.0
start_row kind.UpdateExpr (s ∷ o ∷ f ∷ a ∷ []) l = rw (begun_whole (by_texts f), begun_whole f, holds_mapped texts_mapped f, l.1.1.1.0) refl
start_row kind.MemberExpr (s ∷ o ∷ m ∷ []) l = rw (member_same s o m, l.1.0) refl
start_row kind.CallExpr (s ∷ c ∷ a ∷ []) l = l.1.0
start_row kind.TaggedTpl (s ∷ c ∷ a ∷ []) l = l.1.0
start_row kind.OptChainExpr (s ∷ o ∷ e ∷ []) l = rw (begun_whole (by_texts o), begun_whole o, begun_whole (by_texts e), begun_whole e, holds_mapped texts_mapped o, bracket_same e, l.1.1.0) refl
start_row kind.OptCall (s ∷ c ∷ a ∷ []) l = l.1.0
start_row k ts l = refl

start_items : (ts : List Node) → Each Begins ts → start (Many (map by_texts ts)) ≡ start (Many ts)
start_items [] l = refl
start_items (t ∷ ts) l = start_list (by_texts t) (map by_texts ts) ∙ l.0 ∙ sym (start_list t ts)

start_same : (t : Node) → Begins t
start_same t = by_children Begins
    (search (rules, the_lemmas), λ x. search (rules, the_lemmas), λ w. search (rules, the_lemmas), λ x. search (rules, the_lemmas), λ s. search (rules, the_lemmas), λ k i. search (rules, the_lemmas))
    (λ ts l. ap start (text_list ts) ∙ start_items ts l)
    (λ k ts l. ap start (text_tree k ts) ∙ start_tree k (map by_texts ts) ∙ start_row k ts l ∙ sym (start_tree k ts)) t

-- the pair round what comes first
abbrev Firsts : Places → Node → Type 0
Firsts p t = first_paired p (by_texts t) ≡ by_texts (first_paired p t)

whole_pair : (p : Places) (k : Kind) (ts : List Node) → pair p (Tree k (map by_texts ts)) ≡ by_texts (pair p (Tree k ts))
whole_pair p k ts = ap (pair p) (sym (text_tree k ts)) ∙ sym (pair_moves p (Tree k ts))

choose : (c d : Bool) (p : Places) (k : Kind) (ts : List Node) (u v : Node) → c ≡ d → u ≡ by_texts v → (if c then pair p (Tree k (map by_texts ts)) else u) ≡ by_texts (if d then pair p (Tree k ts) else v)
choose c d p k ts u v e g = ap (λ x. if c then pair p x else u) (sym (text_tree k ts)) ∙ ap (λ u. if c then pair p (by_texts (Tree k ts)) else u) g ∙ pair_either c d p (Tree k ts) v e

first_row : (p : Places) (k : Kind) (ts : List Node) → Each (Firsts p) ts
    → first_in p (Tree k (map by_texts ts)) (Node-F.Tree k (map (spined p) (map by_texts ts))) ≡ by_texts (first_in p (Tree k ts) (Node-F.Tree k (map (spined p) ts)))
first_row p kind.SeqExpr (s ∷ e ∷ []) l = rw (spine_whole p (by_texts s), spine_whole p s, l.1.0) (sym (text_tree kind.SeqExpr (s ∷ first_paired p e ∷ [])))
first_row p kind.AssignExpr (s ∷ o ∷ f ∷ r ∷ []) l =
    rw (spine_whole p (by_texts s), spine_whole p (by_texts o), spine_whole p (by_texts f), spine_whole p (by_texts r), spine_whole p s, spine_whole p o, spine_whole p f, spine_whole p r, l.1.1.0)
    (choose (has_kind is_object_pattern (by_texts f)) (has_kind is_object_pattern f) p kind.AssignExpr (s ∷ o ∷ f ∷ r ∷ []) (Tree kind.AssignExpr (by_texts s ∷ by_texts o ∷ by_texts (first_paired p f) ∷ by_texts r ∷ [])) (Tree kind.AssignExpr (s ∷ o ∷ first_paired p f ∷ r ∷ []))
    (kind_mapped texts_mapped is_object_pattern f) (sym (text_tree kind.AssignExpr (s ∷ o ∷ first_paired p f ∷ r ∷ []))))
first_row p kind.CondExpr (s ∷ o ∷ f ∷ r ∷ []) l =
    rw (spine_whole p (by_texts s), spine_whole p (by_texts f), spine_whole p (by_texts r), spine_whole p s, spine_whole p f, spine_whole p r, l.1.0) (sym (text_tree kind.CondExpr (s ∷ first_paired p o ∷ f ∷ r ∷ [])))
first_row p kind.BinExpr (s ∷ o ∷ f ∷ r ∷ []) l =
    rw (spine_whole p (by_texts s), spine_whole p (by_texts o), spine_whole p (by_texts r), spine_whole p s, spine_whole p o, spine_whole p r, l.1.1.0) (sym (text_tree kind.BinExpr (s ∷ o ∷ first_paired p f ∷ r ∷ [])))
first_row p kind.UpdateExpr (s ∷ o ∷ f ∷ r ∷ []) l =
    rw (spine_whole p (by_texts s), spine_whole p (by_texts o), spine_whole p (by_texts f), spine_whole p s, spine_whole p o, spine_whole p f, l.1.1.1.0) (sym (text_tree kind.UpdateExpr (s ∷ o ∷ f ∷ first_paired p r ∷ [])))
first_row p kind.MemberExpr (s ∷ o ∷ m ∷ []) l =
    rw (spine_whole p (by_texts s), spine_whole p (by_texts m), spine_whole p s, spine_whole p m, l.1.0)
    (choose (is_let_bracket (Tree kind.MemberExpr (by_texts s ∷ by_texts o ∷ by_texts m ∷ []))) (is_let_bracket (Tree kind.MemberExpr (s ∷ o ∷ m ∷ []))) p kind.MemberExpr (s ∷ o ∷ m ∷ []) (Tree kind.MemberExpr (by_texts s ∷ by_texts (first_paired p o) ∷ by_texts m ∷ [])) (Tree kind.MemberExpr (s ∷ first_paired p o ∷ m ∷ []))
    (member_same s o m) (sym (text_tree kind.MemberExpr (s ∷ first_paired p o ∷ m ∷ []))))
first_row p kind.TaggedTpl (s ∷ o ∷ m ∷ []) l = rw (spine_whole p (by_texts s), spine_whole p (by_texts m), spine_whole p s, spine_whole p m, l.1.0) (sym (text_tree kind.TaggedTpl (s ∷ first_paired p o ∷ m ∷ [])))
first_row p kind.CallExpr (s ∷ o ∷ m ∷ []) l = rw (spine_whole p (by_texts s), spine_whole p (by_texts m), spine_whole p s, spine_whole p m, l.1.0) (sym (text_tree kind.CallExpr (s ∷ first_paired p o ∷ m ∷ [])))
first_row p kind.OptChainExpr (s ∷ o ∷ m ∷ []) l =
    rw (spine_whole p (by_texts s), spine_whole p (by_texts o), spine_whole p s, spine_whole p o, l.1.1.0)
    (choose (has_kind is_paren (by_texts (first_paired p m))) (has_kind is_paren (first_paired p m)) p kind.OptChainExpr (s ∷ o ∷ m ∷ []) (Tree kind.OptChainExpr (by_texts s ∷ by_texts o ∷ by_texts (first_paired p m) ∷ [])) (Tree kind.OptChainExpr (s ∷ o ∷ first_paired p m ∷ []))
    (kind_mapped texts_mapped is_paren (first_paired p m)) (sym (text_tree kind.OptChainExpr (s ∷ o ∷ first_paired p m ∷ []))))
first_row p kind.OptCall (s ∷ o ∷ m ∷ []) l = rw (spine_whole p (by_texts s), spine_whole p (by_texts m), spine_whole p s, spine_whole p m, l.1.0) (sym (text_tree kind.OptCall (s ∷ first_paired p o ∷ m ∷ [])))
first_row p k ts l = whole_pair p k ts

first_leaf : (p : Places) (t u : Node) → by_texts t ≡ u → first_paired p u ≡ pair p u → first_paired p t ≡ pair p t → Firsts p t
first_leaf p t u e g h = ap (first_paired p) e ∙ g ∙ ap (pair p) (sym e) ∙ sym (pair_moves p t) ∙ ap by_texts (sym h)

first_list : (p : Places) (ts : List Node) → Each (Firsts p) ts → Firsts p (Many ts)
first_list p [] l = first_leaf p (Many []) (Many []) (text_list []) (first_empty p) (first_empty p)
first_list p (t ∷ ts) l =
    ap (first_paired p) (text_list (t ∷ ts)) ∙ first_of_list p (by_texts t) (map by_texts ts) ∙ ap (λ u. Many (u ∷ map by_texts ts)) l.0
    ∙ sym (ap by_texts (first_of_list p t ts) ∙ text_list (first_paired p t ∷ ts))

first_same : (p : Places) (t : Node) → Firsts p t
first_same p t = by_children (Firsts p) (
  first_leaf p Absent Absent (search (rules, the_lemmas)) (search (rules, the_lemmas)) (search (rules, the_lemmas)),
  λ x. first_leaf p (Flag x) (Flag x) (search (rules, the_lemmas)) (search (rules, the_lemmas)) (search (rules, the_lemmas)),
  λ w. first_leaf p (Word w) (Word w) (search (rules, the_lemmas)) (search (rules, the_lemmas)) (search (rules, the_lemmas)),
  λ x. first_leaf p (Text x) (Text x) (search (rules, the_lemmas)) (search (rules, the_lemmas)) (search (rules, the_lemmas)),
  λ s. first_leaf p (Span s) (Span s) (text_span s) (search (rules, the_lemmas)) (search (rules, the_lemmas)),
  λ k i. first_leaf p (Identifier k i) (Identifier k (record i { ctxt = [] })) (text_name k i) (search (rules, the_lemmas)) (search (rules, the_lemmas)),
)
    (λ ts l. first_list p ts l)
    (λ k ts l. ap (first_paired p) (text_tree k ts) ∙ first_of_tree p k (map by_texts ts) ∙ first_row p k ts l ∙ ap by_texts (sym (first_of_tree p k ts))) t

-- the places that ask
begun_if : (c d : Bool) (p : Places) (e : Node) → c ≡ d → (if c then by_texts e else first_paired p (by_texts e)) ≡ by_texts (if d then e else first_paired p e)
begun_if true true p e h = refl
begun_if false false p e h = first_same p e
begun_if true false p e h = absurd (cc)
begun_if false true p e h = absurd (cc)

begun_same : (p : Places) (may : Start → Bool) (e : Node) → begun p may (by_texts e) ≡ by_texts (begun p may e)
begun_same p may e = begun_if (may (start (by_texts e))) (may (start e)) p e (ap may (start_same e))

body_if : (c d : Bool) (p : Places) (e : Node) → c ≡ d → (if c then by_texts e else begun p may_begin_body (by_texts e)) ≡ by_texts (if d then e else begun p may_begin_body e)
body_if true true p e h = refl
body_if false false p e h = begun_same p may_begin_body e
body_if true false p e h = absurd (cc)
body_if false true p e h = absurd (cc)

begin_row : (p : Places) (k : Kind) (us : List Node) → begin_step p (Node-F.Tree k (map by_texts us)) ≡ by_texts (begin_step p (Node-F.Tree k us))
begin_row p kind.ExprStmt (s ∷ e ∷ []) = rw (begun_same p may_begin_statement e) (sym (text_tree kind.ExprStmt (s ∷ begun p may_begin_statement e ∷ [])))
begin_row p kind.ExportDefaultExpr (s ∷ e ∷ []) = rw (begun_same p may_begin_export e) (sym (text_tree kind.ExportDefaultExpr (s ∷ begun p may_begin_export e ∷ [])))
begin_row p kind.ArrowExpr (s ∷ a ∷ e ∷ f ∷ []) =
    ap (λ u. Tree kind.ArrowExpr (by_texts s ∷ by_texts a ∷ u ∷ by_texts f ∷ [])) (body_if (has_kind is_block (by_texts e)) (has_kind is_block e) p e (kind_mapped texts_mapped is_block e))
    ∙ sym (text_tree kind.ArrowExpr (s ∷ a ∷ (if has_kind is_block e then e else begun p may_begin_body e) ∷ f ∷ []))
begin_row p k us = rolls-Tree k (map by_texts us) ∙ sym (ap by_texts (rolls-Tree k us) ∙ text_tree k us)

abbrev Started : Places → Node → Type 0
Started p t = paired_at_starts p (by_texts t) ≡ by_texts (paired_at_starts p t)

each_started : (p : Places) (ts : List Node) → Each (Started p) ts → map (paired_at_starts p) (map by_texts ts) ≡ map by_texts (map (paired_at_starts p) ts)
each_started p [] l = refl
each_started p (t ∷ ts) l = rw (l.0, each_started p ts l.1) refl

starts_texts : (p : Places) (t : Node) → Started p t
starts_texts p t = by_children (Started p)
    (search (rules, the_lemmas), λ x. search (rules, the_lemmas), λ w. search (rules, the_lemmas), λ x. search (rules, the_lemmas), λ s. search (rules, the_lemmas), λ k i. search (rules, the_lemmas))
    (λ ts l. ap (paired_at_starts p) (text_list ts) ∙ starts_of_list p (map by_texts ts) ∙ ap Many (each_started p ts l) ∙ sym (ap by_texts (starts_of_list p ts) ∙ text_list (map (paired_at_starts p) ts)))
    (λ k ts l.
    ap (paired_at_starts p) (text_tree k ts) ∙ starts_of_tree p k (map by_texts ts) ∙ ap (λ us. begin_step p (Node-F.Tree k us)) (each_started p ts l)
    ∙ begin_row p k (map (paired_at_starts p) ts) ∙ ap by_texts (sym (starts_of_tree p k ts))) t

-- the due pairs of a tree without contexts
due_texts : (p : Places) (t : Node) → with_due_pairs p (by_texts t) ≡ by_texts (with_due_pairs p t)
due_texts p t = ap (λ u. paired_at_starts p (paired_in_heads p u)) (level_texts p t) ∙ ap (paired_at_starts p) (heads_texts p (paired_by_level p t)) ∙ starts_texts p (paired_in_heads p (paired_by_level p t))

-- ---- blocks

abbrev Takes : Node → Type 0
Takes t = takes_else (by_texts t) ≡ takes_else t

takes_same : (ts : List Node) → Each Takes ts → map takes_else (map by_texts ts) ≡ map takes_else ts
takes_same [] l = refl
takes_same (t ∷ ts) l = rw (l.0, takes_same ts l.1) refl

else_same : (t : Node) → Takes t
else_same t = by_children Takes
    (search (rules, the_lemmas), λ x. search (rules, the_lemmas), λ w. search (rules, the_lemmas), λ x. search (rules, the_lemmas), λ s. search (rules, the_lemmas), λ k i. search (rules, the_lemmas))
    (λ ts l. search (rules, the_lemmas))
    (λ k ts l. ap takes_else (text_tree k ts) ∙ takes_else_of_tree k (map by_texts ts) ∙ ap (λ bs. takes_else_step (Node-F.Tree k bs)) (takes_same ts l) ∙ sym (takes_else_of_tree k ts)) t

block_same : (t : Node) → block (by_texts t) ≡ by_texts (block t)
block_same t =
    ap (λ s. Tree kind.BlockStmt (Span s ∷ Many (by_texts t ∷ []) ∷ [])) (span_same t)
    ∙ sym (text_tree kind.BlockStmt (Span (span_of t) ∷ Many (t ∷ []) ∷ []) ∙ ap (λ s. Tree kind.BlockStmt (s ∷ by_texts (Many (t ∷ [])) ∷ [])) (text_span (span_of t)) ∙ ap (λ b. Tree kind.BlockStmt (Span (span_of t) ∷ b ∷ [])) (text_list (t ∷ [])))

branch_if : (c d : Bool) (t : Node) → c ≡ d → (if c then block (by_texts t) else by_texts t) ≡ by_texts (if d then block t else t)
branch_if true true t e = block_same t
branch_if false false t e = refl
branch_if true false t e = absurd (cc)
branch_if false true t e = absurd (cc)

branch_same : (t : Node) → branch (by_texts t) ≡ by_texts (branch t)
branch_same t = branch_if (takes_else (by_texts t)) (takes_else t) t (else_same t)

abbrev Blocked : Node → Type 0
Blocked t = with_blocks (by_texts t) ≡ by_texts (with_blocks t)

each_blocked : (ts : List Node) → Each Blocked ts → map with_blocks (map by_texts ts) ≡ map by_texts (map with_blocks ts)
each_blocked [] l = refl
each_blocked (t ∷ ts) l = rw (l.0, each_blocked ts l.1) refl

block_row : (k : Kind) (us : List Node) → block_step (Node-F.Tree k (map by_texts us)) ≡ by_texts (block_step (Node-F.Tree k us))
block_row kind.IfStmt (s ∷ t ∷ c ∷ a ∷ []) = ap (λ u. Tree kind.IfStmt (by_texts s ∷ by_texts t ∷ u ∷ by_texts a ∷ [])) (branch_same c) ∙ sym (text_tree kind.IfStmt (s ∷ t ∷ branch c ∷ a ∷ []))
block_row k us = rolls-Tree k (map by_texts us) ∙ sym (ap by_texts (rolls-Tree k us) ∙ text_tree k us)

blocks_texts : (t : Node) → Blocked t
blocks_texts t = by_children Blocked
    (search (rules, the_lemmas), λ x. search (rules, the_lemmas), λ w. search (rules, the_lemmas), λ x. search (rules, the_lemmas), λ s. search (rules, the_lemmas), λ k i. search (rules, the_lemmas))
    (λ ts l. ap with_blocks (text_list ts) ∙ blocks_of_list (map by_texts ts) ∙ ap Many (each_blocked ts l) ∙ sym (ap by_texts (blocks_of_list ts) ∙ text_list (map with_blocks ts)))
    (λ k ts l. ap with_blocks (text_tree k ts) ∙ blocks_of_tree k (map by_texts ts) ∙ ap (λ us. block_step (Node-F.Tree k us)) (each_blocked ts l) ∙ block_row k (map with_blocks ts) ∙ ap by_texts (sym (blocks_of_tree k ts))) t

pub fixing_needs_no_contexts : FixingNeedsNoContexts
fixing_needs_no_contexts place t =
    ap (λ u. with_due_pairs place (with_blocks u)) (stripped_texts t) ∙ ap (with_due_pairs place) (blocks_texts (stripped t)) ∙ due_texts place (with_blocks (stripped t))
