-- The last step of the due pairs for two places, and so the due pairs of a tree without pairs: what they are by the one is
-- what they are by the other, with each pair where that one has it.
use Rattle.std.proofs.Common.{◌≡◌, Bool, true, false, List, [], ◌∷◌, map, refl, sym, ap, ◌∙◌, rules}
use Rattle.std.specs.Prelude.{if◌then◌else◌}
use Rattle.swc_tree_marks.specs.declared.span.Span.{Span as Range}
use Rattle.swc_tree_node.specs.declared.kind.Kind.{Kind}
use Rattle.swc_tree_node.specs.declared.kind.Kind.TheVariants as kind
use Rattle.swc_tree_node.specs.declared.node.Node.{Node, Absent, Flag, Word, Text, Span, List as Many, Identifier, Tree, the_lemmas}
use Rattle.swc_tree_node.specs.declared.node.Node.TheVariants.{rolls-Tree}
use Rattle.swc_tree_node.specs.declared.node.Node.TheOpen.{Node-F}
use Rattle.swc_tree_grammar.specs.Kinds.{has_kind, is_paren, is_block, is_object_pattern}
use Rattle.swc_tree_grammar.specs.Grammar.{may_begin_statement, may_begin_export, may_begin_body}
use Rattle.swc_tree_grammar.specs.Blocks.{span_of, span_step}
use Rattle.swc_tree_grammar.specs.Stripped.{is_pairless}
use Rattle.swc_tree_grammar.specs.Starts.{Start, start, is_let_bracket}
use Rattle.swc_tree_grammar.specs.Due.{Places, pair, paired_by_level, paired_in_heads, first_in, begun, begin_step, paired_at_starts, with_due_pairs}
use Rattle.swc_tree_grammar.proofs.Induction.{Each, by_children}
use Rattle.swc_tree_grammar.proofs.Walks.{span_of_tree}
use Rattle.swc_tree_grammar_laws.proofs.Begins.{spined, first_paired, spine_whole, first_of_tree, first_empty, first_of_list, starts_of_tree, starts_of_list}
use Rattle.swc_base_fixer_laws.proofs.AgainLooks.{kind_mapped}
use Rattle.swc_base_fixer_laws.proofs.AgainNamed.{spanless_mapped}
use Rattle.swc_base_fixer_laws.proofs.AgainStarts.{start_same, bracket_same}
use Rattle.swc_base_fixer_laws.proofs.Placed.{placed, placed_fields, placed_pair, is_span, put, is_pair, placed_other, seen_same, tree_is_none, list_is_none, placed_of_tree, placed_of_list, placed_of_absent, placed_of_flag, placed_of_word, placed_of_text, placed_of_span, placed_of_name}
use Rattle.swc_base_fixer_laws.proofs.PlacedLevel.{level_placed}
use Rattle.swc_base_fixer_laws.proofs.PlacedHeads.{first, heads_placed}

-- where a node stands stays
abbrev Stands : Places → Node → Type 0
Stands q t = span_of (paired_at_starts q t) ≡ span_of t

each_stands : (q : Places) (ts : List Node) → Each (Stands q) ts → map span_of (map (paired_at_starts q) ts) ≡ map span_of ts
each_stands q [] l = refl
each_stands q (t ∷ ts) l = rw (l.0, each_stands q ts l.1) refl

step_stands : (q : Places) (k : Kind) (us : List Node) → span_of (begin_step q (Node-F.Tree k us)) ≡ span_of (Tree k us)
step_stands q kind.ExprStmt (s ∷ e ∷ []) = first kind.ExprStmt s s (begun q may_begin_statement e ∷ []) (e ∷ []) refl refl refl
step_stands q kind.ExportDefaultExpr (s ∷ e ∷ []) = first kind.ExportDefaultExpr s s (begun q may_begin_export e ∷ []) (e ∷ []) refl refl refl
step_stands q kind.ArrowExpr (s ∷ a ∷ e ∷ f ∷ []) = first kind.ArrowExpr s s (a ∷ (if has_kind is_block e then e else begun q may_begin_body e) ∷ f ∷ []) (a ∷ e ∷ f ∷ []) refl refl refl
step_stands q k us = ap span_of (rolls-Tree k us)

starts_stand : (q : Places) (t : Node) → Stands q t
starts_stand q t = by_children (Stands q)
    (search (rules, the_lemmas), λ x. search (rules, the_lemmas), λ w. search (rules, the_lemmas), λ x. search (rules, the_lemmas), λ s. search (rules, the_lemmas), λ k i. search (rules, the_lemmas))
    (λ ts l. search (rules, the_lemmas))
    (λ k ts l. (
    let us = map (paired_at_starts q) ts in
    ap span_of (starts_of_tree q k ts) ∙ step_stands q k us ∙ span_of_tree k us ∙ ap (λ ss. span_step (Node-F.Tree k ss)) (each_stands q ts l) ∙ sym (span_of_tree k ts)
    )) t

-- no other node becomes a span
step_spans : (q : Places) (k : Kind) (us : List Node) → is_span (begin_step q (Node-F.Tree k us)) ≡ false
step_spans q kind.ExprStmt (s ∷ e ∷ []) = tree_is_none kind.ExprStmt (s ∷ begun q may_begin_statement e ∷ [])
step_spans q kind.ExportDefaultExpr (s ∷ e ∷ []) = tree_is_none kind.ExportDefaultExpr (s ∷ begun q may_begin_export e ∷ [])
step_spans q kind.ArrowExpr (s ∷ a ∷ e ∷ f ∷ []) = tree_is_none kind.ArrowExpr (s ∷ a ∷ (if has_kind is_block e then e else begun q may_begin_body e) ∷ f ∷ [])
step_spans q k us = ap is_span (rolls-Tree k us) ∙ tree_is_none k us

abbrev Spans : Places → Node → Type 0
Spans q t = is_span (paired_at_starts q t) ≡ is_span t

starts_spans : (q : Places) (t : Node) → Spans q t
starts_spans q t = by_children (Spans q)
    (search (rules, the_lemmas), λ x. search (rules, the_lemmas), λ w. search (rules, the_lemmas), λ x. search (rules, the_lemmas), λ s. search (rules, the_lemmas), λ k i. search (rules, the_lemmas))
    (λ ts l. ap is_span (starts_of_list q ts) ∙ list_is_none (map (paired_at_starts q) ts) ∙ sym (list_is_none ts))
    (λ k ts l. ap is_span (starts_of_tree q k ts) ∙ step_spans q k (map (paired_at_starts q) ts) ∙ sym (tree_is_none k ts)) t

starts_span : (q : Places) (r : Range) → paired_at_starts q (Span r) ≡ Span r
starts_span q r = search (rules, the_lemmas)

put_if : (c d : Bool) (q : Places) (r : Range) (s : Node) → c ≡ d → paired_at_starts q (if c then Span r else s) ≡ (if d then Span r else paired_at_starts q s)
put_if true true q r s e = starts_span q r
put_if false false q r s e = refl
put_if true false q r s e = absurd (cc)
put_if false true q r s e = absurd (cc)

starts_put : (q : Places) (r : Range) (s : Node) → paired_at_starts q (put r s) ≡ put r (paired_at_starts q s)
starts_put q r s = put_if (is_span s) (is_span (paired_at_starts q s)) q r s (sym (starts_spans q s))

module _ (p q : Places) where
  abbrev moved : Node → Node
  moved = placed q

  kind_same : (x : Kind → Bool) (t : Node) → has_kind x (moved t) ≡ has_kind x t
  kind_same x = seen_same q Bool (has_kind x) (kind_mapped spanless_mapped x)

  begins_same : (t : Node) → start (moved t) ≡ start t
  begins_same = seen_same q Start start start_same

  bracket : (t : Node) → is_let_bracket (moved t) ≡ is_let_bracket t
  bracket = seen_same q Bool is_let_bracket bracket_same

  member_same : (s o m : Node) → is_let_bracket (Tree kind.MemberExpr (moved s ∷ moved o ∷ moved m ∷ [])) ≡ is_let_bracket (Tree kind.MemberExpr (s ∷ o ∷ m ∷ []))
  member_same s o m = ap is_let_bracket (sym (placed_other q kind.MemberExpr (s ∷ o ∷ m ∷ []) refl)) ∙ bracket (Tree kind.MemberExpr (s ∷ o ∷ m ∷ []))

  pair_either : (c d : Bool) (t u : Node) → c ≡ d → (if c then pair q (moved t) else moved u) ≡ moved (if d then pair p t else u)
  pair_either true true t u e = sym (placed_pair p q t)
  pair_either false false t u e = refl
  pair_either true false t u e = absurd (cc)
  pair_either false true t u e = absurd (cc)

  -- the pair round what comes first
  abbrev Firsts : Node → Type 0
  Firsts t = first_paired q (moved t) ≡ moved (first_paired p t)

  choose : (c d : Bool) (k : Kind) → is_pair k ≡ false → (ts : List Node) (u v : Node) → c ≡ d → u ≡ moved v → (if c then pair q (Tree k (map moved ts)) else u) ≡ moved (if d then pair p (Tree k ts) else v)
  choose c d k n ts u v e g =
      ap (λ x. if c then pair q x else u) (sym (placed_other q k ts n)) ∙ ap (λ u. if c then pair q (moved (Tree k ts)) else u) g ∙ pair_either c d (Tree k ts) v e

  first_row : (k : Kind) (ts : List Node) → Each Firsts ts
      → first_in q (Tree k (placed_fields q k (map moved ts))) (Node-F.Tree k (map (spined q) (placed_fields q k (map moved ts)))) ≡ moved (first_in p (Tree k ts) (Node-F.Tree k (map (spined p) ts)))
  first_row kind.SeqExpr (s ∷ e ∷ []) l = rw (spine_whole q (moved s), spine_whole p s, l.1.0) (sym (placed_other q kind.SeqExpr (s ∷ first_paired p e ∷ []) refl))
  first_row kind.AssignExpr (s ∷ o ∷ f ∷ r ∷ []) l =
      rw (spine_whole q (moved s), spine_whole q (moved o), spine_whole q (moved f), spine_whole q (moved r), spine_whole p s, spine_whole p o, spine_whole p f, spine_whole p r, l.1.1.0)
      (choose (has_kind is_object_pattern (moved f)) (has_kind is_object_pattern f) kind.AssignExpr refl (s ∷ o ∷ f ∷ r ∷ []) (Tree kind.AssignExpr (moved s ∷ moved o ∷ moved (first_paired p f) ∷ moved r ∷ [])) (Tree kind.AssignExpr (s ∷ o ∷ first_paired p f ∷ r ∷ []))
      (kind_same is_object_pattern f) (sym (placed_other q kind.AssignExpr (s ∷ o ∷ first_paired p f ∷ r ∷ []) refl)))
  first_row kind.CondExpr (s ∷ o ∷ f ∷ r ∷ []) l =
      rw (spine_whole q (moved s), spine_whole q (moved f), spine_whole q (moved r), spine_whole p s, spine_whole p f, spine_whole p r, l.1.0) (sym (placed_other q kind.CondExpr (s ∷ first_paired p o ∷ f ∷ r ∷ []) refl))
  first_row kind.BinExpr (s ∷ o ∷ f ∷ r ∷ []) l =
      rw (spine_whole q (moved s), spine_whole q (moved o), spine_whole q (moved r), spine_whole p s, spine_whole p o, spine_whole p r, l.1.1.0) (sym (placed_other q kind.BinExpr (s ∷ o ∷ first_paired p f ∷ r ∷ []) refl))
  first_row kind.UpdateExpr (s ∷ o ∷ f ∷ r ∷ []) l =
      rw (spine_whole q (moved s), spine_whole q (moved o), spine_whole q (moved f), spine_whole p s, spine_whole p o, spine_whole p f, l.1.1.1.0) (sym (placed_other q kind.UpdateExpr (s ∷ o ∷ f ∷ first_paired p r ∷ []) refl))
  first_row kind.MemberExpr (s ∷ o ∷ m ∷ []) l =
      rw (spine_whole q (moved s), spine_whole q (moved m), spine_whole p s, spine_whole p m, l.1.0)
      (choose (is_let_bracket (Tree kind.MemberExpr (moved s ∷ moved o ∷ moved m ∷ []))) (is_let_bracket (Tree kind.MemberExpr (s ∷ o ∷ m ∷ []))) kind.MemberExpr refl (s ∷ o ∷ m ∷ []) (Tree kind.MemberExpr (moved s ∷ moved (first_paired p o) ∷ moved m ∷ [])) (Tree kind.MemberExpr (s ∷ first_paired p o ∷ m ∷ []))
      (member_same s o m) (sym (placed_other q kind.MemberExpr (s ∷ first_paired p o ∷ m ∷ []) refl)))
  first_row kind.TaggedTpl (s ∷ o ∷ m ∷ []) l = rw (spine_whole q (moved s), spine_whole q (moved m), spine_whole p s, spine_whole p m, l.1.0) (sym (placed_other q kind.TaggedTpl (s ∷ first_paired p o ∷ m ∷ []) refl))
  first_row kind.CallExpr (s ∷ o ∷ m ∷ []) l = rw (spine_whole q (moved s), spine_whole q (moved m), spine_whole p s, spine_whole p m, l.1.0) (sym (placed_other q kind.CallExpr (s ∷ first_paired p o ∷ m ∷ []) refl))
  first_row kind.OptChainExpr (s ∷ o ∷ m ∷ []) l =
      rw (spine_whole q (moved s), spine_whole q (moved o), spine_whole p s, spine_whole p o, l.1.1.0)
      (choose (has_kind is_paren (moved (first_paired p m))) (has_kind is_paren (first_paired p m)) kind.OptChainExpr refl (s ∷ o ∷ m ∷ []) (Tree kind.OptChainExpr (moved s ∷ moved o ∷ moved (first_paired p m) ∷ [])) (Tree kind.OptChainExpr (s ∷ o ∷ first_paired p m ∷ []))
      (kind_same is_paren (first_paired p m)) (sym (placed_other q kind.OptChainExpr (s ∷ o ∷ first_paired p m ∷ []) refl)))
  first_row kind.OptCall (s ∷ o ∷ m ∷ []) l = rw (spine_whole q (moved s), spine_whole q (moved m), spine_whole p s, spine_whole p m, l.1.0) (sym (placed_other q kind.OptCall (s ∷ first_paired p o ∷ m ∷ []) refl))
  first_row k ts l = ap (pair q) (sym (placed_of_tree q k ts)) ∙ sym (placed_pair p q (Tree k ts))

  first_leaf : (t u : Node) → moved t ≡ u → first_paired q u ≡ pair q u → first_paired p t ≡ pair p t → Firsts t
  first_leaf t u e g h = ap (first_paired q) e ∙ g ∙ ap (pair q) (sym e) ∙ sym (placed_pair p q t) ∙ ap moved (sym h)

  first_list : (ts : List Node) → Each Firsts ts → Firsts (Many ts)
  first_list [] l = first_leaf (Many []) (Many []) (placed_of_list q []) (first_empty q) (first_empty p)
  first_list (t ∷ ts) l =
      ap (first_paired q) (placed_of_list q (t ∷ ts)) ∙ first_of_list q (moved t) (map moved ts) ∙ ap (λ u. Many (u ∷ map moved ts)) l.0
      ∙ sym (ap moved (first_of_list p t ts) ∙ placed_of_list q (first_paired p t ∷ ts))

  first_same : (t : Node) → Firsts t
  first_same t = by_children Firsts (
    first_leaf Absent Absent (placed_of_absent q) (search (rules, the_lemmas)) (search (rules, the_lemmas)),
    λ x. first_leaf (Flag x) (Flag x) (placed_of_flag q x) (search (rules, the_lemmas)) (search (rules, the_lemmas)),
    λ w. first_leaf (Word w) (Word w) (placed_of_word q w) (search (rules, the_lemmas)) (search (rules, the_lemmas)),
    λ x. first_leaf (Text x) (Text x) (placed_of_text q x) (search (rules, the_lemmas)) (search (rules, the_lemmas)),
    λ s. first_leaf (Span s) (Span s) (placed_of_span q s) (search (rules, the_lemmas)) (search (rules, the_lemmas)),
    λ k i. first_leaf (Identifier k i) (Identifier k i) (placed_of_name q k i) (search (rules, the_lemmas)) (search (rules, the_lemmas)),
  )
      (λ ts l. first_list ts l)
      (λ k ts l. ap (first_paired q) (placed_of_tree q k ts) ∙ first_of_tree q k (placed_fields q k (map moved ts)) ∙ first_row k ts l ∙ ap moved (sym (first_of_tree p k ts))) t

  -- the places that ask
  begun_if : (c d : Bool) (e : Node) → c ≡ d → (if c then moved e else first_paired q (moved e)) ≡ moved (if d then e else first_paired p e)
  begun_if true true e h = refl
  begun_if false false e h = first_same e
  begun_if true false e h = absurd (cc)
  begun_if false true e h = absurd (cc)

  begun_same : (may : Start → Bool) (e : Node) → begun q may (moved e) ≡ moved (begun p may e)
  begun_same may e = begun_if (may (start (moved e))) (may (start e)) e (ap may (begins_same e))

  body_if : (c d : Bool) (e : Node) → c ≡ d → (if c then moved e else begun q may_begin_body (moved e)) ≡ moved (if d then e else begun p may_begin_body e)
  body_if true true e h = refl
  body_if false false e h = begun_same may_begin_body e
  body_if true false e h = absurd (cc)
  body_if false true e h = absurd (cc)

  begin_row : (k : Kind) (us : List Node) → is_pair k ≡ false → begin_step q (Node-F.Tree k (map moved us)) ≡ moved (begin_step p (Node-F.Tree k us))
  begin_row kind.ExprStmt (s ∷ e ∷ []) n = rw (begun_same may_begin_statement e) (sym (placed_other q kind.ExprStmt (s ∷ begun p may_begin_statement e ∷ []) refl))
  begin_row kind.ExportDefaultExpr (s ∷ e ∷ []) n = rw (begun_same may_begin_export e) (sym (placed_other q kind.ExportDefaultExpr (s ∷ begun p may_begin_export e ∷ []) refl))
  begin_row kind.ArrowExpr (s ∷ a ∷ e ∷ f ∷ []) n =
      ap (λ u. Tree kind.ArrowExpr (moved s ∷ moved a ∷ u ∷ moved f ∷ [])) (body_if (has_kind is_block (moved e)) (has_kind is_block e) e (kind_same is_block e))
      ∙ sym (placed_other q kind.ArrowExpr (s ∷ a ∷ (if has_kind is_block e then e else begun p may_begin_body e) ∷ f ∷ []) refl)
  begin_row k us n = rolls-Tree k (map moved us) ∙ sym (ap moved (rolls-Tree k us) ∙ placed_other q k us n)

  abbrev Started : Node → Type 0
  Started t = paired_at_starts q (moved t) ≡ moved (paired_at_starts p t)

  each_started : (ts : List Node) → Each Started ts → map (paired_at_starts q) (map moved ts) ≡ map moved (map (paired_at_starts p) ts)
  each_started [] l = refl
  each_started (t ∷ ts) l = rw (l.0, each_started ts l.1) refl

  other_tree : (k : Kind) (ts : List Node) → is_pair k ≡ false → Each Started ts → Started (Tree k ts)
  other_tree k ts n l =
      ap (paired_at_starts q) (placed_other q k ts n) ∙ starts_of_tree q k (map moved ts) ∙ ap (λ us. begin_step q (Node-F.Tree k us)) (each_started ts l)
      ∙ begin_row k (map (paired_at_starts p) ts) n ∙ ap moved (sym (starts_of_tree p k ts))

  -- a pair
  paired : (s e : Node) → Started s → Started e
      → Tree kind.ParenExpr (paired_at_starts q (put (q (span_of (moved e))) (moved s)) ∷ paired_at_starts q (moved e) ∷ []) ≡ moved (Tree kind.ParenExpr (paired_at_starts p s ∷ paired_at_starts p e ∷ []))
  paired s e f g =
      ap (λ s. Tree kind.ParenExpr (s ∷ paired_at_starts q (moved e) ∷ [])) (starts_put q (q (span_of (moved e))) (moved s))
      ∙ ap (λ r. Tree kind.ParenExpr (put (q r) (paired_at_starts q (moved s)) ∷ paired_at_starts q (moved e) ∷ [])) (sym (starts_stand q (moved e)))
      ∙ ap (λ e. Tree kind.ParenExpr (put (q (span_of e)) (paired_at_starts q (moved s)) ∷ e ∷ [])) g
      ∙ ap (λ s. Tree kind.ParenExpr (put (q (span_of (moved (paired_at_starts p e)))) s ∷ moved (paired_at_starts p e) ∷ [])) f
      ∙ sym (placed_of_tree q kind.ParenExpr (paired_at_starts p s ∷ paired_at_starts p e ∷ []))

  step_rolls : (r : Places) (us : List Node) → begin_step r (Node-F.Tree kind.ParenExpr us) ≡ Tree kind.ParenExpr us
  step_rolls r us = rolls-Tree kind.ParenExpr us

  pair_tree : (ts : List Node) → Each Started ts
      → paired_at_starts q (Tree kind.ParenExpr (placed_fields q kind.ParenExpr (map moved ts))) ≡ moved (Tree kind.ParenExpr (map (paired_at_starts p) ts))
  pair_tree (s ∷ e ∷ []) l = (
      let us = put (q (span_of (moved e))) (moved s) ∷ moved e ∷ [] in
      starts_of_tree q kind.ParenExpr us ∙ step_rolls q (map (paired_at_starts q) us) ∙ paired s e l.0 l.1.0)
  pair_tree [] l = starts_of_tree q kind.ParenExpr [] ∙ step_rolls q [] ∙ sym (placed_of_tree q kind.ParenExpr [])
  pair_tree (s ∷ []) l = starts_of_tree q kind.ParenExpr (moved s ∷ []) ∙ step_rolls q (paired_at_starts q (moved s) ∷ []) ∙ ap (λ u. Tree kind.ParenExpr (u ∷ [])) l.0 ∙ sym (placed_of_tree q kind.ParenExpr (paired_at_starts p s ∷ []))
  pair_tree (s ∷ e ∷ t ∷ ts) l =
      starts_of_tree q kind.ParenExpr (map moved (s ∷ e ∷ t ∷ ts)) ∙ step_rolls q (map (paired_at_starts q) (map moved (s ∷ e ∷ t ∷ ts))) ∙ ap (Tree kind.ParenExpr) (each_started (s ∷ e ∷ t ∷ ts) l)
      ∙ sym (placed_of_tree q kind.ParenExpr (map (paired_at_starts p) (s ∷ e ∷ t ∷ ts)))

  started_tree : (k : Kind) (ts : List Node) → Each Started ts → Started (Tree k ts)
  started_tree kind.ParenExpr ts l =
      ap (paired_at_starts q) (placed_of_tree q kind.ParenExpr ts) ∙ pair_tree ts l ∙ ap moved (sym (starts_of_tree p kind.ParenExpr ts ∙ step_rolls p (map (paired_at_starts p) ts)))
  started_tree k ts l = other_tree k ts refl l

  starts_same : (t : Node) → Started t
  starts_same t = by_children Started
      (search (rules, the_lemmas), λ x. search (rules, the_lemmas), λ w. search (rules, the_lemmas), λ x. search (rules, the_lemmas), λ s. search (rules, the_lemmas), λ k i. search (rules, the_lemmas))
      (λ ts l. ap (paired_at_starts q) (placed_of_list q ts) ∙ starts_of_list q (map moved ts) ∙ ap Many (each_started ts l) ∙ sym (ap moved (starts_of_list p ts) ∙ placed_of_list q (map (paired_at_starts p) ts)))
      started_tree t

-- the due pairs of a tree without pairs
pub due_placed : (p q : Places) (t : Node) → is_pairless t ≡ true → with_due_pairs q t ≡ placed q (with_due_pairs p t)
due_placed p q t h = (
    let u = paired_by_level p t in
    ap (λ u. paired_at_starts q (paired_in_heads q u)) (level_placed p q t h) ∙ ap (paired_at_starts q) (heads_placed p q u) ∙ starts_same p q (paired_in_heads p u))
