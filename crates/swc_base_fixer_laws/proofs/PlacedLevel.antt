-- The first step of the due pairs of a tree without pairs, for two places: what it makes by the one it makes by the other,
-- with each pair where that one has it.
use Rattle.std.proofs.Common.{◌≡◌, ℕ, Bool, true, false, not, ◌||◌, List, [], ◌∷◌, map, refl, sym, ap, subst, ◌∙◌, rules, true≢false}
use Rattle.std.specs.Prelude.{if◌then◌else◌}
use Rattle.std.specs.List.{list_all}
use Rattle.swc_tree_node.specs.declared.kind.Kind.{Kind}
use Rattle.swc_tree_node.specs.declared.kind.Kind.TheVariants as kind
use Rattle.swc_tree_node.specs.declared.node.Node.{Node, Absent, Flag, Word, Text, Span, List as Many, Identifier, Tree, out-Node, the_lemmas}
use Rattle.swc_tree_node.specs.declared.node.Node.TheOpen.{Node-F}
use Rattle.swc_tree_grammar.specs.Shapes.{items_of}
use Rattle.swc_tree_grammar.specs.Spanless.{spanless}
use Rattle.swc_tree_grammar.specs.Stripped.{is_pairless, pairless_step}
use Rattle.swc_tree_grammar.specs.Demands.{Demand, demands, meets, at_least}
use Rattle.swc_tree_grammar.specs.Demands.Demand.{Any, AtLeast, Each as EachOf, Key, Body, Operand, Link, NewCallee, OrSide, NullishSide}
use Rattle.swc_tree_grammar.specs.Readers.{named_in, none as nothing, is_odd_item}
use Rattle.swc_tree_grammar.specs.Due.{Places, pair, pair_if, to_level, key_in, callee_in, call_paired, settled, each_settled, odd_items, sequence_statement, level_step, paired_by_level}
use Rattle.swc_tree_grammar.proofs.Induction.{Each, by_children}
use Rattle.swc_tree_grammar_laws.proofs.Callees.{callee, paired_of}
use Rattle.swc_tree_grammar_laws.proofs.Levelled.{both}
use Rattle.swc_tree_grammar_laws.proofs.Levels.{pairing, pairing_tree, pairing_list}
use Rattle.swc_base_fixer_laws.proofs.AgainMore.{callee_whole, call_of_list}
use Rattle.swc_base_fixer_laws.proofs.AgainLooks.{Tests, least_mapped, meets_mapped, demands_mapped, tests_mapped, odd_mapped}
use Rattle.swc_base_fixer_laws.proofs.AgainLooks.Tests.{nil, cons}
use Rattle.swc_base_fixer_laws.proofs.AgainNamed.{spanless_mapped}
use Rattle.swc_base_fixer_laws.proofs.AgainLevel.{stepped, asked}
use Rattle.swc_base_fixer_laws.proofs.Placed.{placed, placed_fields, is_pair, placed_other, placed_pair, placed_less, seen_same, placed_items, placed_of_tree, placed_of_list, placed_of_absent, placed_of_flag, placed_of_word, placed_of_text, placed_of_span, placed_of_name}

key_of_tree : (p : Places) (k : Kind) (ts : List Node) → key_in p (Tree k ts) (out-Node (Tree k ts)) ≡ key_in p (Tree k ts) (Node-F.Tree k ts)
key_of_tree p k ts = search (rules, the_lemmas)

sequence_of_tree : (p : Places) (k : Kind) (ts : List Node) → sequence_statement p (Tree k ts) (out-Node (Tree k ts)) ≡ sequence_statement p (Tree k ts) (Node-F.Tree k ts)
sequence_of_tree p k ts = search (rules, the_lemmas)

-- in a tree without pairs no node is a pair
pub pairless_of_tree : (k : Kind) (ts : List Node) → is_pairless (Tree k ts) ≡ pairless_step (Node-F.Tree k (map is_pairless ts))
pairless_of_tree k ts = search (rules, the_lemmas)

pub pairless_of_list : (ts : List Node) → is_pairless (Many ts) ≡ list_all (λ b. b) (map is_pairless ts)
pairless_of_list ts = search (rules, the_lemmas)

-- tests
less_each : (q : Places) (ts : List Node) → map spanless (map (placed q) ts) ≡ map spanless ts
less_each q [] = refl
less_each q (t ∷ ts) = rw (placed_less q t, less_each q ts) refl

joined : (q : Places) {xs ys zs : List (Node → Bool)} → Tests spanless zs xs → Tests spanless zs ys → Tests (placed q) xs ys
joined q nil nil = nil
joined q (cons {x = z} e c) (cons g d) = cons (λ t. sym (e (placed q t)) ∙ ap z (placed_less q t) ∙ g t) (joined q c d)

pub tests_same : (q : Places) (k : Kind) (ts : List Node) → Tests (placed q) (named_in (Node-F.Tree k (map (placed q) ts))) (named_in (Node-F.Tree k ts))
tests_same q k ts = joined q (subst (λ us. Tests spanless (named_in (Node-F.Tree k us)) (named_in (Node-F.Tree k (map (placed q) ts)))) (less_each q ts) (tests_mapped spanless_mapped k (map (placed q) ts))) (tests_mapped spanless_mapped k ts)

pub demands_same : (q : Places) (b : Bool) (k : Kind) (ts : List Node) → demands b (Node-F.Tree k (map (placed q) ts)) ≡ demands b (Node-F.Tree k ts)
demands_same q b k ts = sym (demands_mapped spanless_mapped b k (map (placed q) ts)) ∙ ap (λ us. demands b (Node-F.Tree k us)) (less_each q ts) ∙ demands_mapped spanless_mapped b k ts

module _ (p q : Places) where
  abbrev f : Node → Node
  f = placed q

  moved : (e : Node) → f (pair p e) ≡ pair q (f e)
  moved = placed_pair p q

  tree_other : (k : Kind) (ts : List Node) → is_pair k ≡ false → f (Tree k ts) ≡ Tree k (map f ts)
  tree_other = placed_other q

  least_same : (n : ℕ) (t : Node) → at_least n (f t) ≡ at_least n t
  least_same n = seen_same q Bool (at_least n) (least_mapped spanless_mapped n)

  meets_same : (d : Demand) (t : Node) → meets d (f t) ≡ meets d t
  meets_same d = seen_same q Bool (meets d) (meets_mapped spanless_mapped d)

  odd_same_test : (t : Node) → is_odd_item (f t) ≡ is_odd_item t
  odd_same_test = seen_same q Bool is_odd_item (odd_mapped spanless_mapped)

  same_if : (b c : Bool) (t : Node) → b ≡ c → pair_if b q (f t) ≡ f (pair_if c p t)
  same_if true true t e = sym (moved t)
  same_if false false t e = refl
  same_if true false t e = absurd (cc)
  same_if false true t e = absurd (cc)

  level_same : (n : ℕ) (t : Node) → to_level n q (f t) ≡ f (to_level n p t)
  level_same n t = same_if (not (at_least n (f t))) (not (at_least n t)) t (ap not (least_same n t))

  levels_same : (n : ℕ) (ts : List Node) → map (to_level n q) (map f ts) ≡ map f (map (to_level n p) ts)
  levels_same n [] = refl
  levels_same n (t ∷ ts) = rw (level_same n t, levels_same n ts) refl

  -- callees
  abbrev Called : Node → Type 0
  Called t = call_paired q (f t) ≡ f (call_paired p t)

  called_row : (k : Kind) (ts : List Node) → is_pair k ≡ false → Each Called ts → callee_in q (Tree k (map f ts)) (Node-F.Tree k (map (callee q) (map f ts))) ≡ f (callee_in p (Tree k ts) (Node-F.Tree k (map (callee p) ts)))
  called_row kind.MemberExpr (s ∷ o ∷ r ∷ []) e l =
      rw (callee_whole q (f s), callee_whole q (f r), callee_whole p s, callee_whole p r, l.1.0) (sym (tree_other kind.MemberExpr (s ∷ call_paired p o ∷ r ∷ []) refl))
  called_row kind.TaggedTpl (s ∷ o ∷ r ∷ []) e l =
      rw (callee_whole q (f s), callee_whole q (f r), callee_whole p s, callee_whole p r, l.1.0) (sym (tree_other kind.TaggedTpl (s ∷ call_paired p o ∷ r ∷ []) refl))
  called_row k ts e l = ap (pair q) (sym (tree_other k ts e)) ∙ sym (moved (Tree k ts))

  pair_of : (k : Kind) (us : List Node) → is_pair k ≡ true → (r : Places) → call_paired r (Tree k us) ≡ pair r (Tree k us)
  pair_of kind.ParenExpr us e r = paired_of r kind.ParenExpr us
  pair_of k us e r = absurd (true≢false (sym e))

  called_tree : (b : Bool) (k : Kind) (ts : List Node) → is_pair k ≡ b → Each Called ts → Called (Tree k ts)
  called_tree true k ts e l = ap (call_paired q) (placed_of_tree q k ts) ∙ pair_of k (placed_fields q k (map f ts)) e q ∙ ap (pair q) (sym (placed_of_tree q k ts)) ∙ sym (moved (Tree k ts)) ∙ ap f (sym (pair_of k ts e p))
  called_tree false k ts e l = ap (call_paired q) (tree_other k ts e) ∙ paired_of q k (map f ts) ∙ called_row k ts e l ∙ ap f (sym (paired_of p k ts))

  called_leaf : (t u : Node) → f t ≡ u → call_paired q u ≡ pair q u → call_paired p t ≡ pair p t → Called t
  called_leaf t u e g h = ap (call_paired q) e ∙ g ∙ ap (pair q) (sym e) ∙ sym (moved t) ∙ ap f (sym h)

  called_same : (t : Node) → Called t
  called_same t = by_children Called (
    called_leaf Absent Absent (placed_of_absent q) (search (rules, the_lemmas)) (search (rules, the_lemmas)),
    λ x. called_leaf (Flag x) (Flag x) (placed_of_flag q x) (search (rules, the_lemmas)) (search (rules, the_lemmas)),
    λ w. called_leaf (Word w) (Word w) (placed_of_word q w) (search (rules, the_lemmas)) (search (rules, the_lemmas)),
    λ x. called_leaf (Text x) (Text x) (placed_of_text q x) (search (rules, the_lemmas)) (search (rules, the_lemmas)),
    λ s. called_leaf (Span s) (Span (s)) (placed_of_span q s) (search (rules, the_lemmas)) (search (rules, the_lemmas)),
    λ k i. called_leaf (Identifier k i) (Identifier k (i)) (placed_of_name q k i) (search (rules, the_lemmas)) (search (rules, the_lemmas)),
  )
      (λ ts l. called_leaf (Many ts) (Many (map f ts)) (placed_of_list q ts) (call_of_list q (map f ts)) (call_of_list p ts))
      (λ k ts l. called_tree (is_pair k) k ts refl l) t

  -- keys
  abbrev Keyed : Node → Type 0
  Keyed t = key_in q (f t) (out-Node (f t)) ≡ f (key_in p t (out-Node t))

  key_row : (k : Kind) (ts : List Node) → is_pair k ≡ false → key_in q (Tree k (map f ts)) (Node-F.Tree k (map f ts)) ≡ f (key_in p (Tree k ts) (Node-F.Tree k ts))
  key_row kind.ComputedPropName (s ∷ e ∷ []) n = ap (λ u. Tree kind.ComputedPropName (f s ∷ u ∷ [])) (level_same 2 e) ∙ sym (tree_other kind.ComputedPropName (s ∷ to_level 2 p e ∷ []) refl)
  key_row k ts n = sym (tree_other k ts n)

  key_stays : (k : Kind) (us : List Node) → is_pair k ≡ true → (r : Places) → key_in r (Tree k us) (Node-F.Tree k us) ≡ Tree k us
  key_stays kind.ParenExpr us e r = refl
  key_stays k us e r = absurd (true≢false (sym e))

  key_tree : (b : Bool) (k : Kind) (ts : List Node) → is_pair k ≡ b → Keyed (Tree k ts)
  key_tree true k ts e =
      let us = placed_fields q k (map f ts) in
      ap (λ t. key_in q t (out-Node t)) (placed_of_tree q k ts) ∙ key_of_tree q k us ∙ key_stays k us e q ∙ sym (placed_of_tree q k ts) ∙ ap f (sym (key_of_tree p k ts ∙ key_stays k ts e p))
  key_tree false k ts e = ap (λ t. key_in q t (out-Node t)) (tree_other k ts e) ∙ key_of_tree q k (map f ts) ∙ key_row k ts e ∙ ap f (sym (key_of_tree p k ts))

  key_leaf : (t u : Node) → f t ≡ u → key_in q u (out-Node u) ≡ u → key_in p t (out-Node t) ≡ t → Keyed t
  key_leaf t u e g h = ap (λ t. key_in q t (out-Node t)) e ∙ g ∙ sym e ∙ ap f (sym h)

  key_same : (t : Node) → Keyed t
  key_same t = by_children Keyed (
    key_leaf Absent Absent (placed_of_absent q) (search (rules, the_lemmas)) (search (rules, the_lemmas)),
    λ x. key_leaf (Flag x) (Flag x) (placed_of_flag q x) (search (rules, the_lemmas)) (search (rules, the_lemmas)),
    λ w. key_leaf (Word w) (Word w) (placed_of_word q w) (search (rules, the_lemmas)) (search (rules, the_lemmas)),
    λ x. key_leaf (Text x) (Text x) (placed_of_text q x) (search (rules, the_lemmas)) (search (rules, the_lemmas)),
    λ s. key_leaf (Span s) (Span (s)) (placed_of_span q s) (search (rules, the_lemmas)) (search (rules, the_lemmas)),
    λ k i. key_leaf (Identifier k i) (Identifier k (i)) (placed_of_name q k i) (search (rules, the_lemmas)) (search (rules, the_lemmas)),
  )
      (λ ts l. key_leaf (Many ts) (Many (map f ts)) (placed_of_list q ts) (search (rules, the_lemmas)) (search (rules, the_lemmas)))
      (λ k ts l. key_tree (is_pair k) k ts refl) t

  -- what stands in a place
  or_same : (a b c d : Bool) → a ≡ b → c ≡ d → (a || not c) ≡ (b || not d)
  or_same a b c d e g = rw (e, g) refl

  single_same : (d : Demand) (x y : Node → Bool) (t : Node) → x (f t) ≡ y t → pair_if (x (f t) || not (meets d (f t))) q (f t) ≡ f (pair_if (y t || not (meets d t)) p t)
  single_same d x y t e = same_if (x (f t) || not (meets d (f t))) (y t || not (meets d t)) t (or_same (x (f t)) (y t) (meets d (f t)) (meets d t) e (meets_same d t))

  callee_if : (a b c d : Bool) (t : Node) → a ≡ b → c ≡ d → (if a then pair q (f t) else (if c then f t else call_paired q (f t))) ≡ f (if b then pair p t else (if d then t else call_paired p t))
  callee_if true true c d t e g = sym (moved t)
  callee_if false false true true t e g = refl
  callee_if false false false false t e g = called_same t
  callee_if true false c d t e g = absurd (cc)
  callee_if false true c d t e g = absurd (cc)
  callee_if false false true false t e g = absurd (cc)
  callee_if false false false true t e g = absurd (cc)

  settled_same : (d : Demand) (x y : Node → Bool) (t : Node) → x (f t) ≡ y t → settled q d x (f t) ≡ f (settled p d y t)
  settled_same (EachOf n) x y t e = ap (λ us. Many (map (to_level n q) us)) (placed_items q t) ∙ ap Many (levels_same n (items_of t)) ∙ sym (placed_of_list q (map (to_level n p) (items_of t)))
  settled_same Key x y t e = key_same t
  settled_same (NewCallee bare) x y t e = callee_if (x (f t)) (y t) (meets (NewCallee bare) (f t)) (meets (NewCallee bare) t) t e (meets_same (NewCallee bare) t)
  settled_same Any x y t e = single_same Any x y t e
  settled_same (AtLeast n) x y t e = single_same (AtLeast n) x y t e
  settled_same Body x y t e = single_same Body x y t e
  settled_same Operand x y t e = single_same Operand x y t e
  settled_same Link x y t e = single_same Link x y t e
  settled_same OrSide x y t e = single_same OrSide x y t e
  settled_same NullishSide x y t e = single_same NullishSide x y t e

  each_same : (ds : List Demand) {xs ys : List (Node → Bool)} → Tests f xs ys → (ts : List Node) → each_settled q ds xs (map f ts) ≡ map f (each_settled p ds ys ts)
  each_same [] c ts = refl
  each_same (d ∷ ds) nil [] = refl
  each_same (d ∷ ds) (cons x c) [] = refl
  each_same (d ∷ ds) nil (t ∷ ts) = rw (settled_same d nothing nothing t refl, each_same ds nil ts) refl
  each_same (d ∷ ds) (cons {x = x} {y = y} e c) (t ∷ ts) = rw (settled_same d x y t (e t), each_same ds c ts) refl

  asked_same : (b : Bool) (k : Kind) (us : List Node) → asked q b k (map f us) ≡ map f (asked p b k us)
  asked_same b k us = ap (λ ds. each_settled q ds (named_in (Node-F.Tree k (map f us))) (map f us)) (demands_same q b k us) ∙ each_same (demands b (Node-F.Tree k us)) (tests_same q k us) us

  -- sequences that are statements
  odd_same : (ts : List Node) → odd_items q (map f ts) ≡ map f (odd_items p ts)
  odd_same [] = refl
  odd_same (t ∷ []) = refl
  odd_same (t ∷ u ∷ ts) = rw (same_if (is_odd_item (f t)) (is_odd_item t) t (odd_same_test t)) (ap (λ us. f (pair_if (is_odd_item t) p t) ∷ us) (odd_same (u ∷ ts)))

  abbrev Sequenced : Node → Type 0
  Sequenced t = sequence_statement q (f t) (out-Node (f t)) ≡ f (sequence_statement p t (out-Node t))

  sequence_row : (k : Kind) (ts : List Node) → is_pair k ≡ false → sequence_statement q (Tree k (map f ts)) (Node-F.Tree k (map f ts)) ≡ f (sequence_statement p (Tree k ts) (Node-F.Tree k ts))
  sequence_row kind.SeqExpr (s ∷ e ∷ []) n =
      ap (λ us. Tree kind.SeqExpr (f s ∷ Many (odd_items q us) ∷ [])) (placed_items q e) ∙ ap (λ us. Tree kind.SeqExpr (f s ∷ Many us ∷ [])) (odd_same (items_of e))
      ∙ ap (λ u. Tree kind.SeqExpr (f s ∷ u ∷ [])) (sym (placed_of_list q (odd_items p (items_of e)))) ∙ sym (tree_other kind.SeqExpr (s ∷ Many (odd_items p (items_of e)) ∷ []) refl)
  sequence_row k ts n = sym (tree_other k ts n)

  sequence_stays : (k : Kind) (us : List Node) → is_pair k ≡ true → (r : Places) → sequence_statement r (Tree k us) (Node-F.Tree k us) ≡ Tree k us
  sequence_stays kind.ParenExpr us e r = refl
  sequence_stays k us e r = absurd (true≢false (sym e))

  sequence_tree : (b : Bool) (k : Kind) (ts : List Node) → is_pair k ≡ b → Sequenced (Tree k ts)
  sequence_tree true k ts e =
      let us = placed_fields q k (map f ts) in
      ap (λ t. sequence_statement q t (out-Node t)) (placed_of_tree q k ts) ∙ sequence_of_tree q k us ∙ sequence_stays k us e q ∙ sym (placed_of_tree q k ts) ∙ ap f (sym (sequence_of_tree p k ts ∙ sequence_stays k ts e p))
  sequence_tree false k ts e = ap (λ t. sequence_statement q t (out-Node t)) (tree_other k ts e) ∙ sequence_of_tree q k (map f ts) ∙ sequence_row k ts e ∙ ap f (sym (sequence_of_tree p k ts))

  sequence_leaf : (t u : Node) → f t ≡ u → sequence_statement q u (out-Node u) ≡ u → sequence_statement p t (out-Node t) ≡ t → Sequenced t
  sequence_leaf t u e g h = ap (λ t. sequence_statement q t (out-Node t)) e ∙ g ∙ sym e ∙ ap f (sym h)

  sequence_same : (t : Node) → Sequenced t
  sequence_same t = by_children Sequenced (
    sequence_leaf Absent Absent (placed_of_absent q) (search (rules, the_lemmas)) (search (rules, the_lemmas)),
    λ x. sequence_leaf (Flag x) (Flag x) (placed_of_flag q x) (search (rules, the_lemmas)) (search (rules, the_lemmas)),
    λ w. sequence_leaf (Word w) (Word w) (placed_of_word q w) (search (rules, the_lemmas)) (search (rules, the_lemmas)),
    λ x. sequence_leaf (Text x) (Text x) (placed_of_text q x) (search (rules, the_lemmas)) (search (rules, the_lemmas)),
    λ s. sequence_leaf (Span s) (Span (s)) (placed_of_span q s) (search (rules, the_lemmas)) (search (rules, the_lemmas)),
    λ k i. sequence_leaf (Identifier k i) (Identifier k (i)) (placed_of_name q k i) (search (rules, the_lemmas)) (search (rules, the_lemmas)),
  )
      (λ ts l. sequence_leaf (Many ts) (Many (map f ts)) (placed_of_list q ts) (search (rules, the_lemmas)) (search (rules, the_lemmas)))
      (λ k ts l. sequence_tree (is_pair k) k ts refl) t

  -- the step
  abbrev Levelled : Node → Type 0
  Levelled t = is_pairless t ≡ true → (b : Bool) → pairing q t b ≡ f (pairing p t b)

  abbrev Set : Node → Type 0
  Set t = (b : Bool) → pairing q t b ≡ f (pairing p t b)

  all_set : (ts : List Node) → Each Levelled ts → list_all (λ b. b) (map is_pairless ts) ≡ true → Each Set ts
  all_set [] l h = tt
  all_set (t ∷ ts) l h = let g = both (is_pairless t) (list_all (λ b. b) (map is_pairless ts)) h in (l.0 g.0, all_set ts l.1 g.1)

  stepped_same : (ts : List Node) → Each Set ts → stepped q ts ≡ map f (stepped p ts)
  stepped_same [] l = refl
  stepped_same (t ∷ ts) l = rw (l.0 false, stepped_same ts l.1) refl

  level_row : (b : Bool) (k : Kind) (ts : List Node) → is_pair k ≡ false → Each Set ts → level_step q (Node-F.Tree k (map (pairing q) ts)) b ≡ f (level_step p (Node-F.Tree k (map (pairing p) ts)) b)
  level_row b kind.OptChainExpr (s ∷ o ∷ r ∷ []) n l = rw (l.0 false, l.1.0 false, l.1.1.0 true) (sym (tree_other kind.OptChainExpr (pairing p s false ∷ pairing p o false ∷ pairing p r true ∷ []) refl))
  level_row b kind.ExprStmt (s ∷ e ∷ []) n l =
      let e' = pairing p e false in
      rw (l.0 false, l.1.0 false, sequence_same e') (sym (tree_other kind.ExprStmt (pairing p s false ∷ sequence_statement p e' (out-Node e') ∷ []) refl))
  level_row b k ts n l = ap (λ us. Tree k (asked q b k us)) (stepped_same ts l) ∙ ap (Tree k) (asked_same b k (stepped p ts)) ∙ sym (tree_other k (asked p b k (stepped p ts)) n)

  pairless_row : (k : Kind) (bs : List Bool) → pairless_step (Node-F.Tree k bs) ≡ true → (is_pair k ≡ false) × (list_all (λ b. b) bs ≡ true)
  pairless_row kind.ParenExpr bs h = absurd (true≢false (sym h))
  pairless_row k bs h = (refl, h)

  level_tree : (k : Kind) (ts : List Node) → Each Levelled ts → Levelled (Tree k ts)
  level_tree k ts l h b =
      let n = pairless_row k (map is_pairless ts) (sym (pairless_of_tree k ts) ∙ h) in
      pairing_tree q k ts b ∙ level_row b k ts n.0 (all_set ts l n.1) ∙ ap f (sym (pairing_tree p k ts b))

  level_list : (ts : List Node) → Each Levelled ts → Levelled (Many ts)
  level_list ts l h b = pairing_list q ts b ∙ ap Many (stepped_same ts (all_set ts l (sym (pairless_of_list ts) ∙ h))) ∙ sym (placed_of_list q (stepped p ts)) ∙ ap f (sym (pairing_list p ts b))

  level_leaf : (t : Node) → f t ≡ t → ((b : Bool) → pairing q t b ≡ t) → ((b : Bool) → pairing p t b ≡ t) → Levelled t
  level_leaf t e g h x b = g b ∙ sym e ∙ ap f (sym (h b))

  levelled_same : (t : Node) → Levelled t
  levelled_same t = by_children Levelled (
    level_leaf Absent (placed_of_absent q) (λ b. search (rules, the_lemmas)) (λ b. search (rules, the_lemmas)),
    λ x. level_leaf (Flag x) (placed_of_flag q x) (λ b. search (rules, the_lemmas)) (λ b. search (rules, the_lemmas)),
    λ w. level_leaf (Word w) (placed_of_word q w) (λ b. search (rules, the_lemmas)) (λ b. search (rules, the_lemmas)),
    λ x. level_leaf (Text x) (placed_of_text q x) (λ b. search (rules, the_lemmas)) (λ b. search (rules, the_lemmas)),
    λ s. level_leaf (Span s) (placed_of_span q s) (λ b. search (rules, the_lemmas)) (λ b. search (rules, the_lemmas)),
    λ k i. level_leaf (Identifier k i) (placed_of_name q k i) (λ b. search (rules, the_lemmas)) (λ b. search (rules, the_lemmas)),
  )
      level_list level_tree t

pub level_placed : (p q : Places) (t : Node) → is_pairless t ≡ true → paired_by_level q t ≡ placed q (paired_by_level p t)
level_placed p q t h = levelled_same p q t h false
