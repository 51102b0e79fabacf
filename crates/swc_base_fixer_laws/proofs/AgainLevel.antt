-- The first step of the due pairs after a change of spans or of names before `of` is the change after the step.
use Rattle.std.proofs.Common.{◌≡◌, ℕ, Bool, true, false, not, ◌||◌, List, [], ◌∷◌, map, refl, sym, ap, ◌∙◌, rules, true≢false}
use Rattle.std.specs.Prelude.{if◌then◌else◌}
use Rattle.swc_tree_node.specs.declared.kind.Kind.{Kind}
use Rattle.swc_tree_node.specs.declared.kind.Kind.TheVariants as kind
use Rattle.swc_tree_node.specs.declared.node.Node.{Node, Absent, Flag, Word, Text, Span, List as Many, Identifier, Tree, out-Node, the_lemmas}
use Rattle.swc_tree_node.specs.declared.node.Node.TheOpen.{Node-F}
use Rattle.swc_tree_grammar.specs.Shapes.{items_of}
use Rattle.swc_tree_grammar.specs.Demands.{Demand, demands, meets, at_least}
use Rattle.swc_tree_grammar.specs.Demands.Demand.{Any, AtLeast, Each as EachOf, Key, Body, Operand, Link, NewCallee, OrSide, NullishSide}
use Rattle.swc_tree_grammar.specs.Readers.{named_in, none as nothing, is_odd_item}
use Rattle.swc_tree_grammar.specs.Due.{Places, alone, pair, pair_if, to_level, key_in, callee_in, call_paired, settled, each_settled, odd_items, sequence_statement, level_step}
use Rattle.swc_tree_grammar.proofs.Induction.{Each, by_children}
use Rattle.swc_tree_grammar_laws.proofs.Callees.{callee, paired_of}
use Rattle.swc_tree_grammar_laws.proofs.Levels.{pairing, pairing_tree, pairing_list}
use Rattle.swc_base_fixer_laws.proofs.AgainMore.{callee_whole, call_of_list}
use Rattle.swc_base_fixer_laws.proofs.AgainMapped.{Mapped, is_changed, tree_other, items_mapped}
use Rattle.swc_base_fixer_laws.proofs.AgainLooks.{Tests, least_mapped, meets_mapped, demands_mapped, tests_mapped, odd_mapped}
use Rattle.swc_base_fixer_laws.proofs.AgainLooks.Tests.{nil, cons}

key_of_tree : (p : Places) (k : Kind) (ts : List Node) → key_in p (Tree k ts) (out-Node (Tree k ts)) ≡ key_in p (Tree k ts) (Node-F.Tree k ts)
key_of_tree p k ts = search (rules, the_lemmas)

sequence_of_tree : (p : Places) (k : Kind) (ts : List Node) → sequence_statement p (Tree k ts) (out-Node (Tree k ts)) ≡ sequence_statement p (Tree k ts) (Node-F.Tree k ts)
sequence_of_tree p k ts = search (rules, the_lemmas)

-- the fields of a node once the step is done in each
abbrev pub stepped : Places → List Node → List Node
stepped p ts = map alone (map (pairing p) ts)

-- what stands in the fields of a node then
abbrev pub asked : Places → Bool → Kind → List Node → List Node
asked p b k us = each_settled p (demands b (Node-F.Tree k us)) (named_in (Node-F.Tree k us)) us

-- a function that changes a pair's place
abbrev pub Moves : (Node → Node) → Places → Places → Type 0
Moves f p q = (e : Node) → f (pair p e) ≡ pair q (f e)

-- the changed fields of a statement are those that the step leaves
abbrev pub Leaves : (Kind → List Node → List Node) → Places → Type 0
Leaves fs q = (b : Bool) (k : Kind) (vs : List Node) → is_changed k ≡ true → asked q b k (stepped q (fs k vs)) ≡ fs k (asked q b k (stepped q vs))

module _ {f : Node → Node} {fs : Kind → List Node → List Node} (m : Mapped f fs) (p q : Places) (moved : Moves f p q) where
  same_if : (b c : Bool) (t : Node) → b ≡ c → pair_if b q (f t) ≡ f (pair_if c p t)
  same_if true true t e = sym (moved t)
  same_if false false t e = refl
  same_if true false t e = absurd (cc)
  same_if false true t e = absurd (cc)

  level_same : (n : ℕ) (t : Node) → to_level n q (f t) ≡ f (to_level n p t)
  level_same n t = same_if (not (at_least n (f t))) (not (at_least n t)) t (ap not (least_mapped m n t))

  levels_same : (n : ℕ) (ts : List Node) → map (to_level n q) (map f ts) ≡ map f (map (to_level n p) ts)
  levels_same n [] = refl
  levels_same n (t ∷ ts) = rw (level_same n t, levels_same n ts) refl

  -- callees
  abbrev Called : Node → Type 0
  Called t = call_paired q (f t) ≡ f (call_paired p t)

  called_row : (k : Kind) (ts : List Node) → is_changed k ≡ false → Each Called ts → callee_in q (Tree k (map f ts)) (Node-F.Tree k (map (callee q) (map f ts))) ≡ f (callee_in p (Tree k ts) (Node-F.Tree k (map (callee p) ts)))
  called_row kind.MemberExpr (s ∷ o ∷ r ∷ []) e l =
      rw (callee_whole q (f s), callee_whole q (f r), callee_whole p s, callee_whole p r, l.1.0) (sym (tree_other m kind.MemberExpr (s ∷ call_paired p o ∷ r ∷ []) refl))
  called_row kind.TaggedTpl (s ∷ o ∷ r ∷ []) e l =
      rw (callee_whole q (f s), callee_whole q (f r), callee_whole p s, callee_whole p r, l.1.0) (sym (tree_other m kind.TaggedTpl (s ∷ call_paired p o ∷ r ∷ []) refl))
  called_row k ts e l = ap (pair q) (sym (tree_other m k ts e)) ∙ sym (moved (Tree k ts))

  pair_of : (k : Kind) (us : List Node) → is_changed k ≡ true → (r : Places) → call_paired r (Tree k us) ≡ pair r (Tree k us)
  pair_of kind.IfStmt us e r = paired_of r kind.IfStmt us
  pair_of kind.ForOfStmt us e r = paired_of r kind.ForOfStmt us
  pair_of k us e r = absurd (true≢false (sym e))

  called_tree : (b : Bool) (k : Kind) (ts : List Node) → is_changed k ≡ b → Each Called ts → Called (Tree k ts)
  called_tree true k ts e l = ap (call_paired q) (m.tree k ts) ∙ pair_of k (fs k (map f ts)) e q ∙ ap (pair q) (sym (m.tree k ts)) ∙ sym (moved (Tree k ts)) ∙ ap f (sym (pair_of k ts e p))
  called_tree false k ts e l = ap (call_paired q) (tree_other m k ts e) ∙ paired_of q k (map f ts) ∙ called_row k ts e l ∙ ap f (sym (paired_of p k ts))

  called_leaf : (t u : Node) → f t ≡ u → call_paired q u ≡ pair q u → call_paired p t ≡ pair p t → Called t
  called_leaf t u e g h = ap (call_paired q) e ∙ g ∙ ap (pair q) (sym e) ∙ sym (moved t) ∙ ap f (sym h)

  called_same : (t : Node) → Called t
  called_same t = by_children Called (
    called_leaf Absent Absent m.absent (search (rules, the_lemmas)) (search (rules, the_lemmas)),
    λ x. called_leaf (Flag x) (Flag x) (m.flag x) (search (rules, the_lemmas)) (search (rules, the_lemmas)),
    λ w. called_leaf (Word w) (Word w) (m.word w) (search (rules, the_lemmas)) (search (rules, the_lemmas)),
    λ x. called_leaf (Text x) (Text x) (m.text x) (search (rules, the_lemmas)) (search (rules, the_lemmas)),
    λ s. called_leaf (Span s) (Span (m.spans s)) (m.span s) (search (rules, the_lemmas)) (search (rules, the_lemmas)),
    λ k i. called_leaf (Identifier k i) (Identifier k (m.idents i)) (m.name k i) (search (rules, the_lemmas)) (search (rules, the_lemmas)),
  )
      (λ ts l. called_leaf (Many ts) (Many (map f ts)) (m.list ts) (call_of_list q (map f ts)) (call_of_list p ts))
      (λ k ts l. called_tree (is_changed k) k ts refl l) t

  -- keys
  abbrev Keyed : Node → Type 0
  Keyed t = key_in q (f t) (out-Node (f t)) ≡ f (key_in p t (out-Node t))

  key_row : (k : Kind) (ts : List Node) → is_changed k ≡ false → key_in q (Tree k (map f ts)) (Node-F.Tree k (map f ts)) ≡ f (key_in p (Tree k ts) (Node-F.Tree k ts))
  key_row kind.ComputedPropName (s ∷ e ∷ []) n = ap (λ u. Tree kind.ComputedPropName (f s ∷ u ∷ [])) (level_same 2 e) ∙ sym (tree_other m kind.ComputedPropName (s ∷ to_level 2 p e ∷ []) refl)
  key_row k ts n = sym (tree_other m k ts n)

  key_stays : (k : Kind) (us : List Node) → is_changed k ≡ true → (r : Places) → key_in r (Tree k us) (Node-F.Tree k us) ≡ Tree k us
  key_stays kind.IfStmt us e r = refl
  key_stays kind.ForOfStmt us e r = refl
  key_stays k us e r = absurd (true≢false (sym e))

  key_tree : (b : Bool) (k : Kind) (ts : List Node) → is_changed k ≡ b → Keyed (Tree k ts)
  key_tree true k ts e =
      let us = fs k (map f ts) in
      ap (λ t. key_in q t (out-Node t)) (m.tree k ts) ∙ key_of_tree q k us ∙ key_stays k us e q ∙ sym (m.tree k ts) ∙ ap f (sym (key_of_tree p k ts ∙ key_stays k ts e p))
  key_tree false k ts e = ap (λ t. key_in q t (out-Node t)) (tree_other m k ts e) ∙ key_of_tree q k (map f ts) ∙ key_row k ts e ∙ ap f (sym (key_of_tree p k ts))

  key_leaf : (t u : Node) → f t ≡ u → key_in q u (out-Node u) ≡ u → key_in p t (out-Node t) ≡ t → Keyed t
  key_leaf t u e g h = ap (λ t. key_in q t (out-Node t)) e ∙ g ∙ sym e ∙ ap f (sym h)

  key_same : (t : Node) → Keyed t
  key_same t = by_children Keyed (
    key_leaf Absent Absent m.absent (search (rules, the_lemmas)) (search (rules, the_lemmas)),
    λ x. key_leaf (Flag x) (Flag x) (m.flag x) (search (rules, the_lemmas)) (search (rules, the_lemmas)),
    λ w. key_leaf (Word w) (Word w) (m.word w) (search (rules, the_lemmas)) (search (rules, the_lemmas)),
    λ x. key_leaf (Text x) (Text x) (m.text x) (search (rules, the_lemmas)) (search (rules, the_lemmas)),
    λ s. key_leaf (Span s) (Span (m.spans s)) (m.span s) (search (rules, the_lemmas)) (search (rules, the_lemmas)),
    λ k i. key_leaf (Identifier k i) (Identifier k (m.idents i)) (m.name k i) (search (rules, the_lemmas)) (search (rules, the_lemmas)),
  )
      (λ ts l. key_leaf (Many ts) (Many (map f ts)) (m.list ts) (search (rules, the_lemmas)) (search (rules, the_lemmas)))
      (λ k ts l. key_tree (is_changed k) k ts refl) t

  -- what stands in a place
  or_same : (a b c d : Bool) → a ≡ b → c ≡ d → (a || not c) ≡ (b || not d)
  or_same a b c d e g = rw (e, g) refl

  single_same : (d : Demand) (x y : Node → Bool) (t : Node) → x (f t) ≡ y t → pair_if (x (f t) || not (meets d (f t))) q (f t) ≡ f (pair_if (y t || not (meets d t)) p t)
  single_same d x y t e = same_if (x (f t) || not (meets d (f t))) (y t || not (meets d t)) t (or_same (x (f t)) (y t) (meets d (f t)) (meets d t) e (meets_mapped m d t))

  callee_if : (a b c d : Bool) (t : Node) → a ≡ b → c ≡ d → (if a then pair q (f t) else (if c then f t else call_paired q (f t))) ≡ f (if b then pair p t else (if d then t else call_paired p t))
  callee_if true true c d t e g = sym (moved t)
  callee_if false false true true t e g = refl
  callee_if false false false false t e g = called_same t
  callee_if true false c d t e g = absurd (cc)
  callee_if false true c d t e g = absurd (cc)
  callee_if false false true false t e g = absurd (cc)
  callee_if false false false true t e g = absurd (cc)

  settled_same : (d : Demand) (x y : Node → Bool) (t : Node) → x (f t) ≡ y t → settled q d x (f t) ≡ f (settled p d y t)
  settled_same (EachOf n) x y t e = ap (λ us. Many (map (to_level n q) us)) (items_mapped m t) ∙ ap Many (levels_same n (items_of t)) ∙ sym (m.list (map (to_level n p) (items_of t)))
  settled_same Key x y t e = key_same t
  settled_same (NewCallee bare) x y t e = callee_if (x (f t)) (y t) (meets (NewCallee bare) (f t)) (meets (NewCallee bare) t) t e (meets_mapped m (NewCallee bare) t)
  settled_same Any x y t e = single_same Any x y t e
  settled_same (AtLeast n) x y t e = single_same (AtLeast n) x y t e
  settled_same Body x y t e = single_same Body x y t e
  settled_same Operand x y t e = single_same Operand x y t e
  settled_same Link x y t e = single_same Link x y t e
  settled_same OrSide x y t e = single_same OrSide x y t e
  settled_same NullishSide x y t e = single_same NullishSide x y t e

  each_same : (ds : List Demand) {xs ys : List (Node → Bool)} → Tests f xs ys → (ts : List Node) → each_settled q ds xs (map f ts) ≡ map f (each_settled p ds ys ts)
  each_same [] c ts = refl
  each_same (d ∷ ds) nil [] = refl
  each_same (d ∷ ds) (cons x c) [] = refl
  each_same (d ∷ ds) nil (t ∷ ts) = rw (settled_same d nothing nothing t refl, each_same ds nil ts) refl
  each_same (d ∷ ds) (cons {x = x} {y = y} e c) (t ∷ ts) = rw (settled_same d x y t (e t), each_same ds c ts) refl

  asked_same : (b : Bool) (k : Kind) (us : List Node) → asked q b k (map f us) ≡ map f (asked p b k us)
  asked_same b k us = ap (λ ds. each_settled q ds (named_in (Node-F.Tree k (map f us))) (map f us)) (demands_mapped m b k us) ∙ each_same (demands b (Node-F.Tree k us)) (tests_mapped m k us) us

  -- sequences that are statements
  odd_same : (ts : List Node) → odd_items q (map f ts) ≡ map f (odd_items p ts)
  odd_same [] = refl
  odd_same (t ∷ []) = refl
  odd_same (t ∷ u ∷ ts) = rw (same_if (is_odd_item (f t)) (is_odd_item t) t (odd_mapped m t)) (ap (λ us. f (pair_if (is_odd_item t) p t) ∷ us) (odd_same (u ∷ ts)))

  abbrev Sequenced : Node → Type 0
  Sequenced t = sequence_statement q (f t) (out-Node (f t)) ≡ f (sequence_statement p t (out-Node t))

  sequence_row : (k : Kind) (ts : List Node) → is_changed k ≡ false → sequence_statement q (Tree k (map f ts)) (Node-F.Tree k (map f ts)) ≡ f (sequence_statement p (Tree k ts) (Node-F.Tree k ts))
  sequence_row kind.SeqExpr (s ∷ e ∷ []) n =
      ap (λ us. Tree kind.SeqExpr (f s ∷ Many (odd_items q us) ∷ [])) (items_mapped m e) ∙ ap (λ us. Tree kind.SeqExpr (f s ∷ Many us ∷ [])) (odd_same (items_of e))
      ∙ ap (λ u. Tree kind.SeqExpr (f s ∷ u ∷ [])) (sym (m.list (odd_items p (items_of e)))) ∙ sym (tree_other m kind.SeqExpr (s ∷ Many (odd_items p (items_of e)) ∷ []) refl)
  sequence_row k ts n = sym (tree_other m k ts n)

  sequence_stays : (k : Kind) (us : List Node) → is_changed k ≡ true → (r : Places) → sequence_statement r (Tree k us) (Node-F.Tree k us) ≡ Tree k us
  sequence_stays kind.IfStmt us e r = refl
  sequence_stays kind.ForOfStmt us e r = refl
  sequence_stays k us e r = absurd (true≢false (sym e))

  sequence_tree : (b : Bool) (k : Kind) (ts : List Node) → is_changed k ≡ b → Sequenced (Tree k ts)
  sequence_tree true k ts e =
      let us = fs k (map f ts) in
      ap (λ t. sequence_statement q t (out-Node t)) (m.tree k ts) ∙ sequence_of_tree q k us ∙ sequence_stays k us e q ∙ sym (m.tree k ts) ∙ ap f (sym (sequence_of_tree p k ts ∙ sequence_stays k ts e p))
  sequence_tree false k ts e = ap (λ t. sequence_statement q t (out-Node t)) (tree_other m k ts e) ∙ sequence_of_tree q k (map f ts) ∙ sequence_row k ts e ∙ ap f (sym (sequence_of_tree p k ts))

  sequence_leaf : (t u : Node) → f t ≡ u → sequence_statement q u (out-Node u) ≡ u → sequence_statement p t (out-Node t) ≡ t → Sequenced t
  sequence_leaf t u e g h = ap (λ t. sequence_statement q t (out-Node t)) e ∙ g ∙ sym e ∙ ap f (sym h)

  sequence_same : (t : Node) → Sequenced t
  sequence_same t = by_children Sequenced (
    sequence_leaf Absent Absent m.absent (search (rules, the_lemmas)) (search (rules, the_lemmas)),
    λ x. sequence_leaf (Flag x) (Flag x) (m.flag x) (search (rules, the_lemmas)) (search (rules, the_lemmas)),
    λ w. sequence_leaf (Word w) (Word w) (m.word w) (search (rules, the_lemmas)) (search (rules, the_lemmas)),
    λ x. sequence_leaf (Text x) (Text x) (m.text x) (search (rules, the_lemmas)) (search (rules, the_lemmas)),
    λ s. sequence_leaf (Span s) (Span (m.spans s)) (m.span s) (search (rules, the_lemmas)) (search (rules, the_lemmas)),
    λ k i. sequence_leaf (Identifier k i) (Identifier k (m.idents i)) (m.name k i) (search (rules, the_lemmas)) (search (rules, the_lemmas)),
  )
      (λ ts l. sequence_leaf (Many ts) (Many (map f ts)) (m.list ts) (search (rules, the_lemmas)) (search (rules, the_lemmas)))
      (λ k ts l. sequence_tree (is_changed k) k ts refl) t

  -- the step
  abbrev Levelled : Node → Type 0
  Levelled t = (b : Bool) → pairing q (f t) b ≡ f (pairing p t b)

  stepped_same : (ts : List Node) → Each Levelled ts → stepped q (map f ts) ≡ map f (stepped p ts)
  stepped_same [] l = refl
  stepped_same (t ∷ ts) l = rw (l.0 false, stepped_same ts l.1) refl

  level_row : (b : Bool) (k : Kind) (ts : List Node) → is_changed k ≡ false → Each Levelled ts → level_step q (Node-F.Tree k (map (pairing q) (map f ts))) b ≡ f (level_step p (Node-F.Tree k (map (pairing p) ts)) b)
  level_row b kind.OptChainExpr (s ∷ o ∷ r ∷ []) n l = rw (l.0 false, l.1.0 false, l.1.1.0 true) (sym (tree_other m kind.OptChainExpr (pairing p s false ∷ pairing p o false ∷ pairing p r true ∷ []) refl))
  level_row b kind.ExprStmt (s ∷ e ∷ []) n l =
      let e' = pairing p e false in
      rw (l.0 false, l.1.0 false, sequence_same e') (sym (tree_other m kind.ExprStmt (pairing p s false ∷ sequence_statement p e' (out-Node e') ∷ []) refl))
  level_row b k ts n l = ap (λ us. Tree k (asked q b k us)) (stepped_same ts l) ∙ ap (Tree k) (asked_same b k (stepped p ts)) ∙ sym (tree_other m k (asked p b k (stepped p ts)) n)

  step_changed : (r : Places) (b : Bool) (k : Kind) (us : List Node) → is_changed k ≡ true → level_step r (Node-F.Tree k (map (pairing r) us)) b ≡ Tree k (asked r b k (stepped r us))
  step_changed r b kind.IfStmt us e = refl
  step_changed r b kind.ForOfStmt us e = refl
  step_changed r b k us e = absurd (true≢false (sym e))

  level_tree : Leaves fs q → (c : Bool) (k : Kind) (ts : List Node) → is_changed k ≡ c → Each Levelled ts → Levelled (Tree k ts)
  level_tree w true k ts n l b =
      let vs = fs k (map f ts) in
      ap (λ t. pairing q t b) (m.tree k ts) ∙ pairing_tree q k vs b ∙ step_changed q b k vs n ∙ ap (Tree k) (w b k (map f ts) n)
      ∙ ap (λ us. Tree k (fs k (asked q b k us))) (stepped_same ts l) ∙ ap (λ us. Tree k (fs k us)) (asked_same b k (stepped p ts))
      ∙ sym (m.tree k (asked p b k (stepped p ts))) ∙ ap f (sym (pairing_tree p k ts b ∙ step_changed p b k ts n))
  level_tree w false k ts n l b = ap (λ t. pairing q t b) (tree_other m k ts n) ∙ pairing_tree q k (map f ts) b ∙ level_row b k ts n l ∙ ap f (sym (pairing_tree p k ts b))

  level_leaf : (t u : Node) → f t ≡ u → ((b : Bool) → pairing q u b ≡ u) → ((b : Bool) → pairing p t b ≡ t) → Levelled t
  level_leaf t u e g h b = ap (λ t. pairing q t b) e ∙ g b ∙ sym e ∙ ap f (sym (h b))

  pub levelled_same : Leaves fs q → (t : Node) → Levelled t
  levelled_same w t = by_children Levelled (
    level_leaf Absent Absent m.absent (λ b. search (rules, the_lemmas)) (λ b. search (rules, the_lemmas)),
    λ x. level_leaf (Flag x) (Flag x) (m.flag x) (λ b. search (rules, the_lemmas)) (λ b. search (rules, the_lemmas)),
    λ w. level_leaf (Word w) (Word w) (m.word w) (λ b. search (rules, the_lemmas)) (λ b. search (rules, the_lemmas)),
    λ x. level_leaf (Text x) (Text x) (m.text x) (λ b. search (rules, the_lemmas)) (λ b. search (rules, the_lemmas)),
    λ s. level_leaf (Span s) (Span (m.spans s)) (m.span s) (λ b. search (rules, the_lemmas)) (λ b. search (rules, the_lemmas)),
    λ k i. level_leaf (Identifier k i) (Identifier k (m.idents i)) (m.name k i) (λ b. search (rules, the_lemmas)) (λ b. search (rules, the_lemmas)),
  )
      (λ ts l b. ap (λ t. pairing q t b) (m.list ts) ∙ pairing_list q (map f ts) b ∙ ap Many (stepped_same ts l) ∙ sym (m.list (stepped p ts)) ∙ ap f (sym (pairing_list p ts b)))
      (λ k ts l. level_tree w (is_changed k) k ts refl l) t
