-- The due pairs are pairs that are set, besides what they make of the name `async` before `of`; stripping takes them off.
use Rattle.std.proofs.Common.{◌≡◌, ℕ, Bool, true, false, not, ◌&&◌, ◌||◌, List, [], ◌∷◌, map, refl, sym, ap, ◌∙◌, rules}
use Rattle.std.specs.Prelude.{if◌then◌else◌}
use Rattle.std.specs.List.{list_all}
use Rattle.swc_tree_marks.specs.declared.span.Span.{Span as Range}
use Rattle.swc_tree_node.specs.declared.kind.Kind.{Kind}
use Rattle.swc_tree_node.specs.declared.kind.Kind.TheVariants as kind
use Rattle.swc_tree_node.specs.declared.node.Node.{Node, Absent, Flag, Word, Text, Span, List as Many, Identifier, Tree, out-Node, the_lemmas}
use Rattle.swc_tree_node.specs.declared.node.Node.TheOpen.{Node-F}
use Rattle.swc_tree_grammar.specs.Shapes.{Seq, items_of}
use Rattle.swc_tree_grammar.specs.Blocks.{span_of}
use Rattle.swc_tree_grammar.specs.Demands.{Demand, demands, meets, at_least}
use Rattle.swc_tree_grammar.specs.Demands.Demand.{Any, AtLeast, Each as EachOf, Key, Body, Operand, Link, NewCallee, OrSide, NullishSide}
use Rattle.swc_tree_grammar.specs.Readers.{named_in, none as nothing, is_odd_item}
use Rattle.swc_tree_grammar.specs.Stripped.{stripped, strip_step}
use Rattle.swc_tree_grammar.specs.Due.{Places, Callee, alone, pair, pair_if, to_level, key_in, callee_step, callee_in, call_paired, settled, each_settled, odd_items, sequence_statement, paired_in, level_step, paired_by_level}
use Rattle.swc_tree_grammar.proofs.Induction.{Each, by_children}
use Rattle.swc_tree_grammar.proofs.Stripped.{stripped_of_tree, stripped_of_list}
use Rattle.swc_tree_grammar.proofs.Wholes.{carried, all_carried}
use Rattle.swc_tree_grammar_laws.proofs.Callees.{callee, paired_of}
use Rattle.swc_tree_grammar_laws.proofs.Levels.{pairing, pairing_tree, pairing_list}
use Rattle.swc_tree_grammar_laws.proofs.Levelled.{both}
use Rattle.swc_tree_grammar_laws.proofs.Every.{every_tree, every_list}
use Rattle.swc_base_fixer_laws.proofs.Up.{all_up_same}
use Rattle.swc_base_fixer_laws.proofs.Kept.{asks, is_single}
use Rattle.swc_base_fixer_laws.proofs.AgainStill.{still, still_in, is_list, list_is, firm}

-- a tree with some more pairs, anywhere
mutual
  pub data More : Node → Node → Type 0 where
    same : (t : Node) → More t t
    after : {t u v : Node} → More t u → More u v → More t v
    around : (r : Range) (t u : Node) → More t u → More t (Tree kind.ParenExpr (Span r ∷ u ∷ []))
    items : (ts us : List Node) → AllMore ts us → More (Many ts) (Many us)
    tree : (k : Kind) (ts us : List Node) → AllMore ts us → More (Tree k ts) (Tree k us)

  pub data AllMore : List Node → List Node → Type 0 where
    none : AllMore [] []
    more : {t u : Node} {ts us : List Node} → More t u → AllMore ts us → AllMore (t ∷ ts) (u ∷ us)

pub all_same : (ts : List Node) → AllMore ts ts
all_same [] = none
all_same (t ∷ ts) = more (same t) (all_same ts)

all_after : {ts us vs : List Node} → AllMore ts us → AllMore us vs → AllMore ts vs
all_after none none = none
all_after (more c x) (more d y) = more (after c d) (all_after x y)

-- stripping takes them off
pair_is : (r : Range) (u : Node) → stripped (Tree kind.ParenExpr (Span r ∷ u ∷ [])) ≡ stripped u
pair_is r u = stripped_of_tree kind.ParenExpr (Span r ∷ u ∷ [])

mutual
  pub more_stripped : {t u : Node} → More t u → stripped u ≡ stripped t
  more_stripped (same t) = refl
  more_stripped (after c d) = more_stripped d ∙ more_stripped c
  more_stripped (around r t u d) = pair_is r u ∙ more_stripped d
  more_stripped (items ts us d) = stripped_of_list us ∙ ap Many (all_stripped d) ∙ sym (stripped_of_list ts)
  more_stripped (tree k ts us d) = stripped_of_tree k us ∙ ap (λ vs. strip_step (Node-F.Tree k vs)) (all_stripped d) ∙ sym (stripped_of_tree k ts)

  all_stripped : {ts us : List Node} → AllMore ts us → map stripped us ≡ map stripped ts
  all_stripped none = refl
  all_stripped (more c d) = rw (more_stripped c, all_stripped d) refl

pub more_pair : (p : Places) {t u : Node} → More t u → More t (pair p u)
more_pair p {t = t} {u = u} d = around (p (span_of u)) t u d

more_if : (b : Bool) (p : Places) (t : Node) → More t (pair_if b p t)
more_if true p t = more_pair p (same t)
more_if false p t = same t

-- the first step
pub callee_whole : (p : Places) (t : Node) → (callee p t).whole ≡ t
callee_whole p t = carried Callee (callee_step p) (λ e. e.whole) (λ x. refl) t

callee_wholes : (p : Places) (ts : List Node) → map (λ e. e.whole) (map (callee p) ts) ≡ ts
callee_wholes p ts = all_carried Callee (callee_step p) (λ e. e.whole) (λ x. refl) ts

call_of_many : (p : Places) (ts : List Node) → call_paired p (Many ts) ≡ pair p (Many (map (λ e. e.whole) (map (callee p) ts)))
call_of_many p ts = search (rules, the_lemmas)

pub call_of_list : (p : Places) (ts : List Node) → call_paired p (Many ts) ≡ pair p (Many ts)
call_of_list p ts = call_of_many p ts ∙ ap (λ us. pair p (Many us)) (callee_wholes p ts)

abbrev Called : Places → Node → Type 0
Called p t = More t (call_paired p t)

called_row : (p : Places) (k : Kind) (ts : List Node) → Each (Called p) ts → More (Tree k ts) (callee_in p (Tree k ts) (Node-F.Tree k (map (callee p) ts)))
called_row p kind.MemberExpr (s ∷ o ∷ m ∷ []) l = rw (callee_whole p s, callee_whole p m) (tree kind.MemberExpr (s ∷ o ∷ m ∷ []) (s ∷ call_paired p o ∷ m ∷ []) (more (same s) (more l.1.0 (more (same m) none))))
called_row p kind.TaggedTpl (s ∷ o ∷ m ∷ []) l = rw (callee_whole p s, callee_whole p m) (tree kind.TaggedTpl (s ∷ o ∷ m ∷ []) (s ∷ call_paired p o ∷ m ∷ []) (more (same s) (more l.1.0 (more (same m) none))))
called_row p k ts l = more_pair p (same (Tree k ts))

called_leaf : (p : Places) (t : Node) → call_paired p t ≡ pair p t → Called p t
called_leaf p t e = rw e (more_pair p (same t))

called : (p : Places) (t : Node) → Called p t
called p t = by_children (Called p)
    (called_leaf p Absent (search (rules, the_lemmas)), λ x. called_leaf p (Flag x) (search (rules, the_lemmas)), λ w. called_leaf p (Word w) (search (rules, the_lemmas)), λ x. called_leaf p (Text x) (search (rules, the_lemmas)), λ s. called_leaf p (Span s) (search (rules, the_lemmas)), λ k i. called_leaf p (Identifier k i) (search (rules, the_lemmas)))
    (λ ts l. called_leaf p (Many ts) (call_of_list p ts))
    (λ k ts l. rw (paired_of p k ts) (called_row p k ts l)) t

key_row : (p : Places) (k : Kind) (ts : List Node) → More (Tree k ts) (key_in p (Tree k ts) (Node-F.Tree k ts))
key_row p kind.ComputedPropName (s ∷ e ∷ []) = tree kind.ComputedPropName (s ∷ e ∷ []) (s ∷ to_level 2 p e ∷ []) (more (same s) (more (more_if (not (at_least 2 e)) p e) none))
key_row p k ts = same (Tree k ts)

pub stays : {t u : Node} → u ≡ t → More t u
stays {t = t} e = rw e (same t)

key_more : (p : Places) (t : Node) → More t (key_in p t (out-Node t))
key_more p t = by_children (λ t. More t (key_in p t (out-Node t)))
    (stays (search (rules, the_lemmas)), λ x. stays (search (rules, the_lemmas)), λ w. stays (search (rules, the_lemmas)), λ x. stays (search (rules, the_lemmas)), λ s. stays (search (rules, the_lemmas)), λ k i. stays (search (rules, the_lemmas)))
    (λ ts l. stays (search (rules, the_lemmas)))
    (λ k ts l. (let e : key_in p (Tree k ts) (out-Node (Tree k ts)) ≡ key_in p (Tree k ts) (Node-F.Tree k ts) = search (rules, the_lemmas) in rw e (key_row p k ts))) t

callee_if : (b c : Bool) (p : Places) (e : Node) → More e (if b then pair p e else (if c then e else call_paired p e))
callee_if true c p e = more_pair p (same e)
callee_if false true p e = same e
callee_if false false p e = called p e

settled_more : (d : Demand) (p : Places) (test : Node → Bool) (t : Node) → is_single d ≡ true → More t (settled p d test t)
settled_more (EachOf n) p test t h = absurd (cc)
settled_more Key p test t h = key_more p t
settled_more (NewCallee bare) p test t h = callee_if (test t) (meets (NewCallee bare) t) p t
settled_more Any p test t h = more_if (test t || not (meets Any t)) p t
settled_more (AtLeast n) p test t h = more_if (test t || not (meets (AtLeast n) t)) p t
settled_more Body p test t h = more_if (test t || not (meets Body t)) p t
settled_more Operand p test t h = more_if (test t || not (meets Operand t)) p t
settled_more Link p test t h = more_if (test t || not (meets Link t)) p t
settled_more OrSide p test t h = more_if (test t || not (meets OrSide t)) p t
settled_more NullishSide p test t h = more_if (test t || not (meets NullishSide t)) p t

each_more : (p : Places) (ds : List Demand) (tests : List (Node → Bool)) (ts : List Node) → list_all is_single ds ≡ true → AllMore ts (each_settled p ds tests ts)
each_more p [] tests ts h = all_same ts
each_more p (d ∷ ds) [] [] h = none
each_more p (d ∷ ds) (n ∷ ns) [] h = none
each_more p (d ∷ ds) [] (t ∷ ts) h = let q = both (is_single d) (list_all is_single ds) h in more (settled_more d p nothing t q.0) (each_more p ds [] ts q.1)
each_more p (d ∷ ds) (n ∷ ns) (t ∷ ts) h = let q = both (is_single d) (list_all is_single ds) h in more (settled_more d p n t q.0) (each_more p ds ns ts q.1)

-- lists
level_items : (n : ℕ) (p : Places) (ts : List Node) → AllMore ts (map (to_level n p) ts)
level_items n p [] = none
level_items n p (t ∷ ts) = more (more_if (not (at_least n t)) p t) (level_items n p ts)

of_list : (t : Node) (us : List Node) → is_list t ≡ true → AllMore (items_of t) us → More t (Many us)
of_list t us h d = rw (sym (list_is t h)) (items (items_of t) us d)

odd_more : (p : Places) (ts : List Node) → AllMore ts (odd_items p ts)
odd_more p [] = none
odd_more p (t ∷ []) = all_same (t ∷ [])
odd_more p (t ∷ u ∷ ts) = more (more_if (is_odd_item t) p t) (odd_more p (u ∷ ts))

-- a sequence that holds a list
abbrev holds_list_in : Node-F Node → Bool
holds_list_in (Seq span exprs) = is_list exprs
holds_list_in _ = true

abbrev holds_list : Node → Bool
holds_list t = holds_list_in (out-Node t)

sequence_row : (p : Places) (k : Kind) (ts : List Node) → holds_list_in (Node-F.Tree k ts) ≡ true → More (Tree k ts) (sequence_statement p (Tree k ts) (Node-F.Tree k ts))
sequence_row p kind.SeqExpr (s ∷ e ∷ []) h = tree kind.SeqExpr (s ∷ e ∷ []) (s ∷ Many (odd_items p (items_of e)) ∷ []) (more (same s) (more (of_list e (odd_items p (items_of e)) h (odd_more p (items_of e))) none))
sequence_row p k ts h = same (Tree k ts)

sequence_more : (p : Places) (t : Node) → holds_list t ≡ true → More t (sequence_statement p t (out-Node t))
sequence_more p t = by_children (λ t. holds_list t ≡ true → More t (sequence_statement p t (out-Node t)))
    (λ h. stays (search (rules, the_lemmas)), λ x h. stays (search (rules, the_lemmas)), λ w h. stays (search (rules, the_lemmas)), λ x h. stays (search (rules, the_lemmas)), λ s h. stays (search (rules, the_lemmas)), λ k i h. stays (search (rules, the_lemmas)))
    (λ ts l h. stays (search (rules, the_lemmas)))
    (λ k ts l h. (let e : sequence_statement p (Tree k ts) (out-Node (Tree k ts)) ≡ sequence_statement p (Tree k ts) (Node-F.Tree k ts) = search (rules, the_lemmas) in let g : holds_list (Tree k ts) ≡ holds_list_in (Node-F.Tree k ts) = search (rules, the_lemmas) in rw e (sequence_row p k ts (sym g ∙ h)))) t

many_is_list : (ts : List Node) → is_list (Many ts) ≡ true
many_is_list ts = search (rules, the_lemmas)

holds_tree : (k : Kind) (ts : List Node) → holds_list (Tree k ts) ≡ holds_list_in (Node-F.Tree k ts)
holds_tree k ts = search (rules, the_lemmas)

holds_row : (p : Places) (b : Bool) (k : Kind) (us : List Node) → holds_list (paired_in p b (Node-F.Tree k us)) ≡ true
holds_row p b kind.SeqExpr (s ∷ e ∷ []) = holds_tree kind.SeqExpr (s ∷ Many (map (to_level 2 p) (items_of e)) ∷ []) ∙ many_is_list (map (to_level 2 p) (items_of e))
holds_row p b kind.ExprStmt (s ∷ e ∷ []) = holds_tree kind.ExprStmt (s ∷ sequence_statement p e (out-Node e) ∷ [])
holds_row p b k us = holds_tree k (each_settled p (demands b (Node-F.Tree k us)) (named_in (Node-F.Tree k us)) us)

holds_step : (p : Places) (b : Bool) (k : Kind) (ts : List Node) → holds_list (level_step p (Node-F.Tree k (map (pairing p) ts)) b) ≡ true
holds_step p b kind.OptChainExpr (s ∷ o ∷ m ∷ []) = search (rules, the_lemmas)
holds_step p b k ts = holds_row p b k (map alone (map (pairing p) ts))

level_holds : (p : Places) (b : Bool) (t : Node) → holds_list (pairing p t b) ≡ true
level_holds p b t = by_children (λ t. holds_list (pairing p t b) ≡ true)
    (search (rules, the_lemmas), λ x. search (rules, the_lemmas), λ w. search (rules, the_lemmas), λ x. search (rules, the_lemmas), λ s. search (rules, the_lemmas), λ k i. search (rules, the_lemmas))
    (λ ts l. search (rules, the_lemmas))
    (λ k ts l. rw (pairing_tree p k ts b) (holds_step p b k ts)) t

list_level : (p : Places) (t : Node) → is_list t ≡ true → is_list (pairing p t false) ≡ true
list_level p t h = ap (λ t. is_list (pairing p t false)) (sym (list_is t h)) ∙ ap is_list (pairing_list p (items_of t) false) ∙ many_is_list (map alone (map (pairing p) (items_of t)))

-- the step
abbrev Levelled : Places → Node → Type 0
Levelled p t = still t ≡ true → (b : Bool) → More t (pairing p t b)

all_levelled : (p : Places) (ts : List Node) → Each (Levelled p) ts → list_all still ts ≡ true → AllMore ts (map alone (map (pairing p) ts))
all_levelled p [] l h = none
all_levelled p (t ∷ ts) l h = let q = both (still t) (list_all still ts) h in more (l.0 q.0 false) (all_levelled p ts l.1 q.1)

step_row : (p : Places) (b : Bool) (k : Kind) (ts : List Node) → still_in (Node-F.Tree k ts) ≡ true → AllMore ts (map alone (map (pairing p) ts)) → More (Tree k ts) (paired_in p b (Node-F.Tree k (map alone (map (pairing p) ts))))
step_row p b kind.ExprStmt (s ∷ e ∷ []) h (more x (more y none)) =
    let e' = pairing p e false in
    tree kind.ExprStmt (s ∷ e ∷ []) (pairing p s false ∷ sequence_statement p e' (out-Node e') ∷ []) (more x (more (after y (sequence_more p e' (level_holds p false e))) none))
step_row p b kind.SeqExpr (s ∷ e ∷ []) h (more x (more y none)) =
    let e' = pairing p e false in let q = both (is_list e) (firm (items_of e)) h in
    tree kind.SeqExpr (s ∷ e ∷ []) (pairing p s false ∷ Many (map (to_level 2 p) (items_of e')) ∷ [])
    (more (after x (same (pairing p s false))) (more (after y (of_list e' (map (to_level 2 p) (items_of e')) (list_level p e q.0) (level_items 2 p (items_of e')))) none))
step_row p b kind.SeqExpr [] h d = tree kind.SeqExpr [] [] none
step_row p b kind.SeqExpr (s ∷ []) h d = tree kind.SeqExpr (s ∷ []) (pairing p s false ∷ []) d
step_row p b kind.SeqExpr (s ∷ e ∷ f ∷ ts) h d = tree kind.SeqExpr (s ∷ e ∷ f ∷ ts) (map alone (map (pairing p) (s ∷ e ∷ f ∷ ts))) d
step_row p b k ts h d =
    let us = map alone (map (pairing p) ts) in let a = asks b k (all_up_same us) refl in
    tree k ts (each_settled p (demands b (Node-F.Tree k us)) (named_in (Node-F.Tree k us)) us) (all_after d (each_more p (demands b (Node-F.Tree k us)) (named_in (Node-F.Tree k us)) us a.1))

level_row : (p : Places) (b : Bool) (k : Kind) (ts : List Node) → Each (Levelled p) ts → still_in (Node-F.Tree k ts) ≡ true → list_all still ts ≡ true → More (Tree k ts) (level_step p (Node-F.Tree k (map (pairing p) ts)) b)
level_row p b kind.OptChainExpr (s ∷ o ∷ m ∷ []) l g h =
    let q = both (still s) (still o && (still m && true)) h in let r = both (still o) (still m && true) q.1 in
    tree kind.OptChainExpr (s ∷ o ∷ m ∷ []) (pairing p s false ∷ pairing p o false ∷ pairing p m true ∷ []) (more (l.0 q.0 false) (more (l.1.0 r.0 false) (more (l.1.1.0 (both (still m) true r.1).0 true) none)))
level_row p b k ts l g h = step_row p b k ts g (all_levelled p ts l h)

by_level : (p : Places) (t : Node) → Levelled p t
by_level p t = by_children (Levelled p)
    (λ h b. stays (search (rules, the_lemmas)), λ x h b. stays (search (rules, the_lemmas)), λ w h b. stays (search (rules, the_lemmas)), λ x h b. stays (search (rules, the_lemmas)), λ s h b. stays (search (rules, the_lemmas)), λ k i h b. stays (search (rules, the_lemmas)))
    (λ ts l h b. rw (pairing_list p ts b) (items ts (map alone (map (pairing p) ts)) (all_levelled p ts l (sym (every_list still_in ts) ∙ h))))
    (λ k ts l h b. (let q = both (still_in (Node-F.Tree k ts)) (list_all still ts) (sym (every_tree still_in k ts) ∙ h) in rw (pairing_tree p k ts b) (level_row p b k ts l q.0 q.1))) t

pub levels_more : (p : Places) (t : Node) → still t ≡ true → More t (paired_by_level p t)
levels_more p t h = by_level p t h false
