-- What is left of what `new` calls once the outermost call of its objects and tags is in parentheses.
use Rattle.std.proofs.Common.{◌≡◌, Bool, true, false, List, [], ◌∷◌, map, refl, sym, ap, ◌∙◌, rules}
use Rattle.std.specs.Prelude.{ℕ, nat_le, if◌then◌else◌}
use Rattle.swc_tree_node.specs.declared.kind.Kind.{Kind}
use Rattle.swc_tree_node.specs.declared.kind.Kind.TheVariants as kind
use Rattle.swc_tree_node.specs.declared.node.Node.{Node, Absent, Flag, Word, Text, Span, List as Many, Identifier, Tree, fold-Node, the_lemmas}
use Rattle.swc_tree_node.specs.declared.node.Node.TheOpen.{Node-F}
use Rattle.swc_tree_grammar.specs.Kinds.{is_chain}
use Rattle.swc_tree_grammar.specs.Levels.{level, is_called, is_absent}
use Rattle.swc_tree_grammar.specs.Demands.{meets, is_bare_new}
use Rattle.swc_tree_grammar.specs.Demands.Demand.{Operand}
use Rattle.swc_tree_grammar.specs.Due.{Places, Callee, callee_step, callee_in, call_paired, pair}
use Rattle.swc_tree_grammar.proofs.Induction.{Each, by_children}
use Rattle.swc_tree_grammar.proofs.Wholes.{carried, all_carried}
use Rattle.swc_tree_grammar_laws.proofs.Levelled.{levelled_tree, Fine, fine_pair, half}

abbrev pub callee : Places → Node → Callee
callee p = fold-Node Callee (callee_step p)

whole : (p : Places) (t : Node) → (callee p t).whole ≡ t
whole p t = carried Callee (callee_step p) (λ e. e.whole) (λ x. refl) t

all_whole : (p : Places) (ts : List Node) → map (λ e. e.whole) (map (callee p) ts) ≡ ts
all_whole p ts = all_carried Callee (callee_step p) (λ e. e.whole) (λ x. refl) ts

paired_tree : (p : Places) (k : Kind) (ts : List Node) → call_paired p (Tree k ts) ≡ callee_in p (Tree k (map (λ e. e.whole) (map (callee p) ts))) (Node-F.Tree k (map (callee p) ts))
paired_tree p k ts = search (rules, the_lemmas)

pub paired_of : (p : Places) (k : Kind) (ts : List Node) → call_paired p (Tree k ts) ≡ callee_in p (Tree k ts) (Node-F.Tree k (map (callee p) ts))
paired_of p k ts = paired_tree p k ts ∙ ap (λ us. callee_in p (Tree k us) (Node-F.Tree k (map (callee p) ts))) (all_whole p ts)

paired_list : (p : Places) (ts : List Node) → call_paired p (Many ts) ≡ pair p (Many (map (λ e. e.whole) (map (callee p) ts)))
paired_list p ts = search (rules, the_lemmas)

-- `new` may call it, and what goes on from it
abbrev Good : Node → Type 0
Good u = (nat_le 18 (level u) ≡ true) × (is_called u ≡ false) × (meets Operand u ≡ true) × Fine u

good_pair : (p : Places) (e : Node) → Fine e → Good (pair p e)
good_pair p e h = (search (rules, the_lemmas), search (rules, the_lemmas), search (rules, the_lemmas), fine_pair p e false ∙ h)

uncalled : (b : Bool) (n : ℕ) → b ≡ false → (if b then 17 else n) ≡ n
uncalled true n h = absurd (cc)
uncalled false n h = refl

good_member : (s u m : Node) → Fine s → Fine m → Good u → Good (Tree kind.MemberExpr (s ∷ u ∷ m ∷ []))
good_member s u m h g q =
    let t = Tree kind.MemberExpr (s ∷ u ∷ m ∷ []) in
    let l : level t ≡ (if is_called u then 17 else 18) = search (rules, the_lemmas) in let l' = l ∙ uncalled (is_called u) 18 q.1 in
    let c : is_called t ≡ is_called u = search (rules, the_lemmas) in let i : is_chain t ≡ false = search (rules, the_lemmas) in
    let n : is_bare_new t ≡ false = search (rules, the_lemmas) in let a : is_absent t ≡ false = search (rules, the_lemmas) in
    (rw l' refl, c ∙ q.1, rw (i, n, a, l') refl, simp (levelled_tree, q.2, h, g, q.3))

good_tagged : (s u m : Node) → Fine s → Fine m → Good u → Good (Tree kind.TaggedTpl (s ∷ u ∷ m ∷ []))
good_tagged s u m h g q =
    let t = Tree kind.TaggedTpl (s ∷ u ∷ m ∷ []) in
    let l : level t ≡ (if is_called u then 17 else 18) = search (rules, the_lemmas) in let l' = l ∙ uncalled (is_called u) 18 q.1 in
    let c : is_called t ≡ is_called u = search (rules, the_lemmas) in let i : is_chain t ≡ false = search (rules, the_lemmas) in
    let n : is_bare_new t ≡ false = search (rules, the_lemmas) in let a : is_absent t ≡ false = search (rules, the_lemmas) in
    (rw l' refl, c ∙ q.1, rw (i, n, a, l') refl, simp (levelled_tree, q.2, h, g, q.3))

abbrev IsGood : Places → Node → Type 0
IsGood p t = Fine t → Good (call_paired p t)

good_tree : (p : Places) (k : Kind) (ts : List Node) → Each (IsGood p) ts → Fine (Tree k ts) → Good (callee_in p (Tree k ts) (Node-F.Tree k (map (callee p) ts)))
good_tree p kind.MemberExpr (s ∷ o ∷ m ∷ []) l h =
    let q = half (half (sym (levelled_tree kind.MemberExpr (s ∷ o ∷ m ∷ []) false) ∙ h)).1 in let r = half q.1 in
    rw (whole p s, whole p m) (good_member s (call_paired p o) m q.0 (half r.1).0 (l.1.0 r.0))
good_tree p kind.TaggedTpl (s ∷ o ∷ m ∷ []) l h =
    let q = half (half (sym (levelled_tree kind.TaggedTpl (s ∷ o ∷ m ∷ []) false) ∙ h)).1 in let r = half q.1 in
    rw (whole p s, whole p m) (good_tagged s (call_paired p o) m q.0 (half r.1).0 (l.1.0 r.0))
good_tree p k ts l h = good_pair p (Tree k ts) h

good_leaf : (p : Places) (t : Node) → call_paired p t ≡ pair p t → IsGood p t
good_leaf p t e h = rw e (good_pair p t h)

pub good : (p : Places) (t : Node) → IsGood p t
good p t = by_children (IsGood p)
    (good_leaf p Absent (search (rules, the_lemmas)), λ x. good_leaf p (Flag x) (search (rules, the_lemmas)), λ w. good_leaf p (Word w) (search (rules, the_lemmas)), λ x. good_leaf p (Text x) (search (rules, the_lemmas)), λ s. good_leaf p (Span s) (search (rules, the_lemmas)), λ k i. good_leaf p (Identifier k i) (search (rules, the_lemmas)))
    (λ ts l. good_leaf p (Many ts) (paired_list p ts ∙ ap (λ us. pair p (Many us)) (all_whole p ts)))
    (λ k ts l h. rw (paired_of p k ts) (good_tree p k ts l h)) t
