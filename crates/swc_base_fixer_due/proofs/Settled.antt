-- What stands in a place once its pairs are set.
use Rattle.std.proofs.Common.{◌≡◌, ℕ, ◌≢◌, List, [], ◌∷◌, Some, None, Bool, not, ◌||◌, length, map, slice_set, refl, sym, ap, ◌∙◌, arith, rules}
use Rattle.std.specs.List.{slice_get}
use Rattle.swc_tree_node.specs.declared.kind.Kind.{Kind}
use Rattle.swc_tree_node.specs.declared.kind.Kind.TheVariants as kind
use Rattle.swc_tree_node.specs.declared.node.Node.{Node, Absent, List as Many, Tree, fold-Node, the_lemmas}
use Rattle.swc_tree_node.specs.declared.node.Node.TheOpen.{Node-F}
use Rattle.swc_tree_grammar.specs.Demands.{meets}
use Rattle.swc_tree_grammar.specs.Due.{Places, Callee, callee_in, callee_step, call_paired, key_in, pair, pair_if, settled, to_level}
use Rattle.swc_base_fixer_demands.specs.declared.demand.Test.{Test}
use Rattle.swc_base_fixer_demands.specs.declared.demand.Test.TheVariants as test
use Rattle.swc_base_fixer_demands.specs.Test.{asked}
use Rattle.swc_base_fixer_demands.specs.Fields.{called_field}
use Rattle.swc_tree_grammar.proofs.Induction.{by_children}
use Rattle.swc_tree_grammar.proofs.Wholes.{carried, all_carried}
use Rattle.swc_base_fixer_due.proofs.Fields.{second_is}

pub single : (p : Places) (t : Test) (n : Node → Bool) (e : Node) → settled p (asked t) n e ≡ pair_if (n e || not (meets (asked t) e)) p e
single p (test.AtLeast n) named e = refl
single p test.Body named e = refl
single p test.Operand named e = refl
single p test.Link named e = refl
single p test.OrSide named e = refl
single p test.NullishSide named e = refl

keyed_at : (p : Places) (fields : List Node) (expr : Node) → length fields ≡ 2 → slice_get fields 1 ≡ Some expr
    → Tree kind.ComputedPropName (slice_set (slice_set fields 1 Absent) 1 (to_level 2 p expr)) ≡ key_in p (Tree kind.ComputedPropName fields) (Node-F.Tree kind.ComputedPropName fields)
keyed_at p (a ∷ b ∷ []) expr h g = cc
keyed_at p [] expr h g = absurd (omega arith)
keyed_at p (a ∷ []) expr h g = absurd (omega arith)
keyed_at p (a ∷ b ∷ c ∷ fs) expr h g = absurd (omega arith)

-- a computed key whose expression was taken out, and put back in its pair
pub keyed : (p : Places) (fields out back : List Node) (expr new : Node) → length fields ≡ 2 → slice_get fields 1 ≡ Some expr → out ≡ slice_set fields 1 Absent → new ≡ to_level 2 p expr → back ≡ slice_set out 1 new
    → Tree kind.ComputedPropName back ≡ key_in p (Tree kind.ComputedPropName fields) (Node-F.Tree kind.ComputedPropName fields)
keyed p fields out back expr new h g o n b = rw (b, n, o) (keyed_at p fields expr h g)

abbrev callee : Places → Node → Callee
callee p = fold-Node Callee (callee_step p)

whole : (p : Places) (t : Node) → (callee p t).whole ≡ t
whole p t = carried Callee (callee_step p) (λ e. e.whole) (λ x. refl) t

all_whole : (p : Places) (ts : List Node) → map (λ e. e.whole) (map (callee p) ts) ≡ ts
all_whole p ts = all_carried Callee (callee_step p) (λ e. e.whole) (λ x. refl) ts

paired_tree : (p : Places) (k : Kind) (ts : List Node) → call_paired p (Tree k ts) ≡ callee_in p (Tree k (map (λ e. e.whole) (map (callee p) ts))) (Node-F.Tree k (map (callee p) ts))
paired_tree p k ts = search (rules, the_lemmas)

paired_of : (p : Places) (k : Kind) (ts : List Node) → call_paired p (Tree k ts) ≡ callee_in p (Tree k ts) (Node-F.Tree k (map (callee p) ts))
paired_of p k ts = paired_tree p k ts ∙ ap (λ us. callee_in p (Tree k us) (Node-F.Tree k (map (callee p) ts))) (all_whole p ts)

paired_list : (p : Places) (ts : List Node) → call_paired p (Many ts) ≡ pair p (Many (map (λ e. e.whole) (map (callee p) ts)))
paired_list p ts = search (rules, the_lemmas)

pub called_list : (p : Places) (ts : List Node) → call_paired p (Many ts) ≡ pair p (Many ts)
called_list p ts = paired_list p ts ∙ ap (λ us. pair p (Many us)) (all_whole p ts)

called_at : (p : Places) (k : Kind) (ts : List Node) (i : ℕ) (e : Node) → called_field k ts ≡ Some i → slice_get ts i ≡ Some e
    → Tree k (slice_set (slice_set ts i Absent) i (call_paired p e)) ≡ call_paired p (Tree k ts)
called_at p kind.MemberExpr (a ∷ b ∷ c ∷ []) i e h g =
    let q = second_is a b (c ∷ []) i e h g in
    rw (← q.0, ← q.1) (sym (paired_of p kind.MemberExpr (a ∷ b ∷ c ∷ []) ∙ rw (whole p a, whole p c) refl))
called_at p kind.TaggedTpl (a ∷ b ∷ c ∷ []) i e h g =
    let q = second_is a b (c ∷ []) i e h g in
    rw (← q.0, ← q.1) (sym (paired_of p kind.TaggedTpl (a ∷ b ∷ c ∷ []) ∙ rw (whole p a, whole p c) refl))
called_at p k ts i e h g = absurd (cc)

pub called_none : (p : Places) (k : Kind) (ts : List Node) → called_field k ts ≡ None → pair p (Tree k ts) ≡ call_paired p (Tree k ts)
called_none p kind.MemberExpr (a ∷ b ∷ c ∷ []) h = absurd (cc)
called_none p kind.TaggedTpl (a ∷ b ∷ c ∷ []) h = absurd (cc)
called_none p k ts h = sym (paired_of p k ts)

-- what is called was taken out, and put back with its pair
pub called : (p : Places) (t : Node) (k : Kind) (ts us out back : List Node) (i : ℕ) (e new : Node) → t ≡ Tree k ts → us ≡ ts → Some i ≡ called_field k us → slice_get ts i ≡ Some e
    → out ≡ slice_set ts i Absent → new ≡ call_paired p e → back ≡ slice_set out i new → Tree k back ≡ call_paired p t
called p t k ts us out back i e new is same there here o n b = rw (b, n, o) (called_at p k ts i e (ap (called_field k) (sym same) ∙ sym there) here) ∙ ap (call_paired p) (sym is)

pub called_by_none : (p : Places) (t : Node) (k : Kind) (ts us : List Node) → t ≡ Tree k ts → us ≡ ts → None ≡ called_field k us
    → (u : Node) → u ≡ pair p (Tree k ts) → u ≡ call_paired p t
called_by_none p t k ts us is same none u h = h ∙ called_none p k ts (ap (called_field k) (sym same) ∙ sym none) ∙ ap (call_paired p) (sym is)

pub called_other : (p : Places) (t : Node) → ((k : Kind) (ts : List Node) → t ≢ Tree k ts) → pair p t ≡ call_paired p t
called_other p t = by_children (λ t. ((k : Kind) (ts : List Node) → t ≢ Tree k ts) → pair p t ≡ call_paired p t)
    (λ h. search (rules, the_lemmas), λ x h. search (rules, the_lemmas), λ w h. search (rules, the_lemmas), λ x h. search (rules, the_lemmas), λ s h. search (rules, the_lemmas), λ k i h. search (rules, the_lemmas))
    (λ ts l h. sym (called_list p ts)) (λ k ts l h. absurd (h k ts refl)) t
