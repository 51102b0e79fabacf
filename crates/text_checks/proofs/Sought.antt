-- Where no node that is looked for stands.
use Rattle.std.proofs.Common.{◌≡◌, ℕ, ◌+◌, ◌<◌, ◌≤◌, Bool, true, false, IsTrue, ◌⊎◌, inl, inr, Some, List, [], length, get_or, refl, sym, ap, ◌∙◌, subst, rules, arith}
use Rattle.std.specs.List.{slice_get}
use Rattle.std.proofs.lemmas.Bool.{cases_lt}
use Rattle.std.proofs.lemmas.Option.{slice_get_read, slice_get_within}
use Rattle.swc_tree_node.specs.declared.kind.Kind.{Kind}
use Rattle.swc_tree_node.specs.declared.node.Node.{Node, List as Many, Tree, out-Node, the_lemmas}
use Rattle.swc_tree_node.specs.declared.node.Node.TheOpen.{Node-F}
use Rattle.swc_tree_scoping.specs.Places.{children_in}
use Rattle.swc_tree_scoping.proofs.Remarked.{list_is, tree_is}
use Rattle.swc_tree_walk.specs.Nodes.{AnyHasNode, HasNode}
use Rattle.swc_tree_walk.proofs.Found.{is_below}

some_same : {X : Type 0} {a b : X} → Some a ≡ Some b → a ≡ b
some_same h = cc

below_tree : (k : Kind) (ts : List Node) → children_in (out-Node (Tree k ts)) ≡ ts
below_tree k ts = search (rules, the_lemmas)

below_list : (ts : List Node) → children_in (out-Node (Many ts)) ≡ ts
below_list ts = search (rules, the_lemmas)

bare : (t : Node) → ((ts : List Node) → t ≡ Many ts → ⊥) → ((k : Kind) (ts : List Node) → t ≡ Tree k ts → ⊥) → children_in (out-Node t) ≡ []
bare t no_list no_tree = by (out-Node t) refl
  where
    by : (x : Node-F Node) → out-Node t ≡ x → children_in (out-Node t) ≡ []
    by (Node-F.List ts) o = absurd (no_list ts (list_is t ts o))
    by (Node-F.Tree k ts) o = absurd (no_tree k ts (tree_is t k ts o))
    by Node-F.Absent o = ap children_in o
    by (Node-F.Flag x) o = ap children_in o
    by (Node-F.Word x) o = ap children_in o
    by (Node-F.Text x) o = ap children_in o
    by (Node-F.Span x) o = ap children_in o
    by (Node-F.Identifier k i) o = ap children_in o

module _ (test : Node-F Node → Bool) where
  none_below : (t : Node) (a : Bool) (us : List Node) → us ≡ children_in (out-Node t) → a ≡ test (out-Node t) → a ≡ false → (AnyHasNode test us → ⊥) → HasNode test t → ⊥
  none_below t a us same is lost none has =
      let found : false ≡ true = (is_below test t a false us same is lost (λ (e : IsTrue false). let never : false ≡ true = e in absurd (cc), λ (any : AnyHasNode test us). absurd (none any))).1 has in
      absurd (cc)

  pub none_of_tree : (t : Node) (k : Kind) (ts us : List Node) (a : Bool) → t ≡ Tree k ts → us ≡ ts → a ≡ test (out-Node t) → a ≡ false → (AnyHasNode test us → ⊥) → HasNode test t → ⊥
  none_of_tree t k ts us a is same told lost none =
      none_below t a us (same ∙ sym (ap (λ n. children_in (out-Node n)) is ∙ below_tree k ts)) told lost none

  pub none_of_list : (t : Node) (ts us : List Node) (a : Bool) → t ≡ Many ts → us ≡ ts → a ≡ test (out-Node t) → a ≡ false → (AnyHasNode test us → ⊥) → HasNode test t → ⊥
  none_of_list t ts us a is same told lost none =
      none_below t a us (same ∙ sym (ap (λ n. children_in (out-Node n)) is ∙ below_list ts)) told lost none

  pub none_of_leaf : (t : Node) (a : Bool) → ((ts : List Node) → t ≡ Many ts → ⊥) → ((k : Kind) (ts : List Node) → t ≡ Tree k ts → ⊥) → a ≡ test (out-Node t) → a ≡ false → HasNode test t → ⊥
  none_of_leaf t a no_list no_tree told lost = none_below t a [] (sym (bare t no_list no_tree)) told lost (λ any. nowhere any.0 any.1 any.2)
    where
      nowhere : (i : ℕ) (c : Node) → slice_get [] i ≡ Some c → ⊥
      nowhere i c at = absurd (cc)

  -- none of those before
  abbrev pub NoneBefore : List Node → ℕ → Type 0
  NoneBefore ts i = (k : ℕ) (c : Node) → k < i → slice_get ts k ≡ Some c → HasNode test c → ⊥

  pub none_more : (ts : List Node) (i : ℕ) (t : Node) → i < length ts → t ≡ get_or ts i t → (HasNode test t → ⊥) → NoneBefore ts i → NoneBefore ts (i + 1)
  none_more ts i t within is here before k c lt at = by (cases_lt k i)
    where
      by : (k < i) ⊎ (i ≤ k) → HasNode test c → ⊥
      by (inl less) = before k c less at
      by (inr more) =
          let same : k ≡ i = omega arith in
          let node : c ≡ t = some_same (sym at ∙ ap (slice_get ts) same ∙ slice_get_read ts (length ts) i t refl within is) in
          λ has. here (subst (HasNode test) node has)

  pub none_at_end : (ts : List Node) (i : ℕ) → length ts ≤ i → NoneBefore ts i → AnyHasNode test ts → ⊥
  none_at_end ts i past before (k, c, at, has) =
      let within : k < length ts = slice_get_within ts k c at in
      before k c (omega arith) at has
