-- Trees in which no node passes a test.
use Rattle.std.proofs.Common.{◌≡◌, ℕ, zero, suc, Bool, true, false, Option, Some, None, List, [], ◌∷◌, refl, sym, ap, ◌∙◌, subst}
use Rattle.std.specs.Prelude.{slice_get}
use Rattle.std.proofs.lemmas.Bool.{false_from_ne_true}
use Rattle.swc_tree_node.specs.declared.kind.Kind.{Kind}
use Rattle.swc_tree_node.specs.declared.node.Node.{Node, List as Many, Tree, out-Node}
use Rattle.swc_tree_node.specs.declared.node.Node.TheOpen.{Node-F}
use Rattle.swc_tree_node.specs.declared.node.Node.TheVariants.{outs-List, outs-Tree}
use Rattle.swc_tree_scoping.specs.Places.{child, children_in, given}
use Rattle.swc_tree_grammar.proofs.Induction.{Each}
use Rattle.swc_tree_walk.specs.Nodes.{HasNode, node_at}

pub some_same : {X : Type 0} {a b : X} → Some a ≡ Some b → a ≡ b
some_same h = cc

module _ (P : Node → Type 0) where
  pub each_from : (ts : List Node) → ((i : ℕ) (c : Node) → slice_get ts i ≡ Some c → P c) → Each P ts
  each_from [] h = tt
  each_from (t ∷ ts) h = (h zero t refl, each_from ts (λ i c e. h (suc i) c e))

  pub at_each : (ts : List Node) → Each P ts → (i : ℕ) (c : Node) → slice_get ts i ≡ Some c → P c
  at_each [] l i c e = absurd (cc)
  at_each (t ∷ ts) l zero c e = subst P (some_same e) l.0
  at_each (t ∷ ts) l (suc i) c e = at_each ts l.1 i c e

module _ (test : Node-F Node → Bool) where
  abbrev pub Free : Node → Type 0
  Free t = HasNode test t → ⊥

  pub free_here : (t : Node) → Free t → test (out-Node t) ≡ false
  free_here t f = false_from_ne_true (test (out-Node t)) (λ h. f ([], t, refl, h))

  pub free_child : (t c : Node) (i : ℕ) → child t i ≡ Some c → Free t → Free c
  free_child t c i e f (p, n, there, h) = f (i ∷ p, n, ap (λ o. given o None (λ c. node_at c p)) e ∙ there, h)

  pub free_of : (t : Node) → test (out-Node t) ≡ false → ((i : ℕ) (c : Node) → child t i ≡ Some c → Free c) → Free t
  free_of t h below ([], n, there, g) = let never : true ≡ false = sym g ∙ ap (λ n. test (out-Node n)) (sym (some_same there)) ∙ h in absurd (cc)
  free_of t h below (i ∷ p, n, there, g) = by (child t i) refl there
    where
      by : (o : Option Node) → child t i ≡ o → given o None (λ c. node_at c p) ≡ Some n → ⊥
      by None e at = absurd (cc)
      by (Some c) e at = below i c e (p, n, at, g)

  child_is : (t : Node) (y : Node-F Node) (i : ℕ) → out-Node t ≡ y → child t i ≡ slice_get (children_in y) i
  child_is t y i o = ap (λ y. slice_get (children_in y) i) o

  -- a node without children
  pub free_leaf : (t : Node) (y : Node-F Node) → out-Node t ≡ y → children_in y ≡ [] → test y ≡ false → Free t
  free_leaf t y o none h = free_of t (ap test o ∙ h) (λ i c e. (let never : slice_get [] i ≡ Some c = ap (λ ts. slice_get ts i) (sym none) ∙ sym (child_is t y i o) ∙ e in absurd (cc)))

  pub free_tree : (k : Kind) (ts : List Node) → test (Node-F.Tree k ts) ≡ false → Each Free ts → Free (Tree k ts)
  free_tree k ts h l = free_of (Tree k ts) (ap test (outs-Tree k ts) ∙ h) (λ i c e. at_each Free ts l i c (sym (child_is (Tree k ts) (Node-F.Tree k ts) i (outs-Tree k ts)) ∙ e))

  pub free_list : (ts : List Node) → test (Node-F.List ts) ≡ false → Each Free ts → Free (Many ts)
  free_list ts h l = free_of (Many ts) (ap test (outs-List ts) ∙ h) (λ i c e. at_each Free ts l i c (sym (child_is (Many ts) (Node-F.List ts) i (outs-List ts)) ∙ e))

  pub tree_here : (k : Kind) (ts : List Node) → Free (Tree k ts) → test (Node-F.Tree k ts) ≡ false
  tree_here k ts f = sym (ap test (outs-Tree k ts)) ∙ free_here (Tree k ts) f

  pub tree_below : (k : Kind) (ts : List Node) → Free (Tree k ts) → Each Free ts
  tree_below k ts f = each_from Free ts (λ i c e. free_child (Tree k ts) c i (child_is (Tree k ts) (Node-F.Tree k ts) i (outs-Tree k ts) ∙ e) f)

  pub list_here : (ts : List Node) → Free (Many ts) → test (Node-F.List ts) ≡ false
  list_here ts f = sym (ap test (outs-List ts)) ∙ free_here (Many ts) f

  pub list_below : (ts : List Node) → Free (Many ts) → Each Free ts
  list_below ts f = each_from Free ts (λ i c e. free_child (Many ts) c i (child_is (Many ts) (Node-F.List ts) i (outs-List ts) ∙ e) f)
