-- A node that is looked for is the tree, or stands in one of its children.
use Rattle.std.proofs.Common.{◌≡◌, ℕ, ◌<◌, Bool, true, false, IsTrue, ◌↔◌, ◌⊎◌, inl, inr, Option, Some, None, List, [], ◌∷◌, refl, sym, ap, ◌∙◌, subst}
use Rattle.std.specs.List.{slice_get}
use Rattle.swc_tree_node.specs.declared.node.Node.{Node, out-Node}
use Rattle.swc_tree_node.specs.declared.node.Node.TheOpen.{Node-F}
use Rattle.swc_tree_scoping.specs.Places.{Path, child, children_in, given}
use Rattle.swc_tree_walk.specs.Nodes.{AnyHasNode, HasNode, node_at}

some_same : {X : Type 0} {a b : X} → Some a ≡ Some b → a ≡ b
some_same h = cc

module _ (test : Node-F Node → Bool) where
  below : (t c : Node) (i : ℕ) (p : Path) → child t i ≡ Some c → node_at t (i ∷ p) ≡ node_at c p
  below t c i p e = ap (λ o. given o None (λ c. node_at c p)) e

  opened : (t : Node) (p : Path) (n : Node) → node_at t p ≡ Some n → IsTrue (test (out-Node n)) → IsTrue (test (out-Node t)) ⊎ AnyHasNode test (children_in (out-Node t))
  opened t [] n e r = inl (subst (λ n. IsTrue (test (out-Node n))) (sym (some_same e)) r)
  opened t (i ∷ p) n e r = by (child t i) refl
    where
      by : (o : Option Node) → child t i ≡ o → IsTrue (test (out-Node t)) ⊎ AnyHasNode test (children_in (out-Node t))
      by None g = let none : given None None (λ c. node_at c p) ≡ Some n = ap (λ o. given o None (λ c. node_at c p)) (sym g) ∙ e in absurd (cc)
      by (Some c) g = inr (i, c, g, (p, n, sym (below t c i p g) ∙ e, r))

  pub is_here : (t : Node) (b : Bool) → b ≡ test (out-Node t) → b ≡ true → IsTrue true ↔ HasNode test t
  is_here t b is found = (λ g. ([], t, refl, sym is ∙ found), λ h. refl)

  -- where the tree is none, it is what is said of its children
  pub is_below : (t : Node) (a b : Bool) (us : List Node) → us ≡ children_in (out-Node t) → a ≡ test (out-Node t) → a ≡ false → IsTrue b ↔ AnyHasNode test us → IsTrue b ↔ HasNode test t
  is_below t a b us same is lost h = (λ g. up (subst (AnyHasNode test) same (h.0 g)), λ g. down (opened t g.0 g.1 g.2 g.3))
    where
      up : AnyHasNode test (children_in (out-Node t)) → HasNode test t
      up (i, c, e, (p, n, at, r)) = (i ∷ p, n, below t c i p e ∙ at, r)

      down : IsTrue (test (out-Node t)) ⊎ AnyHasNode test (children_in (out-Node t)) → IsTrue b
      down (inl here) = let never : true ≡ false = sym here ∙ sym is ∙ lost in absurd (cc)
      down (inr later) = h.1 (subst (AnyHasNode test) (sym same) later)
