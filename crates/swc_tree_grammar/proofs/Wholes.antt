-- A fold that carries the node which it has come from carries that node.
use Rattle.std.proofs.Common.{◌≡◌, List, [], ◌∷◌, map, refl, ap, ◌∙◌, rules}
use Rattle.swc_tree_node.specs.declared.kind.Kind.{Kind}
use Rattle.swc_tree_node.specs.declared.node.Node.{Node, List as Many, Tree, roll-Node, fold-Node, map-Node, the_lemmas}
use Rattle.swc_tree_node.specs.declared.node.Node.TheOpen.{Node-F}
use Rattle.swc_tree_node.specs.declared.node.Node.TheVariants.{rolls-List, rolls-Tree}
use Rattle.swc_tree_grammar.proofs.Induction.{Each, by_children}

module _ (X : Type 0) (step : Node-F X → X) (whole : X → Node) where
  abbrev Carries : Type 0
  Carries = (x : Node-F X) → whole (step x) ≡ roll-Node (map-Node X Node whole x)

  abbrev of : Node → X
  of = fold-Node X step

  abbrev Same : Node → Type 0
  Same t = whole (of t) ≡ t

  sames : (ts : List Node) → Each Same ts → map whole (map of ts) ≡ ts
  sames [] h = refl
  sames (t ∷ ts) h = rw (h.0, sames ts h.1) refl

  of_many : (ts : List Node) → of (Many ts) ≡ step (Node-F.List (map of ts))
  of_many ts = search (rules, the_lemmas)

  of_tree : (k : Kind) (ts : List Node) → of (Tree k ts) ≡ step (Node-F.Tree k (map of ts))
  of_tree k ts = search (rules, the_lemmas)

  pub carried : Carries → (t : Node) → whole (of t) ≡ t
  carried c t = by_children Same
      (ap whole (search (rules, the_lemmas)) ∙ c Node-F.Absent ∙ search (rules, the_lemmas), λ x. ap whole (search (rules, the_lemmas)) ∙ c (Node-F.Flag x) ∙ search (rules, the_lemmas), λ w. ap whole (search (rules, the_lemmas)) ∙ c (Node-F.Word w) ∙ search (rules, the_lemmas), λ x. ap whole (search (rules, the_lemmas)) ∙ c (Node-F.Text x) ∙ search (rules, the_lemmas), λ s. ap whole (search (rules, the_lemmas)) ∙ c (Node-F.Span s) ∙ search (rules, the_lemmas), λ k i. ap whole (search (rules, the_lemmas)) ∙ c (Node-F.Identifier k i) ∙ search (rules, the_lemmas))
      (λ ts h. ap whole (of_many ts) ∙ c (Node-F.List (map of ts)) ∙ rolls-List (map whole (map of ts)) ∙ ap Many (sames ts h))
      (λ k ts h. ap whole (of_tree k ts) ∙ c (Node-F.Tree k (map of ts)) ∙ rolls-Tree k (map whole (map of ts)) ∙ ap (Tree k) (sames ts h)) t

  pub all_carried : Carries → (ts : List Node) → map whole (map of ts) ≡ ts
  all_carried c [] = refl
  all_carried c (t ∷ ts) = rw (carried c t, all_carried c ts) refl
