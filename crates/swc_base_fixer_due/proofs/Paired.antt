-- What a node becomes once what stands right below it has its pairs, whichever the step.
use Rattle.std.proofs.Common.{◌≡◌, ℕ, Bool, List, Some, None, sym, ap, ◌∙◌}
use Rattle.swc_tree_node.specs.declared.kind.Kind.{Kind}
use Rattle.swc_tree_node.specs.declared.node.Node.{Node, List as Many, Tree}
use Rattle.swc_tree_node.specs.Changed.{nodes_in, with_children}
use Rattle.swc_tree_node.specs.Parts.{kind_of}
use Rattle.swc_tree_node.proofs.Lent.{list_of_children, tree_of_children}
use Rattle.swc_tree_grammar.specs.Due.{Places, pair_if}
use Rattle.swc_base_fixer_due.specs.Walk.{each_told}

module _ {S : Type 0} (paired : Places → Node → Bool → Node) (told : S → ℕ → Bool) where
  pub list_done : (in_list : Bool → S) → ((p : Places) (b : Bool) (ts : List Node) → Many (each_told (paired p) (told (in_list b)) ts) ≡ paired p (Many ts) b)
      → (p : Places) (t : Node) (ts us : List Node) (b : Bool) (s : S) → None ≡ kind_of t → Some ts ≡ nodes_in t → s ≡ in_list b → us ≡ each_told (paired p) (told s) ts → with_children t us ≡ paired p t b
  list_done in_list law p t ts us b s no_kind nodes is each =
      let q = list_of_children t ts us no_kind nodes in
      q.1 ∙ ap Many (each ∙ ap (λ s. each_told (paired p) (told s) ts) is) ∙ law p b ts ∙ ap (λ t. paired p t b) (sym q.0)

  pub tree_done : (in_tree : Bool → Kind → List Node → S) (settled : Places → S → Kind → List Node → Node) (is_due : S → Bool)
      → ((p : Places) (b : Bool) (k : Kind) (ts : List Node) → pair_if (is_due (in_tree b k ts)) p (settled p (in_tree b k ts) k (each_told (paired p) (told (in_tree b k ts)) ts)) ≡ paired p (Tree k ts) b)
      → (p : Places) (t : Node) (k : Kind) (ts us vs ws : List Node) (b due : Bool) (s : S) → Some k ≡ kind_of t → Some ts ≡ nodes_in t → us ≡ ts → s ≡ in_tree b k us → vs ≡ each_told (paired p) (told s) ts
      → Tree k ws ≡ settled p s k vs → due ≡ is_due s → (u : Node) → u ≡ pair_if due p (with_children t ws) → u ≡ paired p t b
  tree_done in_tree settled is_due law p t k ts us vs ws b due s of_kind nodes same is each done d u made =
      let q = tree_of_children t k ts ws of_kind nodes in
      made ∙ ap (pair_if due p) (q.1 ∙ done) ∙ ap (λ due. pair_if due p (settled p s k vs)) d ∙ ap (λ us. pair_if (is_due s) p (settled p s k us)) each
      ∙ ap (λ s. pair_if (is_due s) p (settled p s k (each_told (paired p) (told s) ts))) (is ∙ ap (in_tree b k) same) ∙ law p b k ts ∙ ap (λ t. paired p t b) (sym q.0)
