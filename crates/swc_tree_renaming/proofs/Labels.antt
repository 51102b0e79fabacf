-- Labels name what they named, whatever identifiers are called.
use Rattle.std.proofs.Common.{◌≡◌, ℕ, zero, suc, Some, List, [], ◌∷◌, map, refl, sym, ap, ◌∙◌}
use Rattle.std.specs.List.{slice_get}
use Rattle.swc_tree_node.specs.Lower.swc_tree_marks.specs.declared.ident.Ident.{Ident}
use Rattle.swc_tree_node.specs.declared.node.Node.{Node, out-Node, map-Node, fold-Node, fold_out-Node}
use Rattle.swc_tree_node.specs.declared.node.Node.TheOpen.{Node-F}
use Rattle.swc_tree_scoping.specs.Places.{children_in}
use Rattle.swc_tree_scoping.specs.Readings.{with_identifiers}
use Rattle.swc_tree_scoping.proofs.Under.{by_children}
use Rattle.swc_tree_renaming.specs.Apart.{Labelled, labelled_step, labels_no_function, nameless, no_name}
use Rattle.swc_tree_renaming.proofs.Blank.{layer, out_is}

module _ (f : Ident → Ident) where
  abbrev F : Node → Node
  F = with_identifiers f

  abbrev L : Node → Labelled
  L = fold-Node Labelled labelled_step

  each_labelled : (ts : List Node) → ((i : ℕ) (c : Node) → slice_get ts i ≡ Some c → L (F c) ≡ L c) → map L (map F ts) ≡ map L ts
  each_labelled [] h = refl
  each_labelled (t ∷ ts) h = ap (λ c. c ∷ map L (map F ts)) (h zero t refl) ∙ ap (λ l. L t ∷ l) (each_labelled ts (λ i. h (suc i)))

  layer_labelled : (y : Node-F Node) → ((i : ℕ) (c : Node) → slice_get (children_in y) i ≡ Some c → L (F c) ≡ L c)
      → labelled_step (map-Node Node Labelled L (layer f y)) ≡ labelled_step (map-Node Node Labelled L y)
  layer_labelled (Node-F.List ts) h = ap (λ l. labelled_step (Node-F.List l)) (each_labelled ts h)
  layer_labelled (Node-F.Tree k ts) h = ap (λ l. labelled_step (Node-F.Tree k l)) (each_labelled ts h)
  layer_labelled (Node-F.Identifier k i) h = refl
  layer_labelled _ h = refl

  labelled_same : (t : Node) → L (F t) ≡ L t
  labelled_same = by_children (λ t. L (F t) ≡ L t)
      (λ t below. fold_out-Node Labelled labelled_step (F t) ∙ ap (λ y. labelled_step (map-Node Node Labelled L y)) (out_is f t) ∙ layer_labelled (out-Node t) below ∙ sym (fold_out-Node Labelled labelled_step t))

-- trees of one shape have the same labels
pub same_labels : (t u : Node) → nameless t ≡ nameless u → labels_no_function t ≡ labels_no_function u
same_labels t u shape =
    ap (λ (e : Labelled). e.names_none) (sym (labelled_same (λ i. no_name) t)) ∙ ap labels_no_function shape ∙ ap (λ (e : Labelled). e.names_none) (labelled_same (λ i. no_name) u)
