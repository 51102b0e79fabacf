-- What fits its place still does with other names for its identifiers.
use Rattle.std.proofs.Common.{◌≡◌, List, [], ◌∷◌, map, sym, ap, ◌∙◌, refl, subst}
use Rattle.swc_tree_marks.specs.declared.ident.Ident.{Ident}
use Rattle.swc_tree_node.specs.declared.kind.Kind.{Kind}
use Rattle.swc_tree_node.specs.declared.slot.Slot.{Slot}
use Rattle.swc_tree_node.specs.declared.node.Node.{Node, Absent, Flag, Word, Text, Span, List as Many, Identifier, Tree, out-Node, roll-Node, map-Node, ind-Node, fold_out-Node}
use Rattle.swc_tree_node.specs.declared.node.Node.TheVariants.{rolls-Absent, rolls-Flag, rolls-Word, rolls-Text, rolls-Span, rolls-List, rolls-Identifier, rolls-Tree, outs-Absent, outs-Flag, outs-Word, outs-Text, outs-Span, outs-List, outs-Identifier, outs-Tree}
use Rattle.swc_tree_node.specs.declared.node.Node.TheOpen.{Node-F}
use Rattle.swc_tree_node.specs.Fits.{fits, list_fits, single, tree_fits}
use Rattle.swc_tree_node.proofs.Fit.{fits-Identifier, fits-List, fits-Tree}
use Rattle.swc_tree_scoping.specs.Readings.{by_texts, rename_step, with_identifiers}
use Rattle.swc_base_rename_substitution.specs.Room.{FitsAs}

module _ (f : Ident → Ident) where
  opens : (t : Node) (y : Node-F Node) → out-Node t ≡ y → with_identifiers f t ≡ rename_step f (map-Node Node Node (with_identifiers f) y)
  opens t y e = fold_out-Node Node (rename_step f) t ∙ ap (λ y. rename_step f (map-Node Node Node (with_identifiers f) y)) e

  abbrev FitsAlike : Node → Type 0
  FitsAlike t = (s : Slot) → fits (with_identifiers f t) s ≡ fits t s

  abbrev Alike : Type 0
  Alike = (t : Node) × FitsAlike t

  abbrev nodes : List Alike → List Node
  nodes es = map (λ e. e.0) es

  below : (es : List Alike) → map fits (map (with_identifiers f) (nodes es)) ≡ map fits (nodes es)
  below [] = refl
  below (e ∷ es) = λ j. (λ s. e.1 s j) ∷ below es j

  stays : (t : Node) → with_identifiers f t ≡ t → FitsAlike t
  stays t e s = ap (λ u. fits u s) e

  of_list : (es : List Alike) → FitsAlike (Many (nodes es))
  of_list es s =
      ap (λ u. fits u s) (opens (Many (nodes es)) (Node-F.List (nodes es)) (outs-List (nodes es)) ∙ rolls-List (map (with_identifiers f) (nodes es)))
      ∙ fits-List (map (with_identifiers f) (nodes es)) s
      ∙ ap (λ l. list_fits l s) (below es)
      ∙ sym (fits-List (nodes es) s)

  of_tree : (k : Kind) (es : List Alike) → FitsAlike (Tree k (nodes es))
  of_tree k es s =
      ap (λ u. fits u s) (opens (Tree k (nodes es)) (Node-F.Tree k (nodes es)) (outs-Tree k (nodes es)) ∙ rolls-Tree k (map (with_identifiers f) (nodes es)))
      ∙ fits-Tree k (map (with_identifiers f) (nodes es)) s
      ∙ ap (λ l. tree_fits k l (single s)) (below es)
      ∙ sym (fits-Tree k (nodes es) s)

  of_identifier : (k : Kind) (i : Ident) → FitsAlike (Identifier k i)
  of_identifier k i s =
      ap (λ u. fits u s) (opens (Identifier k i) (Node-F.Identifier k i) (outs-Identifier k i))
      ∙ fits-Identifier k (f i) s
      ∙ sym (fits-Identifier k i s)

  layer : (y : Node-F Alike) → FitsAlike (roll-Node (map-Node Alike Node (λ e. e.0) y))
  layer Node-F.Absent = subst FitsAlike (sym rolls-Absent) (stays Absent (opens Absent Node-F.Absent outs-Absent ∙ rolls-Absent))
  layer (Node-F.Flag x) = subst FitsAlike (sym (rolls-Flag x)) (stays (Flag x) (opens (Flag x) (Node-F.Flag x) (outs-Flag x) ∙ rolls-Flag x))
  layer (Node-F.Word w) = subst FitsAlike (sym (rolls-Word w)) (stays (Word w) (opens (Word w) (Node-F.Word w) (outs-Word w) ∙ rolls-Word w))
  layer (Node-F.Text x) = subst FitsAlike (sym (rolls-Text x)) (stays (Text x) (opens (Text x) (Node-F.Text x) (outs-Text x) ∙ rolls-Text x))
  layer (Node-F.Span x) = subst FitsAlike (sym (rolls-Span x)) (stays (Span x) (opens (Span x) (Node-F.Span x) (outs-Span x) ∙ rolls-Span x))
  layer (Node-F.List es) = subst FitsAlike (sym (rolls-List (nodes es))) (of_list es)
  layer (Node-F.Identifier k i) = subst FitsAlike (sym (rolls-Identifier k i)) (of_identifier k i)
  layer (Node-F.Tree k es) = subst FitsAlike (sym (rolls-Tree k (nodes es))) (of_tree k es)

  fits_alike : (t : Node) → FitsAlike t
  fits_alike t = ind-Node FitsAlike (λ x all e. subst (λ x. FitsAlike (roll-Node x)) e (layer all)) t

pub by_texts_fits : (before t : Node) → FitsAs before t → FitsAs before (by_texts t)
by_texts_fits before t h s room fit = fits_alike (λ i. record i { ctxt = [] }) t s ∙ h s room fit
