-- What stands at a path of a tree whose identifiers are changed.
use Rattle.std.proofs.Common.{◌≡◌, ℕ, zero, suc, Option, Some, List, [], ◌∷◌, map, refl, sym, ap, ◌∙◌}
use Rattle.std.specs.Prelude.{option_map}
use Rattle.std.specs.List.{slice_get}
use Rattle.swc_tree_marks.specs.declared.ident.Ident.{Ident}
use Rattle.swc_tree_node.specs.declared.kind.Kind.{Kind}
use Rattle.swc_tree_node.specs.declared.slot.Slot.{Slot}
use Rattle.swc_tree_node.specs.declared.node.Node.{Node, Identifier, out-Node, roll-Node, roll-out-Node}
use Rattle.swc_tree_node.specs.declared.node.Node.TheOpen.{Node-F}
use Rattle.swc_tree_node.specs.Fits.{fits, list_fits, single, tree_fits}
use Rattle.swc_tree_node.proofs.Fit.{fits-Identifier, fits-List, fits-Tree}
use Rattle.swc_tree_scoping.specs.declared.places.Place.{Place}
use Rattle.swc_tree_scoping.specs.Places.{Path, child, children_in, place_at, program_place}
use Rattle.swc_tree_scoping.specs.Readings.{with_identifiers}
use Rattle.swc_tree_scoping.proofs.Remarked.{identifier_is, list_is, tree_is}
use Rattle.swc_tree_scoping.proofs.Under.{by_children}
use Rattle.swc_tree_renaming.specs.Apart.{SameScopes, nameless, no_name}
use Rattle.swc_tree_renaming.proofs.Blank.{layer, out_is, place_at_same}
use Rattle.swc_tree_renaming.proofs.Shape.{same_scopes, some_same, twice}
use Rattle.swc_tree_renaming.proofs.Whole.{identifier_same, with_identifier}

pub one_name : (o : Option (Place × Node)) (w v : Place) (k l : Kind) (i j : Ident) → o ≡ Some (w, Identifier k i) → o ≡ Some (v, Identifier l j) → i ≡ j
one_name o w v k l i j e g = identifier_same k l i j (ap (λ (q : Place × Node). q.1) (some_same (w, Identifier k i) (v, Identifier l j) (sym e ∙ g)))

pub one_place : (o : Option (Place × Node)) (w v : Place) (k l : Kind) (i j : Ident) → o ≡ Some (w, Identifier k i) → o ≡ Some (v, Identifier l j) → w ≡ v
one_place o w v k l i j e g = ap (λ (q : Place × Node). q.0) (some_same (w, Identifier k i) (v, Identifier l j) (sym e ∙ g))

module _ (f : Ident → Ident) (t : Node) where
  pub nameless_changed : nameless (with_identifiers f t) ≡ nameless t
  nameless_changed = twice f (λ i. no_name) t

  pub changed_scopes : SameScopes t (with_identifiers f t)
  changed_scopes = same_scopes t (with_identifiers f t) (sym nameless_changed)

  pub changed_there : (p : Path) (w : Place) (k : Kind) (i : Ident) → place_at program_place t p ≡ Some (w, Identifier k i) → place_at program_place (with_identifiers f t) p ≡ Some (w, Identifier k (f i))
  changed_there p w k i h =
      place_at_same f p program_place t ∙ ap (option_map {U = Place × Node} (λ (q : Place × Node). (q.0, with_identifiers f q.1))) h ∙ ap (λ c. Some (w, c)) (with_identifier f k i)

  pub from_changed : (p : Path) (w : Place) (k : Kind) (i : Ident) → place_at program_place (with_identifiers f t) p ≡ Some (w, Identifier k i)
      → (l : Kind) × (j : Ident) × (place_at program_place t p ≡ Some (w, Identifier l j)) × (i ≡ f j)
  from_changed p w k i h =
      let (l, j, e) = changed_scopes.back p w k i h in
      (l, j, e, one_name (place_at program_place (with_identifiers f t) p) w w k l i (f j) h (changed_there p w l j e))

-- ---- it fits where the tree does

abbrev FitsAlike : (Ident → Ident) → Node → Type 0
FitsAlike f t = (s : Slot) → fits (with_identifiers f t) s ≡ fits t s

each_fits_alike : (f : Ident → Ident) (ts : List Node) → ((i : ℕ) (c : Node) → slice_get ts i ≡ Some c → FitsAlike f c) → map fits (map (with_identifiers f) ts) ≡ map fits ts
each_fits_alike f [] h = refl
each_fits_alike f (t ∷ ts) h = λ j. (λ s. h zero t refl s j) ∷ each_fits_alike f ts (λ i. h (suc i)) j

leaf_stays : (f : Ident → Ident) (t : Node) (y : Node-F Node) → out-Node t ≡ y → layer f y ≡ y → FitsAlike f t
leaf_stays f t y o e s = ap (λ t. fits t s) (sym (roll-out-Node (with_identifiers f t)) ∙ ap roll-Node (out_is f t ∙ ap (layer f) o ∙ e ∙ sym o) ∙ roll-out-Node t)

fits_by_layer : (f : Ident → Ident) (t : Node) → ((i : ℕ) (c : Node) → child t i ≡ Some c → FitsAlike f c) → (y : Node-F Node) → out-Node t ≡ y → FitsAlike f t
fits_by_layer f t below (Node-F.Tree k ts) o s =
    ap (λ t. fits t s) (tree_is (with_identifiers f t) k (map (with_identifiers f) ts) (out_is f t ∙ ap (layer f) o))
    ∙ fits-Tree k (map (with_identifiers f) ts) s
    ∙ ap (λ l. tree_fits k l (single s)) (each_fits_alike f ts (λ i c e. below i c (ap (λ y. slice_get (children_in y) i) o ∙ e)))
    ∙ sym (fits-Tree k ts s) ∙ ap (λ t. fits t s) (sym (tree_is t k ts o))
fits_by_layer f t below (Node-F.List ts) o s =
    ap (λ t. fits t s) (list_is (with_identifiers f t) (map (with_identifiers f) ts) (out_is f t ∙ ap (layer f) o))
    ∙ fits-List (map (with_identifiers f) ts) s
    ∙ ap (λ l. list_fits l s) (each_fits_alike f ts (λ i c e. below i c (ap (λ y. slice_get (children_in y) i) o ∙ e)))
    ∙ sym (fits-List ts s) ∙ ap (λ t. fits t s) (sym (list_is t ts o))
fits_by_layer f t below (Node-F.Identifier k i) o s =
    ap (λ t. fits t s) (identifier_is (with_identifiers f t) k (f i) (out_is f t ∙ ap (layer f) o)) ∙ fits-Identifier k (f i) s ∙ sym (fits-Identifier k i s) ∙ ap (λ t. fits t s) (sym (identifier_is t k i o))
fits_by_layer f t below Node-F.Absent o s = leaf_stays f t Node-F.Absent o refl s
fits_by_layer f t below (Node-F.Flag x) o s = leaf_stays f t (Node-F.Flag x) o refl s
fits_by_layer f t below (Node-F.Word x) o s = leaf_stays f t (Node-F.Word x) o refl s
fits_by_layer f t below (Node-F.Text x) o s = leaf_stays f t (Node-F.Text x) o refl s
fits_by_layer f t below (Node-F.Span x) o s = leaf_stays f t (Node-F.Span x) o refl s

pub fits_changed : (f : Ident → Ident) (t : Node) → FitsAlike f t
fits_changed f = by_children (FitsAlike f) (λ t below. fits_by_layer f t below (out-Node t) refl)
