-- New contexts change nothing of which types stand in a tree.
use Rattle.std.proofs.Common.{◌≡◌, ◌||◌, ℕ, zero, suc, Some, List, [], ◌∷◌, refl, sym, ap, ◌∙◌}
use Rattle.std.specs.List.{list_any, slice_get}
use Rattle.swc_tree_node.specs.declared.node.Node.{Node, List as Many, Identifier, Tree, out-Node}
use Rattle.swc_tree_node.specs.declared.node.Node.TheOpen.{Node-F}
use Rattle.swc_tree_scoping.specs.Places.{child, children_in}
use Rattle.swc_tree_scoping.specs.Resolved.{Contexts, remarked}
use Rattle.swc_tree_scoping.proofs.Remarked.{each_remarked, identifier_is, list_is, remarked-Identifier, remarked-List, remarked-Tree, remarked-leaf, tree_is}
use Rattle.swc_tree_scoping.proofs.Under.{by_children}
use Rattle.swc_tree_spaces.specs.Spaces.{has_types, is_of_types}
use Rattle.swc_tree_has_types.proofs.Told.{none_in_identifier, types_of_list, types_of_tree}

abbrev TypesAlike : Node → Type 0
TypesAlike t = (c : Contexts) → has_types (remarked c t) ≡ has_types t

each_alike : (ts : List Node) (c : ℕ → Contexts) → ((i : ℕ) (t : Node) → slice_get ts i ≡ Some t → TypesAlike t) → list_any has_types (each_remarked c ts) ≡ list_any has_types ts
each_alike [] c h = refl
each_alike (t ∷ ts) c h = ap (λ b. b || list_any has_types (each_remarked (λ i. c (suc i)) ts)) (h zero t refl (c zero)) ∙ ap (λ b. has_types t || b) (each_alike ts (λ i. c (suc i)) (λ i. h (suc i)))

alike : (t : Node) → ((i : ℕ) (d : Node) → child t i ≡ Some d → TypesAlike d) → (y : Node-F Node) → out-Node t ≡ y → TypesAlike t
alike t below (Node-F.List ts) o c =
    let same : t ≡ Many ts = list_is t ts o in
    let inner = each_alike ts (λ i p. c (i ∷ p)) (λ i d h. below i d (ap (λ y. slice_get (children_in y) i) o ∙ h)) in
    ap (λ t. has_types (remarked c t)) same ∙ ap has_types (remarked-List c ts) ∙ types_of_list (each_remarked (λ i p. c (i ∷ p)) ts) ∙ inner ∙ sym (types_of_list ts) ∙ ap has_types (sym same)
alike t below (Node-F.Tree k ts) o c =
    let same : t ≡ Tree k ts = tree_is t k ts o in
    let inner = each_alike ts (λ i p. c (i ∷ p)) (λ i d h. below i d (ap (λ y. slice_get (children_in y) i) o ∙ h)) in
    ap (λ t. has_types (remarked c t)) same ∙ ap has_types (remarked-Tree c k ts) ∙ types_of_tree k (each_remarked (λ i p. c (i ∷ p)) ts) ∙ ap (λ b. is_of_types k || b) inner
    ∙ sym (types_of_tree k ts) ∙ ap has_types (sym same)
alike t below (Node-F.Identifier k i) o c =
    let same : t ≡ Identifier k i = identifier_is t k i o in
    ap (λ t. has_types (remarked c t)) same ∙ ap has_types (remarked-Identifier c k i) ∙ none_in_identifier k (record i { ctxt = c [] }) ∙ sym (none_in_identifier k i) ∙ ap has_types (sym same)
alike t below Node-F.Absent o c = ap has_types (remarked-leaf c t _ o refl)
alike t below (Node-F.Flag x) o c = ap has_types (remarked-leaf c t _ o refl)
alike t below (Node-F.Word w) o c = ap has_types (remarked-leaf c t _ o refl)
alike t below (Node-F.Text x) o c = ap has_types (remarked-leaf c t _ o refl)
alike t below (Node-F.Span x) o c = ap has_types (remarked-leaf c t _ o refl)

pub types_of_remarked : (t : Node) → TypesAlike t
types_of_remarked = by_children TypesAlike (λ t below. alike t below (out-Node t) refl)
