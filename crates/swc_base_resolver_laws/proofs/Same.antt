-- Contexts given anew: the texts stay, and so does what stands at each path, but for the contexts of identifiers.
use Rattle.std.proofs.Common.{◌≡◌, ℕ, zero, suc, true, false, Some, List, [], ◌∷◌, map, refl, sym, ap, ◌∙◌}
use Rattle.std.specs.List.{slice_get}
use Rattle.swc_tree_marks.specs.declared.ident.Ident.{Ident}
use Rattle.swc_tree_node.specs.declared.kind.Kind.{Kind}
use Rattle.swc_tree_node.specs.declared.node.Node.{Node, Identifier, out-Node, roll-Node, roll-out-Node}
use Rattle.swc_tree_node.specs.declared.node.Node.TheOpen.{Node-F}
use Rattle.swc_tree_node.specs.declared.node.Node.TheVariants.{outs-Identifier, outs-List, outs-Tree}
use Rattle.swc_tree_scoping.specs.declared.places.Place.{Place}
use Rattle.swc_tree_scoping.specs.Places.{Path, children_in, child, place_below, place_at}
use Rattle.swc_tree_scoping.specs.Readings.{by_texts}
use Rattle.swc_tree_scoping.specs.Resolved.{Contexts, remarked}
use Rattle.swc_tree_scoping.proofs.Under.{by_children, place_under}
use Rattle.swc_tree_scoping.proofs.Remarked.{each_remarked, remarked-List, remarked-Tree, remarked-Identifier, remarked-leaf, list_is, tree_is, identifier_is}
use Rattle.swc_tree_renaming.proofs.Blank.{layer, out_is}

pub some_same : {X : Type 0} (a b : X) → Some a ≡ Some b → a ≡ b
some_same a b e = cc

pub impossible : {A : Type 0} → false ≡ true → A
impossible h = absurd (cc)

-- nodes of one layer are one
pub one_layer : (t u : Node) → out-Node t ≡ out-Node u → t ≡ u
one_layer t u e = sym (roll-out-Node t) ∙ ap roll-Node e ∙ roll-out-Node u

-- an identifier without its context
abbrev pub by_text : Ident → Ident
by_text i = record i { ctxt = [] }

-- the texts stay
abbrev Alike : Node → Type 0
Alike t = (c : Contexts) → by_texts (remarked c t) ≡ by_texts t

each_alike : (ts : List Node) (c : ℕ → Contexts) → ((i : ℕ) (t : Node) → slice_get ts i ≡ Some t → Alike t) → map by_texts (each_remarked c ts) ≡ map by_texts ts
each_alike [] c h = refl
each_alike (t ∷ ts) c h = ap (λ u. u ∷ map by_texts (each_remarked (λ i. c (suc i)) ts)) (h zero t refl (c zero)) ∙ ap (λ l. by_texts t ∷ l) (each_alike ts (λ i. c (suc i)) (λ i. h (suc i)))

out_texts : (t : Node) (y : Node-F Node) → out-Node t ≡ y → out-Node (by_texts t) ≡ layer by_text y
out_texts t y e = out_is by_text t ∙ ap (layer by_text) e

alike : (t : Node) → ((i : ℕ) (d : Node) → child t i ≡ Some d → Alike d) → (y : Node-F Node) → out-Node t ≡ y → Alike t
alike t below (Node-F.List ts) o c =
    one_layer (by_texts (remarked c t)) (by_texts t)
    (out_texts (remarked c t) _ (ap (λ t. out-Node (remarked c t)) (list_is t ts o) ∙ ap out-Node (remarked-List c ts) ∙ outs-List (each_remarked (λ i p. c (i ∷ p)) ts))
    ∙ ap (λ l. Node-F.List l) (each_alike ts (λ i p. c (i ∷ p)) (λ i d h. below i d (ap (λ y. slice_get (children_in y) i) o ∙ h))) ∙ sym (out_texts t _ o))
alike t below (Node-F.Tree k ts) o c =
    one_layer (by_texts (remarked c t)) (by_texts t)
    (out_texts (remarked c t) _ (ap (λ t. out-Node (remarked c t)) (tree_is t k ts o) ∙ ap out-Node (remarked-Tree c k ts) ∙ outs-Tree k (each_remarked (λ i p. c (i ∷ p)) ts))
    ∙ ap (λ l. Node-F.Tree k l) (each_alike ts (λ i p. c (i ∷ p)) (λ i d h. below i d (ap (λ y. slice_get (children_in y) i) o ∙ h))) ∙ sym (out_texts t _ o))
alike t below (Node-F.Identifier k i) o c =
    one_layer (by_texts (remarked c t)) (by_texts t)
    (out_texts (remarked c t) _ (ap (λ t. out-Node (remarked c t)) (identifier_is t k i o) ∙ ap out-Node (remarked-Identifier c k i) ∙ outs-Identifier k (record i { ctxt = c [] })) ∙ sym (out_texts t _ o))
alike t below Node-F.Absent o c = ap by_texts (remarked-leaf c t _ o refl)
alike t below (Node-F.Flag x) o c = ap by_texts (remarked-leaf c t _ o refl)
alike t below (Node-F.Word w) o c = ap by_texts (remarked-leaf c t _ o refl)
alike t below (Node-F.Text x) o c = ap by_texts (remarked-leaf c t _ o refl)
alike t below (Node-F.Span x) o c = ap by_texts (remarked-leaf c t _ o refl)

pub texts_stay : (c : Contexts) (t : Node) → by_texts (remarked c t) ≡ by_texts t
texts_stay c t = by_children Alike (λ t below. alike t below (out-Node t) refl) t c

-- where no identifier has a context, the tree is read by texts as it is
abbrev CleanAt : Place → Node → Type 0
CleanAt w t = (p : Path) (v : Place) (k : Kind) (i : Ident) → place_at w t p ≡ Some (v, Identifier k i) → i.ctxt ≡ []

abbrev Stays : Node → Type 0
Stays t = (w : Place) → CleanAt w t → by_texts t ≡ t

each_stays : (ts : List Node) → ((i : ℕ) (c : Node) → slice_get ts i ≡ Some c → by_texts c ≡ c) → map by_texts ts ≡ ts
each_stays [] h = refl
each_stays (t ∷ ts) h = ap (λ c. c ∷ map by_texts ts) (h zero t refl) ∙ ap (λ l. t ∷ l) (each_stays ts (λ i. h (suc i)))

no_context : (i : Ident) → i.ctxt ≡ [] → by_text i ≡ i
no_context i e = ap (λ c. record i { ctxt = c }) (sym e)

clean_below : (w : Place) (t c : Node) (i : ℕ) → CleanAt w t → child t i ≡ Some c → CleanAt (place_below w t i) c
clean_below w t c i clean h p v k j e = clean (i ∷ p) v k j (place_under w t c i p h ∙ e)

stays_at : (t : Node) → ((i : ℕ) (c : Node) → child t i ≡ Some c → Stays c) → (w : Place) → CleanAt w t → (y : Node-F Node) → out-Node t ≡ y → layer by_text y ≡ y
stays_at t below w clean (Node-F.List ts) o = ap (λ l. Node-F.List l) (each_stays ts (λ i c h. let there = ap (λ y. slice_get (children_in y) i) o ∙ h in below i c there (place_below w t i) (clean_below w t c i clean there)))
stays_at t below w clean (Node-F.Tree k ts) o = ap (λ l. Node-F.Tree k l) (each_stays ts (λ i c h. let there = ap (λ y. slice_get (children_in y) i) o ∙ h in below i c there (place_below w t i) (clean_below w t c i clean there)))
stays_at t below w clean (Node-F.Identifier k i) o = ap (λ i. Node-F.Identifier k i) (no_context i (clean [] w k i (ap (λ c. Some (w, c)) (identifier_is t k i o))))
stays_at t below w clean Node-F.Absent o = refl
stays_at t below w clean _ o = refl

pub clean_stays : (t : Node) (w : Place) → CleanAt w t → by_texts t ≡ t
clean_stays = by_children Stays (λ t below w clean. one_layer (by_texts t) t (out_is by_text t ∙ stays_at t below w clean (out-Node t) refl))
