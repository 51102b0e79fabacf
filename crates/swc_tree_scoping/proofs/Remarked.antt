-- A tree with new contexts: its layer, its places, and that it fits where the tree did.
use Rattle.std.proofs.Common.{◌≡◌, ℕ, zero, suc, false, Some, List, [], ◌∷◌, map, refl, sym, ap, ◌∙◌}
use Rattle.std.specs.List.{slice_get}
use Rattle.swc_tree_node.specs.Lower.swc_tree_marks.specs.declared.ident.Ident.{Ident}
use Rattle.swc_tree_node.specs.declared.kind.Kind.{Kind}
use Rattle.swc_tree_node.specs.declared.slot.Slot.{Slot}
use Rattle.swc_tree_node.specs.declared.node.Node.{Node, List as Many, Identifier, Tree, out-Node, roll-Node, map-Node, fold-Node, fold_out-Node, roll-out-Node}
use Rattle.swc_tree_node.specs.declared.node.Node.TheOpen.{Node-F}
use Rattle.swc_tree_node.specs.declared.node.Node.TheVariants.{rolls-Absent, rolls-Flag, rolls-Word, rolls-Text, rolls-Span, rolls-List, rolls-Identifier, rolls-Tree, outs-List, outs-Tree, outs-Identifier}
use Rattle.swc_tree_node.specs.Fits.{fits, list_fits, tree_fits, single}
use Rattle.swc_tree_node.specs.Parts.{may_hold_names_in}
use Rattle.swc_tree_node.proofs.Fit.{fits-List, fits-Tree, fits-Identifier}
use Rattle.swc_tree_scoping.specs.Places.{children_in, child}
use Rattle.swc_tree_scoping.specs.Resolved.{Contexts, each_child, remark_step, remarked}
use Rattle.swc_tree_scoping.proofs.Under.{by_children}

-- the children, each with its part of the contexts
abbrev pub each_remarked : (ℕ → Contexts) → List Node → List Node
each_remarked c [] = []
each_remarked c (t ∷ ts) = remarked (c zero) t ∷ each_remarked (λ i. c (suc i)) ts

each_child-folded : (c : ℕ → Contexts) (ts : List Node) → each_child c (map (fold-Node (Contexts → Node) remark_step) ts) ≡ each_remarked c ts
each_child-folded c [] = refl
each_child-folded c (t ∷ ts) = ap (λ l. remarked (c zero) t ∷ l) (each_child-folded (λ i. c (suc i)) ts)

remarked_out : (c : Contexts) (t : Node) → remarked c t ≡ remark_step (map-Node Node (Contexts → Node) (fold-Node (Contexts → Node) remark_step) (out-Node t)) c
remarked_out c t = ap (λ f. f c) (fold_out-Node (Contexts → Node) remark_step t)

pub remarked-List : (c : Contexts) (ts : List Node) → remarked c (Many ts) ≡ Many (each_remarked (λ i p. c (i ∷ p)) ts)
remarked-List c ts =
    remarked_out c (Many ts) ∙ ap (λ y. remark_step (map-Node Node (Contexts → Node) (fold-Node (Contexts → Node) remark_step) y) c) (outs-List ts)
    ∙ ap (λ l. Many l) (each_child-folded (λ i p. c (i ∷ p)) ts)

pub remarked-Tree : (c : Contexts) (k : Kind) (ts : List Node) → remarked c (Tree k ts) ≡ Tree k (each_remarked (λ i p. c (i ∷ p)) ts)
remarked-Tree c k ts =
    remarked_out c (Tree k ts) ∙ ap (λ y. remark_step (map-Node Node (Contexts → Node) (fold-Node (Contexts → Node) remark_step) y) c) (outs-Tree k ts)
    ∙ ap (λ l. Tree k l) (each_child-folded (λ i p. c (i ∷ p)) ts)

pub remarked-Identifier : (c : Contexts) (k : Kind) (i : Ident) → remarked c (Identifier k i) ≡ Identifier k (record i { ctxt = c [] })
remarked-Identifier c k i = remarked_out c (Identifier k i) ∙ ap (λ y. remark_step (map-Node Node (Contexts → Node) (fold-Node (Contexts → Node) remark_step) y) c) (outs-Identifier k i)

-- a node, by its layer
pub rolled : (t : Node) (y : Node-F Node) → out-Node t ≡ y → t ≡ roll-Node y
rolled t y o = sym (roll-out-Node t) ∙ ap roll-Node o

leaf_out : (c : Contexts) (t : Node) (y : Node-F Node) → out-Node t ≡ y → remarked c t ≡ remark_step (map-Node Node (Contexts → Node) (fold-Node (Contexts → Node) remark_step) y) c
leaf_out c t y o = remarked_out c t ∙ ap (λ y. remark_step (map-Node Node (Contexts → Node) (fold-Node (Contexts → Node) remark_step) y) c) o

-- what is no identifier, and has none below it, stays
pub remarked-leaf : (c : Contexts) (t : Node) (y : Node-F Node) → out-Node t ≡ y → may_hold_names_in y ≡ false → remarked c t ≡ t
remarked-leaf c t Node-F.Absent o l = leaf_out c t _ o ∙ sym rolls-Absent ∙ sym (rolled t _ o)
remarked-leaf c t (Node-F.Flag x) o l = leaf_out c t _ o ∙ sym (rolls-Flag x) ∙ sym (rolled t _ o)
remarked-leaf c t (Node-F.Word w) o l = leaf_out c t _ o ∙ sym (rolls-Word w) ∙ sym (rolled t _ o)
remarked-leaf c t (Node-F.Text x) o l = leaf_out c t _ o ∙ sym (rolls-Text x) ∙ sym (rolled t _ o)
remarked-leaf c t (Node-F.Span x) o l = leaf_out c t _ o ∙ sym (rolls-Span x) ∙ sym (rolled t _ o)
remarked-leaf c t (Node-F.List ts) o l = absurd (cc)
remarked-leaf c t (Node-F.Identifier k i) o l = absurd (cc)
remarked-leaf c t (Node-F.Tree k ts) o l = absurd (cc)

-- the same by the node's form
pub list_is : (t : Node) (ts : List Node) → out-Node t ≡ Node-F.List ts → t ≡ Many ts
list_is t ts o = rolled t _ o ∙ rolls-List ts

pub identifier_is : (t : Node) (k : Kind) (i : Ident) → out-Node t ≡ Node-F.Identifier k i → t ≡ Identifier k i
identifier_is t k i o = rolled t _ o ∙ rolls-Identifier k i

pub tree_is : (t : Node) (k : Kind) (ts : List Node) → out-Node t ≡ Node-F.Tree k ts → t ≡ Tree k ts
tree_is t k ts o = rolled t _ o ∙ rolls-Tree k ts

-- a tree with new contexts fits where the tree did
abbrev FitsAlike : Node → Type 0
FitsAlike t = (c : Contexts) → fits (remarked c t) ≡ fits t

each_alike : (ts : List Node) (c : ℕ → Contexts) → ((i : ℕ) (t : Node) → slice_get ts i ≡ Some t → FitsAlike t) → map fits (each_remarked c ts) ≡ map fits ts
each_alike [] c h = refl
each_alike (t ∷ ts) c h = ap (λ f. f ∷ map fits (each_remarked (λ i. c (suc i)) ts)) (h zero t refl (c zero)) ∙ ap (λ l. fits t ∷ l) (each_alike ts (λ i. c (suc i)) (λ i. h (suc i)))

alike : (t : Node) → ((i : ℕ) (d : Node) → child t i ≡ Some d → FitsAlike d) → (y : Node-F Node) → out-Node t ≡ y → FitsAlike t
alike t below (Node-F.List ts) o c =
    let same : t ≡ Many ts = list_is t ts o in
    let inner = each_alike ts (λ i p. c (i ∷ p)) (λ i d h. below i d (ap (λ y. slice_get (children_in y) i) o ∙ h)) in
    λ j s. (ap (λ t. fits (remarked c t) s) same ∙ ap (λ t. fits t s) (remarked-List c ts) ∙ fits-List (each_remarked (λ i p. c (i ∷ p)) ts) s ∙ ap (λ l. list_fits l s) inner
    ∙ sym (fits-List ts s) ∙ ap (λ t. fits t s) (sym same)) j
alike t below (Node-F.Identifier k i) o c =
    let same : t ≡ Identifier k i = identifier_is t k i o in
    λ j s. (ap (λ t. fits (remarked c t) s) same ∙ ap (λ t. fits t s) (remarked-Identifier c k i) ∙ fits-Identifier k (record i { ctxt = c [] }) s
    ∙ sym (fits-Identifier k i s) ∙ ap (λ t. fits t s) (sym same)) j
alike t below (Node-F.Tree k ts) o c =
    let same : t ≡ Tree k ts = tree_is t k ts o in
    let inner = each_alike ts (λ i p. c (i ∷ p)) (λ i d h. below i d (ap (λ y. slice_get (children_in y) i) o ∙ h)) in
    λ j s. (ap (λ t. fits (remarked c t) s) same ∙ ap (λ t. fits t s) (remarked-Tree c k ts) ∙ fits-Tree k (each_remarked (λ i p. c (i ∷ p)) ts) s ∙ ap (λ l. tree_fits k l (single s)) inner
    ∙ sym (fits-Tree k ts s) ∙ ap (λ t. fits t s) (sym same)) j
alike t below Node-F.Absent o c = ap fits (remarked-leaf c t _ o refl)
alike t below (Node-F.Flag x) o c = ap fits (remarked-leaf c t _ o refl)
alike t below (Node-F.Word w) o c = ap fits (remarked-leaf c t _ o refl)
alike t below (Node-F.Text x) o c = ap fits (remarked-leaf c t _ o refl)
alike t below (Node-F.Span x) o c = ap fits (remarked-leaf c t _ o refl)

remarked_alike : (t : Node) → FitsAlike t
remarked_alike = by_children FitsAlike (λ t below. alike t below (out-Node t) refl)

pub fits-remarked : (c : Contexts) (t : Node) (s : Slot) → fits (remarked c t) s ≡ fits t s
fits-remarked c t s = ap (λ f. f s) (remarked_alike t c)
