-- What a walk finds, by the form of a node, and one child after another.
use Rattle.std.proofs.Common.{◌≡◌, ℕ, zero, suc, ◌+◌, false, Some, List, [], ◌∷◌, ◌++◌, take, length, refl, sym, ap, ◌∙◌, append_assoc, append-nil, ◌<◌, get_or, add-one}
use Rattle.std.specs.List.{slice_get}
use Rattle.std.proofs.lemmas.Option.{slice_get_read}
use Rattle.swc_tree_marks.specs.declared.ident.Ident.{Ident}
use Rattle.swc_tree_node.specs.declared.kind.Kind.{Kind}
use Rattle.swc_tree_node.specs.declared.node.Node.{Node, List as Many, Identifier, Tree, out-Node}
use Rattle.swc_tree_node.specs.declared.node.Node.TheOpen.{Node-F}
use Rattle.swc_tree_node.specs.Parts.{may_hold_names, may_hold_names_in}
use Rattle.swc_tree_node.specs.declared.node.Node.TheVariants.{outs-List, outs-Tree, outs-Identifier}
use Rattle.swc_tree_scoping.specs.declared.places.Place.{Place}
use Rattle.swc_tree_scoping.specs.declared.places.Standing.{Standing}
use Rattle.swc_tree_scoping.specs.declared.below.PlacesBelow.{PlacesBelow}
use Rattle.swc_tree_scoping.specs.declared.below.PlacesBelow.TheVariants as below
use Rattle.swc_tree_scoping.specs.Below.{fields_are, place_of, places_of}
use Rattle.swc_tree_scoping.specs.Folds.{each_in}
use Rattle.swc_tree_scoping.specs.Places.{children_in, place_below}
use Rattle.swc_tree_scoping.proofs.Children.{fields_below, items_below}
use Rattle.swc_tree_scoping.proofs.Under.{fold_in_place_out}
use Rattle.swc_tree_walk.specs.Sites.{joined, own_sites, sites}

pub sites_out : (w : Place) (t : Node) → sites w t ≡ own_sites w (out-Node t) ++ joined (each_in sites (place_below w t) (children_in (out-Node t)))
sites_out = fold_in_place_out (λ w t below. own_sites w (out-Node t) ++ joined below)

-- what is found in a list, in the fields of a tree, and in an identifier
pub sites_list : (w : Place) (t : Node) (ts : List Node) (pl : PlacesBelow) → t ≡ Many ts → pl ≡ below.Items w → sites w t ≡ joined (each_in sites (places_of pl ts) ts)
sites_list w t ts pl is stood =
    ap (sites w) is ∙ sites_out w (Many ts)
    ∙ ap (λ y. own_sites w y ++ joined (each_in sites (place_below w (Many ts)) (children_in y))) (outs-List ts)
    ∙ ap (λ p. joined (each_in sites p ts)) (sym (items_below w ts)) ∙ ap (λ pl. joined (each_in sites (places_of pl ts) ts)) (sym stood)

pub sites_tree : (w : Place) (t : Node) (k : Kind) (ts : List Node) (pl : PlacesBelow) → t ≡ Tree k ts → pl ≡ below.Fields (fields_are w k ts) → sites w t ≡ joined (each_in sites (places_of pl ts) ts)
sites_tree w t k ts pl is stood =
    ap (sites w) is ∙ sites_out w (Tree k ts)
    ∙ ap (λ y. own_sites w y ++ joined (each_in sites (place_below w (Tree k ts)) (children_in y))) (outs-Tree k ts)
    ∙ ap (λ p. joined (each_in sites p ts)) (sym (fields_below w k ts)) ∙ ap (λ pl. joined (each_in sites (places_of pl ts) ts)) (sym stood)

pub sites_identifier : (w : Place) (t : Node) (k : Kind) (i : Ident) → t ≡ Identifier k i → sites w t ≡ (w.standing, i) ∷ []
sites_identifier w t k i is =
    ap (sites w) is ∙ sites_out w (Identifier k i)
    ∙ ap (λ y. own_sites w y ++ joined (each_in sites (place_below w (Identifier k i)) (children_in y))) (outs-Identifier k i)

-- what the walk passes over
pub none_in_leaf : (w : Place) (t : Node) → may_hold_names t ≡ false → sites w t ≡ []
none_in_leaf w t h = sites_out w t ∙ by (out-Node t) h
  where
    by : (y : Node-F Node) → may_hold_names_in y ≡ false → own_sites w y ++ joined (each_in sites (place_below w t) (children_in y)) ≡ []
    by (Node-F.List ts) h = absurd (cc)
    by (Node-F.Tree k ts) h = absurd (cc)
    by (Node-F.Identifier k i) h = absurd (cc)
    by y h = refl

-- one child more
one_more : {A : Type 0} (g : Place → Node → List A) (places : ℕ → Place) (ts : List Node) (i : ℕ) (c : Node) → slice_get ts i ≡ Some c
    → joined (each_in g places (take (suc i) ts)) ≡ joined (each_in g places (take i ts)) ++ g (places i) c
one_more g places [] i c h = absurd (cc)
one_more g places (t ∷ ts) zero c h = let same : t ≡ c = cc in append-nil (g (places zero) t) ∙ ap (g (places zero)) same
one_more g places (t ∷ ts) (suc i) c h =
    ap (λ l. g (places zero) t ++ l) (one_more g (λ i. places (suc i)) ts i c h)
    ∙ sym (append_assoc (g (places zero) t) (joined (each_in g (λ i. places (suc i)) (take i ts))) (g (places (suc i)) c))

pub found_more : (pl : PlacesBelow) (ts : List Node) (i : ℕ) (c : Node) (w : Place) (old mid new : List (Standing × Ident)) → i < length ts → c ≡ get_or ts i c → w ≡ place_of pl i (Some c)
    → mid ≡ old ++ joined (each_in sites (places_of pl ts) (take i ts)) → new ≡ mid ++ sites w c → new ≡ old ++ joined (each_in sites (places_of pl ts) (take (i + 1) ts))
found_more pl ts i c w old mid new within is stood before found =
    let there : slice_get ts i ≡ Some c = slice_get_read ts (length ts) i c refl within is in
    let place : w ≡ places_of pl ts i = stood ∙ ap (place_of pl i) (sym there) in
    found ∙ ap (λ l. l ++ sites w c) before ∙ ap (λ w. (old ++ joined (each_in sites (places_of pl ts) (take i ts))) ++ sites w c) place
    ∙ append_assoc old (joined (each_in sites (places_of pl ts) (take i ts))) (sites (places_of pl ts i) c)
    ∙ ap (λ l. old ++ l) (sym (one_more sites (places_of pl ts) ts i c there))
    ∙ ap (λ n. old ++ joined (each_in sites (places_of pl ts) (take n ts))) (sym (add-one i))

-- a leaf more
pub found_no_more : (pl : PlacesBelow) (ts : List Node) (i : ℕ) (c : Node) (old now : List (Standing × Ident)) → i < length ts → c ≡ get_or ts i c → may_hold_names c ≡ false
    → now ≡ old ++ joined (each_in sites (places_of pl ts) (take i ts)) → now ≡ old ++ joined (each_in sites (places_of pl ts) (take (i + 1) ts))
found_no_more pl ts i c old now within is leaf before =
    let w = place_of pl i (Some c) in
    found_more pl ts i c w old now now within is refl before (sym (append-nil now) ∙ ap (λ l. now ++ l) (sym (none_in_leaf w c leaf)))
