-- What a tree is whose nodes are made anew, by the form of a node and one child after another; and that it fits.
use Rattle.std.proofs.Common.{◌≡◌, ℕ, zero, suc, ◌+◌, ◌<◌, IsTrue, ◌&&◌, not, Option, Some, None, List, [], ◌∷◌, ◌++◌, map, take, drop, length, refl, sym, ap, ◌∙◌, subst, arith, add-one}
use Rattle.std.specs.List.{slice_get, slice_set}
use Rattle.swc_tree_node.specs.declared.kind.Kind.{Kind}
use Rattle.swc_tree_node.specs.declared.node.Node.{Node, List as Many, Tree, out-Node, roll-Node, roll-out-Node}
use Rattle.swc_tree_node.specs.declared.node.Node.TheOpen.{Node-F}
use Rattle.swc_tree_node.specs.declared.node.Node.TheVariants.{outs-List, outs-Tree, rolls-List, rolls-Tree}
use Rattle.swc_tree_node.specs.declared.slot.Content.{Content}
use Rattle.swc_tree_node.specs.declared.slot.Content.TheVariants as content
use Rattle.swc_tree_node.specs.declared.slot.Slot.{Slot}
use Rattle.swc_tree_node.specs.declared.slot.Slot.TheVariants as slot
use Rattle.swc_tree_node.specs.Fits.{AllFit, FieldsFit, Fits, belongs, each_fits, fits, list_fits, single, tree_fits}
use Rattle.swc_tree_node.specs.Table.{is_identifier, slots_of}
use Rattle.swc_tree_node.proofs.Fit.{all_close, all_open, and_both, both, fields_close, fields_open, fits-List, fits-Tree}
use Rattle.swc_tree_scoping.specs.declared.places.Place.{Place}
use Rattle.swc_tree_scoping.specs.declared.below.PlacesBelow.{PlacesBelow}
use Rattle.swc_tree_scoping.specs.declared.below.PlacesBelow.TheVariants as below
use Rattle.swc_tree_scoping.specs.Below.{fields_are, place_of, places_of}
use Rattle.swc_tree_scoping.specs.Folds.{each_in}
use Rattle.swc_tree_scoping.specs.Places.{child, children_in, place_below}
use Rattle.swc_tree_scoping.proofs.Children.{fields_below, items_below}
use Rattle.swc_tree_scoping.proofs.Remarked.{list_is, tree_is}
use Rattle.swc_tree_scoping.proofs.Under.{by_children, fold_in_place_out}
use Rattle.swc_tree_walk.specs.Rewritten.{rewritten, with_children}

-- one child after another
done_at : (g : Place → Node → Node) (places : ℕ → Place) (ts : List Node) (i : ℕ) (d x : Node) → i < length ts → slice_get (each_in g places (take i ts) ++ drop i ts) i ≡ Some x
    → slice_set (slice_set (each_in g places (take i ts) ++ drop i ts) i d) i (g (places i) x) ≡ each_in g places (take (suc i) ts) ++ drop (suc i) ts
done_at g places [] i d x h e = absurd (omega arith)
done_at g places (t ∷ ts) zero d x h e = let same : t ≡ x = cc in ap (λ u. g (places zero) u ∷ ts) (sym same)
done_at g places (t ∷ ts) (suc i) d x h e = ap (λ l. g (places zero) t ∷ l) (done_at g (λ i. places (suc i)) ts i d x (omega arith) e)

there : (g : Place → Node → Node) (places : ℕ → Place) (ts : List Node) (i : ℕ) → i < length ts → slice_get (each_in g places (take i ts) ++ drop i ts) i ≡ slice_get ts i
there g places [] i h = absurd (omega arith)
there g places (t ∷ ts) zero h = refl
there g places (t ∷ ts) (suc i) h = there g (λ i. places (suc i)) ts i (omega arith)

module _ (g : Place → Node → Node) (pl : PlacesBelow) (ts ys zs ws : List Node) (i : ℕ) (d x y : Node) (w : Place) (within : i < length ts) (was : ys ≡ each_in g (places_of pl ts) (take i ts) ++ drop i ts) (here : slice_get ys i ≡ Some x) where
  pub stood : slice_get ts i ≡ Some x
  stood = sym (there g (places_of pl ts) ts i within) ∙ ap (λ ys. slice_get ys i) (sym was) ∙ here

  pub one_more : zs ≡ slice_set ys i d → ws ≡ slice_set zs i y → w ≡ place_of pl i (Some x) → y ≡ g w x → ws ≡ each_in g (places_of pl ts) (take (i + 1) ts) ++ drop (i + 1) ts
  one_more out back at new =
      let place : w ≡ places_of pl ts i = at ∙ ap (place_of pl i) (sym stood) in
      back ∙ rw (out, new, place, was, add-one) (done_at g (places_of pl ts) ts i d x within (rw (← was) here))

-- a measure of a child that was taken out
pub length_each : (g : Place → Node → Node) (places : ℕ → Place) (ts : List Node) → length (each_in g places ts) ≡ length ts
length_each g places [] = refl
length_each g places (t ∷ ts) = ap suc (length_each g (λ i. places (suc i)) ts)

module _ (made : Place → Node → Node) where
  rewritten_out : (w : Place) (t : Node) → rewritten made w t ≡ made w (with_children (out-Node t) (each_in (rewritten made) (place_below w t) (children_in (out-Node t))))
  rewritten_out = fold_in_place_out (λ w t below. made w (with_children (out-Node t) below))

  pub rewritten_list : (w : Place) (t : Node) (ts : List Node) (pl : PlacesBelow) → t ≡ Many ts → pl ≡ below.Items w → rewritten made w t ≡ made w (Many (each_in (rewritten made) (places_of pl ts) ts))
  rewritten_list w t ts pl is stood =
      ap (rewritten made w) is ∙ rewritten_out w (Many ts)
      ∙ ap (λ y. made w (with_children y (each_in (rewritten made) (place_below w (Many ts)) (children_in y)))) (outs-List ts)
      ∙ ap (λ p. made w (Many (each_in (rewritten made) p ts))) (sym (items_below w ts)) ∙ ap (λ pl. made w (Many (each_in (rewritten made) (places_of pl ts) ts))) (sym stood)

  pub rewritten_tree : (w : Place) (t : Node) (k : Kind) (ts : List Node) (pl : PlacesBelow) → t ≡ Tree k ts → pl ≡ below.Fields (fields_are w k ts) → rewritten made w t ≡ made w (Tree k (each_in (rewritten made) (places_of pl ts) ts))
  rewritten_tree w t k ts pl is stood =
      ap (rewritten made w) is ∙ rewritten_out w (Tree k ts)
      ∙ ap (λ y. made w (with_children y (each_in (rewritten made) (place_below w (Tree k ts)) (children_in y)))) (outs-Tree k ts)
      ∙ ap (λ p. made w (Tree k (each_in (rewritten made) p ts))) (sym (fields_below w k ts)) ∙ ap (λ pl. made w (Tree k (each_in (rewritten made) (places_of pl ts) ts))) (sym stood)

  pub rewritten_leaf : (w : Place) (t : Node) → ((ts : List Node) → t ≡ Many ts → ⊥) → ((k : Kind) (ts : List Node) → t ≡ Tree k ts → ⊥) → rewritten made w t ≡ made w t
  rewritten_leaf w t no_list no_tree = rewritten_out w t ∙ by (out-Node t) (sym (roll-out-Node t))
    where
      by : (y : Node-F Node) → t ≡ roll-Node y → made w (with_children y (each_in (rewritten made) (place_below w t) (children_in y))) ≡ made w t
      by (Node-F.List ts) e = absurd (no_list ts (e ∙ rolls-List ts))
      by (Node-F.Tree k ts) e = absurd (no_tree k ts (e ∙ rolls-Tree k ts))
      by y e = ap (made w) (sym e)

-- what fits still does
abbrev EachKept : List Node → List Node → Type 0
EachKept [] [] = Unit {0}
EachKept (t ∷ ts) (u ∷ us) = ((s : Slot) → Fits t s → Fits u s) × EachKept ts us
EachKept _ _ = ⊥

all_kept : (s : Slot) (ts us : List Node) → EachKept ts us → AllFit s ts → AllFit s us
all_kept s [] [] h f = tt
all_kept s [] (u ∷ us) h f = absurd h
all_kept s (t ∷ ts) [] h f = absurd h
all_kept s (t ∷ ts) (u ∷ us) h f = (h.0 s f.0, all_kept s ts us h.1 f.1)

fields_kept : (ss : List Slot) (ts us : List Node) → EachKept ts us → FieldsFit ss ts → FieldsFit ss us
fields_kept [] [] [] h f = tt
fields_kept [] [] (u ∷ us) h f = absurd h
fields_kept [] (t ∷ ts) us h f = absurd f
fields_kept (s ∷ ss) [] us h f = absurd f
fields_kept (s ∷ ss) (t ∷ ts) [] h f = absurd h
fields_kept (s ∷ ss) (t ∷ ts) (u ∷ us) h f = (h.0 s f.0, fields_kept ss ts us h.1 f.1)

list_kept : (s : Slot) (ts us : List Node) → EachKept ts us → IsTrue (list_fits (map fits ts) s) → IsTrue (list_fits (map fits us) s)
list_kept (slot.List c) ts us h f = all_close (slot.One c) us (all_kept (slot.One c) ts us h (all_open (slot.One c) ts f))
list_kept (slot.Holes c) ts us h f = all_close (slot.Optional c) us (all_kept (slot.Optional c) ts us h (all_open (slot.Optional c) ts f))
list_kept (slot.OptionalList c) ts us h f = all_close (slot.One c) us (all_kept (slot.One c) ts us h (all_open (slot.One c) ts f))
list_kept slot.Pair ts us h f =
    let ss : List Slot = slot.One content.Text ∷ slot.One content.Text ∷ [] in
    fields_close ss us (fields_kept ss ts us h (fields_open ss ts f))
list_kept slot.Pairs ts us h f = all_close slot.Pair us (all_kept slot.Pair ts us h (all_open slot.Pair ts f))
list_kept (slot.One c) ts us h f = absurd (cc)
list_kept (slot.Optional c) ts us h f = absurd (cc)

tree_kept : (k : Kind) (ts us : List Node) (o : Option Content) → EachKept ts us → IsTrue (tree_fits k (map fits ts) o) → IsTrue (tree_fits k (map fits us) o)
tree_kept k ts us (Some (content.Node c)) h f =
    let p = both (not (is_identifier k)) (belongs k c && each_fits (slots_of k) (map fits ts)) f in
    let q = both (belongs k c) (each_fits (slots_of k) (map fits ts)) p.1 in
    and_both (not (is_identifier k)) (belongs k c && each_fits (slots_of k) (map fits us)) p.0
    (and_both (belongs k c) (each_fits (slots_of k) (map fits us)) q.0 (fields_close (slots_of k) us (fields_kept (slots_of k) ts us h (fields_open (slots_of k) ts q.1))))
tree_kept k ts us (Some content.Span) h f = absurd (cc)
tree_kept k ts us (Some content.Text) h f = absurd (cc)
tree_kept k ts us (Some content.Flag) h f = absurd (cc)
tree_kept k ts us (Some (content.Word ws)) h f = absurd (cc)
tree_kept k ts us None h f = absurd (cc)

module _ (made : Place → Node → Node) (keeps : (w : Place) (t : Node) (s : Slot) → Fits t s → Fits (made w t) s) where
  abbrev Kept : Node → Type 0
  Kept t = (w : Place) (s : Slot) → Fits t s → Fits (rewritten made w t) s

  each_kept : (places : ℕ → Place) (ts : List Node) → ((i : ℕ) (c : Node) → slice_get ts i ≡ Some c → Kept c) → EachKept ts (each_in (rewritten made) places ts)
  each_kept places [] h = tt
  each_kept places (t ∷ ts) h = (λ s f. h zero t refl (places zero) s f, each_kept (λ i. places (suc i)) ts (λ i. h (suc i)))

  kept : (t : Node) → ((i : ℕ) (c : Node) → child t i ≡ Some c → Kept c) → (y : Node-F Node) → out-Node t ≡ y → (w : Place) (s : Slot) → Fits t s
      → Fits (made w (with_children y (each_in (rewritten made) (place_below w t) (children_in y)))) s
  kept t below (Node-F.List ts) o w s f =
      let us = each_in (rewritten made) (place_below w t) ts in
      let each = each_kept (place_below w t) ts (λ i c e. below i c (ap (λ y. slice_get (children_in y) i) o ∙ e)) in
      keeps w (Many us) s (rw (fits-List us s) (list_kept s ts us each (rw (← fits-List ts s) (subst (λ t. Fits t s) (list_is t ts o) f))))
  kept t below (Node-F.Tree k ts) o w s f =
      let us = each_in (rewritten made) (place_below w t) ts in
      let each = each_kept (place_below w t) ts (λ i c e. below i c (ap (λ y. slice_get (children_in y) i) o ∙ e)) in
      keeps w (Tree k us) s (rw (fits-Tree k us s) (tree_kept k ts us (single s) each (rw (← fits-Tree k ts s) (subst (λ t. Fits t s) (tree_is t k ts o) f))))
  kept t below y o w s f = keeps w (roll-Node y) s (subst (λ t. Fits t s) (sym (roll-out-Node t) ∙ ap roll-Node o) f)

  pub rewritten_fits : (t : Node) (w : Place) (s : Slot) → Fits t s → Fits (rewritten made w t) s
  rewritten_fits = by_children Kept (λ t below w s f. subst (λ t. Fits t s) (sym (rewritten_out made w t)) (kept t below (out-Node t) refl w s f))
