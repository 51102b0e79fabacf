-- Whether a tree is the same as another but for names does not rest on the contexts in the other.
use Rattle.std.proofs.Common.{◌≡◌, ℕ, zero, suc, Bool, ◌&&◌, ◌==◌, Some, List, [], ◌∷◌, map, refl, sym, ap, ◌∙◌}
use Rattle.std.specs.Prelude.{slice_get}
use Rattle.swc_tree_marks.specs.declared.ident.Ident.{Ident}
use Rattle.swc_tree_node.specs.declared.kind.Kind.{Kind}
use Rattle.swc_tree_node.specs.declared.node.Node.{Node, out-Node}
use Rattle.swc_tree_node.specs.declared.node.Node.TheOpen.{Node-F}
use Rattle.swc_tree_node.specs.Table.{kind_number}
use Rattle.swc_tree_scoping.specs.declared.places.Standing.{Standing}
use Rattle.swc_tree_scoping.specs.declared.places.Place.{Place}
use Rattle.swc_tree_scoping.specs.Places.{children_in, place_below}
use Rattle.swc_tree_scoping.specs.Folds.{each_in, fold_in_place}
use Rattle.swc_tree_scoping.specs.Readings.{by_texts}
use Rattle.swc_tree_scoping.proofs.Under.{by_children, fold_in_place_out}
use Rattle.swc_tree_grammar.specs.Same.{each_same, same_in, same_step}
use Rattle.swc_tree_grammar_texts.proofs.Cleared.{bare, look}

-- a test that does not look at contexts
abbrev Blind : (Node → Bool) → Type 0
Blind f = (v : Node) → f (by_texts v) ≡ f v

abbrev AllBlind : List (Node → Bool) → Type 0
AllBlind [] = Unit {0}
AllBlind (f ∷ fs) = Blind f × AllBlind fs

each_blind : (fs : List (Node → Bool)) (us : List Node) → AllBlind fs → each_same fs (map by_texts us) ≡ each_same fs us
each_blind [] [] b = refl
each_blind [] (u ∷ us) b = refl
each_blind (f ∷ fs) [] b = refl
each_blind (f ∷ fs) (u ∷ us) b = rw (b.0 u, each_blind fs us b.1) refl

module _ (declared : List Ident) where
  abbrev pub same_at : Place → Node → Node → Bool
  same_at w n = fold_in_place (same_step declared) w n

  module _ (r : Standing) (below : List (Node → Bool)) (blind : AllBlind below) where
    name_blind : (y : Node-F Node) (k : Kind) (i : Ident) → same_in declared r below y (Node-F.Identifier k (bare i)) ≡ same_in declared r below y (Node-F.Identifier k i)
    name_blind (Node-F.Identifier l j) k i = refl
    name_blind y k i = refl

    list_blind : (y : Node-F Node) (us : List Node) → same_in declared r below y (Node-F.List (map by_texts us)) ≡ same_in declared r below y (Node-F.List us)
    list_blind (Node-F.List ts) us = each_blind below us blind
    list_blind y us = refl

    tree_blind : (y : Node-F Node) (k : Kind) (us : List Node) → same_in declared r below y (Node-F.Tree k (map by_texts us)) ≡ same_in declared r below y (Node-F.Tree k us)
    tree_blind (Node-F.Tree l ts) k us = ap (λ b. (kind_number l == kind_number k) && b) (each_blind below us blind)
    tree_blind y k us = refl

    layer_blind : (y : Node-F Node) → Blind (λ v. same_in declared r below y (out-Node v))
    layer_blind y v = look Bool (λ z. same_in declared r below y z) (name_blind y) (list_blind y) (tree_blind y) v

  all_blind : (ws : ℕ → Place) (cs : List Node) → ((i : ℕ) (c : Node) → slice_get cs i ≡ Some c → (w : Place) → Blind (same_at w c)) → AllBlind (each_in same_at ws cs)
  all_blind ws [] h = tt
  all_blind ws (c ∷ cs) h = (h 0 c refl (ws zero), all_blind (λ i. ws (suc i)) cs (λ i d e. h (suc i) d e))

  pub same_blind : (t : Node) (w : Place) → Blind (same_at w t)
  same_blind = by_children (λ t. (w : Place) → Blind (same_at w t)) (λ t below w v.
      let here = all_blind (place_below w t) (children_in (out-Node t)) below in
      let opened = fold_in_place_out (same_step declared) w t in
      ap (λ f. f (by_texts v)) opened ∙ layer_blind w.standing _ here (out-Node t) v ∙ sym (ap (λ f. f v) opened))
