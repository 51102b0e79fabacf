-- Whether some identifier of a tree passes a test.
use Rattle.std.proofs.Common.{◌≡◌, ◌⊎◌, ℕ, zero, suc, Bool, true, false, Option, Some, None, List, [], ◌∷◌, refl, sym, ap, ◌∙◌, subst, inl, inr}
use Rattle.std.specs.Prelude.{slice_get}
use Rattle.swc_tree_marks.specs.declared.ident.Ident.{Ident}
use Rattle.swc_tree_node.specs.declared.kind.Kind.{Kind}
use Rattle.swc_tree_node.specs.declared.node.Node.{Node, Identifier, out-Node}
use Rattle.swc_tree_node.specs.declared.node.Node.TheOpen.{Node-F}
use Rattle.swc_tree_node.specs.declared.node.Node.TheVariants.{outs-Identifier}
use Rattle.swc_tree_scoping.specs.declared.places.Place.{Place}
use Rattle.swc_tree_scoping.specs.BoundNames.{Id}
use Rattle.swc_tree_scoping.specs.Places.{Path, child, children_in, given, place_at, place_below}
use Rattle.swc_tree_scoping.proofs.Under.{by_children}
use Rattle.swc_base_rename_substitution.specs.Identifiers.{id_of}
use Rattle.swc_base_rename_laws.proofs.Outline.{pair_same}

abbrev Same : Node-F Node → Node-F Node → Type 0
Same y z = y ≡ z

is_layer : (t : Node) (y : Node-F Node) (k : Kind) (i : Ident) → out-Node t ≡ y → t ≡ Identifier k i → Same y (Node-F.Identifier k i)
is_layer t y k i e h = sym e ∙ ap out-Node h ∙ outs-Identifier k i

module _ (test : Id → Bool) where
  abbrev pub One : Type 0
  One = (x : Id) × (test x ≡ true)

  -- no identifier in the tree passes
  abbrev pub NoneIn : Node → Type 0
  NoneIn t = (p : Path) (w v : Place) (k : Kind) (i : Ident) → place_at w t p ≡ Some (v, Identifier k i) → test (id_of i) ≡ false

  abbrev Decided : Node → Type 0
  Decided t = One ⊎ NoneIn t

  abbrev NoneOf : List Node → Type 0
  NoneOf ts = (i : ℕ) (c : Node) → slice_get ts i ≡ Some c → NoneIn c

  none_more : (t : Node) (ts : List Node) → NoneIn t → NoneOf ts → NoneOf (t ∷ ts)
  none_more t ts n m zero c e = let same : t ≡ c = cc in subst NoneIn same n
  none_more t ts n m (suc i) c e = m i c e

  one_more : (t : Node) (ts : List Node) → Decided t → One ⊎ NoneOf ts → One ⊎ NoneOf (t ∷ ts)
  one_more t ts (inl x) y = inl x
  one_more t ts (inr n) (inl x) = inl x
  one_more t ts (inr n) (inr m) = inr (none_more t ts n m)

  none_of_none : NoneOf []
  none_of_none i c e = absurd (cc)

  all : (ts : List Node) → ((i : ℕ) (c : Node) → slice_get ts i ≡ Some c → Decided c) → One ⊎ NoneOf ts
  all [] h = inr none_of_none
  all (t ∷ ts) h = one_more t ts (h zero t refl) (all ts (λ i c e. h (suc i) c e))

  abbrev Here : Node → Type 0
  Here t = (k : Kind) (i : Ident) → t ≡ Identifier k i → test (id_of i) ≡ false

  here : (t : Node) (y : Node-F Node) → out-Node t ≡ y → One ⊎ Here t
  here t (Node-F.Identifier k i) e = by (test (id_of i)) refl
    where
      by : (b : Bool) → test (id_of i) ≡ b → One ⊎ Here t
      by true f = inl (id_of i, f)
      by false f = inr (λ l j h. let layer = is_layer t (Node-F.Identifier k i) l j e h in let same : i ≡ j = cc in ap (λ i. test (id_of i)) (sym same) ∙ f)
  here t Node-F.Absent e = inr (λ l j h. let no = is_layer t _ l j e h in absurd (cc))
  here t (Node-F.Flag x) e = inr (λ l j h. let no = is_layer t _ l j e h in absurd (cc))
  here t (Node-F.Word x) e = inr (λ l j h. let no = is_layer t _ l j e h in absurd (cc))
  here t (Node-F.Text x) e = inr (λ l j h. let no = is_layer t _ l j e h in absurd (cc))
  here t (Node-F.Span x) e = inr (λ l j h. let no = is_layer t _ l j e h in absurd (cc))
  here t (Node-F.List x) e = inr (λ l j h. let no = is_layer t _ l j e h in absurd (cc))
  here t (Node-F.Tree n x) e = inr (λ l j h. let no = is_layer t _ l j e h in absurd (cc))

  none_at : (t : Node) → Here t → NoneOf (children_in (out-Node t)) → NoneIn t
  none_at t n m [] w v k i h = n k i (ap (λ (q : Place × Node). q.1) (pair_same (w, t) (v, Identifier k i) h))
  none_at t n m (j ∷ p) w v k i h = by (child t j) refl h
    where
      by : (o : Option Node) → child t j ≡ o → given o None (λ c. place_at (place_below w t j) c p) ≡ Some (v, Identifier k i) → test (id_of i) ≡ false
      by None e h = absurd (cc)
      by (Some c) e h = m j c e p (place_below w t j) v k i h

  both : (t : Node) → One ⊎ Here t → One ⊎ NoneOf (children_in (out-Node t)) → Decided t
  both t (inl x) y = inl x
  both t (inr n) (inl x) = inl x
  both t (inr n) (inr m) = inr (none_at t n m)

  pub decided : (t : Node) → Decided t
  decided = by_children Decided (λ t below. both t (here t (out-Node t) refl) (all (children_in (out-Node t)) below))
