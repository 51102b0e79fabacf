-- A tree in which no identifier has a context is clean.
use Rattle.std.proofs.Common.{◌≡◌, ℕ, IsTrue, Option, Some, None, List, [], ◌∷◌, refl, sym, ap, subst}
use Rattle.swc_tree_node.specs.declared.node.Node.{Node, Identifier}
use Rattle.swc_tree_node.specs.declared.node.Node.TheVariants.{outs-Identifier}
use Rattle.swc_tree_scoping.specs.declared.places.Place.{Place}
use Rattle.swc_tree_scoping.specs.Places.{Path, child, given, place_at, place_below, program_place}
use Rattle.swc_tree_scoping.specs.WellScoped.{IsClean}
use Rattle.swc_tree_walk.specs.Nodes.{HasNode, node_at}
use Rattle.text_source.specs.Amiss.{has_marks, is_marked}

of_some : {A : Type 0} (a b : A) → Some a ≡ Some b → a ≡ b
of_some a b h = cc

-- what stands in a place stands at the path
node_of : (p : Path) (w v : Place) (t n : Node) → place_at w t p ≡ Some (v, n) → node_at t p ≡ Some n
node_of [] w v t n h = ap (λ x. Some x.1) (of_some (w, t) (v, n) h)
node_of (i ∷ p) w v t n h = below (child t i) (λ c there. node_of p (place_below w t i) v c n there) h
  where
    below : (o : Option Node) → ((c : Node) → place_at (place_below w t i) c p ≡ Some (v, n) → node_at c p ≡ Some n) → given o None (λ c. place_at (place_below w t i) c p) ≡ Some (v, n) → given o None (λ c. node_at c p) ≡ Some n
    below None rest h = absurd (cc)
    below (Some c) rest h = rest c h

marks_of : (ctxt : List ℕ) → (IsTrue (has_marks ctxt) → ⊥) → ctxt ≡ []
marks_of [] h = refl
marks_of (m ∷ marks) h = absurd (h refl)

pub clean_without : (t : Node) → ¬ HasNode is_marked t → IsClean t
clean_without t none p w k i there = marks_of i.ctxt (λ h. none (p, Identifier k i, node_of p program_place w t (Identifier k i) there, subst (λ y. IsTrue (is_marked y)) (sym (outs-Identifier k i)) h))
