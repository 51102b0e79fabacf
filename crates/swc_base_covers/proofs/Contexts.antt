-- An identifier with a context stands in a tree exactly if the tree is not clean.
use Rattle.std.proofs.Common.{◌≡◌, ℕ, IsTrue, Option, Some, None, List, [], ◌∷◌, refl, sym, ap, subst, ◌∙◌}
use Rattle.swc_tree_marks.specs.declared.ident.Ident.{Ident}
use Rattle.swc_tree_node.specs.declared.kind.Kind.{Kind}
use Rattle.swc_tree_node.specs.declared.node.Node.{Node, Identifier, out-Node, roll-Node, roll-out-Node}
use Rattle.swc_tree_node.specs.declared.node.Node.TheOpen.{Node-F}
use Rattle.swc_tree_node.specs.declared.node.Node.TheVariants.{outs-Identifier, rolls-Identifier}
use Rattle.swc_tree_scoping.specs.declared.places.Place.{Place}
use Rattle.swc_tree_scoping.specs.Places.{Path, child, given, place_at, place_below, program_place}
use Rattle.swc_tree_scoping.specs.WellScoped.{IsClean}
use Rattle.swc_tree_walk.specs.Nodes.{HasNode, node_at}
use Rattle.swc_base_covers.specs.Causes.{has_context}
use Rattle.swc_base_covers.specs.Shown.{has_marks}

of_some : {A : Type 0} (a b : A) → Some a ≡ Some b → a ≡ b
of_some a b h = cc

-- what stands in a place stands at the path
node_of : (p : Path) (w v : Place) (t n : Node) → place_at w t p ≡ Some (v, n) → node_at t p ≡ Some n
node_of [] w v t n h = ap (λ x. Some x.1) (of_some (w, t) (v, n) h)
node_of (i ∷ p) w v t n h = below (child t i) (λ c there. node_of p (place_below w t i) v c n there) h
  where
    below : (o : Option Node) → ((c : Node) → place_at (place_below w t i) c p ≡ Some (v, n) → node_at c p ≡ Some n) → given o None (λ c. place_at (place_below w t i) c p) ≡ Some (v, n) → given o None (λ c. node_at c p) ≡ Some n
    below None rest h = absurd (cc)
    below (Some c) rest h = rest c h

-- what stands at a path stands there in some place
place_of : (p : Path) (w : Place) (t n : Node) → node_at t p ≡ Some n → (v : Place) × (place_at w t p ≡ Some (v, n))
place_of [] w t n h = (w, ap (λ x. Some (w, x)) (of_some t n h))
place_of (i ∷ p) w t n h = below (child t i) (λ c there. place_of p (place_below w t i) c n there) h
  where
    below : (o : Option Node) → ((c : Node) → node_at c p ≡ Some n → (v : Place) × (place_at (place_below w t i) c p ≡ Some (v, n))) → given o None (λ c. node_at c p) ≡ Some n → (v : Place) × (given o None (λ c. place_at (place_below w t i) c p) ≡ Some (v, n))
    below None rest h = absurd (cc)
    below (Some c) rest h = rest c h

marks_of : (ctxt : List ℕ) → (IsTrue (has_marks ctxt) → ⊥) → ctxt ≡ []
marks_of [] h = refl
marks_of (m ∷ marks) h = absurd (h refl)

no_marks_in : (ctxt : List ℕ) → IsTrue (has_marks ctxt) → ctxt ≡ [] → ⊥
no_marks_in [] h e = absurd (cc)
no_marks_in (m ∷ marks) h e = absurd (cc)

pub clean_without : (t : Node) → ¬ HasNode has_context t → IsClean t
clean_without t none p w k i there = marks_of i.ctxt (λ h. none (p, Identifier k i, node_of p program_place w t (Identifier k i) there, subst (λ y. IsTrue (has_context y)) (sym (outs-Identifier k i)) h))

identifier_of : (n : Node) (y : Node-F Node) → out-Node n ≡ y → IsTrue (has_context y) → (k : Kind) × (i : Ident) × (n ≡ Identifier k i) × IsTrue (has_marks i.ctxt)
identifier_of n (Node-F.Identifier k i) o h = (k, i, sym (roll-out-Node n) ∙ ap roll-Node o ∙ rolls-Identifier k i, h)
identifier_of n Node-F.Absent o h = absurd (cc)
identifier_of n (Node-F.Flag x) o h = absurd (cc)
identifier_of n (Node-F.Word x) o h = absurd (cc)
identifier_of n (Node-F.Text x) o h = absurd (cc)
identifier_of n (Node-F.Span x) o h = absurd (cc)
identifier_of n (Node-F.List x) o h = absurd (cc)
identifier_of n (Node-F.Tree k x) o h = absurd (cc)

pub unclean_with : (t : Node) → HasNode has_context t → ¬ IsClean t
unclean_with t (p, n, there, h) clean =
    let (k, i, is, marked) = identifier_of n (out-Node n) refl h in
    let (v, placed) = place_of p program_place t n there in
    no_marks_in i.ctxt marked (clean p v k i (subst (λ x. place_at program_place t p ≡ Some (v, x)) is placed))
