-- In a tree for whose marks no table is needed, no identifier has a context.
use Rattle.std.proofs.Common.{◌≡◌, ℕ, zero, suc, List, [], ◌∷◌, Bool, true, false, ◌&&◌, map, Option, Some, None, IsTrue, refl, ap, ◌∙◌, subst}
use Rattle.std.specs.List.{list_all, slice_get}
use Rattle.swc_tree_marks.specs.Globals.{Table}
use Rattle.swc_tree_marks.specs.declared.ident.Ident.{Ident}
use Rattle.swc_tree_node.specs.declared.kind.Kind.{Kind}
use Rattle.swc_tree_node.specs.declared.node.Node.{Node, Identifier, out-Node}
use Rattle.swc_tree_node.specs.declared.node.Node.TheOpen.{Node-F}
use Rattle.swc_tree_scoping.specs.declared.places.Place.{Place}
use Rattle.swc_tree_scoping.specs.Places.{Path, child, children_in, given, place_at, place_below, program_place}
use Rattle.swc_tree_scoping.specs.WellScoped.{IsClean}
use Rattle.swc_tree_scoping.proofs.Remarked.{list_is, tree_is}
use Rattle.jsbase_form.specs.Known.{MarksKnown, all_of, marks_known}
use Rattle.jsbase_form.specs.Leaves.{is_marked}
use Rattle.jsbase_form.proofs.Folds.{known-Identifier, known-List, known-Tree}
use Rattle.jsbase_form.proofs.Members.{split}

abbrev no_marks : Table
no_marks = []

abbrev Known : Node → Type 0
Known t = IsTrue (marks_known no_marks t)

never : {X : Type 0} (a b : Bool) → b ≡ false → IsTrue (a && b) → X
never true b e h = absurd (cc)
never false b e h = absurd (cc)

none_known : (marks : List ℕ) → IsTrue (list_all (is_marked no_marks) marks) → marks ≡ []
none_known [] h = refl
none_known (m ∷ marks) h = let first = (split (is_marked no_marks m) (list_all (is_marked no_marks) marks) h).0 in absurd (no_mark m first)
  where
    no_mark : (m : ℕ) → IsTrue (is_marked no_marks m) → ⊥
    no_mark m h = never _ _ refl h

all_at : {X : Type 0} (f : X → Bool) (xs : List X) (n : ℕ) (x : X) → IsTrue (all_of (map f xs)) → slice_get xs n ≡ Some x → IsTrue (f x)
all_at f [] n x h there = absurd (cc)
all_at f (y ∷ ys) zero x h there = let same : y ≡ x = cc in subst (λ z. IsTrue (f z)) same (split (f y) (all_of (map f ys)) h).0
all_at f (y ∷ ys) (suc n) x h there = all_at f ys n x (split (f y) (all_of (map f ys)) h).1 there

child_known : (y : Node-F Node) (t : Node) → out-Node t ≡ y → Known t → (n : ℕ) (c : Node) → slice_get (children_in y) n ≡ Some c → Known c
child_known (Node-F.List ts) t o h n c there = all_at (marks_known no_marks) ts n c (subst IsTrue (ap (marks_known no_marks) (list_is t ts o) ∙ known-List no_marks ts) h) there
child_known (Node-F.Tree k ts) t o h n c there = all_at (marks_known no_marks) ts n c (subst IsTrue (ap (marks_known no_marks) (tree_is t k ts o) ∙ known-Tree no_marks k ts) h) there
child_known Node-F.Absent t o h n c there = absurd (cc)
child_known (Node-F.Flag x) t o h n c there = absurd (cc)
child_known (Node-F.Word x) t o h n c there = absurd (cc)
child_known (Node-F.Text x) t o h n c there = absurd (cc)
child_known (Node-F.Span x) t o h n c there = absurd (cc)
child_known (Node-F.Identifier k i) t o h n c there = absurd (cc)

of_some : {A : Type 0} (a b : A) → Some a ≡ Some b → a ≡ b
of_some a b h = cc

clean_at : (p : Path) (w v : Place) (t : Node) (k : Kind) (i : Ident) → Known t → place_at w t p ≡ Some (v, Identifier k i) → i.ctxt ≡ []
clean_at [] w v t k i h there =
    let same : t ≡ Identifier k i = ap (λ x. x.1) (of_some (w, t) (v, Identifier k i) there) in
    none_known i.ctxt (subst IsTrue (ap (marks_known no_marks) same ∙ known-Identifier no_marks k i) h)
clean_at (n ∷ p) w v t k i h there = below (child t n) refl (λ c known stands. clean_at p (place_below w t n) v c k i known stands) there
  where
    below : (o : Option Node) → child t n ≡ o → ((c : Node) → Known c → place_at (place_below w t n) c p ≡ Some (v, Identifier k i) → i.ctxt ≡ []) → given o None (λ c. place_at (place_below w t n) c p) ≡ Some (v, Identifier k i) → i.ctxt ≡ []
    below None e rest there = absurd (cc)
    below (Some c) e rest there = rest c (child_known (out-Node t) t refl h n c e) there

pub is_clean : (t : Node) → MarksKnown no_marks t → IsClean t
is_clean t h p w k i there = clean_at p program_place w t k i h there
