-- What stands inside a tree that is inside another stands inside that one.
use Rattle.std.proofs.Common.{◌≡◌, inl, inr, ⊎_elim, IsTrue, Some, List, [], ◌∷◌, Contains, map, refl, sym, ap, ◌∙◌, subst}
use Rattle.swc_tree_marks.specs.declared.ident.Ident.{Ident}
use Rattle.swc_tree_node.specs.declared.kind.Kind.{Kind}
use Rattle.swc_tree_node.specs.declared.node.Node.{Node, Identifier}
use Rattle.swc_tree_scoping.specs.declared.places.Place.{Place}
use Rattle.swc_tree_scoping.specs.Places.{Path, place_at, program_place}
use Rattle.swc_tree_scoping.specs.Scopes.{Round, is_reference, rounds}
use Rattle.swc_tree_scoping.specs.WellScoped.{is_module}
use Rattle.swc_base_tables_laws.proofs.Inside.{Alike, Inside, moved, moved_in}
use Rattle.swc_base_tables_laws.proofs.Joined.{IsFrom, Joined}

alike_twice : (x y z : Place) → Alike x y → Alike y z → Alike x z
alike_twice x y z (inl is) too = subst (λ x. Alike x z) (sym is) too
alike_twice x y z (inr (h, g)) (inl is) = inr (h, subst (λ (w : Place). IsTrue (is_reference w.standing)) is g)
alike_twice x y z (inr (h, g)) (inr (f, e)) = inr (h, e)

moved_twice : (f g : Path → Path) (ss : List Round) → map (moved g) (map (moved f) ss) ≡ map (moved (λ p. g (f p))) ss
moved_twice f g [] = refl
moved_twice f g (s ∷ ss) = ap (λ l. (g (f s.0), s.1) ∷ l) (moved_twice f g ss)

module _ (t s u : Node) (f g : Path → Path) (In Among : Path → Type 0) (first : Inside t s f In) (second : Inside s u g Among) where
  abbrev Both : Path → Type 0
  Both p = In p × Among (f p)

  placed : (p : Path) (w : Place) (k : Kind) (i : Ident) → place_at program_place t p ≡ Some (w, Identifier k i) → Both p
  placed p w k i e = let (v, there, alike) = first.kept p w k i e in (first.placed p w k i e, second.placed (f p) v k i there)

  round_in : (p : Path) (r : Round) → Both p → Contains (rounds program_place t p) r → Both r.0
  round_in p r (i, j) there = (
    first.round_in p r i there,
    second.round_in (f p) (moved f r) j (subst (λ l. Contains l (moved f r)) (sym (first.rounds_kept p i)) (moved_in f (rounds program_place t p) r there)),
  )

  pub composed : Inside t u (λ p. g (f p)) Both
  composed = record {
    placed = placed;
    kept = λ p w k i e.
        let (v, there, alike) = first.kept p w k i e in
        let (x, too, same) = second.kept (f p) v k i there in
        (x, too, alike_twice w v x alike same);
    rounds_kept = λ p both. second.rounds_kept (f p) both.1 ∙ ap (map (moved g)) (first.rounds_kept p both.0) ∙ moved_twice f g (rounds program_place t p);
    scopes_kept = λ p both. second.scopes_kept (f p) both.1 ∙ first.scopes_kept p both.0;
    round_in = round_in;
    one = λ p q here there e. first.one p q here.0 there.0 (second.one (f p) (f q) here.1 there.1 e);
    top = ap g first.top ∙ second.top;
    root = (first.root, subst Among (sym first.top) second.root);
    listed = λ p w k i e list.
        let (v, there, alike) = first.kept p w k i e in
        let (between, stays) = second.listed (f p) v k i there list in
        let (before, still) = first.listed p w k i e between in
        (before, (second.listed (f p) w k i still list).1);
    arrows = λ p both arrow. first.arrows p both.0 (second.arrows (f p) both.1 arrow);
  }

-- so what a tree becomes may stand for it in a program that two make up
pub joined_before : (t s v u : Node) (f : Path → Path) (In : Path → Type 0) → Inside t s f In → ((p : Path) (w : Place) (k : Kind) (i : Ident) → place_at program_place s p ≡ Some (w, Identifier k i) → IsFrom t f p w k i)
    → (IsTrue (is_module s) → IsTrue (is_module t)) → Joined s v u → Joined t v u
joined_before t s v u f In inside covers goal j = record {
  f = λ p. j.f (f p);
  g = j.g;
  Here = λ p. In p × j.Here (f p);
  There = j.There;
  first = composed t s u f j.f In j.Here inside j.first;
  second = j.second;
  covered = λ p w k i e. ⊎_elim
      (λ (a : IsFrom s j.f p w k i).
      let (r, x, is, there, alike) = covers a.0 a.1 k i a.3 in
      inl (r, x, a.2 ∙ ap j.f is, there, alike_twice x a.1 w alike a.4))
      (λ (a : IsFrom v j.g p w k i). inr a)
      (j.covered p w k i e);
  whole = j.whole;
  first_goal = λ h. goal (j.first_goal h);
  second_goal = j.second_goal;
}
