-- Where the new texts are apart where ids meet in a tree, the own texts of a tree that carries its labels are.
use Rattle.std.proofs.Common.{◌≡◌, ◌≢◌, ℕ, Bool, true, false, ◌||◌, IsTrue, inl, Some, List, refl, sym, ap, ◌∙◌, subst}
use Rattle.swc_tree_node.specs.declared.node.Node.{Node}
use Rattle.swc_tree_scoping.specs.declared.places.Standing.{Standing}
use Rattle.swc_tree_scoping.specs.Places.{Path}
use Rattle.swc_tree_scoping.specs.Scopes.{is_binding, is_name, is_reference}
use Rattle.swc_tree_scoping.specs.BoundNames.{Id}
use Rattle.swc_base_rename_analysis.specs.Analysis.{Declares, OccursIn}
use Rattle.swc_base_rename_analysis.specs.Preserved.{IsLoose}
use Rattle.swc_base_rename_analysis_laws.proofs.Rounds.{taken_is_round}
use Rattle.swc_base_renaming_laws.specs.Settled.{ApartWhereMet, own_text}
use Rattle.swc_base_renaming_laws.specs.SettledLabels.{Carries, IsNameAt, LabelsCarryApart}

binding_named : (r : Standing) → IsTrue (is_binding r) → IsTrue (is_name r)
binding_named r h = by (is_binding r) refl
  where
    by : (b : Bool) → is_binding r ≡ b → IsTrue (is_name r)
    by true e = ap (λ b. b || is_reference r) e
    by false e = let z : true ≡ false = sym h ∙ e in absurd (cc)

module _ (t u : Node) (text : Id → List ℕ) (label : Path → Id) (c : Carries t u text label) (apart : ApartWhereMet t text) where
  bound_at : (s p : Path) (x : Id) → Declares u s p x → IsNameAt u p x
  bound_at s p x d = (d.standing, d.stands, binding_named d.standing d.binds)

  named_at : (s : Path) (x : Id) (o : OccursIn u s x) → IsNameAt u o.path x
  named_at s x o = (o.standing, o.stands, o.names)

  -- what a scope declares occurs there
  there : (s p : Path) (x : Id) → Declares u s p x → OccursIn u s x
  there s p x d = record { path = p; standing = d.standing; stands = d.stands; names = binding_named d.standing d.binds; analysed = d.analysed; inside = inl (taken_is_round u d.standing s p d.taken) }

  declared : (s p v q : Path) (x y : Id) → Declares u s p x → Declares u v q y → OccursIn u s y → OccursIn u v x → x.0 ≡ y.0 → x ≡ y
  declared s p v q x y d e o w same =
      let (s1, p1, d1, o1) = c.meet s p x y d o in
      let (s2, p2, d2, o2) = c.meet v q y x e w in
      let one_y : label o.path ≡ label q = (c.same o.path q y y (named_at s y o) (bound_at v q y e)).0 refl in
      let one_x : label w.path ≡ label p = (c.same w.path p x x (named_at v x w) (bound_at s p x d)).0 refl in
      let texts : text (label p) ≡ text (label q) = c.texts p x (bound_at s p x d) ∙ same ∙ sym (c.texts q y (bound_at v q y e)) in
      (c.same p q x y (bound_at s p x d) (bound_at v q y e)).1 (apart.declared s1 p1 s2 p2 (label p) (label q) d1 d2 (subst (OccursIn t s1) one_y o1) (subst (OccursIn t s2) one_x o2) texts)

  loose : (s p : Path) (x y : Id) → Declares u s p x → IsLoose u y → x.0 ≢ y.0
  loose s p x y d l same =
      let (s1, p1, d1, o1) = c.meet s p x x d (there s p x d) in
      let (n, free, kept) = c.loose y l in
      apart.loose s1 p1 (label p) (label l.path) d1 free (c.texts p x (bound_at s p x d) ∙ same ∙ sym (c.texts l.path y n) ∙ kept)

  pub carried : ApartWhereMet u own_text
  carried = record { declared = declared; loose = loose }

pub labels_carry_apart : LabelsCarryApart
labels_carry_apart t u text label c apart = carried t u text label c apart
