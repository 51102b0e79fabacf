-- Sameness but for names is an equivalence.
use Rattle.std.proofs.Common.{◌≡◌, IsTrue, Option, Some, None, refl, sym, ap, ◌∙◌, subst}
use Rattle.swc_tree_marks.specs.declared.ident.Ident.{Ident}
use Rattle.swc_tree_node.specs.declared.kind.Kind.{Kind}
use Rattle.swc_tree_node.specs.declared.node.Node.{Node, Identifier}
use Rattle.swc_tree_scoping.specs.declared.places.Place.{Place}
use Rattle.swc_tree_scoping.specs.Places.{Path, place_at, program_place}
use Rattle.swc_tree_scoping.specs.Scopes.{is_name}
use Rattle.swc_tree_scoping.specs.Declares.{Meets}
use Rattle.swc_tree_renaming.specs.Apart.{NameAt}
use Rattle.swc_tree_renaming.proofs.Shape.{some_same}
use Rattle.swc_tree_renaming.proofs.Whole.{identifier_same}
use Rattle.swc_tree_grammar.specs.Normal.{normal_form}
use Rattle.swc_base_rename_laws.specs.NewNames.{outline}
use Rattle.swc_base_rename_laws.proofs.Outline.{identifiers_alike}
use Rattle.swc_base_alpha_laws.specs.Alpha.{AlphaVariants, StandForOne, StandsFor, Writes}
use Rattle.swc_base_alpha_laws.specs.Laws.{AlphaIsReflexive, AlphaIsSymmetric, AlphaIsTransitive}

-- one identifier stands at a path, in one place
pub one_there : (t : Node) (p : Path) (w v : Place) (k l : Kind) (i j : Ident) → place_at program_place t p ≡ Some (w, Identifier k i) → place_at program_place t p ≡ Some (v, Identifier l j) → (w ≡ v) × (i ≡ j)
one_there t p w v k l i j h g =
    let both : ◌≡◌ {A = Place × Node} (w, Identifier k i) (v, Identifier l j) = some_same (w, Identifier k i) (v, Identifier l j) (sym h ∙ g) in
    (ap (λ (q : Place × Node). q.0) both, identifier_same k l i j (ap (λ (q : Place × Node). q.1) both))

-- what is said of a name at a path is said of it however it is found there
stands_again : (t : Node) (p : Path) (i a : Ident) (m : NameAt t p i) (x : NameAt t p a) (o : Option Path) → StandsFor t p m.0.standing i.sym o → StandsFor t p x.0.standing a.sym o
stands_again t p i a (w, k, h, n) (v, l, g, z) o s =
    let (place, ident) = one_there t p w v k l i a h g in
    subst (λ (v : Place). StandsFor t p v.standing a.sym o) place (subst (λ (a : Ident). StandsFor t p w.standing a.sym o) ident s)

text_again : (t : Node) (p : Path) (i a : Ident) → NameAt t p i → NameAt t p a → i.sym ≡ a.sym
text_again t p i a (w, k, h, n) (v, l, g, z) = ap (λ (i : Ident). i.sym) (one_there t p w v k l i a h g).1

one_again : (t : Node) (p q : Path) (i j a b : Ident) (m : NameAt t p i) (n : NameAt t q j) (x : NameAt t p a) (y : NameAt t q b) → StandForOne t p q i j m n → StandForOne t p q a b x y
one_again t p q i j a b m n x y (same, (o, h, k)) =
    (sym (text_again t p i a m x) ∙ same ∙ text_again t q j b n y, (o, stands_again t p i a m x o h, stands_again t q j b n y o k))

writes_again : (t : Node) (p : Path) (i a : Ident) (m : NameAt t p i) (x : NameAt t p a) (o : Option Path) → Writes t p i m o → Writes t p a x o
writes_again t p i a (w, k, h, n) (v, l, g, z) o (is, means) =
    let (place, ident) = one_there t p w v k l i a h g in
    (ap (λ (w : Place). w.standing) (sym place) ∙ is, subst (λ (a : Ident). Meets t p a.sym o) ident means)

-- a name of one tree is a name of each of its outline
pub named_there : (t u : Node) → outline t ≡ outline u → (p : Path) (i : Ident) → NameAt t p i → (a : Ident) × NameAt u p a
named_there t u shape p i (w, k, h, n) = let (a, g) = identifiers_alike t u shape p program_place w k i h in (a, (w, k, g, n))

same_reflexive : (t : Node) → AlphaVariants t t
same_reflexive t = record {
  shape = refl;
  others = λ p w v k l i j h g n. ap (λ (i : Ident). i.sym) (one_there t p w v k l i j h g).1;
  free = λ p i a m x. ((stands_again t p i a m x None, stands_again t p a i x m None), λ f. text_again t p i a m x);
  meanings = λ p q i j a b m n x y. (one_again t p q i j a b m n x y, one_again t p q a b i j x y m n);
  writes = λ p i a m x o. (writes_again t p i a m x o, writes_again t p a i x m o);
}

same_symmetric : (t u : Node) → AlphaVariants t u → AlphaVariants u t
same_symmetric t u s = record {
  shape = sym s.shape;
  others = λ p w v k l i j h g n.
      let (z, e) = identifiers_alike u t (sym s.shape) p program_place w k i h in
      let place : w ≡ v = (one_there t p w v k l z j e g).0 in
      sym (s.others p v w l k j i g h (subst (λ (v : Place). ¬ IsTrue (is_name v.standing)) place n));
  free = λ p i a m x.
      let ((forth, back), text) = s.free p a i x m in
      ((back, forth), λ f. sym (text (back f)));
  meanings = λ p q i j a b m n x y. let (forth, back) = s.meanings p q a b i j x y m n in (back, forth);
  writes = λ p i a m x o. let (forth, back) = s.writes p a i x m o in (back, forth);
}

same_transitive : (t u v : Node) → AlphaVariants t u → AlphaVariants u v → AlphaVariants t v
same_transitive t u v s z = record {
  shape = s.shape ∙ z.shape;
  others = λ p w y k l i j h g n.
      let (b, e) = identifiers_alike t u s.shape p program_place w k i h in
      s.others p w w k k i b h e n ∙ z.others p w y k l b j e g n;
  free = λ p i a m x.
      let (b, y) = named_there t u s.shape p i m in
      let ((forth, back), text) = s.free p i b m y in
      let ((on, off), again) = z.free p b a y x in
      ((λ f. on (forth f), λ f. back (off f)), λ f. text f ∙ again (forth f));
  meanings = λ p q i j a b m n x y.
      let (c, k) = named_there t u s.shape p i m in
      let (d, l) = named_there t u s.shape q j n in
      let (forth, back) = s.meanings p q i j c d m n k l in
      let (on, off) = z.meanings p q c d a b k l x y in
      (λ f. on (forth f), λ f. back (off f));
  writes = λ p i a m x o.
      let (b, y) = named_there t u s.shape p i m in
      let (forth, back) = s.writes p i b m y o in
      let (on, off) = z.writes p b a y x o in
      (λ f. on (forth f), λ f. back (off f));
}

pub alpha_is_reflexive : AlphaIsReflexive
alpha_is_reflexive t = same_reflexive (normal_form t)

pub alpha_is_symmetric : AlphaIsSymmetric
alpha_is_symmetric t u = same_symmetric (normal_form t) (normal_form u)

pub alpha_is_transitive : AlphaIsTransitive
alpha_is_transitive t u v = same_transitive (normal_form t) (normal_form u) (normal_form v)
