-- What lists of identifiers of resolved programs tell of the programs.
use Rattle.std.proofs.Common.{◌≡◌, IsTrue, ◌⊎◌, inl, inr, ⊎_elim, Some, List, [], Contains, ◌↔◌, refl, sym, ap, ◌∙◌, subst}
use Rattle.swc_tree_marks.specs.declared.ident.Ident.{Ident}
use Rattle.swc_tree_node.specs.declared.kind.Kind.{Kind}
use Rattle.swc_tree_node.specs.declared.node.Node.{Node, Identifier}
use Rattle.swc_tree_scoping.specs.declared.places.Place.{Place}
use Rattle.swc_tree_scoping.specs.declared.places.Standing.{Standing}
use Rattle.swc_tree_scoping.specs.Places.{Path, place_at, program_place}
use Rattle.swc_tree_scoping.specs.Scopes.{IsScope, is_name}
use Rattle.swc_tree_scoping.specs.WellScoped.{NoCaughtVariable}
use Rattle.swc_tree_renaming.specs.Apart.{NameAt}
use Rattle.swc_tree_walk.specs.Sites.{sites}
use Rattle.swc_base_rename_laws.specs.NewNames.{outline}
use Rattle.swc_base_alpha_laws.specs.Alpha.{AlphaVariants, Beside, FreeNamesStay, NamesStay, OtherTextsStay}
use Rattle.swc_base_alpha_laws.proofs.Decided.{both, came, free_id, top_id, writes_there}
use Rattle.swc_base_alpha_laws.proofs.Equivalence.{one_there}
use Rattle.swc_base_alpha_laws.proofs.Ids.{Resolver, stand_for_ids}
use Rattle.swc_base_alpha.specs.Pairs.{EachPair, IsFreeAlike, IsTopAlike, Meets, StaysOne}
use Rattle.swc_base_alpha.specs.declared.pairs.Question.TheVariants as question
use Rattle.swc_base_alpha.specs.Side.{Seen, side}
use Rattle.swc_base_alpha.specs.Verdict.{NoneIsSplit, TopNamesStay}
use Rattle.swc_base_alpha.proofs.Aligned.{sites_are_aligned}
use Rattle.swc_base_alpha.proofs.Remarked.{outline_remarked}

-- resolving keeps the outline
pub outline_kept : (t u : Node) → Resolver t u → outline u ≡ outline t
outline_kept t u g = ap outline g.resolved.only_contexts ∙ outline_remarked g.resolved.contexts t

module _ (t s u v : Node) (g : Resolver t u) (z : Resolver s v) (shape : outline t ≡ outline s) where
  abbrev xs : List Seen
  xs = sites program_place u

  abbrev ys : List Seen
  ys = sites program_place v

  shapes : outline u ≡ outline v
  shapes = outline_kept t u g ∙ shape ∙ sym (outline_kept s v z)

  at : (r q : Standing) (a b : Ident) → Contains (side xs ys) ((r, a), (q, b)) ↔ (Beside u v r a b × (r ≡ q))
  at = (sites_are_aligned u v shapes).1

  -- identifiers at one path, as the lists have them
  record Listed (p : Path) (w y : Place) (k l : Kind) (i j : Ident) : Type 0 where
    one : Ident
    other : Ident
    stands : place_at program_place u p ≡ Some (w, Identifier k one)
    stands_too : place_at program_place v p ≡ Some (y, Identifier l other)
    there : Contains (side xs ys) ((w.standing, one), (w.standing, other))
    text : one.sym ≡ i.sym
    its_text : other.sym ≡ j.sym

  listed : (p : Path) (w y : Place) (k l : Kind) (i j : Ident) → place_at program_place t p ≡ Some (w, Identifier k i) → place_at program_place s p ≡ Some (y, Identifier l j) → Listed p w y k l i j
  listed p w y k l i j h e =
      let (a, f, text) = came t u g p w k i h in
      let (b, d, its_text) = came s v z p y l j e in
      record {
        one = a;
        other = b;
        stands = f;
        stands_too = d;
        there = (at w.standing w.standing a b).1 (record { path = p; place = w; kind = k; other = y; its_kind = l; stands = f; stands_there = d; stands_so = refl }, refl);
        text = text;
        its_text = its_text;
      }

  -- names that stand side by side in the lists, as the programs have them
  record Named (x y : Seen) : Type 0 where
    path : Path
    first : Ident
    second : Ident
    name_in : NameAt t path first
    name_of : NameAt u path x.1
    name_there : NameAt s path second
    name_by : NameAt v path y.1
    text : x.1.sym ≡ first.sym
    its_text : y.1.sym ≡ second.sym

  named : (x y : Seen) → Contains (side xs ys) (x, y) → IsTrue (is_name x.0) → Named x y
  named x y there n =
      let (d, same) = (at x.0 y.0 x.1 y.1).0 there in
      let b = both t s u v g z shape x.0 x.1 y.1 d in
      let (c, e, text) = came s v z d.path d.place b.its_kind b.second b.stands_there in
      let place : d.place ≡ d.other = (one_there v d.path d.place d.other b.its_kind d.its_kind c y.1 e d.stands_there).0 in
      let is : IsTrue (is_name d.place.standing) = subst (λ r. IsTrue (is_name r)) (sym d.stands_so) n in
      record {
        path = d.path;
        first = b.first;
        second = b.second;
        name_in = (d.place, b.kind, b.stands, is);
        name_of = (d.place, d.kind, d.stands, is);
        name_there = (d.place, b.its_kind, b.stands_there, is);
        name_by = (d.other, d.its_kind, d.stands_there, subst (λ (w : Place). IsTrue (is_name w.standing)) place is);
        text = b.text;
        its_text = b.its_text;
      }

  pub others_told : OtherTextsStay t s ↔ EachPair (Meets question.Others) (side xs ys)
  others_told = (
    λ h x y there n.
        let (d, same) = (at x.0 y.0 x.1 y.1).0 there in
        let b = both t s u v g z shape x.0 x.1 y.1 d in
        b.text ∙ h d.path d.place d.place b.kind b.its_kind b.first b.second b.stands b.stands_there (subst (λ r. ¬ IsTrue (is_name r)) (sym d.stands_so) n) ∙ sym b.its_text,
    λ h p w y k l i j e f n.
        let c = listed p w y k l i j e f in
        sym c.text ∙ h (w.standing, c.one) (w.standing, c.other) c.there n ∙ c.its_text,
  )

  pub names_told : NamesStay t s ↔ EachPair (Meets question.Names) (side xs ys)
  names_told = (
    λ h x y there n. let c = named x y there n in c.text ∙ h c.path c.first c.second c.name_in c.name_there ∙ sym c.its_text,
    λ h p i j m x. let c = listed p m.0 x.0 m.1 x.1 i j m.2 x.2 in sym c.text ∙ h (m.0.standing, c.one) (m.0.standing, c.other) c.there m.3 ∙ c.its_text,
  )

  module _ (uncaught : NoCaughtVariable t) (uncaught_too : NoCaughtVariable s) where
    pub free_told : FreeNamesStay t s ↔ EachPair (λ x y. IsTrue (is_name x.0) → IsFreeAlike g.unresolved z.unresolved x.1 y.1) (side xs ys)
    free_told = (
      λ h x y there n.
          let c = named x y there n in
          let here = free_id t u g uncaught c.path c.first x.1 c.name_in c.name_of in
          let too = free_id s v z uncaught_too c.path c.second y.1 c.name_there c.name_by in
          let stays = h c.path c.first c.second c.name_in c.name_there in
          ((λ f. too.0 (stays.0.0 (here.1 f)), λ f. here.0 (stays.0.1 (too.1 f))), λ f. c.text ∙ stays.1 (here.1 f) ∙ sym c.its_text),
      λ h p i j m x.
          let c = listed p m.0 x.0 m.1 x.1 i j m.2 x.2 in
          let here = free_id t u g uncaught p i c.one m (m.0, m.1, c.stands, m.3) in
          let too = free_id s v z uncaught_too p j c.other x (x.0, x.1, c.stands_too, x.3) in
          let alike = h (m.0.standing, c.one) (m.0.standing, c.other) c.there m.3 in
          ((λ f. too.1 (alike.0.0 (here.0 f)), λ f. here.1 (alike.0.1 (too.0 f))), λ f. sym c.text ∙ alike.1 (here.0 f) ∙ c.its_text),
    )

    pub split_told : NoneIsSplit t s ↔ StaysOne (side xs ys)
    split_told = (
      λ h x y a b there then n k one.
          let c = named x y there n in
          let d = named a b then k in
          let here = stand_for_ids t u g uncaught c.path d.path c.first d.first x.1 a.1 c.name_in d.name_in c.name_of d.name_of in
          let too = stand_for_ids s v z uncaught_too c.path d.path c.second d.second y.1 b.1 c.name_there d.name_there c.name_by d.name_by in
          too.0 (h c.path d.path c.first d.first c.second d.second c.name_in d.name_in c.name_there d.name_there (here.1 one)),
      λ h p q i j a b m n x y one.
          let c = listed p m.0 x.0 m.1 x.1 i a m.2 x.2 in
          let d = listed q n.0 y.0 n.1 y.1 j b n.2 y.2 in
          let here = stand_for_ids t u g uncaught p q i j c.one d.one m n (m.0, m.1, c.stands, m.3) (n.0, n.1, d.stands, n.3) in
          let too = stand_for_ids s v z uncaught_too p q a b c.other d.other x y (x.0, x.1, c.stands_too, x.3) (y.0, y.1, d.stands_too, y.3) in
          too.1 (h (m.0.standing, c.one) (m.0.standing, c.other) (n.0.standing, d.one) (n.0.standing, d.other) c.there d.there m.3 n.3 (here.0 one)),
    )

    pub top_told : IsScope t [] → IsScope s [] → TopNamesStay t s ↔ EachPair (λ x y. IsTrue (is_name x.0) → IsTopAlike g.top z.top x.1 y.1) (side xs ys)
    top_told opens opens_too = (
      λ h x y there n e.
          let c = named x y there n in
          let here = top_id t u g uncaught opens c.path c.first x.1 c.name_in c.name_of in
          let too = top_id s v z uncaught_too opens_too c.path c.second y.1 c.name_there c.name_by in
          c.text ∙ h c.path c.first c.second c.name_in c.name_there (⊎_elim (λ f. inl (here.1 f)) (λ f. inr (too.1 f)) e) ∙ sym c.its_text,
      λ h p i j m x e.
          let c = listed p m.0 x.0 m.1 x.1 i j m.2 x.2 in
          let here = top_id t u g uncaught opens p i c.one m (m.0, m.1, c.stands, m.3) in
          let too = top_id s v z uncaught_too opens_too p j c.other x (x.0, x.1, c.stands_too, x.3) in
          sym c.text ∙ h (m.0.standing, c.one) (m.0.standing, c.other) c.there m.3 (⊎_elim (λ f. inl (here.0 f)) (λ f. inr (too.0 f)) e) ∙ c.its_text,
    )

-- the conditions but that on writes, which follows, make two normal forms one but for names
pub variants : (t s : Node) → outline t ≡ outline s → NoCaughtVariable t → NoCaughtVariable s → OtherTextsStay t s → FreeNamesStay t s → NoneIsSplit t s → NoneIsSplit s t → AlphaVariants t s
variants t s shape uncaught uncaught_too others free split joined = record {
  shape = shape;
  others = others;
  free = free;
  meanings = λ p q i j a b m n x y. (split p q i j a b m n x y, joined p q a b i j x y m n);
  writes = λ p i a m x o. (writes_there t s shape uncaught uncaught_too p i a m x o, writes_there s t (sym shape) uncaught_too uncaught p a i x m o);
}
