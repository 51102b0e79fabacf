-- The names of what is left of an answer mean the ids of what is left of the program.
use Rattle.std.proofs.Common.{◌≡◌, ℕ, IsTrue, Option, List, refl, sym, ap, ◌∙◌, subst}
use Rattle.swc_tree_marks.specs.declared.ident.Ident.{Ident}
use Rattle.swc_tree_node.specs.declared.node.Node.{Node, Identifier}
use Rattle.swc_tree_scoping.specs.declared.places.Standing.{Standing}
use Rattle.swc_tree_scoping.specs.declared.places.Place.{Place}
use Rattle.swc_tree_scoping.specs.Places.{Path}
use Rattle.swc_tree_scoping.specs.Scopes.{is_name}
use Rattle.swc_tree_scoping.specs.Readings.{by_ids, id_name}
use Rattle.swc_tree_scoping.specs.WellScoped.{EachInOneScope, IsClean, Stands}
use Rattle.swc_tree_renaming.specs.Apart.{Belongs, CapturesNone, HasTexts, IsPlainProgram, MeanOne, MeanTheirIds, NameAt, SameId, SameScopes}
use Rattle.swc_tree_renaming.proofs.Core.{Owner, belongs_to_owner, one_owner, owner_tells}
use Rattle.swc_tree_renaming.proofs.Shape.{some_same}
use Rattle.swc_tree_renaming.proofs.Whole.{by_id, id_name_apart, id_name_same, stands_by_id}
use Rattle.swc_tree_sites.specs.Smaller.{IsLeftOf}
use Rattle.swc_tree_sites_laws.specs.Laws.{LeftMeanTheirIds}
use Rattle.swc_tree_sites_laws.proofs.Decided.{belongs_somewhere}
use Rattle.swc_tree_sites_laws.proofs.LeftIds.{captures, clean_ids, one_scope, plain_clean, settled}

module _ (t a n : Node) (text : List ℕ → List ℕ) (module_t : IsPlainProgram t) (module_a : IsPlainProgram a) (module_n : IsPlainProgram n) (each : EachInOneScope (by_ids t)) (none : CapturesNone (by_ids t) text)
    (left : IsLeftOf (by_ids a) (by_ids t)) (shape : SameScopes (by_ids a) n) (cleared : IsClean n) (texts : HasTexts (by_ids a) text n) where
  abbrev A : Node
  A = by_ids a

  each_a : EachInOneScope A
  each_a = one_scope t a text module_t module_a each none left

  none_a : CapturesNone A text
  none_a = captures t a text module_t module_a each none left

  abbrev Owns : List ℕ → Option Path → Type 0
  Owns = Owner A n text shape (clean_ids a) cleared texts (settled a module_a) each_a none_a

  -- a name of the answer, by the id that stands there in the program
  record Named (p : Path) (r : Standing) (i j : Ident) : Type 0 where
    name : IsTrue (is_name r)
    at : Stands A p r (id_name j)
    there : Stands n p r i.sym
    renamed : i.sym ≡ text (id_name j)

  named : (p : Path) (i j : Ident) (m : NameAt n p i) → NameAt a p j → Named p m.0.standing i j
  named p i j (w, k, h, names) (v, l, g, z) =
      let stands = stands_by_id a p v l j g in
      let (c, x, e) = shape.forth p v l (by_id j) stands in
      let same : ◌≡◌ {A = Place × Node} (w, Identifier k i) (v, Identifier c x) = some_same (w, Identifier k i) (v, Identifier c x) (sym h ∙ e) in
      let place : v ≡ w = ap (λ (q : Place × Node). q.0) (sym same) in
      record {
        name = names;
        at = record { place = v; kind = l; identifier = by_id j; stands = stands; stands_so = ap (λ (w : Place). w.standing) place; named = refl };
        there = record { place = w; kind = k; identifier = i; stands = h; stands_so = refl; named = refl };
        renamed = texts p v w l k (by_id j) i stands h z;
      }

  owner_of : (p : Path) (r : Standing) (i j : Ident) (o : Option Path) → Named p r i j → Belongs n p r i.sym o → Owns (id_name j) o
  owner_of p r i j o d h =
      belongs_to_owner A n text shape (clean_ids a) cleared texts (settled a module_a) each_a none_a p r (id_name j) o d.at d.name (subst (λ x. Belongs n p r x o) d.renamed h)

  pub mean_their_ids : MeanTheirIds n a
  mean_their_ids p q i j b c m l x y = (forth, back)
    where
      first : Named p m.0.standing i b
      first = named p i b m x

      second : Named q l.0.standing j c
      second = named q j c l y

      forth : MeanOne n p q i j m l → SameId b c
      forth (same, (o, h, k)) =
          id_name_apart b c
          (owner_tells A n text shape (clean_ids a) cleared texts (settled a module_a) each_a none_a (id_name b) (id_name c) o (owner_of p m.0.standing i b o first h) (owner_of q l.0.standing j c o second k)
          (sym first.renamed ∙ same ∙ second.renamed))

      back : SameId b c → MeanOne n p q i j m l
      back h =
          let name = id_name_same b c h in
          let (o, here) = belongs_somewhere n (plain_clean n module_n cleared) p m.0.standing i.sym first.there first.name in
          let (u, there) = belongs_somewhere n (plain_clean n module_n cleared) q l.0.standing j.sym second.there second.name in
          let one : u ≡ o
          = one_owner A n text shape (clean_ids a) cleared texts (settled a module_a) each_a none_a (id_name c) u o (owner_of q l.0.standing j c u second there)
          (subst (λ x. Owns x o) name (owner_of p m.0.standing i b o first here)) in
          (first.renamed ∙ ap text name ∙ sym second.renamed, (o, here, subst (Belongs n q l.0.standing j.sym) one there))

pub left_mean_their_ids : LeftMeanTheirIds
left_mean_their_ids t a n text mt ma mn each none left shape cleared texts = mean_their_ids t a n text mt ma mn each none left shape cleared texts
