-- Trees of one outline are the same but for names, where each two identifiers at one path are.
use Rattle.std.proofs.Common.{◌≡◌, ℕ, zero, suc, Bool, true, false, ◌&&◌, ◌||◌, ◌==◌, IsTrue, Some, List, [], ◌∷◌, map, nat_eq, refl, sym, ap, ◌∙◌, subst}
use Rattle.std.specs.Prelude.{slice_get}
use Rattle.std.specs.List.{list_any}
use Rattle.std.specs.Cmp.{unsigned_Decides}
use Rattle.std.specs.Cmp.Lexicographic.{pointwise}
use Rattle.std.proofs.lemmas.Cmp.{nat_list_eq_equiv}
use Rattle.swc_tree_marks.specs.declared.ident.Ident.{Ident}
use Rattle.swc_tree_marks.specs.declared.span.Span.{Span as Range}
use Rattle.swc_tree_node.specs.declared.kind.Kind.{Kind}
use Rattle.swc_tree_node.specs.declared.kind.Word.{Word as Word'}
use Rattle.swc_tree_node.specs.declared.node.Node.{Node, Identifier, out-Node}
use Rattle.swc_tree_node.specs.declared.node.Node.TheOpen.{Node-F}
use Rattle.swc_tree_node.specs.Table.{kind_number, word_number}
use Rattle.swc_tree_scoping.specs.declared.places.Standing.{Standing}
use Rattle.swc_tree_scoping.specs.declared.places.Place.{Place}
use Rattle.swc_tree_scoping.specs.Places.{Path, child, children_in, place_at, place_below, place_in}
use Rattle.swc_tree_scoping.specs.Folds.{each_in, fold_in_place}
use Rattle.swc_tree_scoping.specs.Scopes.{is_name}
use Rattle.swc_tree_scoping.proofs.Remarked.{identifier_is}
use Rattle.swc_tree_scoping.proofs.Under.{by_children, fold_in_place_out, place_under}
use Rattle.swc_tree_grammar.specs.Normal.{same_id}
use Rattle.swc_tree_grammar.specs.Same.{each_same, same_flag, same_in, same_step}
use Rattle.swc_base_rename_laws.specs.NewNames.{outline}
use Rattle.swc_base_rename_laws.proofs.Outline.{layer, out_is, places_alike}

pub and_both : (a b : Bool) → a ≡ true → b ≡ true → (a && b) ≡ true
and_both true b h g = g
and_both false b h g = absurd (cc)

flags_same : (x : Bool) → same_flag x x ≡ true
flags_same true = refl
flags_same false = refl

module _ (declared : List Ident) where
  abbrev same_at : Place → Node → Node → Bool
  same_at = fold_in_place (same_step declared)

  -- two identifiers may stand there
  abbrev pub MayStand : Standing → Ident → Ident → Type 0
  MayStand r i j = IsTrue (pointwise nat_eq i.sym j.sym || (is_name r && list_any (same_id i) declared))

  abbrev pub EachMay : Place → Node → Node → Type 0
  EachMay w t u = (p : Path) (v z : Place) (k l : Kind) (i j : Ident) → place_at w t p ≡ Some (v, Identifier k i) → place_at w u p ≡ Some (z, Identifier l j) → MayStand v.standing i j

  abbrev Same : Node → Type 0
  Same t = (w : Place) (u : Node) → outline t ≡ outline u → EachMay w t u → same_at w t u ≡ true

  abbrev layered : Place → Node-F Node → Node-F Node → Bool
  layered w y z = same_in declared w.standing (each_in same_at (place_in w y) (children_in y)) y z

  each : (ts us : List Node) (places : ℕ → Place) → map outline ts ≡ map outline us
      → ((i : ℕ) (c d : Node) → slice_get ts i ≡ Some c → slice_get us i ≡ Some d → outline c ≡ outline d → same_at (places i) c d ≡ true) → each_same (each_in same_at places ts) us ≡ true
  each [] [] places e h = refl
  each [] (u ∷ us) places e h = absurd (cc)
  each (t ∷ ts) [] places e h = absurd (cc)
  each (t ∷ ts) (u ∷ us) places e h =
      let first : outline t ≡ outline u = cc in
      let rest : map outline ts ≡ map outline us = cc in
      and_both (same_at (places zero) t u) (each_same (each_in same_at (λ i. places (suc i)) ts) us) (h zero t u refl refl first) (each ts us (λ i. places (suc i)) rest (λ i c d a b. h (suc i) c d a b))

  module _ (t u : Node) (below : (i : ℕ) (c : Node) → child t i ≡ Some c → Same c) (w : Place) (shape : outline t ≡ outline u) (may : EachMay w t u) where
    layers : (y z : Node-F Node) → out-Node t ≡ y → out-Node u ≡ z → layer y ≡ layer z
    layers y z e f = ap layer (sym e) ∙ sym (out_is t) ∙ ap out-Node shape ∙ out_is u ∙ ap layer f

    opens : (y z : Node-F Node) → out-Node t ≡ y → out-Node u ≡ z → layered w y z ≡ true → same_at w t u ≡ true
    opens y z e f h = ap (λ g. g u) (fold_in_place_out (same_step declared) w t) ∙ ap (λ y. layered w y (out-Node u)) e ∙ ap (layered w y) f ∙ h

    child_same : (y z : Node-F Node) → out-Node t ≡ y → out-Node u ≡ z → (i : ℕ) (c d : Node) → slice_get (children_in y) i ≡ Some c → slice_get (children_in z) i ≡ Some d → outline c ≡ outline d → same_at (place_in w y i) c d ≡ true
    child_same y z e f i c d g h one =
        let here : child t i ≡ Some c = ap (λ y. slice_get (children_in y) i) e ∙ g in
        let there : child u i ≡ Some d = ap (λ y. slice_get (children_in y) i) f ∙ h in
        subst (λ y. same_at (place_in w y i) c d ≡ true) e
        (below i c here (place_below w t i) d one
        (λ p v q k l a b x m. may (i ∷ p) v q k l a b (place_under w t c i p here ∙ x) (place_under w u d i p there ∙ ap (λ v. place_at v d p) (sym (places_alike t u shape w i)) ∙ m)))

    absent : (z : Node-F Node) → layer Node-F.Absent ≡ layer z → layered w Node-F.Absent z ≡ true
    absent Node-F.Absent h = refl
    absent _ h = absurd (cc)

    flag : (x : Bool) (z : Node-F Node) → layer (Node-F.Flag x) ≡ layer z → layered w (Node-F.Flag x) z ≡ true
    flag x (Node-F.Flag y) h = let same : x ≡ y = cc in ap (same_flag x) (sym same) ∙ flags_same x
    flag x _ h = absurd (cc)

    word : (x : Word') (z : Node-F Node) → layer (Node-F.Word x) ≡ layer z → layered w (Node-F.Word x) z ≡ true
    word x (Node-F.Word y) h = let same : x ≡ y = cc in ap (λ y. word_number x == word_number y) (sym same) ∙ (unsigned_Decides (word_number x) (word_number x)).1 refl
    word x _ h = absurd (cc)

    text : (x : List ℕ) (z : Node-F Node) → layer (Node-F.Text x) ≡ layer z → layered w (Node-F.Text x) z ≡ true
    text x (Node-F.Text y) h = let same : x ≡ y = cc in ap (pointwise nat_eq x) (sym same) ∙ nat_list_eq_equiv.refl x
    text x _ h = absurd (cc)

    span : (x : Range) (z : Node-F Node) → layer (Node-F.Span x) ≡ layer z → layered w (Node-F.Span x) z ≡ true
    span x (Node-F.Span y) h = refl
    span x _ h = absurd (cc)

    kinds : (k l : Kind) → k ≡ l → (kind_number k == kind_number l) ≡ true
    kinds k l e = ap (λ l. kind_number k == kind_number l) (sym e) ∙ (unsigned_Decides (kind_number k) (kind_number k)).1 refl

    name : (k : Kind) (i : Ident) (z : Node-F Node) → out-Node t ≡ Node-F.Identifier k i → out-Node u ≡ z → layer (Node-F.Identifier k i) ≡ layer z → layered w (Node-F.Identifier k i) z ≡ true
    name k i (Node-F.Identifier l j) e f h =
        let one : k ≡ l = cc in
        and_both _ _ (kinds k l one) (may [] w w k l i j (ap (λ t. Some (w, t)) (identifier_is t k i e)) (ap (λ u. Some (w, u)) (identifier_is u l j f)))
    name k i _ e f h = absurd (cc)

    items : (ts : List Node) (z : Node-F Node) → out-Node t ≡ Node-F.List ts → out-Node u ≡ z → layer (Node-F.List ts) ≡ layer z → layered w (Node-F.List ts) z ≡ true
    items ts (Node-F.List us) e f h = let same : map outline ts ≡ map outline us = cc in each ts us (place_in w (Node-F.List ts)) same (child_same (Node-F.List ts) (Node-F.List us) e f)
    items ts _ e f h = absurd (cc)

    fields : (k : Kind) (ts : List Node) (z : Node-F Node) → out-Node t ≡ Node-F.Tree k ts → out-Node u ≡ z → layer (Node-F.Tree k ts) ≡ layer z → layered w (Node-F.Tree k ts) z ≡ true
    fields k ts (Node-F.Tree l us) e f h =
        let one : k ≡ l = cc in
        let same : map outline ts ≡ map outline us = cc in
        and_both _ _ (kinds k l one) (each ts us (place_in w (Node-F.Tree k ts)) same (child_same (Node-F.Tree k ts) (Node-F.Tree l us) e f))
    fields k ts _ e f h = absurd (cc)

    both : (y z : Node-F Node) → out-Node t ≡ y → out-Node u ≡ z → layered w y z ≡ true
    both Node-F.Absent z e f = absent z (layers Node-F.Absent z e f)
    both (Node-F.Flag x) z e f = flag x z (layers (Node-F.Flag x) z e f)
    both (Node-F.Word x) z e f = word x z (layers (Node-F.Word x) z e f)
    both (Node-F.Text x) z e f = text x z (layers (Node-F.Text x) z e f)
    both (Node-F.Span x) z e f = span x z (layers (Node-F.Span x) z e f)
    both (Node-F.Identifier k i) z e f = name k i z e f (layers (Node-F.Identifier k i) z e f)
    both (Node-F.List ts) z e f = items ts z e f (layers (Node-F.List ts) z e f)
    both (Node-F.Tree k ts) z e f = fields k ts z e f (layers (Node-F.Tree k ts) z e f)

    same_here : same_at w t u ≡ true
    same_here = opens (out-Node t) (out-Node u) refl refl (both (out-Node t) (out-Node u) refl refl)

  pub same_where_each_may : (t : Node) → Same t
  same_where_each_may = by_children Same (λ t below w u shape may. same_here t u below w shape may)
