-- Pieces of two trees that are the same but for names that are bound.
use Rattle.std.proofs.Common.{◌≡◌, ℕ, zero, suc, Bool, true, false, IsTrue, ◌&&◌, ◌||◌, ◌==◌, ◌⊎◌, inl, inr, Some, List, [], ◌∷◌, ◌++◌, refl, sym, ap, ◌∙◌, subst, nat_eq}
use Rattle.std.specs.Prelude.{if◌then◌else◌, is_some, slice_get}
use Rattle.std.specs.List.{list_any}
use Rattle.std.specs.Cmp.Lexicographic.{pointwise}
use Rattle.std.proofs.lemmas.Bool.{and_parts}
use Rattle.std.proofs.lemmas.Slice.Eq.{bytes_eq-Decides}
use Rattle.swc_tree_marks.specs.declared.span.Span.{Span as Range}
use Rattle.swc_tree_marks.specs.declared.ident.Ident.{Ident}
use Rattle.swc_tree_node.specs.declared.kind.Kind.{Kind}
use Rattle.swc_tree_node.specs.declared.kind.Kind.TheVariants as kind
use Rattle.swc_tree_node.specs.declared.node.Node.{Node, Span, List as Many, Identifier, Tree, out-Node, roll-Node, roll-out-Node}
use Rattle.swc_tree_node.specs.declared.node.Node.TheOpen.{Node-F}
use Rattle.swc_tree_node.specs.declared.node.Node.TheVariants.{outs-Identifier, outs-List, outs-Span, outs-Tree, rolls-Span}
use Rattle.swc_tree_node.specs.Table.{kind_number}
use Rattle.swc_tree_scoping.specs.declared.places.Place.{Place}
use Rattle.swc_tree_scoping.specs.Places.{child, children_in, place_below, program_place}
use Rattle.swc_tree_scoping.specs.Scopes.{is_name}
use Rattle.swc_tree_scoping.specs.Folds.{each_in, fold_in_place}
use Rattle.swc_tree_scoping.proofs.Under.{by_children, fold_in_place_out}
use Rattle.swc_tree_scoping.proofs.Remarked.{identifier_is, list_is, rolled, tree_is}
use Rattle.swc_tree_grammar.specs.Normal.{normal_form, same_id}
use Rattle.swc_tree_grammar.specs.Same.{declared_names, each_same, same_flag, same_in, same_step}
use Rattle.text_pieces.specs.declared.item.Ending.TheVariants as ending
use Rattle.text_pieces.specs.Forms.{when}
use Rattle.text_pieces.specs.Layouts.{apart_layout_of, layout_of}
use Rattle.text_pieces.specs.Leaves.{bound_name, is_let, only_name}
use Rattle.text_pieces.specs.Tokens.{Piece, closes, name, parameter}
use Rattle.text_kept_laws.specs.Bound.{EachSame, SameButBound, SamePiece, is_bound, unended}
use Rattle.text_kept_laws.specs.Pieces.{BoundNamesAloneDiffer}
use Rattle.text_kept_laws.specs.Unnamed.{is_ending}
use Rattle.text_kept_laws.proofs.Anew.{free_layout, ident_kept, span_kept}
use Rattle.text_kept_laws.proofs.Numbers.{same_kind, same_word}
use Rattle.text_kept_laws.proofs.PiecesRows.{AllKept, Kept, kept_same, list_kept, lone_pieces, moved, tree_kept}

-- ---- the relation

never : {A : Type 0} → true ≡ false → A
never h = absurd (cc)

split : (b : Bool) (p : Piece) (ps qs : List Piece) → (if b then ps ++ qs else p ∷ (ps ++ qs)) ≡ (if b then ps else p ∷ ps) ++ qs
split true p ps qs = refl
split false p ps qs = refl

appended : (ps qs : List Piece) → unended (ps ++ qs) ≡ unended ps ++ unended qs
appended [] qs = refl
appended (p ∷ ps) qs = ap (λ l. if is_ending p then l else p ∷ l) (appended ps qs) ∙ split (is_ending p) p (unended ps) (unended qs)

module _ (names : List Ident) where
  abbrev R : List Piece → List Piece → Type 0
  R ps qs = SameButBound names ps qs

  piece_same : (p : Piece) → SamePiece names p p
  piece_same (name a) = inl refl
  piece_same (parameter a) = inl refl
  piece_same p = refl

  pieces_same : (ps : List Piece) → EachSame names ps ps
  pieces_same [] = tt
  pieces_same (p ∷ ps) = (piece_same p, pieces_same ps)

  pieces_joined : (ps qs rs ss : List Piece) → EachSame names ps qs → EachSame names rs ss → EachSame names (ps ++ rs) (qs ++ ss)
  pieces_joined [] [] rs ss c d = d
  pieces_joined (p ∷ ps) (q ∷ qs) rs ss c d = (c.0, pieces_joined ps qs rs ss c.1 d)
  pieces_joined [] (q ∷ qs) rs ss c d = absurd c
  pieces_joined (p ∷ ps) [] rs ss c d = absurd c

  same : (ps : List Piece) → R ps ps
  same ps = pieces_same (unended ps)

  join : (ps qs rs ss : List Piece) → R ps qs → R rs ss → R (ps ++ rs) (qs ++ ss)
  join ps qs rs ss c d =
      subst (λ (l : List Piece). EachSame names l (unended (qs ++ ss))) (sym (appended ps rs))
      (subst (λ (l : List Piece). EachSame names (unended ps ++ unended rs) l) (sym (appended qs ss)) (pieces_joined (unended ps) (unended qs) (unended rs) (unended ss) c d))

  -- `let` alone ends otherwise than another name
  ends : (b c : Bool) → R (when b (closes ending.Let)) (when c (closes ending.Let))
  ends true true = tt
  ends true false = tt
  ends false true = tt
  ends false false = tt

  -- ---- nodes

  record Related (t u : Node) : Type 0 where
    kept : (wide : Bool) → Kept R wide t u
    only : is_some (bound_name (out-Node t)) ≡ is_some (bound_name (out-Node u))
    alone : R (lone_pieces (bound_name (out-Node t))) (lone_pieces (bound_name (out-Node u)))

  abbrev AllRelated : List Node → List Node → Type 0
  AllRelated [] [] = Unit {0}
  AllRelated (t ∷ ts) (u ∷ us) = Related t u × AllRelated ts us
  AllRelated _ _ = ⊥

  related_same : (t : Node) → Related t t
  related_same t = record { kept = λ wide. kept_same R same join wide t; only = refl; alone = same (lone_pieces (bound_name (out-Node t))) }

  all_kept : (ts us : List Node) → AllRelated ts us → AllKept R (λ n. false) ts us
  all_kept [] [] h = tt
  all_kept (t ∷ ts) (u ∷ us) h = (h.0.kept false, all_kept ts us h.1)
  all_kept [] (u ∷ us) h = absurd h
  all_kept (t ∷ ts) [] h = absurd h

  only_same : (ts us : List Node) → AllRelated ts us → is_some (only_name ts) ≡ is_some (only_name us)
  only_same [] [] h = refl
  only_same (t ∷ []) (u ∷ []) h = h.0.only
  only_same (t ∷ r ∷ ts) (u ∷ v ∷ us) h = refl
  only_same [] (u ∷ us) h = absurd h
  only_same (t ∷ ts) [] h = absurd h
  only_same (t ∷ []) (u ∷ v ∷ us) h = absurd h.1
  only_same (t ∷ r ∷ ts) (u ∷ []) h = absurd h.1

  only_kept : (ts us : List Node) → AllRelated ts us → R (lone_pieces (only_name ts)) (lone_pieces (only_name us))
  only_kept [] [] h = tt
  only_kept (t ∷ []) (u ∷ []) h = h.0.alone
  only_kept (t ∷ r ∷ ts) (u ∷ v ∷ us) h = tt
  only_kept [] (u ∷ us) h = absurd h
  only_kept (t ∷ ts) [] h = absurd h
  only_kept (t ∷ []) (u ∷ v ∷ us) h = absurd h.1
  only_kept (t ∷ r ∷ ts) (u ∷ []) h = absurd h.1

  -- what is bound alone, by the forms of two nodes
  forms_alone : (t u : Node) (y z : Node-F Node) → out-Node t ≡ y → out-Node u ≡ z → R (lone_pieces (bound_name y)) (lone_pieces (bound_name z)) → R (lone_pieces (bound_name (out-Node t))) (lone_pieces (bound_name (out-Node u)))
  forms_alone t u y z o q h =
      moved R same join (lone_pieces (bound_name (out-Node t))) (lone_pieces (bound_name (out-Node u))) (lone_pieces (bound_name y)) (lone_pieces (bound_name z))
      (ap (λ x. lone_pieces (bound_name x)) o) (ap (λ x. lone_pieces (bound_name x)) q) h

  forms_only : (t u : Node) (y z : Node-F Node) → out-Node t ≡ y → out-Node u ≡ z → is_some (bound_name y) ≡ is_some (bound_name z) → is_some (bound_name (out-Node t)) ≡ is_some (bound_name (out-Node u))
  forms_only t u y z o q h = ap (λ x. is_some (bound_name x)) o ∙ h ∙ sym (ap (λ x. is_some (bound_name x)) q)

  list_related : (ts us : List Node) → AllRelated ts us → Related (Many ts) (Many us)
  list_related ts us h = record {
    kept = λ wide. list_kept R same join (λ n. false) wide ts us (λ o. only_same ts us h) (λ o. only_kept ts us h) (all_kept ts us h);
    only = forms_only (Many ts) (Many us) (Node-F.List ts) (Node-F.List us) (outs-List ts) (outs-List us) refl;
    alone = forms_alone (Many ts) (Many us) (Node-F.List ts) (Node-F.List us) (outs-List ts) (outs-List us) tt;
  }

  tree_related : (k : Kind) (ts us : List Node) → AllRelated ts us → Related (Tree k ts) (Tree k us)
  tree_related k ts us h = record {
    kept = λ wide. tree_kept R same join (λ n. false) wide k ts us (free_layout (layout_of k)) (free_layout (apart_layout_of k)) (all_kept ts us h);
    only = forms_only (Tree k ts) (Tree k us) (Node-F.Tree k ts) (Node-F.Tree k us) (outs-Tree k ts) (outs-Tree k us) refl;
    alone = forms_alone (Tree k ts) (Tree k us) (Node-F.Tree k ts) (Node-F.Tree k us) (outs-Tree k ts) (outs-Tree k us) tt;
  }

  span_related : (r s : Range) → Related (Span r) (Span s)
  span_related r s = record {
    kept = λ wide. span_kept R same join wide r s;
    only = forms_only (Span r) (Span s) (Node-F.Span r) (Node-F.Span s) (outs-Span r) (outs-Span s) refl;
    alone = forms_alone (Span r) (Span s) (Node-F.Span r) (Node-F.Span s) (outs-Span r) (outs-Span s) tt;
  }

  -- ---- names

  abbrev Named : Ident → Ident → Type 0
  Named i j = (i.sym ≡ j.sym) ⊎ IsTrue (is_bound names i.sym)

  some_bound : (k : Kind) (i j : Ident) → is_some (bound_name (Node-F.Identifier k i)) ≡ is_some (bound_name (Node-F.Identifier k j))
  some_bound kind.BindingIdent i j = refl
  some_bound k i j = refl

  name_alone : (k : Kind) (i j : Ident) → Named i j → R (lone_pieces (bound_name (Node-F.Identifier k i))) (lone_pieces (bound_name (Node-F.Identifier k j)))
  name_alone kind.BindingIdent i j a = (a, tt)
  name_alone k i j a = tt

  name_related : (k : Kind) (i j : Ident) → Named i j → Related (Identifier k i) (Identifier k j)
  name_related k i j a = record {
    kept = λ wide. ident_kept R same join wide k i j (a, tt) (ends (is_let (Node-F.Identifier k i)) (is_let (Node-F.Identifier k j)));
    only = forms_only (Identifier k i) (Identifier k j) (Node-F.Identifier k i) (Node-F.Identifier k j) (outs-Identifier k i) (outs-Identifier k j) (some_bound k i j);
    alone = forms_alone (Identifier k i) (Identifier k j) (Node-F.Identifier k i) (Node-F.Identifier k j) (outs-Identifier k i) (outs-Identifier k j) (name_alone k i j a);
  }

either_same : (a b r q : Bool) → ((a && b) || r) ≡ true → (r ≡ true → q ≡ true) → (a || q) ≡ true
either_same true b r q h f = refl
either_same false b r q h f = f h

bound_text : (i : Ident) (names : List Ident) → list_any (same_id i) names ≡ true → is_bound names i.sym ≡ true
bound_text i [] h = never (sym h)
bound_text i (d ∷ ds) h = either_same (pointwise nat_eq i.sym d.sym) (pointwise nat_eq i.ctxt d.ctxt) (list_any (same_id i) ds) (is_bound ds i.sym) h (bound_text i ds)

named_by : (names : List Ident) (i j : Ident) (c : Bool) → (pointwise nat_eq i.sym j.sym || (c && list_any (same_id i) names)) ≡ true → Named names i j
named_by names i j c h = by (pointwise nat_eq i.sym j.sym) refl h
  where
    by : (b : Bool) → pointwise nat_eq i.sym j.sym ≡ b → (b || (c && list_any (same_id i) names)) ≡ true → Named names i j
    by true e h = inl ((bytes_eq-Decides i.sym j.sym).0 e)
    by false e h = inr (bound_text i names (and_parts c (list_any (same_id i) names) h).1)

-- ---- leaves

flags : (b c : Bool) → same_flag b c ≡ true → b ≡ c
flags true c h = sym h
flags false true h = never (sym h)
flags false false h = refl

-- ---- all of it

module _ (names : List Ident) where
  abbrev at : Place → Node → Node → Bool
  at = fold_in_place (same_step names)

  abbrev P : Node → Type 0
  P t = (w : Place) (u : Node) → at w t u ≡ true → Related names t u

  each_related : (ps : ℕ → Place) (ts us : List Node) → ((i : ℕ) (c : Node) → slice_get ts i ≡ Some c → P c) → each_same (each_in at ps ts) us ≡ true → AllRelated names ts us
  each_related ps [] [] below e = tt
  each_related ps [] (u ∷ us) below e = never (sym e)
  each_related ps (t ∷ ts) [] below e = never (sym e)
  each_related ps (t ∷ ts) (u ∷ us) below e =
      let parts = and_parts (at (ps zero) t u) (each_same (each_in at (λ i. ps (suc i)) ts) us) e in
      (below zero t refl (ps zero) u parts.0, each_related (λ i. ps (suc i)) ts us (λ i c h. below (suc i) c h) parts.1)

  as_forms : (t u x v : Node) → t ≡ x → u ≡ v → Related names x v → Related names t u
  as_forms t u x v e f h = subst (λ (t : Node). Related names t u) (sym e) (subst (λ (u : Node). Related names x u) (sym f) h)

  layers_same : (t u : Node) → out-Node t ≡ out-Node u → Related names t u
  layers_same t u e = subst (λ (u : Node). Related names t u) (sym (roll-out-Node t) ∙ ap roll-Node e ∙ roll-out-Node u) (related_same names t)

  step : (t : Node) → ((i : ℕ) (c : Node) → child t i ≡ Some c → P c) → P t
  step t below w u h = by (out-Node t) (out-Node u) refl refl (sym (ap (λ g. g u) (fold_in_place_out (same_step names) w t)) ∙ h)
    where
      within : (y : Node-F Node) → out-Node t ≡ y → (i : ℕ) (c : Node) → slice_get (children_in y) i ≡ Some c → P c
      within y o i c g = below i c (ap (λ y. slice_get (children_in y) i) o ∙ g)

      by : (y z : Node-F Node) → out-Node t ≡ y → out-Node u ≡ z → same_in names w.standing (each_in at (place_below w t) (children_in y)) y z ≡ true → Related names t u
      by Node-F.Absent Node-F.Absent o q e = layers_same t u (o ∙ sym q)
      by (Node-F.Flag x) (Node-F.Flag y) o q e = layers_same t u (o ∙ ap (λ x. Node-F.Flag x) (flags x y e) ∙ sym q)
      by (Node-F.Word x) (Node-F.Word y) o q e = layers_same t u (o ∙ ap (λ x. Node-F.Word x) (same_word x y e) ∙ sym q)
      by (Node-F.Text x) (Node-F.Text y) o q e = layers_same t u (o ∙ ap (λ x. Node-F.Text x) ((bytes_eq-Decides x y).0 e) ∙ sym q)
      by (Node-F.Span r) (Node-F.Span s) o q e = as_forms t u (Span r) (Span s) (rolled t (Node-F.Span r) o ∙ rolls-Span r) (rolled u (Node-F.Span s) q ∙ rolls-Span s) (span_related names r s)
      by (Node-F.Identifier k i) (Node-F.Identifier l j) o q e =
          let parts = and_parts (kind_number k == kind_number l) (pointwise nat_eq i.sym j.sym || (is_name w.standing && list_any (same_id i) names)) e in
          let one : k ≡ l = same_kind k l parts.0 in
          as_forms t u (Identifier k i) (Identifier k j) (identifier_is t k i o) (identifier_is u l j q ∙ ap (λ k. Identifier k j) (sym one)) (name_related names k i j (named_by names i j (is_name w.standing) parts.1))
      by (Node-F.List ts) (Node-F.List us) o q e =
          as_forms t u (Many ts) (Many us) (list_is t ts o) (list_is u us q) (list_related names ts us (each_related (place_below w t) ts us (within (Node-F.List ts) o) e))
      by (Node-F.Tree k ts) (Node-F.Tree l us) o q e =
          let parts = and_parts (kind_number k == kind_number l) (each_same (each_in at (place_below w t) ts) us) e in
          let one : k ≡ l = same_kind k l parts.0 in
          as_forms t u (Tree k ts) (Tree k us) (tree_is t k ts o) (tree_is u l us q ∙ ap (λ k. Tree k us) (sym one)) (tree_related names k ts us (each_related (place_below w t) ts us (within (Node-F.Tree k ts) o) parts.1))
      by y z o q e = never (sym e)

  related : (t : Node) → P t
  related t = by_children P step t

pub bound_pieces : BoundNamesAloneDiffer
bound_pieces t u e = ((related (declared_names t) (normal_form t) program_place (normal_form u) e).kept false).stands.of_pieces
