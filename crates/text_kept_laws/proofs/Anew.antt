-- Pieces of a tree whose identifiers are given anew, each where it stands.
use Rattle.std.proofs.Common.{◌≡◌, ℕ, Bool, true, false, None, List, [], ◌∷◌, ◌++◌, map, rules, refl, sym, ap, ◌∙◌, subst}
use Rattle.std.specs.Prelude.{is_some}
use Rattle.std.proofs.lemmas.Bool.{and_from}
use Rattle.swc_tree_marks.specs.declared.span.Span.{Span as Range}
use Rattle.swc_tree_marks.specs.declared.ident.Ident.{Ident}
use Rattle.swc_tree_node.specs.declared.kind.Kind.{Kind}
use Rattle.swc_tree_node.specs.declared.kind.Kind.TheVariants as kind
use Rattle.swc_tree_node.specs.declared.kind.Word.{Word as Word'}
use Rattle.swc_tree_node.specs.declared.node.Node.{Node, Absent, Flag, Word, Text, Span, List as Many, Identifier, Tree, out-Node, the_lemmas}
use Rattle.swc_tree_node.specs.declared.node.Node.TheOpen.{Node-F}
use Rattle.swc_tree_node.specs.declared.node.Node.TheVariants.{outs-Absent, outs-Flag, outs-Identifier, outs-List, outs-Span, outs-Text, outs-Tree, outs-Word}
use Rattle.swc_tree_node.specs.Parts.{text_of}
use Rattle.swc_tree_grammar.proofs.Induction.{Each, by_children}
use Rattle.text_pieces.specs.declared.item.Ending.TheVariants as ending
use Rattle.text_pieces.specs.declared.item.Form.{Form}
use Rattle.text_pieces.specs.declared.item.Form.TheVariants as form
use Rattle.text_pieces.specs.declared.item.Item.{Item}
use Rattle.text_pieces.specs.declared.item.Item.TheVariants as item
use Rattle.text_pieces.specs.Forms.{accessor, attribute, attributes, ending_of_attributes, ending_of_key, meta, when}
use Rattle.text_pieces.specs.Layouts.{apart_layout_of, layout_of}
use Rattle.text_pieces.specs.Leaves.{bound_name, is_block, is_computed, is_declaration, is_default, is_empty_list, is_expression_statement, is_hole, is_let, is_named, is_rest, is_set, is_set_in, items_of, lone_name, only_name, takes_comma}
use Rattle.text_pieces.specs.Pieces.{Written, template_piece, written, written_step}
use Rattle.text_pieces.specs.Tokens.{Piece, closes, name, parameter}
use Rattle.text_kept_laws.proofs.PiecesSeen.{Seen, by_forms, text_of_name}
use Rattle.text_kept_laws.proofs.PiecesRows.{AllKept, Kept, is_free, item_free, kept_same, layout_free, list_kept, lone_pieces, moved, none_each, none_items, tree_kept}

-- two names are seen as one
pub seen_name : (k : Kind) (i j : Ident) → Seen (Identifier k i) (Identifier k j)
seen_name k i j = record {
  set = by is_set refl;
  hole = by is_hole refl;
  rest = by is_rest refl;
  default = by is_default refl;
  named = by is_named refl;
  declaration = by is_declaration refl;
  expression = by is_expression_statement refl;
  computed = by is_computed refl;
  block = by is_block refl;
  access = by accessor refl;
  metas = by meta refl;
  from = by ending_of_attributes refl;
  key = by ending_of_key refl;
  text = text_of_name k i ∙ sym (text_of_name k j);
  part = λ p. by (template_piece p) refl;
  comma = by takes_comma refl;
  pair = by attribute refl;
  list = by is_empty_list refl;
  others = by attributes refl;
}
  where
    by : {X : Type 0} (g : Node-F Node → X) → g (Node-F.Identifier k i) ≡ g (Node-F.Identifier k j) → g (out-Node (Identifier k i)) ≡ g (out-Node (Identifier k j))
    by g e = by_forms g (Identifier k i) (Identifier k j) (Node-F.Identifier k i) (Node-F.Identifier k j) (outs-Identifier k i) (outs-Identifier k j) e

-- two places in the source too
seen_span : (r s : Range) → Seen (Span r) (Span s)
seen_span r s = record {
  set = by is_set refl;
  hole = by is_hole refl;
  rest = by is_rest refl;
  default = by is_default refl;
  named = by is_named refl;
  declaration = by is_declaration refl;
  expression = by is_expression_statement refl;
  computed = by is_computed refl;
  block = by is_block refl;
  access = by accessor refl;
  metas = by meta refl;
  from = by ending_of_attributes refl;
  key = by ending_of_key refl;
  text = text_of_span r ∙ sym (text_of_span s);
  part = λ p. by (template_piece p) refl;
  comma = by takes_comma refl;
  pair = by attribute refl;
  list = by is_empty_list refl;
  others = by attributes refl;
}
  where
    by : {X : Type 0} (g : Node-F Node → X) → g (Node-F.Span r) ≡ g (Node-F.Span s) → g (out-Node (Span r)) ≡ g (out-Node (Span s))
    by g e = by_forms g (Span r) (Span s) (Node-F.Span r) (Node-F.Span s) (outs-Span r) (outs-Span s) e

    text_of_span : (r : Range) → text_of (Span r) ≡ None
    text_of_span r = search (rules, the_lemmas)

-- where no place is wide each layout may be
free_form : (f : Form) → is_free false f ≡ true
free_form form.Async = refl
free_form form.Star = refl
free_form (form.SignUnlessLone m) = refl
free_form form.CommaUnlessLone = refl
free_form f = refl

free_item : (i : Item) → item_free (λ n. false) i ≡ true
free_item (item.Of n f) = free_form f
free_item (item.Within n) = refl
free_item (item.Apart n m) = refl
free_item (item.Lone n) = refl
free_item (item.Others n) = refl
free_item i = refl

pub free_layout : (is : List Item) → layout_free (λ n. false) is ≡ true
free_layout [] = refl
free_layout (i ∷ is) = and_from (item_free (λ n. false) i) (layout_free (λ n. false) is) (free_item i) (free_layout is)

-- a tree with each identifier given anew
pub record IsAnew (g : Ident → Ident) (anew : Node → Node) : Type 0 where
  pub absent : anew Absent ≡ Absent
  pub flag : (x : Bool) → anew (Flag x) ≡ Flag x
  pub word : (w : Word') → anew (Word w) ≡ Word w
  pub text : (x : List ℕ) → anew (Text x) ≡ Text x
  pub span : (s : Range) → anew (Span s) ≡ Span s
  pub ident : (k : Kind) (i : Ident) → anew (Identifier k i) ≡ Identifier k (g i)
  pub list : (ts : List Node) → anew (Many ts) ≡ Many (map anew ts)
  pub tree : (k : Kind) (ts : List Node) → anew (Tree k ts) ≡ Tree k (map anew ts)

module _ (R : List Piece → List Piece → Type 0) (same : (ps : List Piece) → R ps ps) (join : (ps qs rs ss : List Piece) → R ps qs → R rs ss → R (ps ++ rs) (qs ++ ss)) where
  -- two names whose pieces are related
  pub ident_kept : (wide : Bool) (k : Kind) (i j : Ident) → R (name i.sym ∷ []) (name j.sym ∷ []) → R (when (is_let (Node-F.Identifier k i)) (closes ending.Let)) (when (is_let (Node-F.Identifier k j)) (closes ending.Let))
      → Kept R wide (Identifier k i) (Identifier k j)
  ident_kept wide k i j named ends = record {
    looks = record {
      seen = seen_name k i j;
      items = none_items R same join _ _ (ap items_of (outs-Identifier k i)) (ap items_of (outs-Identifier k j));
      function = λ o n. ap (is_set_in n) (outs-Identifier k i) ∙ sym (ap (is_set_in n) (outs-Identifier k j));
      only = λ o. ap (λ x. is_some (lone_name x)) (outs-Identifier k i) ∙ sym (ap (λ x. is_some (lone_name x)) (outs-Identifier k j));
      lone = λ o. moved R same join _ _ _ _ (ap (λ x. lone_pieces (lone_name x)) (outs-Identifier k i)) (ap (λ x. lone_pieces (lone_name x)) (outs-Identifier k j)) (same []);
      let_ends = moved R same join _ _ _ _ (ap (λ x. when (is_let x) (closes ending.Let)) (outs-Identifier k i)) (ap (λ x. when (is_let x) (closes ending.Let)) (outs-Identifier k j)) ends;
    };
    stands = record {
      of_pieces = moved R same join _ _ _ _ (ap (λ (w : Written). w.pieces) (step i)) (ap (λ (w : Written). w.pieces) (step j)) named;
      of_each = none_each R same join _ _ (ap (λ (w : Written). w.each) (step i)) (ap (λ (w : Written). w.each) (step j));
    };
    within = λ o. moved R same join _ _ _ _ (ap (λ (w : Written). w.within) (step i)) (ap (λ (w : Written). w.within) (step j)) (same []);
    apart = λ own. moved R same join _ _ _ _ (ap (λ (w : Written). w.apart) (step i)) (ap (λ (w : Written). w.apart) (step j)) (same []);
  }
    where
      step : (i : Ident) → written false (Identifier k i) ≡ written_step false (Node-F.Identifier k i)
      step i = search (rules, the_lemmas)

  -- where a node stands in the source is not written
  pub span_kept : (wide : Bool) (r s : Range) → Kept R wide (Span r) (Span s)
  span_kept wide r s = record {
    looks = record {
      seen = seen_span r s;
      items = none_items R same join _ _ (ap items_of (outs-Span r)) (ap items_of (outs-Span s));
      function = λ o n. ap (is_set_in n) (outs-Span r) ∙ sym (ap (is_set_in n) (outs-Span s));
      only = λ o. ap (λ x. is_some (lone_name x)) (outs-Span r) ∙ sym (ap (λ x. is_some (lone_name x)) (outs-Span s));
      lone = λ o. moved R same join _ _ _ _ (ap (λ x. lone_pieces (lone_name x)) (outs-Span r)) (ap (λ x. lone_pieces (lone_name x)) (outs-Span s)) (same []);
      let_ends = moved R same join _ _ _ _ (ap (λ x. when (is_let x) (closes ending.Let)) (outs-Span r)) (ap (λ x. when (is_let x) (closes ending.Let)) (outs-Span s)) (same []);
    };
    stands = record {
      of_pieces = moved R same join _ _ _ _ (ap (λ (w : Written). w.pieces) (step r)) (ap (λ (w : Written). w.pieces) (step s)) (same []);
      of_each = none_each R same join _ _ (ap (λ (w : Written). w.each) (step r)) (ap (λ (w : Written). w.each) (step s));
    };
    within = λ o. moved R same join _ _ _ _ (ap (λ (w : Written). w.within) (step r)) (ap (λ (w : Written). w.within) (step s)) (same []);
    apart = λ own. moved R same join _ _ _ _ (ap (λ (w : Written). w.apart) (step r)) (ap (λ (w : Written). w.apart) (step s)) (same []);
  }
    where
      step : (r : Range) → written false (Span r) ≡ written_step false (Node-F.Span r)
      step r = search (rules, the_lemmas)

module _ (R : List Piece → List Piece → Type 0) (same : (ps : List Piece) → R ps ps) (join : (ps qs rs ss : List Piece) → R ps qs → R rs ss → R (ps ++ rs) (qs ++ ss))
    (g : Ident → Ident) (named : (i : Ident) → R (name i.sym ∷ []) (name (g i).sym ∷ [])) (alone : (i : Ident) → R (parameter i.sym ∷ []) (parameter (g i).sym ∷ []))
    (lets : (k : Kind) (i : Ident) → R (when (is_let (Node-F.Identifier k i)) (closes ending.Let)) (when (is_let (Node-F.Identifier k (g i))) (closes ending.Let))) where
  module _ (anew : Node → Node) (is : IsAnew g anew) where
    -- what is bound alone
    none_bound : (t u : Node) (y z : Node-F Node) → anew t ≡ u → out-Node t ≡ y → out-Node u ≡ z → bound_name y ≡ None → bound_name z ≡ None → R (lone_pieces (bound_name (out-Node t))) (lone_pieces (bound_name (out-Node (anew t))))
    none_bound t u y z e o q m n =
        moved R same join _ _ _ _ (ap (λ x. lone_pieces (bound_name x)) o ∙ ap lone_pieces m) (ap (λ t. lone_pieces (bound_name (out-Node t))) e ∙ ap (λ x. lone_pieces (bound_name x)) q ∙ ap lone_pieces n) (same [])

    name_bound : (k : Kind) (i : Ident) → R (lone_pieces (bound_name (Node-F.Identifier k i))) (lone_pieces (bound_name (Node-F.Identifier k (g i))))
    name_bound kind.BindingIdent i = alone i
    name_bound k i = same []

    bound_kept : (t : Node) → R (lone_pieces (bound_name (out-Node t))) (lone_pieces (bound_name (out-Node (anew t))))
    bound_kept t = by_children (λ t. R (lone_pieces (bound_name (out-Node t))) (lone_pieces (bound_name (out-Node (anew t))))) (
      none_bound Absent Absent Node-F.Absent Node-F.Absent is.absent outs-Absent outs-Absent refl refl,
      λ x. none_bound (Flag x) (Flag x) (Node-F.Flag x) (Node-F.Flag x) (is.flag x) (outs-Flag x) (outs-Flag x) refl refl,
      λ w. none_bound (Word w) (Word w) (Node-F.Word w) (Node-F.Word w) (is.word w) (outs-Word w) (outs-Word w) refl refl,
      λ x. none_bound (Text x) (Text x) (Node-F.Text x) (Node-F.Text x) (is.text x) (outs-Text x) (outs-Text x) refl refl,
      λ s. none_bound (Span s) (Span s) (Node-F.Span s) (Node-F.Span s) (is.span s) (outs-Span s) (outs-Span s) refl refl,
      λ k i. moved R same join _ _ _ _ (ap (λ x. lone_pieces (bound_name x)) (outs-Identifier k i))
          (ap (λ t. lone_pieces (bound_name (out-Node t))) (is.ident k i) ∙ ap (λ x. lone_pieces (bound_name x)) (outs-Identifier k (g i))) (name_bound k i),
    )
        (λ ts h. none_bound (Many ts) (Many (map anew ts)) (Node-F.List ts) (Node-F.List (map anew ts)) (is.list ts) (outs-List ts) (outs-List (map anew ts)) refl refl)
        (λ k ts h. none_bound (Tree k ts) (Tree k (map anew ts)) (Node-F.Tree k ts) (Node-F.Tree k (map anew ts)) (is.tree k ts) (outs-Tree k ts) (outs-Tree k (map anew ts)) refl refl) t

    some_bound : (k : Kind) (i : Ident) → is_some (bound_name (Node-F.Identifier k i)) ≡ is_some (bound_name (Node-F.Identifier k (g i)))
    some_bound kind.BindingIdent i = refl
    some_bound k i = refl

    none_some : (t u : Node) (y z : Node-F Node) → anew t ≡ u → out-Node t ≡ y → out-Node u ≡ z → is_some (bound_name y) ≡ is_some (bound_name z) → is_some (bound_name (out-Node t)) ≡ is_some (bound_name (out-Node (anew t)))
    none_some t u y z e o q m = ap (λ x. is_some (bound_name x)) o ∙ m ∙ sym (ap (λ t. is_some (bound_name (out-Node t))) e ∙ ap (λ x. is_some (bound_name x)) q)

    bound_same : (t : Node) → is_some (bound_name (out-Node t)) ≡ is_some (bound_name (out-Node (anew t)))
    bound_same t = by_children (λ t. is_some (bound_name (out-Node t)) ≡ is_some (bound_name (out-Node (anew t)))) (
      none_some Absent Absent Node-F.Absent Node-F.Absent is.absent outs-Absent outs-Absent refl,
      λ x. none_some (Flag x) (Flag x) (Node-F.Flag x) (Node-F.Flag x) (is.flag x) (outs-Flag x) (outs-Flag x) refl,
      λ w. none_some (Word w) (Word w) (Node-F.Word w) (Node-F.Word w) (is.word w) (outs-Word w) (outs-Word w) refl,
      λ x. none_some (Text x) (Text x) (Node-F.Text x) (Node-F.Text x) (is.text x) (outs-Text x) (outs-Text x) refl,
      λ s. none_some (Span s) (Span s) (Node-F.Span s) (Node-F.Span s) (is.span s) (outs-Span s) (outs-Span s) refl,
      λ k i. none_some (Identifier k i) (Identifier k (g i)) (Node-F.Identifier k i) (Node-F.Identifier k (g i)) (is.ident k i) (outs-Identifier k i) (outs-Identifier k (g i)) (some_bound k i),
    )
        (λ ts h. none_some (Many ts) (Many (map anew ts)) (Node-F.List ts) (Node-F.List (map anew ts)) (is.list ts) (outs-List ts) (outs-List (map anew ts)) refl)
        (λ k ts h. none_some (Tree k ts) (Tree k (map anew ts)) (Node-F.Tree k ts) (Node-F.Tree k (map anew ts)) (is.tree k ts) (outs-Tree k ts) (outs-Tree k (map anew ts)) refl) t

    only_same : (ts : List Node) → is_some (only_name ts) ≡ is_some (only_name (map anew ts))
    only_same [] = refl
    only_same (t ∷ []) = bound_same t
    only_same (t ∷ u ∷ ts) = refl

    only_kept : (ts : List Node) → R (lone_pieces (only_name ts)) (lone_pieces (only_name (map anew ts)))
    only_kept [] = same []
    only_kept (t ∷ []) = bound_kept t
    only_kept (t ∷ u ∷ ts) = same []

    abbrev Stays : Node → Type 0
    Stays t = (wide : Bool) → Kept R wide t (anew t)

    leaf_kept : (t : Node) → anew t ≡ t → Stays t
    leaf_kept t e wide = subst (Kept R wide t) (sym e) (kept_same R same join wide t)

    all_kept : (ts : List Node) → Each Stays ts → AllKept R (λ n. false) ts (map anew ts)
    all_kept [] h = tt
    all_kept (t ∷ ts) h = (h.0 false, all_kept ts h.1)

    pub anew_kept : (t : Node) → Stays t
    anew_kept t = by_children Stays (
      leaf_kept Absent is.absent,
      λ x. leaf_kept (Flag x) (is.flag x),
      λ w. leaf_kept (Word w) (is.word w),
      λ x. leaf_kept (Text x) (is.text x),
      λ s. leaf_kept (Span s) (is.span s),
      λ k i wide. subst (Kept R wide (Identifier k i)) (sym (is.ident k i)) (ident_kept R same join wide k i (g i) (named i) (lets k i)),
    )
        (λ ts h wide. subst (Kept R wide (Many ts)) (sym (is.list ts)) (list_kept R same join (λ n. false) wide ts (map anew ts) (λ o. only_same ts) (λ o. only_kept ts) (all_kept ts h)))
        (λ k ts h wide. subst (Kept R wide (Tree k ts)) (sym (is.tree k ts)) (tree_kept R same join (λ n. false) wide k ts (map anew ts) (free_layout (layout_of k)) (free_layout (apart_layout_of k)) (all_kept ts h))) t
