-- Pieces of an arrow whose parameters become patterns.
use Rattle.std.proofs.Common.{◌≡◌, true, false, not, ◌&&◌, Option, List, [], ◌∷◌, ◌++◌, map, refl, sym, ap, ◌∙◌, subst}
use Rattle.std.specs.Prelude.{if◌then◌else◌, is_some}
use Rattle.swc_tree_marks.specs.declared.ident.Ident.{Ident}
use Rattle.swc_tree_node.specs.declared.kind.Kind.TheVariants as kind
use Rattle.swc_tree_node.specs.declared.node.Node.{Node, List as Many, Identifier, Tree, out-Node}
use Rattle.swc_tree_node.specs.declared.node.Node.TheOpen.{Node-F}
use Rattle.swc_tree_node.specs.declared.node.Node.TheVariants.{outs-Identifier, outs-List}
use Rattle.swc_tree_scoping.proofs.Remarked.{identifier_is}
use Rattle.swc_tree_grammar.specs.Normal.{as_pattern, pattern_in}
use Rattle.text_lexer.specs.declared.mark.Mark.TheVariants as mark
use Rattle.text_pieces.specs.declared.item.Form.TheVariants as form
use Rattle.text_pieces.specs.declared.item.Many.TheVariants as many
use Rattle.text_pieces.specs.declared.keyword.Keyword.TheVariants as keyword
use Rattle.text_pieces.specs.Forms.{form_pieces, when}
use Rattle.text_pieces.specs.Leaves.{bound_name, bound_span, lone_name, lone_span, may_comma as takes_comma_behind, only_name, takes_comma}
use Rattle.text_pieces.specs.Pieces.{items_pieces, lone_piece, with_commas, written}
use Rattle.text_pieces.specs.Tokens.{Piece, here, may_comma, name, parameter, punctuator}
use Rattle.text_walk.proofs.Walked.{each_items, tree_pieces}
use Rattle.text_kept_laws.proofs.PiecesRows.{AllKept, Kept, kept_same, list_kept, lone_pieces, tree_kept}
use Rattle.text_kept_laws.proofs.Plain.{name_pieces, plain_tree}
use Rattle.text_kept_laws.specs.Written.{in_pair}
use Rattle.text_kept_laws.specs.Written.AsWritten.{join, lone}
use Rattle.text_kept_laws.proofs.Steps.{R, before, behind, equal, even, plain_kept, stated}
use Rattle.text_kept_laws.proofs.Items.{W, still}
use Rattle.text_kept_laws.proofs.Unpairing.{renamed}

-- an expression that is a name, where a pattern stands
pub pattern_kept : (t : Node) → Kept R true t (as_pattern t)
pattern_kept t = by (out-Node t) refl
  where
    by : (y : Node-F Node) → out-Node t ≡ y → Kept R true t (pattern_in t y)
    by (Node-F.Identifier kind.Ident i) o = subst (λ t. Kept R true t (Identifier kind.BindingIdent i)) (sym (identifier_is t kind.Ident i o)) (renamed i)
    by (Node-F.Identifier k i) o = still t
    by (Node-F.Tree k ts) o = still t
    by (Node-F.List ts) o = still t
    by Node-F.Absent o = still t
    by (Node-F.Flag x) o = still t
    by (Node-F.Word x) o = still t
    by (Node-F.Text x) o = still t
    by (Node-F.Span x) o = still t

pub patterns_kept : (ts : List Node) → AllKept R (λ n. true) ts (map as_pattern ts)
patterns_kept [] = tt
patterns_kept (t ∷ ts) = (pattern_kept t, patterns_kept ts)

-- ---- one parameter

-- what stands between the word `async` and the arrow, by the form of the parameters
abbrev round : Node-F Node → Option (List Node × List (List Piece)) → List Piece → List Piece
round y each rest =
    when (not (is_some (lone_name y))) (punctuator mark.LeftParen)
    ++ (lone_piece false (lone_span y) (lone_name y)
    ++ ((if is_some (lone_name y) then [] else items_pieces false many.List [] each)
    ++ (when (takes_comma_behind y && not (is_some (lone_name y))) may_comma
    ++ (when (not (is_some (lone_name y))) (punctuator mark.RightParen) ++ rest))))

-- ... by the form of the one parameter
abbrev round_one : Node-F Node → List Piece → List Piece → List Piece
round_one x ps rest =
    when (not (is_some (bound_name x))) (punctuator mark.LeftParen)
    ++ (lone_piece false (bound_span x) (bound_name x)
    ++ ((if is_some (bound_name x) then [] else with_commas (ps ∷ []))
    ++ (when (takes_comma x && not (is_some (bound_name x))) may_comma
    ++ (when (not (is_some (bound_name x))) (punctuator mark.RightParen) ++ rest))))

module _ (a b y : Node) where
  abbrev back : List Piece
  back = here ∷ punctuator mark.Arrow ∷ W b ++ (form_pieces form.BlockEnding b ++ [])

  abbrev arrow : List Node → Node
  arrow ts = Tree kind.ArrowExpr (a ∷ Many ts ∷ b ∷ y ∷ [])

  abbrev led : List Piece → List Piece
  led ps = form_pieces (form.WordIf keyword.Async) y ++ (form_pieces form.HereIf y ++ ps)

  one_pieces : (t : Node) → W (arrow (t ∷ [])) ≡ led (round_one (out-Node t) (W t) back)
  one_pieces t =
      tree_pieces false kind.ArrowExpr (a ∷ Many (t ∷ []) ∷ b ∷ y ∷ [])
      ∙ ap (λ x. led (round x ((written false (Many (t ∷ []))).each) back)) (outs-List (t ∷ []))
      ∙ ap (λ e. led (round (Node-F.List (t ∷ [])) e back)) (each_items false (t ∷ []))

  expression_pieces : (i : Ident) → W (arrow (Identifier kind.Ident i ∷ [])) ≡ led (in_pair (name i.sym ∷ may_comma ∷ []) ++ back)
  expression_pieces i =
      one_pieces (Identifier kind.Ident i) ∙ ap (λ x. led (round_one x (W (Identifier kind.Ident i)) back)) (outs-Identifier kind.Ident i)
      ∙ ap (λ ps. led (round_one (Node-F.Identifier kind.Ident i) ps back)) (name_pieces kind.Ident i)

  pattern_pieces : (i : Ident) → W (arrow (Identifier kind.BindingIdent i ∷ [])) ≡ led (parameter i.sym ∷ back)
  pattern_pieces i = one_pieces (Identifier kind.BindingIdent i) ∙ ap (λ x. led (round_one x (W (Identifier kind.BindingIdent i)) back)) (outs-Identifier kind.BindingIdent i)

  -- a name that is an expression has its pair
  lone_kept : (i : Ident) → Kept R true (arrow (Identifier kind.Ident i ∷ [])) (arrow (Identifier kind.BindingIdent i ∷ []))
  lone_kept i =
      plain_kept false (arrow (Identifier kind.Ident i ∷ [])) (arrow (Identifier kind.BindingIdent i ∷ [])) (plain_tree kind.ArrowExpr (a ∷ Many (Identifier kind.Ident i ∷ []) ∷ b ∷ y ∷ []) refl)
      (plain_tree kind.ArrowExpr (a ∷ Many (Identifier kind.BindingIdent i ∷ []) ∷ b ∷ y ∷ []) refl)
      (stated _ _ _ _ (expression_pieces i) (pattern_pieces i)
      (behind (form_pieces (form.WordIf keyword.Async) y) _ _ (behind (form_pieces form.HereIf y) _ _ (before back (in_pair (name i.sym ∷ may_comma ∷ [])) (parameter i.sym ∷ []) (lone i.sym)))))

  -- all others stay as they are
  evenly : (ts us : List Node) → only_name ts ≡ only_name us → AllKept R (λ n. true) ts us → Kept R true (arrow ts) (arrow us)
  evenly ts us e h =
      tree_kept R even join (λ n. false) true kind.ArrowExpr (a ∷ Many ts ∷ b ∷ y ∷ []) (a ∷ Many us ∷ b ∷ y ∷ []) refl refl (
        kept_same R even join false a,
        (
          list_kept R even join (λ n. true) false ts us (λ o. ap is_some e) (λ o. equal (lone_pieces (only_name ts)) (lone_pieces (only_name us)) (ap lone_pieces e)) h,
          (kept_same R even join false b, (kept_same R even join false y, tt)),
        ),
      )

  one_kept : (t : Node) (x : Node-F Node) → out-Node t ≡ x → Kept R true (arrow (t ∷ [])) (arrow (pattern_in t x ∷ []))
  one_kept t (Node-F.Identifier kind.Ident i) o = subst (λ t. Kept R true (arrow (t ∷ [])) (arrow (Identifier kind.BindingIdent i ∷ []))) (sym (identifier_is t kind.Ident i o)) (lone_kept i)
  one_kept t (Node-F.Identifier k i) o = still (arrow (t ∷ []))
  one_kept t (Node-F.Tree k ts) o = still (arrow (t ∷ []))
  one_kept t (Node-F.List ts) o = still (arrow (t ∷ []))
  one_kept t Node-F.Absent o = still (arrow (t ∷ []))
  one_kept t (Node-F.Flag x) o = still (arrow (t ∷ []))
  one_kept t (Node-F.Word x) o = still (arrow (t ∷ []))
  one_kept t (Node-F.Text x) o = still (arrow (t ∷ []))
  one_kept t (Node-F.Span x) o = still (arrow (t ∷ []))

  pub arrow_kept : (ts : List Node) → Kept R true (Tree kind.ArrowExpr (a ∷ Many ts ∷ b ∷ y ∷ [])) (Tree kind.ArrowExpr (a ∷ Many (map as_pattern ts) ∷ b ∷ y ∷ []))
  arrow_kept [] = still (arrow [])
  arrow_kept (t ∷ []) = one_kept t (out-Node t) refl
  arrow_kept (t ∷ r ∷ ts) = evenly (t ∷ r ∷ ts) (map as_pattern (t ∷ r ∷ ts)) refl (patterns_kept (t ∷ r ∷ ts))
