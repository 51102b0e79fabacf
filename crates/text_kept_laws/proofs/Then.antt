-- Pieces of a node that becomes another in two steps.
use Rattle.std.proofs.Common.{◌≡◌, ◌∙◌, Bool, ◌||◌, Option, Some, None, List, [], ◌∷◌, sym, ap}
use Rattle.swc_tree_node.specs.declared.node.Node.{Node, out-Node}
use Rattle.text_pieces.specs.Leaves.{is_declaration, is_expression_statement, items_of}
use Rattle.text_pieces.specs.Tokens.{Piece}
use Rattle.text_kept_laws.proofs.PiecesSeen.{Seen, pairwise_then, seen_then}
use Rattle.text_kept_laws.proofs.PiecesRows.{Each', Kept, Lists, is_own}

own_same : (t u : Node) → Seen t u → is_own (out-Node t) ≡ is_own (out-Node u)
own_same t u s = ap (λ b. b || is_expression_statement (out-Node t)) s.declaration ∙ ap (λ b. is_declaration (out-Node u) || b) s.expression

module _ (R : List Piece → List Piece → Type 0) (after : (ps qs rs : List Piece) → R ps qs → R qs rs → R ps rs) where
  lists_then : (pss qss rss : List (List Piece)) → Lists R pss qss → Lists R qss rss → Lists R pss rss
  lists_then [] [] [] c d = tt
  lists_then (ps ∷ pss) (qs ∷ qss) (rs ∷ rss) c d = (after ps qs rs c.0 d.0, lists_then pss qss rss c.1 d.1)
  lists_then [] [] (rs ∷ rss) c d = absurd d
  lists_then [] (qs ∷ qss) rss c d = absurd c
  lists_then (ps ∷ pss) [] rss c d = absurd c
  lists_then (ps ∷ pss) (qs ∷ qss) [] c d = absurd d

  each_then : (x y z : Option (List Node × List (List Piece))) → Each' R x y → Each' R y z → Each' R x z
  each_then (Some x) (Some y) (Some z) c d = (pairwise_then x.0 y.0 z.0 c.0 d.0, lists_then x.1 y.1 z.1 c.1 d.1)
  each_then None None None c d = tt
  each_then (Some x) (Some y) None c d = absurd d
  each_then (Some x) None z c d = absurd c
  each_then None (Some y) z c d = absurd c
  each_then None None (Some z) c d = absurd d

  pub kept_then : (wide : Bool) (t u v : Node) → Kept R wide t u → Kept R wide u v → Kept R wide t v
  kept_then wide t u v c d = record {
    looks = record {
      seen = seen_then t u v c.looks.seen d.looks.seen;
      items = pairwise_then (items_of (out-Node t)) (items_of (out-Node u)) (items_of (out-Node v)) c.looks.items d.looks.items;
      function = λ o n. c.looks.function o n ∙ d.looks.function o n;
      only = λ o. c.looks.only o ∙ d.looks.only o;
      lone = λ o. after _ _ _ (c.looks.lone o) (d.looks.lone o);
      let_ends = after _ _ _ c.looks.let_ends d.looks.let_ends;
    };
    stands = record {
      of_pieces = after _ _ _ c.stands.of_pieces d.stands.of_pieces;
      of_each = each_then _ _ _ c.stands.of_each d.stands.of_each;
    };
    within = λ o. after _ _ _ (c.within o) (d.within o);
    apart = λ own. after _ _ _ (c.apart own) (d.apart (λ o. sym (own_same t u c.looks.seen) ∙ own o));
  }

-- what holds by one relation holds by one that follows from it
module _ (R S : List Piece → List Piece → Type 0) (to : (ps qs : List Piece) → R ps qs → S ps qs) where
  lists_as : (pss qss : List (List Piece)) → Lists R pss qss → Lists S pss qss
  lists_as [] [] c = tt
  lists_as (ps ∷ pss) (qs ∷ qss) c = (to ps qs c.0, lists_as pss qss c.1)
  lists_as [] (qs ∷ qss) c = absurd c
  lists_as (ps ∷ pss) [] c = absurd c

  each_as : (x y : Option (List Node × List (List Piece))) → Each' R x y → Each' S x y
  each_as (Some x) (Some y) c = (c.0, lists_as x.1 y.1 c.1)
  each_as None None c = tt
  each_as (Some x) None c = absurd c
  each_as None (Some y) c = absurd c

  pub kept_as : (wide : Bool) (t u : Node) → Kept R wide t u → Kept S wide t u
  kept_as wide t u c = record {
    looks = record { seen = c.looks.seen; items = c.looks.items; function = c.looks.function; only = c.looks.only; lone = λ o. to _ _ (c.looks.lone o); let_ends = to _ _ c.looks.let_ends };
    stands = record { of_pieces = to _ _ c.stands.of_pieces; of_each = each_as _ _ c.stands.of_each };
    within = λ o. to _ _ (c.within o);
    apart = λ own. to _ _ (c.apart own);
  }
