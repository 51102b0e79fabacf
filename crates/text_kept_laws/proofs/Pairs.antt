-- Pieces of a tree that gets pairs of parentheses.
use Rattle.std.proofs.Common.{◌≡◌, ℕ, zero, suc, Bool, true, false, IsTrue, None, List, [], ◌∷◌, ◌++◌, refl, sym, ap, ◌∙◌, subst, nat_eq}
use Rattle.std.specs.Prelude.{codes, is_some, not, ◌&&◌}
use Rattle.std.specs.List.{list_all}
use Rattle.std.specs.Cmp.Lexicographic.{pointwise}
use Rattle.std.proofs.lemmas.Slice.Eq.{bytes_eq-Decides}
use Rattle.swc_tree_marks.specs.declared.span.Span.{Span as Range}
use Rattle.swc_tree_marks.specs.declared.ident.Ident.{Ident}
use Rattle.swc_tree_node.specs.declared.kind.Kind.{Kind}
use Rattle.swc_tree_node.specs.declared.kind.Kind.TheVariants as kind
use Rattle.swc_tree_node.specs.declared.kind.Class.TheVariants as class
use Rattle.swc_tree_node.specs.declared.slot.Content.TheVariants as content
use Rattle.swc_tree_node.specs.declared.slot.Slot.{Slot}
use Rattle.swc_tree_node.specs.declared.slot.Slot.TheVariants as slot
use Rattle.swc_tree_node.specs.declared.node.Node.{Node, Span, List as Many, Identifier, Tree, out-Node}
use Rattle.swc_tree_node.specs.declared.node.Node.TheOpen.{Node-F}
use Rattle.swc_tree_node.specs.declared.node.Node.TheVariants.{outs-Identifier, outs-List, outs-Tree}
use Rattle.swc_tree_node.specs.Table.{slots_of}
use Rattle.swc_tree_scoping.proofs.Remarked.{tree_is}
use Rattle.swc_tree_grammar.specs.Grammar.{async_in, is_async_name}
use Rattle.swc_base_fixer_laws.specs.Sets.{AllSet, FieldsSet, Sets, can_pair, item, pairable, pairable_in, takes_pair}
use Rattle.swc_base_fixer_laws.specs.Sets.Sets.{same as unchanged, after as further, around as enclosed, named as of_name, items as of_items, tree as of_tree}
use Rattle.swc_base_fixer_laws.specs.Sets.AllSet.{none, more}
use Rattle.swc_base_fixer_laws.specs.Sets.FieldsSet.{nil, field}
use Rattle.text_lexer.specs.declared.mark.Mark.TheVariants as mark
use Rattle.text_pieces.specs.declared.item.Ending.TheVariants as ending
use Rattle.text_pieces.specs.Forms.{when}
use Rattle.text_pieces.specs.Layouts.{apart_layout_of, layout_of}
use Rattle.text_pieces.specs.Leaves.{bound_name, is_let, only_name}
use Rattle.text_pieces.specs.Pieces.{written, written_with}
use Rattle.text_pieces.specs.Tokens.{Piece, closes, name, punctuator}
use Rattle.text_walk.proofs.Walked.{tree_pieces}
use Rattle.text_kept_laws.specs.Paired.{WithPairs}
use Rattle.text_kept_laws.specs.Paired.WithPairs.{same, join, after, around}
use Rattle.text_kept_laws.proofs.PiecesRows.{AllKept, Kept, kept_same, layout_free, list_kept, lone_pieces, tree_kept}
use Rattle.text_kept_laws.proofs.Then.{kept_then}
use Rattle.text_kept_laws.proofs.Plain.{Plain, is_seen, is_specifier, name_pieces, never, plain_kept, plain_name, plain_tree}

-- ---- the relation

abbrev R : List Piece → List Piece → Type 0
R = WithPairs

equal : (ps qs : List Piece) → ps ≡ qs → R ps qs
equal ps qs e = subst (R ps) e (same ps)

-- two lists of pieces of which each is what is written otherwise
moved : (ps qs rs ss : List Piece) → ps ≡ rs → qs ≡ ss → R rs ss → R ps qs
moved ps qs rs ss e f h = subst (λ (l : List Piece). R l qs) (sym e) (subst (R rs) (sym f) h)

-- ---- an expression and a pair

-- of the kinds that take a pair no more is seen than of a pair
unseen : (k : Kind) → can_pair k ≡ true → is_seen k ≡ false
unseen kind.RestPat h = never (sym h)
unseen kind.ImportDefaultSpecifier h = never (sym h)
unseen kind.VarDecl h = never (sym h)
unseen kind.UsingDecl h = never (sym h)
unseen kind.ExprStmt h = never (sym h)
unseen kind.ComputedPropName h = never (sym h)
unseen kind.BlockStmt h = never (sym h)
unseen kind.IdentName h = never (sym h)
unseen kind.TplElement h = never (sym h)
unseen kind.Param h = never (sym h)
unseen k h = refl

unnamed : (k : Kind) → can_pair k ≡ true → is_specifier k ≡ false
unnamed kind.ImportNamedSpecifier h = never (sym h)
unnamed kind.ExportNamedSpecifier h = never (sym h)
unnamed k h = refl

-- what a pair is written with
abbrev in_pair : List Piece → List Piece
in_pair ps = punctuator mark.LeftParen ∷ ps ++ punctuator mark.RightParen ∷ []

pair_pieces : (r : Range) (u : Node) → written_with false (Tree kind.ParenExpr (Span r ∷ u ∷ [])) ≡ in_pair (written_with false u)
pair_pieces r u = tree_pieces false kind.ParenExpr (Span r ∷ u ∷ [])

ends_none : (k : Kind) (ts : List Node) → when (is_let (out-Node (Tree k ts))) (closes ending.Let) ≡ []
ends_none k ts = ap (λ x. when (is_let x) (closes ending.Let)) (outs-Tree k ts)

around_kept : (wide : Bool) (r : Range) (k : Kind) (ts : List Node) (u : Node) → wide ≡ true → can_pair k ≡ true → R (written_with false (Tree k ts)) (written_with false u) → Kept R wide (Tree k ts) (Tree kind.ParenExpr (Span r ∷ u ∷ []))
around_kept wide r k ts u w can h =
    let us : List Node = Span r ∷ u ∷ [] in
    subst (λ (w : Bool). Kept R w (Tree k ts) (Tree kind.ParenExpr us)) (sym w)
    (plain_kept R same join false (Tree k ts) (Tree kind.ParenExpr us) (subst (λ b. Plain b (Tree k ts)) (unnamed k can) (plain_tree k ts (unseen k can))) (plain_tree kind.ParenExpr us refl)
    (moved _ _ _ _ (ends_none k ts) (ends_none kind.ParenExpr us) (same []))
    (moved _ _ _ _ refl (pair_pieces r u) (around (written_with false (Tree k ts)) (written_with false u) h)))

-- `async` is another name than `let`
async_no_let : (a : List ℕ) → pointwise nat_eq a (codes "async") ≡ true → pointwise nat_eq a (codes "let") ≡ false
async_no_let a h = ap (λ a. pointwise nat_eq a (codes "let")) ((bytes_eq-Decides a (codes "async")).0 h)

named_kept : (r : Range) (k : Kind) (i : Ident) → IsTrue (is_async_name (Identifier kind.Ident i)) → Kept R true (Identifier k i) (Tree kind.ParenExpr (Span r ∷ Identifier kind.Ident i ∷ []))
named_kept r k i h =
    let us : List Node = Span r ∷ Identifier kind.Ident i ∷ [] in
    let async : pointwise nat_eq i.sym (codes "async") ≡ true = sym (ap async_in (outs-Identifier kind.Ident i)) ∙ h in
    plain_kept R same join false (Identifier k i) (Tree kind.ParenExpr us) (plain_name k i) (plain_tree kind.ParenExpr us refl)
    (moved _ _ _ _ (ap (λ x. when (is_let x) (closes ending.Let)) (outs-Identifier k i) ∙ ap (λ b. when b (closes ending.Let)) (async_no_let i.sym async)) (ends_none kind.ParenExpr us) (same []))
    (moved _ _ _ _ (name_pieces k i) (pair_pieces r (Identifier kind.Ident i) ∙ ap in_pair (name_pieces kind.Ident i)) (around (name i.sym ∷ []) (name i.sym ∷ []) (same (name i.sym ∷ []))))

-- ---- places

-- the fields whose places take pairs
abbrev wide_at : List Slot → ℕ → Bool
wide_at [] n = false
wide_at (s ∷ ss) zero = takes_pair s
wide_at (s ∷ ss) (suc n) = wide_at ss n

-- the head of a `for`
abbrev pub is_head : Slot → Bool
is_head (slot.One (content.Node class.ForHead)) = true
is_head _ = false

-- no list of such
abbrev pub is_fair : Slot → Bool
is_fair s = not (is_head (item s))

items_fair : (s : Slot) → is_fair (item s) ≡ true
items_fair (slot.List c) = refl
items_fair (slot.OptionalList c) = refl
items_fair (slot.Holes c) = refl
items_fair slot.Pairs = refl
items_fair slot.Pair = refl
items_fair (slot.One c) = refl
items_fair (slot.Optional c) = refl

fields_fair : (k : Kind) → list_all is_fair (slots_of k) ≡ true
fields_fair kind.Module = refl
fields_fair k = refl

whole_free : (k : Kind) → layout_free (wide_at (slots_of k)) (layout_of k) ≡ true
whole_free kind.Module = refl
whole_free k = refl

apart_free : (k : Kind) → layout_free (wide_at (slots_of k)) (apart_layout_of k) ≡ true
apart_free kind.Module = refl
apart_free k = refl

no_head : (b : Bool) → not b ≡ true → b ≡ false
no_head true h = never (sym h)
no_head false h = refl

-- ---- one plain name

list_none : (ts : List Node) → bound_name (out-Node (Many ts)) ≡ None
list_none ts = ap bound_name (outs-List ts)

tree_none : (k : Kind) (ts : List Node) → bound_name (out-Node (Tree k ts)) ≡ None
tree_none k ts = ap bound_name (outs-Tree k ts)

record Paired (t : Node) : Type 0 where
  sort : Kind
  fields : List Node
  is : t ≡ Tree sort fields
  can : can_pair sort ≡ true

paired : (t : Node) → IsTrue (pairable t) → Paired t
paired t h = by (out-Node t) refl h
  where
    by : (y : Node-F Node) → out-Node t ≡ y → IsTrue (pairable_in y) → Paired t
    by (Node-F.Tree k ts) o h = record { sort = k; fields = ts; is = tree_is t k ts o; can = h }
    by (Node-F.List ts) o h = never (sym h)
    by (Node-F.Identifier k i) o h = never (sym h)
    by Node-F.Absent o h = never (sym h)
    by (Node-F.Flag x) o h = never (sym h)
    by (Node-F.Word x) o h = never (sym h)
    by (Node-F.Text x) o h = never (sym h)
    by (Node-F.Span x) o h = never (sym h)

bound_set : {s : Slot} {t u : Node} → Sets s t u → is_head s ≡ false → bound_name (out-Node t) ≡ bound_name (out-Node u)
bound_set (unchanged t) h = refl
bound_set (further c d) h = bound_set c h ∙ bound_set d h
bound_set (enclosed r t u p q d) h = let w = paired t q in ap (λ t. bound_name (out-Node t)) w.is ∙ tree_none w.sort w.fields ∙ sym (tree_none kind.ParenExpr (Span r ∷ u ∷ []))
bound_set (of_name r k i c) h = never h
bound_set (of_items ts us d) h = list_none ts ∙ sym (list_none us)
bound_set (of_tree k ts us e d) h = tree_none k ts ∙ sym (tree_none k us)

only_set : {s : Slot} {ts us : List Node} → AllSet s ts us → is_head s ≡ false → only_name ts ≡ only_name us
only_set none h = refl
only_set (more c none) h = bound_set c h
only_set (more c (more d e)) h = refl

-- ---- all of it

both_parts : (a b : Bool) → (a && b) ≡ true → (a ≡ true) × (b ≡ true)
both_parts true b h = (refl, h)
both_parts false b h = never (sym h)

mutual
  pub set_kept : {s : Slot} {t u : Node} → Sets s t u → is_fair s ≡ true → Kept R (takes_pair s) t u
  set_kept (unchanged {s} t) f = kept_same R same join (takes_pair s) t
  set_kept (further {s} {t} {u} {v} c d) f = kept_then R after (takes_pair s) t u v (set_kept c f) (set_kept d f)
  set_kept (enclosed {s} r t u p q d) f =
      let w = paired t q in
      let inner : R (written_with false t) (written_with false u) = (set_kept d refl).stands.of_pieces in
      subst (λ (t : Node). Kept R (takes_pair s) t (Tree kind.ParenExpr (Span r ∷ u ∷ []))) (sym w.is)
      (around_kept (takes_pair s) r w.sort w.fields u p w.can (subst (λ (t : Node). R (written_with false t) (written_with false u)) w.is inner))
  set_kept (of_name r k i c) f = named_kept r k i c
  set_kept (of_items {s} ts us d) f =
      let e : only_name ts ≡ only_name us = only_set d (no_head (is_head (item s)) f) in
      list_kept R same join (λ n. takes_pair (item s)) (takes_pair s) ts us (λ o. ap is_some e) (λ o. equal (lone_pieces (only_name ts)) (lone_pieces (only_name us)) (ap lone_pieces e)) (items_kept d (items_fair s))
  set_kept (of_tree {s} k ts us e d) f = tree_kept R same join (wide_at (slots_of k)) (takes_pair s) k ts us (whole_free k) (apart_free k) (fields_kept d (fields_fair k))

  items_kept : {s : Slot} {ts us : List Node} → AllSet s ts us → is_fair s ≡ true → AllKept R (λ n. takes_pair s) ts us
  items_kept none f = tt
  items_kept (more c d) f = (set_kept c f, items_kept d f)

  fields_kept : {ss : List Slot} {ts us : List Node} → FieldsSet ss ts us → list_all is_fair ss ≡ true → AllKept R (wide_at ss) ts us
  fields_kept nil f = tt
  fields_kept (field {s} {ss} c d) f = let b = both_parts (is_fair s) (list_all is_fair ss) f in (set_kept c b.0, fields_kept d b.1)
