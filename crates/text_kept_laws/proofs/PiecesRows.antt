-- Pieces of a node by its layout, where what stands in its fields is written with pieces that are related.
use Rattle.std.proofs.Common.{◌≡◌, true, false, Bool, ℕ, zero, suc, ◌+◌, ◌==◌, Some, None, Option, List, [], ◌∷◌, ◌++◌, map, length, refl, sym, ap, ◌∙◌, rules, subst}
use Rattle.std.specs.Prelude.{codes, if◌then◌else◌, is_some, not, ◌&&◌, ◌||◌, slice_get}
use Rattle.std.specs.List.{list_all}
use Rattle.std.proofs.lemmas.Bool.{and_parts}
use Rattle.swc_tree_node.specs.declared.kind.Kind.{Kind}
use Rattle.swc_tree_node.specs.declared.node.Node.{Node, List as Many, Tree, out-Node, the_lemmas}
use Rattle.swc_tree_node.specs.declared.node.Node.TheOpen.{Node-F}
use Rattle.swc_tree_node.specs.declared.node.Node.TheVariants.{outs-List, outs-Tree}
use Rattle.swc_tree_node.specs.Parts.{text_of}
use Rattle.text_lexer.specs.declared.mark.Mark.TheVariants as mark
use Rattle.text_pieces.specs.declared.item.Ending.{Ending}
use Rattle.text_pieces.specs.declared.item.Ending.TheVariants as ending
use Rattle.text_pieces.specs.declared.item.Form.{Form}
use Rattle.text_pieces.specs.declared.item.Form.TheVariants as form
use Rattle.text_pieces.specs.declared.item.Item.{Item}
use Rattle.text_pieces.specs.declared.item.Item.TheVariants as item
use Rattle.text_pieces.specs.declared.piece.Gap.TheVariants as line
use Rattle.text_pieces.specs.declared.item.Many.{Many as Ways}
use Rattle.text_pieces.specs.declared.item.Many.TheVariants as many
use Rattle.text_pieces.specs.Forms.{form_pieces, text_pieces_of, when, word_piece}
use Rattle.text_pieces.specs.Layouts.{apart_layout_of, layout_of}
use Rattle.text_pieces.specs.Leaves.{is_declaration, is_declaration_at, is_default_alone, is_empty_list, is_expression_at, is_expression_statement, is_let, is_lone_at, is_lone_of, is_named, is_set_at, is_set_in, is_set_of, items_of, lone_name, lone_span, may_comma as takes_comma_behind, only_name, text_at, text_in}
use Rattle.text_pieces.specs.Pieces.{Written, apart_in, behind_commas, chosen, closing_part, each_in, form_in, item_pieces, items_at, items_pieces, layout_pieces, lines, lone_in, lone_piece, opening_part, pieces_in, quoted_piece, regex_piece, specified, template_from, template_piece, template_pieces, with_commas, within_in, written, written_step, written_with}
use Rattle.text_pieces.specs.Tokens.{Piece, closes, gap, here, may_braces, may_comma, may_from, never, parameter, punctuator, word}
use Rattle.text_walk.proofs.Walked.{each_items, list_pieces, tree_apart, tree_pieces, tree_within}
use Rattle.text_kept_laws.proofs.PiecesSeen.{Pairwise, Seen, commas_seen, default_seen, function_row, holes_seen, pairwise_same, seen_list, seen_same, seen_tree, some_seen}

-- the text of a plain name that may stand in parentheses
abbrev pub lone_pieces : Option (List ℕ) → List Piece
lone_pieces (Some a) = parameter a ∷ []
lone_pieces None = []

pairwise_long : (ts us : List Node) → Pairwise ts us → length ts ≡ length us
pairwise_long [] [] s = refl
pairwise_long (t ∷ ts) (u ∷ us) s = ap suc (pairwise_long ts us s.1)
pairwise_long [] (u ∷ us) s = absurd s
pairwise_long (t ∷ ts) [] s = absurd s

list_step : (ts : List Node) → written false (Many ts) ≡ written_step false (Node-F.List (map (written false) ts))
list_step ts = search (rules, the_lemmas)

pub tree_step : (k : Kind) (ts : List Node) → written false (Tree k ts) ≡ written_step false (Node-F.Tree k (map (written false) ts))
tree_step k ts = search (rules, the_lemmas)

-- ---- related pieces

abbrev pub Lists : (List Piece → List Piece → Type 0) → List (List Piece) → List (List Piece) → Type 0
Lists R [] [] = Unit {0}
Lists R (ps ∷ pss) (qs ∷ qss) = R ps qs × Lists R pss qss
Lists R _ _ = ⊥

-- what a field is written with
abbrev pub Each' : (List Piece → List Piece → Type 0) → Option (List Node × List (List Piece)) → Option (List Node × List (List Piece)) → Type 0
Each' R (Some x) (Some y) = Pairwise x.0 y.0 × Lists R x.1 y.1
Each' R None None = Unit {0}
Each' R _ _ = ⊥

pub record Stands (R : List Piece → List Piece → Type 0) (w v : Written) : Type 0 where
  pub of_pieces : R w.pieces v.pieces
  pub of_each : Each' R w.each v.each

-- what a layout sees of a field by its form alone; `wide` says that its place takes what the first node lacks
pub record Looks (R : List Piece → List Piece → Type 0) (wide : Bool) (t u : Node) : Type 0 where
  pub seen : Seen t u
  pub items : Pairwise (items_of (out-Node t)) (items_of (out-Node u))
  pub function : wide ≡ false → (n : ℕ) → is_set_in n (out-Node t) ≡ is_set_in n (out-Node u)
  pub only : wide ≡ false → is_some (lone_name (out-Node t)) ≡ is_some (lone_name (out-Node u))
  pub lone : wide ≡ false → R (lone_pieces (lone_name (out-Node t))) (lone_pieces (lone_name (out-Node u)))
  pub let_ends : R (when (is_let (out-Node t)) (closes ending.Let)) (when (is_let (out-Node u)) (closes ending.Let))

-- what its parent may write something of, wherever it stands
abbrev pub is_own : Node-F Node → Bool
is_own x = is_declaration x || is_expression_statement x

pub record Kept (R : List Piece → List Piece → Type 0) (wide : Bool) (t u : Node) : Type 0 where
  pub looks : Looks R wide t u
  pub stands : Stands R (written false t) (written false u)
  pub within : wide ≡ false → R (written false t).within (written false u).within
  pub apart : (wide ≡ true → is_own (out-Node t) ≡ true) → R (written false t).apart (written false u).apart

-- fields, of which it is said whose places are wide
abbrev pub AllKept : (List Piece → List Piece → Type 0) → (ℕ → Bool) → List Node → List Node → Type 0
AllKept R wide [] [] = Unit {0}
AllKept R wide (t ∷ ts) (u ∷ us) = Kept R (wide zero) t u × AllKept R (λ n. wide (suc n)) ts us
AllKept R wide _ _ = ⊥

-- what an item of a layout asks of the places of fields
abbrev pub is_free : Bool → Form → Bool
is_free wide form.Async = not wide
is_free wide form.Star = not wide
is_free wide (form.SignUnlessLone m) = not wide
is_free wide form.CommaUnlessLone = not wide
is_free wide f = true

abbrev pub item_free : (ℕ → Bool) → Item → Bool
item_free wide (item.Of n f) = is_free (wide n) f
item_free wide (item.Within n) = not (wide n)
item_free wide (item.Apart n m) = not (wide m)
item_free wide (item.Lone n) = not (wide n)
item_free wide (item.Others n) = not (wide n)
item_free wide i = true

abbrev pub layout_free : (ℕ → Bool) → List Item → Bool
layout_free wide is = list_all (item_free wide) is

pub pairwise_kept : (R : List Piece → List Piece → Type 0) (wide : ℕ → Bool) (ts us : List Node) → AllKept R wide ts us → Pairwise ts us
pairwise_kept R wide [] [] h = tt
pairwise_kept R wide (t ∷ ts) (u ∷ us) h = (h.0.looks.seen, pairwise_kept R (λ n. wide (suc n)) ts us h.1)
pairwise_kept R wide [] (u ∷ us) h = absurd h
pairwise_kept R wide (t ∷ ts) [] h = absurd h

-- fields by their numbers
abbrev BothStand : (List Piece → List Piece → Type 0) → Option Written → Option Written → Type 0
BothStand R (Some w) (Some v) = Stands R w v
BothStand R None None = Unit {0}
BothStand R _ _ = ⊥

abbrev BothLook : (List Piece → List Piece → Type 0) → Bool → Option Node → Option Node → Type 0
BothLook R wide (Some t) (Some u) = Looks R wide t u
BothLook R wide None None = Unit {0}
BothLook R wide _ _ = ⊥

module _ (R : List Piece → List Piece → Type 0) (same : (ps : List Piece) → R ps ps) (join : (ps qs rs ss : List Piece) → R ps qs → R rs ss → R (ps ++ rs) (qs ++ ss)) where
  -- ---- lists of pieces

  one : (p : Piece) (ps qs : List Piece) → R ps qs → R (p ∷ ps) (p ∷ qs)
  one p ps qs h = join (p ∷ []) (p ∷ []) ps qs (same (p ∷ [])) h

  lines_kept : (pss qss : List (List Piece)) → Lists R pss qss → R (lines pss) (lines qss)
  lines_kept [] [] h = same []
  lines_kept (ps ∷ pss) (qs ∷ qss) h = one (gap line.Line) (ps ++ lines pss) (qs ++ lines qss) (join ps qs (lines pss) (lines qss) h.0 (lines_kept pss qss h.1))
  lines_kept [] (qs ∷ qss) h = absurd h
  lines_kept (ps ∷ pss) [] h = absurd h

  behind_kept : (pss qss : List (List Piece)) → Lists R pss qss → R (behind_commas pss) (behind_commas qss)
  behind_kept [] [] h = same []
  behind_kept (ps ∷ pss) (qs ∷ qss) h = one (punctuator mark.Comma) (ps ++ behind_commas pss) (qs ++ behind_commas qss) (join ps qs (behind_commas pss) (behind_commas qss) h.0 (behind_kept pss qss h.1))
  behind_kept [] (qs ∷ qss) h = absurd h
  behind_kept (ps ∷ pss) [] h = absurd h

  commas_kept : (pss qss : List (List Piece)) → Lists R pss qss → R (with_commas pss) (with_commas qss)
  commas_kept [] [] h = same []
  commas_kept (ps ∷ pss) (qs ∷ qss) h = join ps qs (behind_commas pss) (behind_commas qss) h.0 (behind_kept pss qss h.1)
  commas_kept [] (qs ∷ qss) h = absurd h
  commas_kept (ps ∷ pss) [] h = absurd h

  specified_kept : (some inside : Bool) (ts us : List Node) (pss qss : List (List Piece)) → Pairwise ts us → Lists R pss qss → R (specified some inside ts pss) (specified some inside us qss)
  specified_kept some inside [] [] pss qss s h = same (when inside may_comma ++ when inside (punctuator mark.RightBrace))
  specified_kept some inside (t ∷ ts) (u ∷ us) [] [] s h = same (when inside may_comma ++ when inside (punctuator mark.RightBrace))
  specified_kept some inside (t ∷ ts) (u ∷ us) (ps ∷ pss) (qs ∷ qss) s h =
      let front : List Piece = when some (punctuator mark.Comma) ++ when (is_named (out-Node t) && not inside) (punctuator mark.LeftBrace) in
      subst (λ (b : Bool). R (specified some inside (t ∷ ts) (ps ∷ pss)) (when some (punctuator mark.Comma) ++ when (b && not inside) (punctuator mark.LeftBrace) ++ qs ++ specified true (inside || b) us qss)) s.0.named
      (join (front ++ ps) (front ++ qs) (specified true (inside || is_named (out-Node t)) ts pss) (specified true (inside || is_named (out-Node t)) us qss) (join front front ps qs (same front) h.0)
      (specified_kept true (inside || is_named (out-Node t)) ts us pss qss s.1 h.1))
  specified_kept some inside [] (u ∷ us) pss qss s h = absurd s
  specified_kept some inside (t ∷ ts) [] pss qss s h = absurd s
  specified_kept some inside (t ∷ ts) (u ∷ us) [] (qs ∷ qss) s h = absurd h
  specified_kept some inside (t ∷ ts) (u ∷ us) (ps ∷ pss) [] s h = absurd h

  parts_kept : (some : Bool) (ts us : List Node) (pss qss : List (List Piece)) → Pairwise ts us → Lists R pss qss → R (template_from false some ts pss) (template_from false some us qss)
  parts_kept some [] [] pss qss s h = same (never ∷ [])
  parts_kept some (t ∷ ts) (u ∷ us) [] [] s h = subst (λ (p : Piece). R (template_from false some (t ∷ ts) []) (p ∷ [])) (s.0.part (closing_part some)) (same (template_piece (closing_part some) (out-Node t) ∷ []))
  parts_kept some (t ∷ ts) (u ∷ us) (ps ∷ pss) (qs ∷ qss) s h =
      subst (λ (p : Piece). R (template_from false some (t ∷ ts) (ps ∷ pss)) (p ∷ qs ++ template_from false true us qss)) (s.0.part (opening_part some))
      (one (template_piece (opening_part some) (out-Node t)) (ps ++ template_from false true ts pss) (qs ++ template_from false true us qss)
      (join ps qs (template_from false true ts pss) (template_from false true us qss) h.0 (parts_kept true ts us pss qss s.1 h.1)))
  parts_kept some [] (u ∷ us) pss qss s h = absurd s
  parts_kept some (t ∷ ts) [] pss qss s h = absurd s
  parts_kept some (t ∷ ts) (u ∷ us) [] (qs ∷ qss) s h = absurd h
  parts_kept some (t ∷ ts) (u ∷ us) (ps ∷ pss) [] s h = absurd h

  as_many : (pss qss : List (List Piece)) → Lists R pss qss → length pss ≡ length qss
  as_many [] [] h = refl
  as_many (ps ∷ pss) (qs ∷ qss) h = ap suc (as_many pss qss h.1)
  as_many [] (qs ∷ qss) h = absurd h
  as_many (ps ∷ pss) [] h = absurd h

  template_kept : (ts us : List Node) (pss qss : List (List Piece)) → Pairwise ts us → Lists R pss qss → R (template_pieces false ts pss) (template_pieces false us qss)
  template_kept ts us pss qss s h =
      subst (λ (n : ℕ). R (template_pieces false ts pss) (if n == length qss + 1 then template_from false false us qss else never ∷ [])) (pairwise_long ts us s)
      (subst (λ (n : ℕ). R (template_pieces false ts pss) (if length ts == n + 1 then template_from false false us qss else never ∷ [])) (as_many pss qss h) (by (length ts == length pss + 1)))
    where
      by : (b : Bool) → R (if b then template_from false false ts pss else never ∷ []) (if b then template_from false false us qss else never ∷ [])
      by true = parts_kept false ts us pss qss s h
      by false = same (never ∷ [])

  -- ---- fields by their numbers

  stand_at : (wide : ℕ → Bool) (ts us : List Node) → AllKept R wide ts us → (n : ℕ) → BothStand R (slice_get (map (written false) ts) n) (slice_get (map (written false) us) n)
  stand_at wide [] [] h n = tt
  stand_at wide (t ∷ ts) (u ∷ us) h zero = h.0.stands
  stand_at wide (t ∷ ts) (u ∷ us) h (suc n) = stand_at (λ n. wide (suc n)) ts us h.1 n
  stand_at wide [] (u ∷ us) h n = absurd h
  stand_at wide (t ∷ ts) [] h n = absurd h

  look_at : (wide : ℕ → Bool) (ts us : List Node) → AllKept R wide ts us → (n : ℕ) → BothLook R (wide n) (slice_get ts n) (slice_get us n)
  look_at wide [] [] h n = tt
  look_at wide (t ∷ ts) (u ∷ us) h zero = h.0.looks
  look_at wide (t ∷ ts) (u ∷ us) h (suc n) = look_at (λ n. wide (suc n)) ts us h.1 n
  look_at wide [] (u ∷ us) h n = absurd h
  look_at wide (t ∷ ts) [] h n = absurd h

  part_kept : (w v : Option Written) → BothStand R w v → R (pieces_in w) (pieces_in v)
  part_kept (Some w) (Some v) h = h.of_pieces
  part_kept None None h = same []
  part_kept (Some w) None h = absurd h
  part_kept None (Some v) h = absurd h

  each_kept : (w v : Option Written) → BothStand R w v → Each' R (each_in w) (each_in v)
  each_kept (Some w) (Some v) h = h.of_each
  each_kept None None h = tt
  each_kept (Some w) None h = absurd h
  each_kept None (Some v) h = absurd h

  set_kept : (wide : Bool) (t u : Option Node) → BothLook R wide t u → is_set_of t ≡ is_set_of u
  set_kept wide (Some t) (Some u) h = h.seen.set
  set_kept wide None None h = refl
  set_kept wide (Some t) None h = absurd h
  set_kept wide None (Some u) h = absurd h

  lone_kept : (wide : Bool) (t u : Option Node) → wide ≡ false → BothLook R wide t u → is_lone_of t ≡ is_lone_of u
  lone_kept wide (Some t) (Some u) o h = h.only o
  lone_kept wide None None o h = refl
  lone_kept wide (Some t) None o h = absurd h
  lone_kept wide None (Some u) o h = absurd h

  text_kept : (wide : Bool) (t u : Option Node) → BothLook R wide t u → text_in t ≡ text_in u
  text_kept wide (Some t) (Some u) h = h.seen.text
  text_kept wide None None h = refl
  text_kept wide (Some t) None h = absurd h
  text_kept wide None (Some u) h = absurd h

  texts_kept : (wide : ℕ → Bool) (ts us : List Node) → AllKept R wide ts us → (n : ℕ) → Pairwise (items_at ts n) (items_at us n)
  texts_kept wide [] [] h n = tt
  texts_kept wide (t ∷ ts) (u ∷ us) h zero = h.0.looks.items
  texts_kept wide (t ∷ ts) (u ∷ us) h (suc n) = texts_kept (λ n. wide (suc n)) ts us h.1 n
  texts_kept wide [] (u ∷ us) h n = absurd h
  texts_kept wide (t ∷ ts) [] h n = absurd h

  -- ---- what is written by a form

  equal : (ps qs : List Piece) → ps ≡ qs → R ps qs
  equal ps qs e = subst (R ps) e (same ps)

  whens : (b c : Bool) (p : Piece) → b ≡ c → R (when b p) (when c p)
  whens b c p e = equal (when b p) (when c p) (ap (λ b. when b p) e)

  closed : (e f : Ending) → e ≡ f → R (closes e ∷ []) (closes f ∷ [])
  closed e f h = equal (closes e ∷ []) (closes f ∷ []) (ap (λ e. closes e ∷ []) h)

  closed_off : (wide : Bool) → not wide ≡ true → wide ≡ false
  closed_off true h = absurd (cc)
  closed_off false h = refl

  module _ (wide : Bool) (t u : Node) (h : Looks R wide t u) where
    commas_same : takes_comma_behind (out-Node t) ≡ takes_comma_behind (out-Node u)
    commas_same = commas_seen (items_of (out-Node t)) (items_of (out-Node u)) h.items

    texts_written : (f : Form) → R (text_pieces_of f (text_of t)) (text_pieces_of f (text_of u))
    texts_written f = equal _ _ (ap (text_pieces_of f) h.seen.text)

    form_kept : (f : Form) → is_free wide f ≡ true → R (form_pieces f t) (form_pieces f u)
    form_kept (form.SignIf m) q = whens _ _ (punctuator m) h.seen.set
    form_kept (form.SignUnlessLone m) q = whens _ _ (punctuator m) (ap not (h.only (closed_off wide q)))
    form_kept (form.WordIf k) q = whens _ _ (word_piece k) h.seen.set
    form_kept (form.WordUnless k) q = whens _ _ (word_piece k) (ap not h.seen.set)
    form_kept (form.WordIfAny k) q = whens _ _ (word_piece k) (some_seen (items_of (out-Node t)) (items_of (out-Node u)) h.items)
    form_kept form.HereIf q = whens _ _ here h.seen.set
    form_kept form.HereUnless q = whens _ _ here (ap not h.seen.set)
    form_kept (form.EndingUnless e) q = whens _ _ (closes e) (ap not h.seen.set)
    form_kept form.Comma q = whens _ _ may_comma commas_same
    form_kept form.CommaUnlessLone q = whens _ _ may_comma (ap (λ b. b && not (is_some (lone_name (out-Node t)))) commas_same ∙ ap (λ b. takes_comma_behind (out-Node u) && not b) (h.only (closed_off wide q)))
    form_kept form.Hole q = whens _ _ (punctuator mark.Comma) (holes_seen (items_of (out-Node t)) (items_of (out-Node u)) h.items)
    form_kept form.Dot q = whens _ _ (punctuator mark.Dot) (ap not h.seen.computed)
    form_kept form.Accessor q = equal _ _ h.seen.access
    form_kept form.Async q = equal _ _ (ap (λ b. if b then word (codes "async") ∷ here ∷ [] else []) (h.function (closed_off wide q) 4))
    form_kept form.Star q = whens _ _ (punctuator mark.Mul) (h.function (closed_off wide q) 3)
    form_kept form.Meta q = equal _ _ h.seen.metas
    form_kept form.Attributes q = equal _ _ h.seen.others
    form_kept form.Bare q = equal _ _ (
        ap (λ b. if b then may_from ∷ [] else if is_default_alone (out-Node t) then may_braces ∷ [] else []) h.seen.list
        ∙ ap (λ b. if is_empty_list (out-Node u) then may_from ∷ [] else if b then may_braces ∷ [] else []) (default_seen (items_of (out-Node t)) (items_of (out-Node u)) h.items)
        )
    form_kept form.Braces q = equal _ _ (ap (λ b. if b then punctuator mark.LeftBrace ∷ punctuator mark.RightBrace ∷ [] else []) h.seen.list)
    form_kept form.BlockEnding q = whens _ _ (closes ending.Closed) h.seen.block
    form_kept form.KeyEnding q = closed _ _ h.seen.key
    form_kept form.LetEnding q = h.let_ends
    form_kept form.FromEnding q = closed _ _ h.seen.from
    form_kept form.Name q = texts_written form.Name
    form_kept form.Number q = texts_written form.Number
    form_kept form.BigInt q = texts_written form.BigInt
    form_kept form.Private q = texts_written form.Private
    form_kept form.Hashbang q = texts_written form.Hashbang

  form_in_kept : (wide : Bool) (f : Form) (t u : Option Node) → is_free wide f ≡ true → BothLook R wide t u → R (form_in f t) (form_in f u)
  form_in_kept wide f (Some t) (Some u) q h = form_kept wide t u h f q
  form_in_kept wide f None None q h = same []
  form_in_kept wide f (Some t) None q h = absurd h
  form_in_kept wide f None (Some u) q h = absurd h

  lone_of : (a : Option (List ℕ)) (t : Node) → lone_piece false (lone_span (out-Node t)) a ≡ lone_pieces a
  lone_of (Some a) t = refl
  lone_of None t = refl

  lone_in_kept : (wide : Bool) (t u : Option Node) → wide ≡ false → BothLook R wide t u → R (lone_in false t) (lone_in false u)
  lone_in_kept wide (Some t) (Some u) o h =
      subst (λ (l : List Piece). R l (lone_in false (Some u))) (sym (lone_of (lone_name (out-Node t)) t))
      (subst (λ (l : List Piece). R (lone_pieces (lone_name (out-Node t))) l) (sym (lone_of (lone_name (out-Node u)) u)) (h.lone o))
  lone_in_kept wide None None o h = same []
  lone_in_kept wide (Some t) None o h = absurd h
  lone_in_kept wide None (Some u) o h = absurd h

  -- ---- what its parent may have apart

  left_own : (b c : Bool) → b ≡ true → (b || c) ≡ true
  left_own true c e = refl
  left_own false c e = absurd (cc)

  right_own : (b c : Bool) → c ≡ true → (b || c) ≡ true
  right_own true c e = refl
  right_own false c e = e

  choice : (wide : Bool) (t u : Node) → Kept R wide t u → (b c : Bool) → b ≡ c → (b ≡ true → is_own (out-Node t) ≡ true) → R (chosen b (Some (written false t))) (chosen c (Some (written false u)))
  choice wide t u h b c e own = subst (λ (c : Bool). R (chosen b (Some (written false t))) (chosen c (Some (written false u)))) e (by b own)
    where
      by : (b : Bool) → (b ≡ true → is_own (out-Node t) ≡ true) → R (chosen b (Some (written false t))) (chosen b (Some (written false u)))
      by true own = h.apart (λ o. own refl)
      by false own = h.stands.of_pieces

  head_at : (wide : ℕ → Bool) (ts us : List Node) → AllKept R wide ts us → (n : ℕ)
      → R (chosen (is_declaration_at ts n) (slice_get (map (written false) ts) n)) (chosen (is_declaration_at us n) (slice_get (map (written false) us) n))
  head_at wide [] [] h n = same []
  head_at wide (t ∷ ts) (u ∷ us) h zero =
      choice (wide zero) t u h.0 (is_declaration (out-Node t)) (is_declaration (out-Node u)) h.0.looks.seen.declaration (left_own (is_declaration (out-Node t)) (is_expression_statement (out-Node t)))
  head_at wide (t ∷ ts) (u ∷ us) h (suc n) = head_at (λ n. wide (suc n)) ts us h.1 n
  head_at wide [] (u ∷ us) h n = absurd h
  head_at wide (t ∷ ts) [] h n = absurd h

  body_at : (wide : ℕ → Bool) (ts us : List Node) → AllKept R wide ts us → (n : ℕ)
      → R (chosen (is_expression_at ts n) (slice_get (map (written false) ts) n)) (chosen (is_expression_at us n) (slice_get (map (written false) us) n))
  body_at wide [] [] h n = same []
  body_at wide (t ∷ ts) (u ∷ us) h zero =
      choice (wide zero) t u h.0 (is_expression_statement (out-Node t)) (is_expression_statement (out-Node u)) h.0.looks.seen.expression (right_own (is_declaration (out-Node t)) (is_expression_statement (out-Node t)))
  body_at wide (t ∷ ts) (u ∷ us) h (suc n) = body_at (λ n. wide (suc n)) ts us h.1 n
  body_at wide [] (u ∷ us) h n = absurd h
  body_at wide (t ∷ ts) [] h n = absurd h

  never_open : (wide : Bool) (A : Type 0) → wide ≡ false → wide ≡ true → A
  never_open true A e f = absurd (cc)
  never_open false A e f = absurd (cc)

  apart_at : (wide : ℕ → Bool) (ts us : List Node) → AllKept R wide ts us → (n : ℕ) → wide n ≡ false → R (apart_in (slice_get (map (written false) ts) n)) (apart_in (slice_get (map (written false) us) n))
  apart_at wide [] [] h n e = same []
  apart_at wide (t ∷ ts) (u ∷ us) h zero e = h.0.apart (λ o. never_open (wide zero) (is_own (out-Node t) ≡ true) e o)
  apart_at wide (t ∷ ts) (u ∷ us) h (suc n) e = apart_at (λ n. wide (suc n)) ts us h.1 n e
  apart_at wide [] (u ∷ us) h n e = absurd h
  apart_at wide (t ∷ ts) [] h n e = absurd h

  within_at : (wide : ℕ → Bool) (ts us : List Node) → AllKept R wide ts us → (n : ℕ) → wide n ≡ false → R (within_in (slice_get (map (written false) ts) n)) (within_in (slice_get (map (written false) us) n))
  within_at wide [] [] h n e = same []
  within_at wide (t ∷ ts) (u ∷ us) h zero e = h.0.within e
  within_at wide (t ∷ ts) (u ∷ us) h (suc n) e = within_at (λ n. wide (suc n)) ts us h.1 n e
  within_at wide [] (u ∷ us) h n e = absurd h
  within_at wide (t ∷ ts) [] h n e = absurd h

  apart_kept : (wide : ℕ → Bool) (ts us : List Node) (h : AllKept R wide ts us) (b c : Bool) (m : ℕ) → b ≡ c → wide m ≡ false → R (chosen b (slice_get (map (written false) ts) m)) (chosen c (slice_get (map (written false) us) m))
  apart_kept wide ts us h b c m e o = subst (λ (c : Bool). R (chosen b (slice_get (map (written false) ts) m)) (chosen c (slice_get (map (written false) us) m))) e (by b)
    where
      by : (b : Bool) → R (chosen b (slice_get (map (written false) ts) m)) (chosen b (slice_get (map (written false) us) m))
      by true = apart_at wide ts us h m o
      by false = part_kept _ _ (stand_at wide ts us h m)

  -- ---- one item of a layout

  asked_kept : (b c : Bool) (w v : Option Written) → b ≡ c → BothStand R w v → R (if b then pieces_in w else []) (if c then pieces_in v else [])
  asked_kept b c w v e h = subst (λ (c : Bool). R (if b then pieces_in w else []) (if c then pieces_in v else [])) e (by b)
    where
      by : (b : Bool) → R (if b then pieces_in w else []) (if b then pieces_in v else [])
      by true = part_kept w v h
      by false = same []

  many_kept : (m : Ways) (texts others : List Node) (x y : Option (List Node × List (List Piece))) → Pairwise texts others → Each' R x y → R (items_pieces false m texts x) (items_pieces false m others y)
  many_kept many.List texts others (Some x) (Some y) s h = commas_kept x.1 y.1 h.1
  many_kept many.Specifiers texts others (Some x) (Some y) s h = specified_kept false false x.0 y.0 x.1 y.1 h.0 h.1
  many_kept many.Template texts others (Some x) (Some y) s h = template_kept texts others x.1 y.1 s h.1
  many_kept m texts others None None s h = same []
  many_kept m texts others (Some x) None s h = absurd h
  many_kept m texts others None (Some y) s h = absurd h

  others_kept : (b c : Bool) (x y : Option (List Node × List (List Piece))) → b ≡ c → Each' R x y → R (if b then [] else items_pieces false many.List [] x) (if c then [] else items_pieces false many.List [] y)
  others_kept b c x y e h = subst (λ (c : Bool). R (if b then [] else items_pieces false many.List [] x) (if c then [] else items_pieces false many.List [] y)) e (by b)
    where
      by : (b : Bool) → R (if b then [] else items_pieces false many.List [] x) (if b then [] else items_pieces false many.List [] y)
      by true = same []
      by false = many_kept many.List [] [] x y tt h

  dots_kept : (b c : Bool) → b ≡ c → R (if b then punctuator mark.Dots ∷ [] else []) (if c then punctuator mark.Dots ∷ [] else [])
  dots_kept b c e = equal _ _ (ap (λ b. if b then punctuator mark.Dots ∷ [] else []) e)

  quoted_kept : (a b raw other : Option (List ℕ)) → a ≡ b → raw ≡ other → R (quoted_piece a raw) (quoted_piece b other)
  quoted_kept a b raw other e f = equal _ _ (ap (λ a. quoted_piece a raw) e ∙ ap (quoted_piece b) f)

  regex_kept : (a b flags others : Option (List ℕ)) → a ≡ b → flags ≡ others → R (regex_piece a flags) (regex_piece b others)
  regex_kept a b flags others e f = equal _ _ (ap (λ a. regex_piece a flags) e ∙ ap (regex_piece b) f)

  module _ (wide : ℕ → Bool) (ts us : List Node) (h : AllKept R wide ts us) where
    part_there : (n : ℕ) → R (pieces_in (slice_get (map (written false) ts) n)) (pieces_in (slice_get (map (written false) us) n))
    part_there n = part_kept (slice_get (map (written false) ts) n) (slice_get (map (written false) us) n) (stand_at wide ts us h n)

    each_there : (n : ℕ) → Each' R (each_in (slice_get (map (written false) ts) n)) (each_in (slice_get (map (written false) us) n))
    each_there n = each_kept (slice_get (map (written false) ts) n) (slice_get (map (written false) us) n) (stand_at wide ts us h n)

    set_there : (n : ℕ) → is_set_at ts n ≡ is_set_at us n
    set_there n = set_kept (wide n) (slice_get ts n) (slice_get us n) (look_at wide ts us h n)

    text_there : (n : ℕ) → text_at ts n ≡ text_at us n
    text_there n = text_kept (wide n) (slice_get ts n) (slice_get us n) (look_at wide ts us h n)

    list_there : (m : Ways) (n : ℕ) → R (items_pieces false m [] (each_in (slice_get (map (written false) ts) n))) (items_pieces false m [] (each_in (slice_get (map (written false) us) n)))
    list_there m n = many_kept m [] [] (each_in (slice_get (map (written false) ts) n)) (each_in (slice_get (map (written false) us) n)) tt (each_there n)

    asked_there : (b c : Bool) (n : ℕ) → b ≡ c → R (if b then pieces_in (slice_get (map (written false) ts) n) else []) (if c then pieces_in (slice_get (map (written false) us) n) else [])
    asked_there b c n e = asked_kept b c (slice_get (map (written false) ts) n) (slice_get (map (written false) us) n) e (stand_at wide ts us h n)

    item_kept : (i : Item) → item_free wide i ≡ true → R (item_pieces false ts (map (written false) ts) i) (item_pieces false us (map (written false) us) i)
    item_kept (item.Sign m) q = same _
    item_kept (item.Word k) q = same _
    item_kept (item.Part n) q = part_there n
    item_kept (item.Within n) q = within_at wide ts us h n (closed_off (wide n) q)
    item_kept (item.At n m) q = part_there m
    item_kept (item.Dots n) q = dots_kept (is_set_at ts n) (is_set_at us n) (set_there n)
    item_kept (item.Lone n) q = lone_in_kept (wide n) (slice_get ts n) (slice_get us n) (closed_off (wide n) q) (look_at wide ts us h n)
    item_kept (item.Head n) q = head_at wide ts us h n
    item_kept (item.Body n) q = body_at wide ts us h n
    item_kept (item.Apart n m) q = apart_kept wide ts us h (is_set_at ts n) (is_set_at us n) m (set_there n) (closed_off (wide m) q)
    item_kept (item.If n m) q = asked_there (is_set_at ts n) (is_set_at us n) m (set_there n)
    item_kept (item.Unless n m) q = asked_there (not (is_set_at ts n)) (not (is_set_at us n)) m (ap not (set_there n))
    item_kept (item.List n) q = list_there many.List n
    item_kept (item.Others n) q =
        others_kept (is_lone_at ts n) (is_lone_at us n) (each_in (slice_get (map (written false) ts) n)) (each_in (slice_get (map (written false) us) n))
        (lone_kept (wide n) (slice_get ts n) (slice_get us n) (closed_off (wide n) q) (look_at wide ts us h n)) (each_there n)
    item_kept (item.Specifiers n) q = list_there many.Specifiers n
    item_kept (item.Template n m) q =
        many_kept many.Template (items_at ts n) (items_at us n) (each_in (slice_get (map (written false) ts) m)) (each_in (slice_get (map (written false) us) m)) (texts_kept wide ts us h n) (each_there m)
    item_kept (item.Quoted n m) q = quoted_kept (text_at ts n) (text_at us n) (text_at ts m) (text_at us m) (text_there n) (text_there m)
    item_kept (item.Regex n m) q = regex_kept (text_at ts n) (text_at us n) (text_at ts m) (text_at us m) (text_there n) (text_there m)
    item_kept (item.Of n f) q = form_in_kept (wide n) f (slice_get ts n) (slice_get us n) q (look_at wide ts us h n)
    item_kept item.Here q = same _
    item_kept item.In q = same _
    item_kept item.Out q = same _
    item_kept (item.Closes e) q = same _
    item_kept item.End q = same _
    item_kept item.Never q = same _

    pub layout_kept : (is : List Item) → layout_free wide is ≡ true → R (layout_pieces false ts (map (written false) ts) is) (layout_pieces false us (map (written false) us) is)
    layout_kept [] q = same []
    layout_kept (i ∷ is) q =
        let parts = and_parts (item_free wide i) (layout_free wide is) q in
        join (item_pieces false ts (map (written false) ts) i) (item_pieces false us (map (written false) us) i) (layout_pieces false ts (map (written false) ts) is) (layout_pieces false us (map (written false) us) is)
        (item_kept i parts.0) (layout_kept is parts.1)

  -- ---- nodes

  -- two lists of pieces of which each is what is written otherwise
  pub moved : (ps qs rs ss : List Piece) → ps ≡ rs → qs ≡ ss → R rs ss → R ps qs
  moved ps qs rs ss e f h = subst (λ (l : List Piece). R l qs) (sym e) (subst (R rs) (sym f) h)

  each_piece : (wide : ℕ → Bool) (ts us : List Node) → AllKept R wide ts us → Lists R (map (written_with false) ts) (map (written_with false) us)
  each_piece wide [] [] h = tt
  each_piece wide (t ∷ ts) (u ∷ us) h = (h.0.stands.of_pieces, each_piece (λ n. wide (suc n)) ts us h.1)
  each_piece wide [] (u ∷ us) h = absurd h
  each_piece wide (t ∷ ts) [] h = absurd h

  items_are : (ts : List Node) → items_of (out-Node (Many ts)) ≡ ts
  items_are ts = ap items_of (outs-List ts)

  no_items : (k : Kind) (ts : List Node) → items_of (out-Node (Tree k ts)) ≡ []
  no_items k ts = ap items_of (outs-Tree k ts)

  pub none_items : (ts us : List Node) → ts ≡ [] → us ≡ [] → Pairwise ts us
  none_items ts us e f = subst (λ ts. Pairwise ts us) (sym e) (subst (Pairwise []) (sym f) tt)

  -- a list of items whose one name, where its place asks for that, is written as the other's
  pub list_kept : (wide : ℕ → Bool) (place : Bool) (ts us : List Node) → (place ≡ false → is_some (only_name ts) ≡ is_some (only_name us)) → (place ≡ false → R (lone_pieces (only_name ts)) (lone_pieces (only_name us))) → AllKept R wide ts us → Kept R place (Many ts) (Many us)
  list_kept wide place ts us only lone h = record {
    looks = record {
      seen = seen_list ts us s;
      items = subst (λ l. Pairwise l (items_of (out-Node (Many us)))) (sym (items_are ts)) (subst (Pairwise ts) (sym (items_are us)) s);
      function = λ o n. ap (is_set_in n) (outs-List ts) ∙ sym (ap (is_set_in n) (outs-List us));
      only = λ o. ap (λ l. is_some (only_name l)) (items_are ts) ∙ only o ∙ sym (ap (λ l. is_some (only_name l)) (items_are us));
      lone = λ o. moved _ _ _ _ (ap (λ l. lone_pieces (only_name l)) (items_are ts)) (ap (λ l. lone_pieces (only_name l)) (items_are us)) (lone o);
      let_ends = moved _ _ _ _ (ap (λ x. when (is_let x) (closes ending.Let)) (outs-List ts)) (ap (λ x. when (is_let x) (closes ending.Let)) (outs-List us)) (same []);
    };
    stands = record {
      of_pieces = moved _ _ _ _ (list_pieces false ts) (list_pieces false us) (lines_kept (map (written_with false) ts) (map (written_with false) us) (each_piece wide ts us h));
      of_each = subst (λ x. Each' R x (written false (Many us)).each) (sym (each_items false ts)) (subst (Each' R (Some (ts, map (written_with false) ts))) (sym (each_items false us)) (s, each_piece wide ts us h));
    };
    within = λ o. moved _ _ _ _ (ap (λ (w : Written). w.within) (list_step ts)) (ap (λ (w : Written). w.within) (list_step us)) (same []);
    apart = λ own. moved _ _ _ _ (ap (λ (w : Written). w.apart) (list_step ts)) (ap (λ (w : Written). w.apart) (list_step us)) (same []);
  }
    where
      s : Pairwise ts us
      s = pairwise_kept R wide ts us h

  pub none_each : (x y : Option (List Node × List (List Piece))) → x ≡ None → y ≡ None → Each' R x y
  none_each x y e f = subst (λ x. Each' R x y) (sym e) (subst (Each' R None) (sym f) tt)

  pub tree_kept : (wide : ℕ → Bool) (place : Bool) (k : Kind) (ts us : List Node) → layout_free wide (layout_of k) ≡ true → layout_free wide (apart_layout_of k) ≡ true → AllKept R wide ts us
      → Kept R place (Tree k ts) (Tree k us)
  tree_kept wide place k ts us q a h = record {
    looks = record {
      seen = seen_tree ts us s k;
      items = none_items _ _ (no_items k ts) (no_items k us);
      function = λ o n. function_row ts us s k n;
      only = λ o. ap (λ l. is_some (only_name l)) (no_items k ts) ∙ sym (ap (λ l. is_some (only_name l)) (no_items k us));
      lone = λ o. moved _ _ _ _ (ap (λ l. lone_pieces (only_name l)) (no_items k ts)) (ap (λ l. lone_pieces (only_name l)) (no_items k us)) (same []);
      let_ends = moved _ _ _ _ (ap (λ x. when (is_let x) (closes ending.Let)) (outs-Tree k ts)) (ap (λ x. when (is_let x) (closes ending.Let)) (outs-Tree k us)) (same []);
    };
    stands = record {
      of_pieces = moved _ _ _ _ (tree_pieces false k ts) (tree_pieces false k us) (layout_kept wide ts us h (layout_of k) q);
      of_each = none_each _ _ (ap (λ (w : Written). w.each) (tree_step k ts)) (ap (λ (w : Written). w.each) (tree_step k us));
    };
    within = λ o. moved _ _ _ _ (tree_within false k ts) (tree_within false k us) (layout_kept wide ts us h (layout_of k) q);
    apart = λ own. moved _ _ _ _ (tree_apart false k ts) (tree_apart false k us) (layout_kept wide ts us h (apart_layout_of k) a);
  }
    where
      s : Pairwise ts us
      s = pairwise_kept R wide ts us h

  lists_same : (pss : List (List Piece)) → Lists R pss pss
  lists_same [] = tt
  lists_same (ps ∷ pss) = (same ps, lists_same pss)

  each_same : (x : Option (List Node × List (List Piece))) → Each' R x x
  each_same (Some x) = (pairwise_same x.0, lists_same x.1)
  each_same None = tt

  pub kept_same : (wide : Bool) (t : Node) → Kept R wide t t
  kept_same wide t = record {
    looks = record { seen = seen_same t; items = pairwise_same (items_of (out-Node t)); function = λ o n. refl; only = λ o. refl; lone = λ o. same (lone_pieces (lone_name (out-Node t))); let_ends = same (when (is_let (out-Node t)) (closes ending.Let)) };
    stands = record { of_pieces = same (written false t).pieces; of_each = each_same (written false t).each };
    within = λ o. same (written false t).within;
    apart = λ own. same (written false t).apart;
  }
