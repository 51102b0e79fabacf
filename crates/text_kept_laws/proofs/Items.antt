-- Pieces of what is written out: keys, names of imports and exports, blocks, and exported declarations.
use Rattle.std.proofs.Common.{◌≡◌, ℕ, Bool, true, false, Some, None, Option, List, [], ◌∷◌, ◌++◌, map, append-nil, append_assoc, codes, nat_eq, rules, refl, sym, ap, ◌∙◌, subst}
use Rattle.std.specs.Prelude.{if◌then◌else◌}
use Rattle.std.specs.List.{flat_map}
use Rattle.std.specs.Cmp.Lexicographic.{pointwise}
use Rattle.swc_tree_marks.specs.declared.ident.Ident.{Ident}
use Rattle.swc_tree_node.specs.declared.kind.Kind.{Kind}
use Rattle.swc_tree_node.specs.declared.kind.Kind.TheVariants as kind
use Rattle.swc_tree_node.specs.declared.node.Node.{Node, Absent, Text, Span, List as Many, Identifier, Tree, out-Node, the_lemmas}
use Rattle.swc_tree_node.specs.declared.node.Node.TheOpen.{Node-F}
use Rattle.swc_tree_node.specs.declared.node.Node.TheVariants.{outs-Absent, outs-Flag, outs-Identifier, outs-List, outs-Span, outs-Text, outs-Tree, outs-Word, rolls-Absent}
use Rattle.swc_tree_node.specs.Parts.{text_of}
use Rattle.swc_tree_scoping.specs.BoundNames.{declared_ids}
use Rattle.swc_tree_scoping.specs.Shorthands.{computed_key, key_of, shorthand_key}
use Rattle.swc_tree_scoping.proofs.Remarked.{identifier_is, list_is, rolled, tree_is}
use Rattle.swc_tree_grammar.specs.Blocks.{takes_else, takes_else_step}
use Rattle.swc_tree_grammar.specs.Levels.{is_absent, is_absent_in}
use Rattle.swc_tree_grammar.specs.Normal.{again, again_in, each_once, export_list, made, only_in, opened, opened_in, plain_name as name_again, property, property_in, split, split_in, with_default}
use Rattle.swc_tree_grammar.specs.Shapes.{items_in}
use Rattle.swc_tree_grammar.proofs.Induction.{by_children}
use Rattle.swc_tree_grammar.proofs.Walks.{takes_else_of_tree}
use Rattle.text_lexer.specs.declared.mark.Mark.TheVariants as mark
use Rattle.text_pieces.specs.declared.item.Form.TheVariants as form
use Rattle.text_pieces.specs.declared.keyword.Keyword.TheVariants as keyword
use Rattle.text_pieces.specs.declared.piece.Gap.TheVariants as line
use Rattle.text_pieces.specs.Forms.{text_pieces_of, when, word_piece}
use Rattle.text_pieces.specs.Leaves.{is_expression_statement, is_set, text_at}
use Rattle.text_pieces.specs.Pieces.{Written, chosen, lines, quoted_piece, written, written_step as pieces_step, written_with}
use Rattle.text_pieces.specs.Tokens.{Piece, gap, name, never as no_piece, punctuator, quoted, word}
use Rattle.text_walk.proofs.Walked.{list_pieces, tree_pieces}
use Rattle.text_kept_laws.proofs.PiecesRows.{Kept, kept_same}
use Rattle.text_kept_laws.proofs.Plain.{name_pieces, never, plain_name, plain_tree}
use Rattle.text_kept_laws.specs.Written.{in_braces}
use Rattle.text_kept_laws.specs.Written.AsWritten.{after, again as twice, block, computed, join, keyed, listed, same}
use Rattle.text_kept_laws.proofs.Steps.{R, before, behind, equal, even, plain_kept, stated}

abbrev pub W : Node → List Piece
W t = written_with false t

pub still : (t : Node) → Kept R true t t
still t = kept_same R even join true t

-- ---- what is left out

pub absent_is : (t : Node) → is_absent t ≡ true → t ≡ Absent
absent_is t h = by (out-Node t) refl h
  where
    by : (y : Node-F Node) → out-Node t ≡ y → is_absent_in y ≡ true → t ≡ Absent
    by Node-F.Absent o h = rolled t Node-F.Absent o ∙ rolls-Absent
    by y o h = never (sym h)

absent_step : written false Absent ≡ pieces_step false Node-F.Absent
absent_step = search (rules, the_lemmas)

absent_pieces : W Absent ≡ []
absent_pieces = ap (λ (w : Written). w.pieces) absent_step

-- a piece and a node behind it, which are not written if the node is left out
abbrev led : Piece → Node → List Piece
led p v = when (is_set (out-Node v)) p ++ (W v ++ [])

none_led : (p : Piece) (v : Node) → is_absent v ≡ true → led p v ≡ []
none_led p v e = ap (led p) (absent_is v e) ∙ ap (λ x. when (is_set x) p ++ (W Absent ++ [])) outs-Absent ∙ ap (λ l. l ++ []) absent_pieces

some_led : (p : Piece) (v : Node) → is_set (out-Node v) ≡ true → led p v ≡ p ∷ W v ++ []
some_led p v e = ap (λ b. when b p ++ (W v ++ [])) e

-- ---- keys

text_is : (x : List ℕ) → text_of (Text x) ≡ Some x
text_is x = search (rules, the_lemmas)

key_pieces : (i : Ident) → W (key_of i) ≡ name i.sym ∷ []
key_pieces i = tree_pieces false kind.IdentName (Span i.span ∷ Text i.sym ∷ []) ∙ ap (λ o. text_pieces_of form.Name o ++ []) (text_is i.sym)

abbrev with_key : List Piece → List Piece → List Piece
with_key key value = key ++ punctuator mark.Colon ∷ value

-- the name that is key and value of a property
property_pieces : (key : Node) (k : Kind) (i : Ident) → W (Tree kind.KeyValueProp (key ∷ Identifier k i ∷ [])) ≡ with_key (W key) (name i.sym ∷ [])
property_pieces key k i = tree_pieces false kind.KeyValueProp (key ∷ Identifier k i ∷ []) ∙ ap (λ l. with_key (W key) (l ++ [])) (name_pieces k i)

shorthand : (k : Kind) (i : Ident) → R (name i.sym ∷ []) (W (Tree kind.KeyValueProp (shorthand_key i ∷ Identifier k i ∷ [])))
shorthand k i = by (pointwise nat_eq i.sym (codes "__proto__"))
  where
    by : (b : Bool) → R (name i.sym ∷ []) (W (Tree kind.KeyValueProp ((if b then computed_key i else key_of i) ∷ Identifier k i ∷ [])))
    by true = stated _ _ _ _ refl (property_pieces (computed_key i) k i) (computed i)
    by false = stated _ _ _ _ refl (property_pieces (key_of i) k i ∙ ap (λ l. with_key l (name i.sym ∷ [])) (key_pieces i)) (keyed i.sym)

named_property : (k : Kind) (i : Ident) → Kept R true (Identifier k i) (Tree kind.KeyValueProp (shorthand_key i ∷ Identifier k i ∷ []))
named_property k i =
    plain_kept false (Identifier k i) (Tree kind.KeyValueProp (shorthand_key i ∷ Identifier k i ∷ [])) (plain_name k i) (plain_tree kind.KeyValueProp (shorthand_key i ∷ Identifier k i ∷ []) refl)
    (stated _ _ _ _ (name_pieces k i) refl (shorthand k i))

pub property_kept : (t : Node) → Kept R true t (property t)
property_kept t = by (out-Node t) refl
  where
    by : (y : Node-F Node) → out-Node t ≡ y → Kept R true t (property_in t y)
    by (Node-F.Identifier k i) o = subst (λ t. Kept R true t (Tree kind.KeyValueProp (shorthand_key i ∷ t ∷ []))) (sym (identifier_is t k i o)) (named_property k i)
    by (Node-F.Tree k ts) o = still t
    by (Node-F.List ts) o = still t
    by Node-F.Absent o = still t
    by (Node-F.Flag x) o = still t
    by (Node-F.Word x) o = still t
    by (Node-F.Text x) o = still t
    by (Node-F.Span x) o = still t

-- the same in a pattern, where a default may stand behind it
module _ (a v : Node) (k : Kind) (i : Ident) (set : is_absent v ≡ false → is_set (out-Node v) ≡ true) where
  abbrev n : Node
  n = Identifier k i

  abbrev equals : Piece
  equals = punctuator mark.Assign

  short_pieces : W (Tree kind.AssignPatProp (a ∷ Identifier k i ∷ v ∷ [])) ≡ name i.sym ∷ led (punctuator mark.Assign) v
  short_pieces = tree_pieces false kind.AssignPatProp (a ∷ n ∷ v ∷ []) ∙ ap (λ l. l ++ led equals v) (name_pieces k i)

  long_pieces : (value : Node) → W (Tree kind.KeyValuePatProp (key_of i ∷ value ∷ [])) ≡ with_key (name i.sym ∷ []) (W value ++ [])
  long_pieces value = tree_pieces false kind.KeyValuePatProp (key_of i ∷ value ∷ []) ∙ ap (λ l. with_key l (W value ++ [])) (key_pieces i)

  default_pieces : (s : Node) → W (Tree kind.AssignPat (s ∷ Identifier k i ∷ v ∷ [])) ≡ name i.sym ∷ punctuator mark.Assign ∷ W v ++ []
  default_pieces s = tree_pieces false kind.AssignPat (s ∷ n ∷ v ∷ []) ∙ ap (λ l. l ++ (equals ∷ (W v ++ []))) (name_pieces k i)

  pattern_keyed : (b : Bool) → is_absent v ≡ b → R (W (Tree kind.AssignPatProp (a ∷ Identifier k i ∷ v ∷ []))) (W (Tree kind.KeyValuePatProp (key_of i ∷ (if b then Identifier k i else Tree kind.AssignPat (Span i.span ∷ Identifier k i ∷ v ∷ [])) ∷ [])))
  pattern_keyed true e =
      stated _ _ (name i.sym ∷ []) (with_key (name i.sym ∷ []) (name i.sym ∷ [])) (short_pieces ∙ ap (λ l. name i.sym ∷ l) (none_led equals v e))
      (long_pieces n ∙ ap (λ l. with_key (name i.sym ∷ []) (l ++ [])) (name_pieces k i)) (keyed i.sym)
  pattern_keyed false e =
      let rest : List Piece = equals ∷ W v ++ [] in
      stated _ _ (name i.sym ∷ rest) (with_key (name i.sym ∷ []) (name i.sym ∷ rest)) (short_pieces ∙ ap (λ l. name i.sym ∷ l) (some_led equals v (set e)))
      (long_pieces (Tree kind.AssignPat (Span i.span ∷ n ∷ v ∷ [])) ∙ ap (λ l. with_key (name i.sym ∷ []) (l ++ [])) (default_pieces (Span i.span)) ∙ ap (λ l. with_key (name i.sym ∷ []) (name i.sym ∷ equals ∷ l)) (append-nil (W v ++ [])))
      (before rest (name i.sym ∷ []) (with_key (name i.sym ∷ []) (name i.sym ∷ [])) (keyed i.sym))

  pub key_kept : Kept R true (Tree kind.AssignPatProp (a ∷ Identifier k i ∷ v ∷ [])) (Tree kind.KeyValuePatProp (key_of i ∷ with_default (Span i.span) (Identifier k i) v ∷ []))
  key_kept =
      plain_kept false (Tree kind.AssignPatProp (a ∷ n ∷ v ∷ [])) (Tree kind.KeyValuePatProp (key_of i ∷ with_default (Span i.span) n v ∷ [])) (plain_tree kind.AssignPatProp (a ∷ n ∷ v ∷ []) refl)
      (plain_tree kind.KeyValuePatProp (key_of i ∷ with_default (Span i.span) n v ∷ []) refl) (pattern_keyed (is_absent v) refl)

-- ---- names of imports and exports

-- a name or a string: one piece, and again the same
pub record Single (t : Node) : Type 0 where
  pub piece : Piece
  pub is : W t ≡ piece ∷ []
  pub same_again : W (again_in t (out-Node t)) ≡ piece ∷ []
  pub set : is_set (out-Node (again_in t (out-Node t))) ≡ true

pub name_single : (k : Kind) (i : Ident) → Single (Identifier k i)
name_single k i = record {
  piece = name i.sym;
  is = name_pieces k i;
  same_again = ap W e ∙ name_pieces kind.Ident (record { span = i.span; ctxt = []; sym = i.sym });
  set = ap (λ t. is_set (out-Node t)) e ∙ ap is_set (outs-Identifier kind.Ident (record { span = i.span; ctxt = []; sym = i.sym }));
}
  where
    e : again_in (Identifier k i) (out-Node (Identifier k i)) ≡ name_again i
    e = ap (again_in (Identifier k i)) (outs-Identifier k i)

one_quoted : (value raw : Option (List ℕ)) → (p : Piece) × (quoted_piece value raw ++ [] ≡ p ∷ [])
one_quoted (Some x) raw = (quoted x raw, refl)
one_quoted None raw = (no_piece, refl)

pub string_single : (ts : List Node) → Single (Tree kind.Str ts)
string_single ts =
    let (p, is) = one_quoted (text_at ts 1) (text_at ts 2) in
    let all : W (Tree kind.Str ts) ≡ p ∷ [] = tree_pieces false kind.Str ts ∙ is in
    record { piece = p; is = all; same_again = ap W e ∙ all; set = ap (λ t. is_set (out-Node t)) e ∙ ap is_set (outs-Tree kind.Str ts) }
  where
    e : again_in (Tree kind.Str ts) (out-Node (Tree kind.Str ts)) ≡ Tree kind.Str ts
    e = ap (again_in (Tree kind.Str ts)) (outs-Tree kind.Str ts)

abbrev as_word : Piece
as_word = word_piece keyword.As

module _ (a t u : Node) (one : Single t) where
  exported : (b : Bool) → is_absent u ≡ b → R (W (Tree kind.ExportNamedSpecifier (a ∷ t ∷ u ∷ []))) (W (Tree kind.ExportNamedSpecifier (a ∷ t ∷ (if b then again_in t (out-Node t) else u) ∷ [])))
  exported false e = even (W (Tree kind.ExportNamedSpecifier (a ∷ t ∷ u ∷ [])))
  exported true e =
      stated _ _ (one.piece ∷ []) (one.piece ∷ as_word ∷ one.piece ∷ [])
      (tree_pieces false kind.ExportNamedSpecifier (a ∷ t ∷ u ∷ []) ∙ ap (λ l. l ++ led as_word u) one.is ∙ ap (λ l. one.piece ∷ l) (none_led as_word u e))
      (tree_pieces false kind.ExportNamedSpecifier (a ∷ t ∷ again_in t (out-Node t) ∷ []) ∙ ap (λ l. l ++ led as_word (again_in t (out-Node t))) one.is ∙ ap (λ l. one.piece ∷ l) (some_led as_word (again_in t (out-Node t)) one.set) ∙ ap (λ l. one.piece ∷ as_word ∷ l ++ []) one.same_again)
      (twice one.piece)

  pub export_kept : Kept R true (Tree kind.ExportNamedSpecifier (a ∷ t ∷ u ∷ [])) (Tree kind.ExportNamedSpecifier (a ∷ t ∷ again t u ∷ []))
  export_kept =
      plain_kept true (Tree kind.ExportNamedSpecifier (a ∷ t ∷ u ∷ [])) (Tree kind.ExportNamedSpecifier (a ∷ t ∷ again t u ∷ [])) (plain_tree kind.ExportNamedSpecifier (a ∷ t ∷ u ∷ []) refl)
      (plain_tree kind.ExportNamedSpecifier (a ∷ t ∷ again t u ∷ []) refl) (exported (is_absent u) refl)

  -- the imported name stands first
  imported_pieces : (v : Node) → W (Tree kind.ImportNamedSpecifier (a ∷ t ∷ v ∷ [])) ≡ W v ++ (when (is_set (out-Node v)) as_word ++ (one.piece ∷ []))
  imported_pieces v = tree_pieces false kind.ImportNamedSpecifier (a ∷ t ∷ v ∷ []) ∙ ap (λ l. W v ++ (when (is_set (out-Node v)) as_word ++ (l ++ []))) one.is

  imported : (b : Bool) → is_absent u ≡ b → R (W (Tree kind.ImportNamedSpecifier (a ∷ t ∷ u ∷ []))) (W (Tree kind.ImportNamedSpecifier (a ∷ t ∷ (if b then again_in t (out-Node t) else u) ∷ [])))
  imported false e = even (W (Tree kind.ImportNamedSpecifier (a ∷ t ∷ u ∷ [])))
  imported true e =
      stated _ _ (one.piece ∷ []) (one.piece ∷ as_word ∷ one.piece ∷ [])
      (imported_pieces u ∙ ap (λ u. W u ++ (when (is_set (out-Node u)) as_word ++ (one.piece ∷ []))) (absent_is u e) ∙ ap (λ l. l ++ (when (is_set (out-Node Absent)) as_word ++ (one.piece ∷ []))) absent_pieces
      ∙ ap (λ x. when (is_set x) as_word ++ (one.piece ∷ [])) outs-Absent)
      (imported_pieces (again_in t (out-Node t)) ∙ ap (λ l. l ++ (when (is_set (out-Node (again_in t (out-Node t)))) as_word ++ (one.piece ∷ []))) one.same_again ∙ ap (λ b. one.piece ∷ (when b as_word ++ (one.piece ∷ []))) one.set)
      (twice one.piece)

  pub import_kept : Kept R true (Tree kind.ImportNamedSpecifier (a ∷ t ∷ u ∷ [])) (Tree kind.ImportNamedSpecifier (a ∷ t ∷ again t u ∷ []))
  import_kept =
      plain_kept true (Tree kind.ImportNamedSpecifier (a ∷ t ∷ u ∷ [])) (Tree kind.ImportNamedSpecifier (a ∷ t ∷ again t u ∷ [])) (plain_tree kind.ImportNamedSpecifier (a ∷ t ∷ u ∷ []) refl)
      (plain_tree kind.ImportNamedSpecifier (a ∷ t ∷ again t u ∷ []) refl) (imported (is_absent u) refl)

-- ---- blocks

-- what takes an `else` is no expression
no_expression : (t : Node) → takes_else t ≡ true → is_expression_statement (out-Node t) ≡ false
no_expression t = by_children (λ t. takes_else t ≡ true → is_expression_statement (out-Node t) ≡ false) (
  λ h. ap is_expression_statement outs-Absent,
  λ x h. ap is_expression_statement (outs-Flag x),
  λ w h. ap is_expression_statement (outs-Word w),
  λ x h. ap is_expression_statement (outs-Text x),
  λ r h. ap is_expression_statement (outs-Span r),
  λ k i h. ap is_expression_statement (outs-Identifier k i),
)
    (λ ts l h. ap is_expression_statement (outs-List ts))
    (λ k ts l h. ap is_expression_statement (outs-Tree k ts) ∙ of_kind k ts (sym (takes_else_of_tree k ts) ∙ h)) t
  where
    of_kind : (k : Kind) (ts : List Node) → takes_else_step (Node-F.Tree k (map takes_else ts)) ≡ true → is_expression_statement (Node-F.Tree k ts) ≡ false
    of_kind kind.ExprStmt ts h = never (sym h)
    of_kind k ts h = refl

-- what stands as the branch of an `if`
abbrev pub branch : Node → List Piece
branch t = chosen (is_expression_statement (out-Node t)) (Some (written false t))

branch_is : (t : Node) → is_expression_statement (out-Node t) ≡ false → branch t ≡ W t
branch_is t h = ap (λ b. chosen b (Some (written false t))) h

block_pieces : (a s : Node) → W (Tree kind.BlockStmt (a ∷ Many (s ∷ []) ∷ [])) ≡ punctuator mark.LeftBrace ∷ gap line.In ∷ gap line.Line ∷ (W s ++ []) ++ gap line.Out ∷ punctuator mark.RightBrace ∷ []
block_pieces a s = tree_pieces false kind.BlockStmt (a ∷ Many (s ∷ []) ∷ []) ∙ ap (λ l. punctuator mark.LeftBrace ∷ gap line.In ∷ l ++ gap line.Out ∷ punctuator mark.RightBrace ∷ []) (list_pieces false (s ∷ []))

goes : (a s : Node) → takes_else s ≡ true → R (branch (Tree kind.BlockStmt (a ∷ Many (s ∷ []) ∷ []))) (branch s)
goes a s h =
    let b : Node = Tree kind.BlockStmt (a ∷ Many (s ∷ []) ∷ []) in
    let open_brace : List Piece = punctuator mark.LeftBrace ∷ [] in
    let close_brace : List Piece = punctuator mark.RightBrace ∷ [] in
    stated _ _ _ _ (branch_is b (ap is_expression_statement (outs-Tree kind.BlockStmt (a ∷ Many (s ∷ []) ∷ []))) ∙ block_pieces a s) (branch_is s (no_expression s h))
    (after _ (in_braces (W s)) (W s)
    (join (punctuator mark.LeftBrace ∷ gap line.In ∷ gap line.Line ∷ []) open_brace ((W s ++ []) ++ gap line.Out ∷ close_brace) (W s ++ close_brace) (same (punctuator mark.LeftBrace ∷ gap line.In ∷ gap line.Line ∷ []) open_brace refl)
    (join (W s ++ []) (W s) (gap line.Out ∷ close_brace) close_brace (equal (W s ++ []) (W s) (append-nil (W s))) (same (gap line.Out ∷ close_brace) close_brace refl)))
    (block (W s)))

pub opened_kept : (t : Node) → R (branch t) (branch (opened t))
opened_kept t = by (out-Node t) refl
  where
    stays : R (branch t) (branch t)
    stays = even (branch t)

    at : (a s : Node) → t ≡ Tree kind.BlockStmt (a ∷ Many (s ∷ []) ∷ []) → (b : Bool) → takes_else s ≡ b → R (branch t) (branch (if b then s else t))
    at a s is true e = subst (λ t. R (branch t) (branch s)) (sym is) (goes a s e)
    at a s is false e = stays

    only : (a : Node) (ss : List Node) → t ≡ Tree kind.BlockStmt (a ∷ Many ss ∷ []) → R (branch t) (branch (only_in t ss))
    only a [] is = stays
    only a (s ∷ []) is = at a s is (takes_else s) refl
    only a (s ∷ r ∷ ss) is = stays

    block_of : (a m : Node) → t ≡ Tree kind.BlockStmt (a ∷ m ∷ []) → (y : Node-F Node) → out-Node m ≡ y → R (branch t) (branch (only_in t (items_in y)))
    block_of a m is (Node-F.List ss) o = only a ss (is ∙ ap (λ m. Tree kind.BlockStmt (a ∷ m ∷ [])) (list_is m ss o))
    block_of a m is (Node-F.Tree k ts) o = stays
    block_of a m is (Node-F.Identifier k i) o = stays
    block_of a m is Node-F.Absent o = stays
    block_of a m is (Node-F.Flag x) o = stays
    block_of a m is (Node-F.Word x) o = stays
    block_of a m is (Node-F.Text x) o = stays
    block_of a m is (Node-F.Span x) o = stays

    by : (y : Node-F Node) → out-Node t ≡ y → R (branch t) (branch (opened_in t y))
    by (Node-F.Tree kind.BlockStmt (a ∷ m ∷ [])) o = block_of a m (tree_is t kind.BlockStmt (a ∷ m ∷ []) o) (out-Node m) refl
    by (Node-F.Tree kind.BlockStmt []) o = stays
    by (Node-F.Tree kind.BlockStmt (a ∷ [])) o = stays
    by (Node-F.Tree kind.BlockStmt (a ∷ m ∷ c ∷ ts)) o = stays
    by (Node-F.Tree k ts) o = stays
    by (Node-F.List ts) o = stays
    by (Node-F.Identifier k i) o = stays
    by Node-F.Absent o = stays
    by (Node-F.Flag x) o = stays
    by (Node-F.Word x) o = stays
    by (Node-F.Text x) o = stays
    by (Node-F.Span x) o = stays

-- ---- exported declarations

declared_apart : (a d : Node) → R (W (Tree kind.ExportDecl (a ∷ d ∷ []))) (W d ++ gap line.Line ∷ W (export_list (each_once (map made (declared_ids d)))))
declared_apart a d =
    let names = each_once (map made (declared_ids d)) in
    after _ (W d ++ W (export_list names)) _
    (stated _ _ (word (codes "export") ∷ W d) _ (tree_pieces false kind.ExportDecl (a ∷ d ∷ []) ∙ ap (λ l. word (codes "export") ∷ l) (append-nil (W d))) refl (listed (W d) names))
    (behind (W d) (W (export_list names)) (gap line.Line ∷ W (export_list names)) (same (W (export_list names)) (gap line.Line ∷ W (export_list names)) refl))

abbrev each_line : List Node → List Piece
each_line ts = lines (map (written_with false) ts)

one_line : (t : Node) (rest more : List Piece) → R rest more → R (gap line.Line ∷ W t ++ rest) (gap line.Line ∷ W t ++ more)
one_line t rest more h = behind (gap line.Line ∷ W t) rest more h

two_lines : (t d e : Node) (rest more : List Piece) → R (W t) (W d ++ gap line.Line ∷ W e) → R rest more → R (gap line.Line ∷ (W t ++ rest)) (gap line.Line ∷ (W d ++ (gap line.Line ∷ (W e ++ more))))
two_lines t d e rest more h r =
    behind (gap line.Line ∷ []) (W t ++ rest) (W d ++ (gap line.Line ∷ (W e ++ more)))
    (stated (W t ++ rest) (W d ++ (gap line.Line ∷ (W e ++ more))) (W t ++ rest) ((W d ++ (gap line.Line ∷ W e)) ++ more) refl (sym (append_assoc (W d) (gap line.Line ∷ W e) more))
    (join (W t) (W d ++ (gap line.Line ∷ W e)) rest more h r))

-- a line, and those behind it
split_line : (t : Node) (rest more : List Node) → R (each_line rest) (each_line more) → R (gap line.Line ∷ (W t ++ each_line rest)) (each_line (split t ++ more))
split_line t rest more h = by (out-Node t) refl
  where
    alone : R (gap line.Line ∷ (W t ++ each_line rest)) (gap line.Line ∷ (W t ++ each_line more))
    alone = one_line t (each_line rest) (each_line more) h

    by : (y : Node-F Node) → out-Node t ≡ y → R (gap line.Line ∷ (W t ++ each_line rest)) (each_line (split_in t y ++ more))
    by (Node-F.Tree kind.ExportDecl (a ∷ d ∷ [])) o =
        let e : Node = export_list (each_once (map made (declared_ids d))) in
        two_lines t d e (each_line rest) (each_line more) (subst (λ t. R (W t) (W d ++ gap line.Line ∷ W e)) (sym (tree_is t kind.ExportDecl (a ∷ d ∷ []) o)) (declared_apart a d)) h
    by (Node-F.Tree kind.ExportDecl []) o = alone
    by (Node-F.Tree kind.ExportDecl (a ∷ [])) o = alone
    by (Node-F.Tree kind.ExportDecl (a ∷ d ∷ c ∷ us)) o = alone
    by (Node-F.Tree k us) o = alone
    by (Node-F.List us) o = alone
    by (Node-F.Identifier k i) o = alone
    by Node-F.Absent o = alone
    by (Node-F.Flag x) o = alone
    by (Node-F.Word x) o = alone
    by (Node-F.Text x) o = alone
    by (Node-F.Span x) o = alone

pub lines_split : (ts : List Node) → R (lines (map (written_with false) ts)) (lines (map (written_with false) (flat_map split ts)))
lines_split [] = even []
lines_split (t ∷ ts) = split_line t ts (flat_map split ts) (lines_split ts)
