-- Nodes of which a layout sees no more than that they stand there, as it does of most.
use Rattle.std.proofs.Common.{◌≡◌, Bool, true, false, None, List, [], ◌∷◌, ◌++◌, ◌||◌, rules, refl, sym, ap, ◌∙◌}
use Rattle.swc_tree_marks.specs.declared.ident.Ident.{Ident}
use Rattle.swc_tree_node.specs.declared.kind.Kind.{Kind}
use Rattle.swc_tree_node.specs.declared.kind.Kind.TheVariants as kind
use Rattle.swc_tree_node.specs.declared.node.Node.{Node, Identifier, Tree, out-Node, the_lemmas}
use Rattle.swc_tree_node.specs.declared.node.Node.TheOpen.{Node-F}
use Rattle.swc_tree_node.specs.declared.node.Node.TheVariants.{outs-Identifier, outs-Tree}
use Rattle.swc_tree_node.specs.Parts.{text_of}
use Rattle.text_lexer.specs.declared.token.TemplatePart.{TemplatePart}
use Rattle.text_pieces.specs.declared.item.Ending.TheVariants as ending
use Rattle.text_pieces.specs.Forms.{accessor, attribute, attributes, ending_of_attributes, ending_of_key, meta, when}
use Rattle.text_pieces.specs.Leaves.{is_block, is_computed, is_declaration, is_default, is_empty_list, is_expression_statement, is_hole, is_let, is_named, is_rest, is_set, items_of, takes_comma}
use Rattle.text_pieces.specs.Pieces.{Written, template_piece, written, written_step, written_with}
use Rattle.text_pieces.specs.Tokens as token
use Rattle.text_pieces.specs.Tokens.{Piece, closes, name}
use Rattle.text_kept_laws.proofs.PiecesSeen.{Seen, text_of_name, text_of_tree}
use Rattle.text_kept_laws.proofs.PiecesRows.{Kept, is_own, none_each, none_items, tree_step}

-- `named` says whether the node is a name in braces
pub record Plain (named : Bool) (t : Node) : Type 0 where
  pub set : is_set (out-Node t) ≡ true
  pub hole : is_hole (out-Node t) ≡ false
  pub rest : is_rest (out-Node t) ≡ false
  pub default : is_default (out-Node t) ≡ false
  pub braced : is_named (out-Node t) ≡ named
  pub declaration : is_declaration (out-Node t) ≡ false
  pub expression : is_expression_statement (out-Node t) ≡ false
  pub computed : is_computed (out-Node t) ≡ false
  pub block : is_block (out-Node t) ≡ false
  pub access : accessor (out-Node t) ≡ []
  pub metas : meta (out-Node t) ≡ []
  pub from : ending_of_attributes (out-Node t) ≡ ending.Closed
  pub key : ending_of_key (out-Node t) ≡ ending.Field
  pub text : text_of t ≡ None
  pub part : (p : TemplatePart) → template_piece p (out-Node t) ≡ token.never
  pub comma : takes_comma (out-Node t) ≡ true
  pub pair : attribute (out-Node t) ≡ token.never
  pub list : is_empty_list (out-Node t) ≡ false
  pub others : attributes (out-Node t) ≡ []
  pub items : items_of (out-Node t) ≡ []
  pub each : (written false t).each ≡ None

pub seen_plain : (b : Bool) (t u : Node) → Plain b t → Plain b u → Seen t u
seen_plain b t u p q = record {
  set = p.set ∙ sym q.set;
  hole = p.hole ∙ sym q.hole;
  rest = p.rest ∙ sym q.rest;
  default = p.default ∙ sym q.default;
  named = p.braced ∙ sym q.braced;
  declaration = p.declaration ∙ sym q.declaration;
  expression = p.expression ∙ sym q.expression;
  computed = p.computed ∙ sym q.computed;
  block = p.block ∙ sym q.block;
  access = p.access ∙ sym q.access;
  metas = p.metas ∙ sym q.metas;
  from = p.from ∙ sym q.from;
  key = p.key ∙ sym q.key;
  text = p.text ∙ sym q.text;
  part = λ x. p.part x ∙ sym (q.part x);
  comma = p.comma ∙ sym q.comma;
  pair = p.pair ∙ sym q.pair;
  list = p.list ∙ sym q.list;
  others = p.others ∙ sym q.others;
}

no_own : (b : Bool) (t : Node) → Plain b t → is_own (out-Node t) ≡ false
no_own b t p = ap (λ c. c || is_expression_statement (out-Node t)) p.declaration ∙ p.expression

pub never : {A : Type 0} → true ≡ false → A
never h = absurd (cc)

-- where the place asks for no more one stands for another
module _ (R : List Piece → List Piece → Type 0) (same : (ps : List Piece) → R ps ps) (join : (ps qs rs ss : List Piece) → R ps qs → R rs ss → R (ps ++ rs) (qs ++ ss)) where
  pub plain_kept : (b : Bool) (t u : Node) → Plain b t → Plain b u → R (when (is_let (out-Node t)) (closes ending.Let)) (when (is_let (out-Node u)) (closes ending.Let)) → R (written_with false t) (written_with false u) → Kept R true t u
  plain_kept b t u p q ends h = record {
    looks = record {
      seen = seen_plain b t u p q;
      items = none_items R same join _ _ p.items q.items;
      function = λ o n. never o;
      only = λ o. never o;
      lone = λ o. never o;
      let_ends = ends;
    };
    stands = record { of_pieces = h; of_each = none_each R same join _ _ p.each q.each };
    within = λ o. never o;
    apart = λ own. never (sym (own refl) ∙ no_own b t p);
  }

-- ---- trees

-- kinds of which more is seen
abbrev pub is_seen : Kind → Bool
is_seen kind.RestPat = true
is_seen kind.ImportDefaultSpecifier = true
is_seen kind.VarDecl = true
is_seen kind.UsingDecl = true
is_seen kind.ExprStmt = true
is_seen kind.ComputedPropName = true
is_seen kind.BlockStmt = true
is_seen kind.IdentName = true
is_seen kind.TplElement = true
is_seen kind.Param = true
is_seen _ = false

abbrev pub is_specifier : Kind → Bool
is_specifier kind.ImportNamedSpecifier = true
is_specifier kind.ExportNamedSpecifier = true
is_specifier _ = false

record Rows (k : Kind) (ts : List Node) : Type 0 where
  rest : is_rest (Node-F.Tree k ts) ≡ false
  default : is_default (Node-F.Tree k ts) ≡ false
  braced : is_named (Node-F.Tree k ts) ≡ is_specifier k
  declaration : is_declaration (Node-F.Tree k ts) ≡ false
  expression : is_expression_statement (Node-F.Tree k ts) ≡ false
  computed : is_computed (Node-F.Tree k ts) ≡ false
  block : is_block (Node-F.Tree k ts) ≡ false
  key : ending_of_key (Node-F.Tree k ts) ≡ ending.Field
  part : (p : TemplatePart) → template_piece p (Node-F.Tree k ts) ≡ token.never
  comma : takes_comma (Node-F.Tree k ts) ≡ true

rows : (k : Kind) (ts : List Node) → is_seen k ≡ false → Rows k ts
rows kind.RestPat ts h = never h
rows kind.ImportDefaultSpecifier ts h = never h
rows kind.VarDecl ts h = never h
rows kind.UsingDecl ts h = never h
rows kind.ExprStmt ts h = never h
rows kind.ComputedPropName ts h = never h
rows kind.BlockStmt ts h = never h
rows kind.IdentName ts h = never h
rows kind.TplElement ts h = never h
rows kind.Param ts h = never h
rows k ts h = record { rest = refl; default = refl; braced = refl; declaration = refl; expression = refl; computed = refl; block = refl; key = refl; part = λ p. refl; comma = refl }

pub plain_tree : (k : Kind) (ts : List Node) → is_seen k ≡ false → Plain (is_specifier k) (Tree k ts)
plain_tree k ts h = record {
  set = ap is_set o;
  hole = ap is_hole o;
  rest = ap is_rest o ∙ r.rest;
  default = ap is_default o ∙ r.default;
  braced = ap is_named o ∙ r.braced;
  declaration = ap is_declaration o ∙ r.declaration;
  expression = ap is_expression_statement o ∙ r.expression;
  computed = ap is_computed o ∙ r.computed;
  block = ap is_block o ∙ r.block;
  access = ap accessor o;
  metas = ap meta o;
  from = ap ending_of_attributes o;
  key = ap ending_of_key o ∙ r.key;
  text = text_of_tree k ts;
  part = λ p. ap (template_piece p) o ∙ r.part p;
  comma = ap takes_comma o ∙ r.comma;
  pair = ap attribute o;
  list = ap is_empty_list o;
  others = ap attributes o;
  items = ap items_of o;
  each = ap (λ (w : Written). w.each) (tree_step k ts);
}
  where
    o : out-Node (Tree k ts) ≡ Node-F.Tree k ts
    o = outs-Tree k ts

    r : Rows k ts
    r = rows k ts h

-- ---- names

name_step : (k : Kind) (i : Ident) → written false (Identifier k i) ≡ written_step false (Node-F.Identifier k i)
name_step k i = search (rules, the_lemmas)

pub name_pieces : (k : Kind) (i : Ident) → written_with false (Identifier k i) ≡ name i.sym ∷ []
name_pieces k i = ap (λ (w : Written). w.pieces) (name_step k i)

pub plain_name : (k : Kind) (i : Ident) → Plain false (Identifier k i)
plain_name k i = record {
  set = ap is_set o;
  hole = ap is_hole o;
  rest = ap is_rest o;
  default = ap is_default o;
  braced = ap is_named o;
  declaration = ap is_declaration o;
  expression = ap is_expression_statement o;
  computed = ap is_computed o;
  block = ap is_block o;
  access = ap accessor o;
  metas = ap meta o;
  from = ap ending_of_attributes o;
  key = ap ending_of_key o;
  text = text_of_name k i;
  part = λ p. ap (template_piece p) o;
  comma = ap takes_comma o;
  pair = ap attribute o;
  list = ap is_empty_list o;
  others = ap attributes o;
  items = ap items_of o;
  each = ap (λ (w : Written). w.each) (name_step k i);
}
  where
    o : out-Node (Identifier k i) ≡ Node-F.Identifier k i
    o = outs-Identifier k i
