-- What layouts see of two nodes by their forms alone.
use Rattle.std.proofs.Common.{◌≡◌, ℕ, zero, suc, ◌-◌, Bool, true, false, Option, Some, None, List, [], ◌∷◌, ◌++◌, length, rules, refl, sym, ap, ◌∙◌}
use Rattle.std.specs.Prelude.{codes, not, slice_get}
use Rattle.swc_tree_marks.specs.declared.ident.Ident.{Ident}
use Rattle.swc_tree_node.specs.declared.kind.Kind.{Kind}
use Rattle.swc_tree_node.specs.declared.kind.Kind.TheVariants as kind
use Rattle.swc_tree_node.specs.declared.node.Node.{Node, List as Many, Identifier, Tree, out-Node, the_lemmas}
use Rattle.swc_tree_node.specs.declared.node.Node.TheOpen.{Node-F}
use Rattle.swc_tree_node.specs.declared.node.Node.TheVariants.{outs-List, outs-Tree}
use Rattle.swc_tree_node.specs.Parts.{text_of}
use Rattle.text_lexer.specs.declared.mark.Mark.TheVariants as mark
use Rattle.text_lexer.specs.declared.token.TemplatePart.{TemplatePart}
use Rattle.text_pieces.specs.Forms.{accessor, attribute, attribute_of, attributes, ending_by, ending_of_attributes, ending_of_key, meta, pairs, when}
use Rattle.text_pieces.specs.Leaves.{is_block, is_computed, is_declaration, is_default, is_default_only, is_empty_list, is_expression_statement, is_hole, is_hole_in, is_named, is_rest, is_rest_in, is_set, is_set_at, is_set_in, is_set_of, is_some_item, last, takes_comma, takes_comma_in, text_at, text_in}
use Rattle.text_pieces.specs.Pieces.{template_piece, text_of_template}
use Rattle.text_pieces.specs.Tokens.{punctuator, word}

-- ---- one node

pub record Seen (t u : Node) : Type 0 where
  pub set : is_set (out-Node t) ≡ is_set (out-Node u)
  pub hole : is_hole (out-Node t) ≡ is_hole (out-Node u)
  pub rest : is_rest (out-Node t) ≡ is_rest (out-Node u)
  pub default : is_default (out-Node t) ≡ is_default (out-Node u)
  pub named : is_named (out-Node t) ≡ is_named (out-Node u)
  pub declaration : is_declaration (out-Node t) ≡ is_declaration (out-Node u)
  pub expression : is_expression_statement (out-Node t) ≡ is_expression_statement (out-Node u)
  pub computed : is_computed (out-Node t) ≡ is_computed (out-Node u)
  pub block : is_block (out-Node t) ≡ is_block (out-Node u)
  pub access : accessor (out-Node t) ≡ accessor (out-Node u)
  pub metas : meta (out-Node t) ≡ meta (out-Node u)
  pub from : ending_of_attributes (out-Node t) ≡ ending_of_attributes (out-Node u)
  pub key : ending_of_key (out-Node t) ≡ ending_of_key (out-Node u)
  pub text : text_of t ≡ text_of u
  pub part : (p : TemplatePart) → template_piece p (out-Node t) ≡ template_piece p (out-Node u)
  pub comma : takes_comma (out-Node t) ≡ takes_comma (out-Node u)
  pub pair : attribute (out-Node t) ≡ attribute (out-Node u)
  pub list : is_empty_list (out-Node t) ≡ is_empty_list (out-Node u)
  pub others : attributes (out-Node t) ≡ attributes (out-Node u)

pub seen_same : (t : Node) → Seen t t
seen_same t = record {
  set = refl;
  hole = refl;
  rest = refl;
  default = refl;
  named = refl;
  declaration = refl;
  expression = refl;
  computed = refl;
  block = refl;
  access = refl;
  metas = refl;
  from = refl;
  key = refl;
  text = refl;
  part = λ p. refl;
  comma = refl;
  pair = refl;
  list = refl;
  others = refl;
}

pub seen_then : (t u v : Node) → Seen t u → Seen u v → Seen t v
seen_then t u v c d = record {
  set = c.set ∙ d.set;
  hole = c.hole ∙ d.hole;
  rest = c.rest ∙ d.rest;
  default = c.default ∙ d.default;
  named = c.named ∙ d.named;
  declaration = c.declaration ∙ d.declaration;
  expression = c.expression ∙ d.expression;
  computed = c.computed ∙ d.computed;
  block = c.block ∙ d.block;
  access = c.access ∙ d.access;
  metas = c.metas ∙ d.metas;
  from = c.from ∙ d.from;
  key = c.key ∙ d.key;
  text = c.text ∙ d.text;
  part = λ p. c.part p ∙ d.part p;
  comma = c.comma ∙ d.comma;
  pair = c.pair ∙ d.pair;
  list = c.list ∙ d.list;
  others = c.others ∙ d.others;
}

-- two lists of nodes, each seen as the other's
abbrev pub Pairwise : List Node → List Node → Type 0
Pairwise [] [] = Unit {0}
Pairwise (t ∷ ts) (u ∷ us) = Seen t u × Pairwise ts us
Pairwise _ _ = ⊥

pub pairwise_same : (ts : List Node) → Pairwise ts ts
pairwise_same [] = tt
pairwise_same (t ∷ ts) = (seen_same t, pairwise_same ts)

pub pairwise_then : (ts us vs : List Node) → Pairwise ts us → Pairwise us vs → Pairwise ts vs
pairwise_then [] [] [] c d = tt
pairwise_then (t ∷ ts) (u ∷ us) (v ∷ vs) c d = (seen_then t u v c.0 d.0, pairwise_then ts us vs c.1 d.1)
pairwise_then [] [] (v ∷ vs) c d = absurd d
pairwise_then [] (u ∷ us) vs c d = absurd c
pairwise_then (t ∷ ts) [] vs c d = absurd c
pairwise_then (t ∷ ts) (u ∷ us) [] c d = absurd d

-- ---- fields by their numbers

module _ (X : Type 0) (g : Option Node → X) (one : (t u : Node) → Seen t u → g (Some t) ≡ g (Some u)) where
  pub field_seen : (ts us : List Node) → Pairwise ts us → (n : ℕ) → g (slice_get ts n) ≡ g (slice_get us n)
  field_seen [] [] s n = refl
  field_seen (t ∷ ts) (u ∷ us) s zero = one t u s.0
  field_seen (t ∷ ts) (u ∷ us) s (suc n) = field_seen ts us s.1 n
  field_seen [] (u ∷ us) s n = absurd s
  field_seen (t ∷ ts) [] s n = absurd s

pub set_at : (ts us : List Node) → Pairwise ts us → (n : ℕ) → is_set_at ts n ≡ is_set_at us n
set_at ts us s n = field_seen Bool is_set_of (λ t u s. s.set) ts us s n

pub text_seen : (ts us : List Node) → Pairwise ts us → (n : ℕ) → text_at ts n ≡ text_at us n
text_seen ts us s n = field_seen (Option (List ℕ)) text_in (λ t u s. s.text) ts us s n

as_many : (ts us : List Node) → Pairwise ts us → length ts ≡ length us
as_many [] [] s = refl
as_many (t ∷ ts) (u ∷ us) s = ap suc (as_many ts us s.1)
as_many [] (u ∷ us) s = absurd s
as_many (t ∷ ts) [] s = absurd s

last_seen : (X : Type 0) (g : Option Node → X) → ((t u : Node) → Seen t u → g (Some t) ≡ g (Some u)) → (ts us : List Node) → Pairwise ts us → g (last ts) ≡ g (last us)
last_seen X g one ts us s = field_seen X g one ts us s (length ts - 1) ∙ ap (λ n. g (slice_get us (n - 1))) (as_many ts us s)

-- ---- lists

pub commas_seen : (ts us : List Node) → Pairwise ts us → takes_comma_in (last ts) ≡ takes_comma_in (last us)
commas_seen ts us s = last_seen Bool takes_comma_in (λ t u s. s.comma) ts us s

pub holes_seen : (ts us : List Node) → Pairwise ts us → is_hole_in (last ts) ≡ is_hole_in (last us)
holes_seen ts us s = last_seen Bool is_hole_in (λ t u s. s.hole) ts us s

pub some_seen : (ts us : List Node) → Pairwise ts us → is_some_item ts ≡ is_some_item us
some_seen [] [] s = refl
some_seen (t ∷ ts) (u ∷ us) s = refl
some_seen [] (u ∷ us) s = absurd s
some_seen (t ∷ ts) [] s = absurd s

pub default_seen : (ts us : List Node) → Pairwise ts us → is_default_only ts ≡ is_default_only us
default_seen [] [] s = refl
default_seen (t ∷ []) (u ∷ []) s = s.0.default
default_seen (t ∷ r ∷ ts) (u ∷ v ∷ us) s = refl
default_seen [] (u ∷ us) s = absurd s
default_seen (t ∷ ts) [] s = absurd s
default_seen (t ∷ []) (u ∷ v ∷ us) s = absurd s.1
default_seen (t ∷ r ∷ ts) (u ∷ []) s = absurd s.1

pairs_seen : (some : Bool) (ts us : List Node) → Pairwise ts us → pairs some ts ≡ pairs some us
pairs_seen some [] [] s = refl
pairs_seen some (t ∷ ts) (u ∷ us) s =
    ap (λ p. when some (punctuator mark.Comma) ++ p ∷ pairs true ts) s.0.pair ∙ ap (λ l. when some (punctuator mark.Comma) ++ attribute (out-Node u) ∷ l) (pairs_seen true ts us s.1)
pairs_seen some [] (u ∷ us) s = absurd s
pairs_seen some (t ∷ ts) [] s = absurd s

attribute_seen : (ts us : List Node) → Pairwise ts us → attribute_of (text_at ts 0) (text_at ts 1) ≡ attribute_of (text_at us 0) (text_at us 1)
attribute_seen ts us s = ap (λ a. attribute_of a (text_at ts 1)) (text_seen ts us s 0) ∙ ap (attribute_of (text_at us 0)) (text_seen ts us s 1)

empty_seen : (ts us : List Node) → Pairwise ts us → is_empty_list (Node-F.List ts) ≡ is_empty_list (Node-F.List us)
empty_seen [] [] s = refl
empty_seen (t ∷ ts) (u ∷ us) s = refl
empty_seen [] (u ∷ us) s = absurd s
empty_seen (t ∷ ts) [] s = absurd s

-- what is seen of two nodes is seen of what they are made of
module _ {X : Type 0} (g : Node-F Node → X) (t u : Node) (y z : Node-F Node) (o : out-Node t ≡ y) (q : out-Node u ≡ z) where
  pub by_forms : g y ≡ g z → g (out-Node t) ≡ g (out-Node u)
  by_forms e = ap g o ∙ e ∙ sym (ap g q)

text_of_list : (ts : List Node) → text_of (Many ts) ≡ None
text_of_list ts = search (rules, the_lemmas)

pub text_of_tree : (k : Kind) (ts : List Node) → text_of (Tree k ts) ≡ None
text_of_tree k ts = search (rules, the_lemmas)

pub text_of_name : (k : Kind) (i : Ident) → text_of (Identifier k i) ≡ None
text_of_name k i = search (rules, the_lemmas)

pub seen_list : (ts us : List Node) → Pairwise ts us → Seen (Many ts) (Many us)
seen_list ts us s = record {
  set = by is_set refl;
  hole = by is_hole refl;
  rest = by is_rest refl;
  default = by is_default refl;
  named = by is_named refl;
  declaration = by is_declaration refl;
  expression = by is_expression_statement refl;
  computed = by is_computed refl;
  block = by is_block refl;
  access = by accessor refl;
  metas = by meta refl;
  from = by ending_of_attributes refl;
  key = by ending_of_key refl;
  text = text_of_list ts ∙ sym (text_of_list us);
  part = λ p. by (template_piece p) refl;
  comma = by takes_comma refl;
  pair = by attribute (attribute_seen ts us s);
  list = by is_empty_list (empty_seen ts us s);
  others = by attributes (ap (λ l. word (codes "with") ∷ punctuator mark.LeftBrace ∷ l ++ punctuator mark.RightBrace ∷ []) (pairs_seen false ts us s));
}
  where
    by : {X : Type 0} (g : Node-F Node → X) → g (Node-F.List ts) ≡ g (Node-F.List us) → g (out-Node (Many ts)) ≡ g (out-Node (Many us))
    by g e = by_forms g (Many ts) (Many us) (Node-F.List ts) (Node-F.List us) (outs-List ts) (outs-List us) e

-- ---- trees of one kind

module _ (ts us : List Node) (s : Pairwise ts us) where
  abbrev Row : {X : Type 0} → (Node-F Node → X) → Kind → Type 0
  Row g k = g (Node-F.Tree k ts) ≡ g (Node-F.Tree k us)

  rest_row : (k : Kind) → Row is_rest k
  rest_row kind.RestPat = refl
  rest_row k = refl

  default_row : (k : Kind) → Row is_default k
  default_row kind.ImportDefaultSpecifier = refl
  default_row k = refl

  named_row : (k : Kind) → Row is_named k
  named_row kind.ImportNamedSpecifier = refl
  named_row k = refl

  declaration_row : (k : Kind) → Row is_declaration k
  declaration_row kind.VarDecl = refl
  declaration_row k = refl

  expression_row : (k : Kind) → Row is_expression_statement k
  expression_row kind.ExprStmt = refl
  expression_row k = refl

  computed_row : (k : Kind) → Row is_computed k
  computed_row kind.ComputedPropName = refl
  computed_row k = refl

  block_row : (k : Kind) → Row is_block k
  block_row kind.BlockStmt = refl
  block_row k = refl

  key_row : (k : Kind) → Row ending_of_key k
  key_row kind.IdentName = ap ending_by (text_seen ts us s 1)
  key_row k = refl

  part_row : (p : TemplatePart) (k : Kind) → Row (template_piece p) k
  part_row p kind.TplElement = ap (λ a. text_of_template p a (text_at ts 3)) (text_seen ts us s 2) ∙ ap (text_of_template p (text_at us 2)) (text_seen ts us s 3)
  part_row p k = refl

  comma_row : (k : Kind) → Row takes_comma k
  comma_row kind.Param = ap not (field_seen Bool is_rest_in (λ t u s. s.rest) ts us s 1)
  comma_row k = refl

  pub function_row : (k : Kind) (n : ℕ) → is_set_in n (out-Node (Tree k ts)) ≡ is_set_in n (out-Node (Tree k us))
  function_row k n = by_forms (is_set_in n) (Tree k ts) (Tree k us) (Node-F.Tree k ts) (Node-F.Tree k us) (outs-Tree k ts) (outs-Tree k us) (set_at ts us s n)

  pub seen_tree : (k : Kind) → Seen (Tree k ts) (Tree k us)
  seen_tree k = record {
    set = by is_set refl;
    hole = by is_hole refl;
    rest = by is_rest (rest_row k);
    default = by is_default (default_row k);
    named = by is_named (named_row k);
    declaration = by is_declaration (declaration_row k);
    expression = by is_expression_statement (expression_row k);
    computed = by is_computed (computed_row k);
    block = by is_block (block_row k);
    access = by accessor refl;
    metas = by meta refl;
    from = by ending_of_attributes refl;
    key = by ending_of_key (key_row k);
    text = text_of_tree k ts ∙ sym (text_of_tree k us);
    part = λ p. by (template_piece p) (part_row p k);
    comma = by takes_comma (comma_row k);
    pair = by attribute refl;
    list = by is_empty_list refl;
    others = by attributes refl;
  }
    where
      by : {X : Type 0} (g : Node-F Node → X) → g (Node-F.Tree k ts) ≡ g (Node-F.Tree k us) → g (out-Node (Tree k ts)) ≡ g (out-Node (Tree k us))
      by g e = by_forms g (Tree k ts) (Tree k us) (Node-F.Tree k ts) (Node-F.Tree k us) (outs-Tree k ts) (outs-Tree k us) e
