-- What is made of each node of a tree leaves strict code strict, where it leaves directives.
use Rattle.std.proofs.Common.{◌≡◌, ℕ, Bool, true, false, not, ◌&&◌, ◌||◌, IsTrue, Option, Some, None, List, [], ◌∷◌, map, refl, sym, ap, ◌∙◌, true≢false}
use Rattle.std.specs.List.{slice_get}
use Rattle.std.specs.Prelude.{option_map}
use Rattle.std.proofs.lemmas.Option.{slice_get-map}
use Rattle.swc_tree_node.specs.declared.kind.Kind.{Kind}
use Rattle.swc_tree_node.specs.declared.kind.Kind.TheVariants as kind
use Rattle.swc_tree_node.specs.declared.kind.Class.TheVariants as class
use Rattle.swc_tree_node.specs.declared.node.Node.{Node, Flag, Text, List as Many, Tree, out-Node}
use Rattle.swc_tree_node.specs.declared.node.Node.TheOpen.{Node-F}
use Rattle.swc_tree_node.specs.declared.node.Node.TheVariants.{rolls-Flag, rolls-Text, rolls-List, outs-Flag, outs-Text, outs-List, outs-Tree}
use Rattle.swc_tree_node.specs.declared.fields.functions.arrow_expr.TheConstants as arrow_expr
use Rattle.swc_tree_node.specs.declared.fields.functions.constructor.TheConstants as constructor
use Rattle.swc_tree_node.specs.declared.fields.functions.function.TheConstants as function
use Rattle.swc_tree_node.specs.declared.fields.functions.getter_prop.TheConstants as getter_prop
use Rattle.swc_tree_node.specs.declared.fields.functions.setter_prop.TheConstants as setter_prop
use Rattle.swc_tree_node.specs.declared.fields.leaves.str.TheConstants as str
use Rattle.swc_tree_node.specs.declared.fields.modules.script.TheConstants as script
use Rattle.swc_tree_node.specs.declared.fields.statements.block_stmt.TheConstants as block_stmt
use Rattle.swc_tree_node.specs.declared.fields.statements.expr_stmt.TheConstants as expr_stmt
use Rattle.swc_tree_node.specs.Table.{is_identifier, slots_of}
use Rattle.swc_tree_node.specs.Fits.{FieldsFit, Fits, belongs}
use Rattle.swc_tree_scoping.specs.Places.{block_in, directive_or, flag_in, flag_of, has_use_strict, is_branch, is_plain_function, is_strict, items_in, items_of, literal_in, literal_of, plain_in, says, statement_in, statements_of, string_of, text_in, text_of}
use Rattle.swc_tree_scoping.proofs.Remarked.{rolled, tree_is}
use Rattle.swc_tree_grammar.proofs.Places.{one}
use Rattle.swc_tree_grammar_laws.proofs.Levelled.{half}
use Rattle.swc_tree_renaming.specs.Apart.{function_in}
use Rattle.swc_tree_sites_kept.proofs.Patterns.{only_node}
use Rattle.swc_tree_sites_kept.proofs.KeepsPlaces.{AllKeep, Keeps, Tight, tree_keeps}

-- kinds that directives and functions are made of
abbrev pub is_code : Kind → Bool
is_code kind.BlockStmt = true
is_code kind.ExprStmt = true
is_code kind.Str = true
is_code kind.Function = true
is_code _ = false

text_is : (t : Node) (x : List ℕ) → out-Node t ≡ Node-F.Text x → t ≡ Text x
text_is t x o = rolled t _ o ∙ rolls-Text x

flag_is : (t : Node) (x : Bool) → out-Node t ≡ Node-F.Flag x → t ≡ Flag x
flag_is t x o = rolled t _ o ∙ rolls-Flag x

list_is : (t : Node) (ts : List Node) → out-Node t ≡ Node-F.List ts → t ≡ Many ts
list_is t ts o = rolled t _ o ∙ rolls-List ts

or_more : (a b c : Bool) → (b ≡ true → c ≡ true) → (a || b) ≡ true → (a || c) ≡ true
or_more true b c f h = refl
or_more false b c f h = f h

plain_more : (a b c d : Bool) → (a ≡ true → c ≡ true) → (b ≡ true → d ≡ true) → (not c && not d) ≡ true → (not a && not b) ≡ true
plain_more true b c d f g h = absurd (cc (sym (ap (λ c. not c && not d) (f refl)) ∙ h))
plain_more false true c d f g h = let p = half {a = not c} h in absurd (cc (sym (ap not (g refl)) ∙ p.1))
plain_more false false c d f g h = refl

pub loose_more : (s b n x y : Bool) → (x ≡ true → y ≡ true) → (not s && (b || (n && x))) ≡ true → (not s && (b || (n && y))) ≡ true
loose_more true b n x y f h = h
loose_more false true n x y f h = refl
loose_more false false true x y f h = f h
loose_more false false false x y f h = h

nothing_there : {A : Type 0} {x : A} → None ≡ Some x → ⊥
nothing_there e = absurd (cc)

-- `f` makes a list, a text or a flag of one, and leaves those kinds
module _ (f : Node → Node) (lists : (ts : List Node) → f (Many ts) ≡ Many (map f ts)) (texts : (x : List ℕ) → f (Text x) ≡ Text x) (flags : (x : Bool) → f (Flag x) ≡ Flag x)
    (codes : (k : Kind) (ts : List Node) → is_code k ≡ true → f (Tree k ts) ≡ Tree k (map f ts)) where
  text_up : (t : Node) (y : Node-F Node) → out-Node t ≡ y → (x : List ℕ) → text_in y ≡ Some x → text_in (out-Node (f t)) ≡ Some x
  text_up t (Node-F.Text z) o x h = ap (λ t. text_in (out-Node (f t))) (text_is t z o) ∙ ap (λ t. text_in (out-Node t)) (texts z) ∙ ap text_in (outs-Text z) ∙ h
  text_up t Node-F.Absent o x h = absurd (cc)
  text_up t _ o x h = absurd (cc)

  text_of_up : (o : Option Node) (x : List ℕ) → text_of o ≡ Some x → text_of (option_map f o) ≡ Some x
  text_of_up None x h = absurd (cc)
  text_of_up (Some t) x h = text_up t (out-Node t) refl x h

  literal_row : (t : Node) (k : Kind) (ts : List Node) → t ≡ Tree k ts → (x : List ℕ) → literal_in (Node-F.Tree k ts) ≡ Some x → literal_in (out-Node (f t)) ≡ Some x
  literal_row t kind.Str ts e x h =
      ap (λ t. literal_in (out-Node (f t))) e ∙ ap (λ t. literal_in (out-Node t)) (codes kind.Str ts refl) ∙ ap literal_in (outs-Tree kind.Str (map f ts)) ∙ ap text_of (slice_get-map f ts str.VALUE)
      ∙ text_of_up (slice_get ts str.VALUE) x h
  literal_row t kind.Module ts e x h = absurd (cc)
  literal_row t _ ts e x h = absurd (nothing_there h)

  literal_up : (t : Node) (y : Node-F Node) → out-Node t ≡ y → (x : List ℕ) → literal_in y ≡ Some x → literal_in (out-Node (f t)) ≡ Some x
  literal_up t (Node-F.Tree k ts) o x h = literal_row t k ts (tree_is t k ts o) x h
  literal_up t Node-F.Absent o x h = absurd (cc)
  literal_up t _ o x h = absurd (cc)

  literal_of_up : (o : Option Node) (x : List ℕ) → literal_of o ≡ Some x → literal_of (option_map f o) ≡ Some x
  literal_of_up None x h = absurd (cc)
  literal_of_up (Some t) x h = literal_up t (out-Node t) refl x h

  statement_row : (t : Node) (k : Kind) (ts : List Node) → t ≡ Tree k ts → (x : List ℕ) → statement_in (Node-F.Tree k ts) ≡ Some x → string_of (f t) ≡ Some x
  statement_row t kind.ExprStmt ts e x h =
      ap (λ t. string_of (f t)) e ∙ ap string_of (codes kind.ExprStmt ts refl) ∙ ap statement_in (outs-Tree kind.ExprStmt (map f ts)) ∙ ap literal_of (slice_get-map f ts expr_stmt.EXPR)
      ∙ literal_of_up (slice_get ts expr_stmt.EXPR) x h
  statement_row t kind.Module ts e x h = absurd (cc)
  statement_row t _ ts e x h = absurd (nothing_there h)

  statement_up : (t : Node) (y : Node-F Node) → out-Node t ≡ y → (x : List ℕ) → statement_in y ≡ Some x → string_of (f t) ≡ Some x
  statement_up t (Node-F.Tree k ts) o x h = statement_row t k ts (tree_is t k ts o) x h
  statement_up t Node-F.Absent o x h = absurd (cc)
  statement_up t _ o x h = absurd (cc)

  directives_up : (ts : List Node) → has_use_strict ts ≡ true → has_use_strict (map f ts) ≡ true
  directives_up [] h = absurd (cc)
  directives_up (t ∷ ts) h = at (directives_up ts) (string_of t) refl
    where
      rest : List Node → Option (List ℕ) → Bool
      rest us o = directive_or (option_map says o) (has_use_strict us)

      at : (has_use_strict ts ≡ true → has_use_strict (map f ts) ≡ true) → (o : Option (List ℕ)) → string_of t ≡ o → rest (map f ts) (string_of (f t)) ≡ true
      at up None e = absurd (cc (sym (ap (rest ts) e) ∙ h))
      at up (Some x) e = ap (rest (map f ts)) (statement_up t (out-Node t) refl x e) ∙ or_more (says x) (has_use_strict ts) (has_use_strict (map f ts)) up (sym (ap (rest ts) e) ∙ h)

  items_up : (t : Node) (y : Node-F Node) → out-Node t ≡ y → has_use_strict (items_in y) ≡ true → has_use_strict (items_in (out-Node (f t))) ≡ true
  items_up t (Node-F.List ts) o h = ap (λ t. has_use_strict (items_in (out-Node (f t)))) (list_is t ts o) ∙ ap (λ t. has_use_strict (items_in (out-Node t))) (lists ts) ∙ ap (λ y. has_use_strict (items_in y)) (outs-List (map f ts)) ∙ directives_up ts h
  items_up t Node-F.Absent o h = absurd (cc)
  items_up t _ o h = absurd (cc)

  pub items_of_up : (o : Option Node) → has_use_strict (items_of o) ≡ true → has_use_strict (items_of (option_map f o)) ≡ true
  items_of_up None h = absurd (cc)
  items_of_up (Some t) h = items_up t (out-Node t) refl h

  block_row : (t : Node) (k : Kind) (ts : List Node) → t ≡ Tree k ts → has_use_strict (block_in (Node-F.Tree k ts)) ≡ true → has_use_strict (block_in (out-Node (f t))) ≡ true
  block_row t kind.BlockStmt ts e h =
      ap (λ t. has_use_strict (block_in (out-Node (f t)))) e ∙ ap (λ t. has_use_strict (block_in (out-Node t))) (codes kind.BlockStmt ts refl) ∙ ap (λ y. has_use_strict (block_in y)) (outs-Tree kind.BlockStmt (map f ts))
      ∙ ap (λ o. has_use_strict (items_of o)) (slice_get-map f ts block_stmt.STMTS) ∙ items_of_up (slice_get ts block_stmt.STMTS) h
  block_row t kind.Module ts e h = absurd (true≢false (sym h))
  block_row t _ ts e h = absurd (true≢false (sym h))

  block_up : (t : Node) (y : Node-F Node) → out-Node t ≡ y → has_use_strict (block_in y) ≡ true → has_use_strict (block_in (out-Node (f t))) ≡ true
  block_up t (Node-F.Tree k ts) o h = block_row t k ts (tree_is t k ts o) h
  block_up t Node-F.Absent o h = absurd (cc)
  block_up t _ o h = absurd (cc)

  statements_of_up : (o : Option Node) → has_use_strict (statements_of o) ≡ true → has_use_strict (statements_of (option_map f o)) ≡ true
  statements_of_up None h = absurd (cc)
  statements_of_up (Some t) h = block_up t (out-Node t) refl h

  body_up : (ts : List Node) (i : ℕ) → has_use_strict (statements_of (slice_get ts i)) ≡ true → has_use_strict (statements_of (slice_get (map f ts) i)) ≡ true
  body_up ts i h = ap (λ o. has_use_strict (statements_of o)) (slice_get-map f ts i) ∙ statements_of_up (slice_get ts i) h

  pub strict_up : (k : Kind) (ts : List Node) → is_strict k ts ≡ true → is_strict k (map f ts) ≡ true
  strict_up kind.Module ts h = refl
  strict_up kind.Class ts h = refl
  strict_up kind.Script ts h = ap (λ o. has_use_strict (items_of o)) (slice_get-map f ts script.BODY) ∙ items_of_up (slice_get ts script.BODY) h
  strict_up kind.Function ts h = body_up ts function.BODY h
  strict_up kind.ArrowExpr ts h = body_up ts arrow_expr.BODY h
  strict_up kind.Constructor ts h = body_up ts constructor.BODY h
  strict_up kind.GetterProp ts h = body_up ts getter_prop.BODY h
  strict_up kind.SetterProp ts h = body_up ts setter_prop.BODY h
  strict_up _ ts h = absurd (true≢false (sym h))

  -- functions
  flag_up : (t : Node) (y : Node-F Node) → out-Node t ≡ y → flag_in y ≡ true → flag_in (out-Node (f t)) ≡ true
  flag_up t (Node-F.Flag x) o h = ap (λ t. flag_in (out-Node (f t))) (flag_is t x o) ∙ ap (λ t. flag_in (out-Node t)) (flags x) ∙ ap flag_in (outs-Flag x) ∙ h
  flag_up t Node-F.Absent o h = absurd (cc)
  flag_up t _ o h = absurd (cc)

  flag_of_up : (o : Option Node) → flag_of o ≡ true → flag_of (option_map f o) ≡ true
  flag_of_up None h = absurd (cc)
  flag_of_up (Some t) h = flag_up t (out-Node t) refl h

  held_up : (ts : List Node) (i : ℕ) → flag_of (slice_get ts i) ≡ true → flag_of (slice_get (map f ts) i) ≡ true
  held_up ts i h = ap flag_of (slice_get-map f ts i) ∙ flag_of_up (slice_get ts i) h

  plain_row : (k : Kind) (ts : List Node) → IsTrue (belongs k class.Function) → plain_in (out-Node (f (Tree k ts))) ≡ true → plain_in (out-Node (Tree k ts)) ≡ true
  plain_row kind.Function ts b h =
      ap plain_in (outs-Tree kind.Function ts)
      ∙ plain_more (flag_of (slice_get ts function.IS_GENERATOR)) (flag_of (slice_get ts function.IS_ASYNC)) (flag_of (slice_get (map f ts) function.IS_GENERATOR)) (flag_of (slice_get (map f ts) function.IS_ASYNC))
      (held_up ts function.IS_GENERATOR) (held_up ts function.IS_ASYNC) (sym (ap (λ t. plain_in (out-Node t)) (codes kind.Function ts refl) ∙ ap plain_in (outs-Tree kind.Function (map f ts))) ∙ h)
  plain_row kind.Module ts b h = absurd (cc)
  plain_row _ ts b h = absurd (true≢false (sym b))

  no_function : (k : Kind) → IsTrue (is_identifier k) → IsTrue (belongs k class.Function) → ⊥
  no_function kind.Ident a b = absurd (cc)
  no_function kind.BindingIdent a b = absurd (cc)
  no_function _ a b = true≢false (sym a)

  plain_down : (t : Node) → Fits t (one class.Function) → plain_in (out-Node (f t)) ≡ true → plain_in (out-Node t) ≡ true
  plain_down t fit = only_node class.Function (λ t. plain_in (out-Node (f t)) ≡ true → plain_in (out-Node t) ≡ true) (λ k i a b h. absurd (no_function k a b)) (λ k ts b g x h. plain_row k ts b h) t fit

  -- ... where it makes no function declaration of another statement
  module _ (declared : (t : Node) → Fits t (one class.Stmt) → function_in (out-Node (f t)) ≡ true → function_in (out-Node t) ≡ true) where
    tight : (k : Kind) (ts : List Node) → FieldsFit (slots_of k) ts → Tight k ts (map f ts)
    tight kind.FnDecl (a ∷ g ∷ []) fit w h = loose_more w.strict (is_branch w.standing) w.nested (is_plain_function (Some (f g))) (is_plain_function (Some g)) (plain_down g fit.1.0) h
    tight kind.FnDecl [] fit w h = absurd fit
    tight kind.FnDecl (a ∷ []) fit w h = absurd fit.1
    tight kind.FnDecl (a ∷ g ∷ c ∷ ts) fit w h = absurd fit.1.1
    tight kind.LabeledStmt (a ∷ l ∷ b ∷ []) fit w h = declared b fit.1.1.0 h
    tight kind.LabeledStmt [] fit w h = absurd fit
    tight kind.LabeledStmt (a ∷ []) fit w h = absurd fit.1
    tight kind.LabeledStmt (a ∷ l ∷ []) fit w h = absurd fit.1.1
    tight kind.LabeledStmt (a ∷ l ∷ b ∷ c ∷ ts) fit w h = absurd fit.1.1.1
    tight _ ts fit w h = absurd (cc)

    -- a node keeps what is settled once its fields do
    pub mapped_keeps : (k : Kind) (ts : List Node) → FieldsFit (slots_of k) ts → AllKeep ts (map f ts) → Keeps (Tree k ts) (Tree k (map f ts))
    mapped_keeps k ts fit all = tree_keeps k ts (map f ts) all (strict_up k ts) (tight k ts fit)
