-- What is written out has its contexts emptied as the tree has, where no exported declaration has two ids of one text.
use Rattle.std.proofs.Common.{◌≡◌, Bool, true, false, IsTrue, List, [], ◌∷◌, map, refl, sym, ap, ◌∙◌, rules}
use Rattle.std.specs.Prelude.{codes, nat_eq, if◌then◌else◌}
use Rattle.std.specs.Cmp.Lexicographic.{pointwise}
use Rattle.std.specs.List.{list_all}
use Rattle.swc_tree_marks.specs.declared.ident.Ident.{Ident}
use Rattle.swc_tree_node.specs.declared.kind.Kind.{Kind}
use Rattle.swc_tree_node.specs.declared.kind.Kind.TheVariants as kind
use Rattle.swc_tree_node.specs.declared.node.Node.{Node, Absent, Flag, Word, Text, Span, List as Many, Identifier, Tree, out-Node, the_lemmas}
use Rattle.swc_tree_node.specs.declared.node.Node.TheVariants.{rolls-Tree}
use Rattle.swc_tree_node.specs.declared.node.Node.TheOpen.{Node-F}
use Rattle.swc_tree_node.proofs.Fit.{both}
use Rattle.swc_tree_scoping.specs.Readings.{by_texts}
use Rattle.swc_tree_scoping.specs.Shorthands.{key_of, computed_key, shorthand_key}
use Rattle.swc_tree_grammar.specs.Shapes.{items_of}
use Rattle.swc_tree_grammar.specs.Levels.{is_absent}
use Rattle.swc_tree_grammar.specs.Blocks.{takes_else, takes_else_step}
use Rattle.swc_tree_grammar.specs.Normal.{written_out, written_step, only_in, opened, opened_in, plain_name, property, as_pattern, pattern_in, with_default, pattern_property_in, again, again_in, specifier, specifier_in}
use Rattle.swc_tree_grammar.proofs.Induction.{Each, by_children}
use Rattle.swc_tree_grammar.proofs.Walks.{takes_else_of_tree}
use Rattle.swc_tree_grammar_texts.proofs.Cleared.{bare, text_span, text_name, text_list, text_tree, items_same, absent_same, each_same, map_after}
use Rattle.swc_tree_grammar_texts.proofs.Inner.{is_inner, no_module, no_module_of, tree_is, list_is}

pub written_of_tree : (k : Kind) (ts : List Node) → written_out (Tree k ts) ≡ written_step (Node-F.Tree k (map written_out ts))
written_of_tree k ts = search (rules, the_lemmas)

pub written_of_list : (ts : List Node) → written_out (Many ts) ≡ Many (map written_out ts)
written_of_list ts = search (rules, the_lemmas)

takes_same : (t : Node) → takes_else (by_texts t) ≡ takes_else t
takes_same t = by_children (λ t. takes_else (by_texts t) ≡ takes_else t)
    (search (rules, the_lemmas), λ x. search (rules, the_lemmas), λ w. search (rules, the_lemmas), λ x. search (rules, the_lemmas), λ s. search (rules, the_lemmas), λ k i. search (rules, the_lemmas))
    (λ ts l. search (rules, the_lemmas))
    (λ k ts l. ap takes_else (text_tree k ts) ∙ takes_else_of_tree k (map by_texts ts) ∙ ap (λ bs. takes_else_step (Node-F.Tree k bs)) (map_after takes_else by_texts ts ∙ each_same (λ t. takes_else (by_texts t)) takes_else ts l) ∙ sym (takes_else_of_tree k ts)) t

-- a change of one node that sees names alone, or one kind of tree
abbrev Same : (Node → Node) → Node → Type 0
Same f t = f (by_texts t) ≡ by_texts (f t)

stays : (f : Node → Node) (t u : Node) → by_texts t ≡ u → f u ≡ u → f t ≡ t → Same f t
stays f t u e g h = ap f e ∙ g ∙ sym e ∙ ap by_texts (sym h)

-- blocks
opened_of_tree : (k : Kind) (ts : List Node) → opened (Tree k ts) ≡ opened_in (Tree k ts) (Node-F.Tree k ts)
opened_of_tree k ts = search (rules, the_lemmas)

only_if : (b : Bool) (s t : Node) → (if b then by_texts s else by_texts t) ≡ by_texts (if b then s else t)
only_if true s t = refl
only_if false s t = refl

only_same : (t : Node) (ss : List Node) → only_in (by_texts t) (map by_texts ss) ≡ by_texts (only_in t ss)
only_same t [] = refl
only_same t (s ∷ []) = ap (λ b. if b then by_texts s else by_texts t) (takes_same s) ∙ only_if (takes_else s) s t
only_same t (s ∷ u ∷ ss) = refl

opened_row : (k : Kind) (ts : List Node) → opened_in (Tree k (map by_texts ts)) (Node-F.Tree k (map by_texts ts)) ≡ by_texts (opened_in (Tree k ts) (Node-F.Tree k ts))
opened_row kind.BlockStmt (s ∷ e ∷ []) =
    ap (λ t. only_in t (items_of (by_texts e))) (sym (text_tree kind.BlockStmt (s ∷ e ∷ []))) ∙ ap (only_in (by_texts (Tree kind.BlockStmt (s ∷ e ∷ [])))) (items_same e) ∙ only_same (Tree kind.BlockStmt (s ∷ e ∷ [])) (items_of e)
opened_row k ts = sym (text_tree k ts)

opened_same : (t : Node) → Same opened t
opened_same t = by_children (Same opened) (
  stays opened Absent Absent (search (rules, the_lemmas)) (search (rules, the_lemmas)) (search (rules, the_lemmas)),
  λ x. stays opened (Flag x) (Flag x) (search (rules, the_lemmas)) (search (rules, the_lemmas)) (search (rules, the_lemmas)),
  λ w. stays opened (Word w) (Word w) (search (rules, the_lemmas)) (search (rules, the_lemmas)) (search (rules, the_lemmas)),
  λ x. stays opened (Text x) (Text x) (search (rules, the_lemmas)) (search (rules, the_lemmas)) (search (rules, the_lemmas)),
  λ s. stays opened (Span s) (Span s) (text_span s) (search (rules, the_lemmas)) (search (rules, the_lemmas)),
  λ k i. stays opened (Identifier k i) (Identifier k (bare i)) (text_name k i) (search (rules, the_lemmas)) (search (rules, the_lemmas)),
)
    (λ ts l. stays opened (Many ts) (Many (map by_texts ts)) (text_list ts) (search (rules, the_lemmas)) (search (rules, the_lemmas)))
    (λ k ts l. ap opened (text_tree k ts) ∙ opened_of_tree k (map by_texts ts) ∙ opened_row k ts ∙ ap by_texts (sym (opened_of_tree k ts))) t

-- properties and patterns
key_less : (i : Ident) → key_of (bare i) ≡ by_texts (key_of i)
key_less i = search (rules, the_lemmas)

computed_less : (i : Ident) → computed_key (bare i) ≡ by_texts (computed_key i)
computed_less i = search (rules, the_lemmas)

key_if : (b : Bool) (i : Ident) → (if b then computed_key (bare i) else key_of (bare i)) ≡ by_texts (if b then computed_key i else key_of i)
key_if true i = computed_less i
key_if false i = key_less i

shorthand_same : (i : Ident) → shorthand_key (bare i) ≡ by_texts (shorthand_key i)
shorthand_same i = key_if (pointwise nat_eq i.sym (codes "__proto__")) i

property_of_name : (k : Kind) (i : Ident) → property (Identifier k i) ≡ Tree kind.KeyValueProp (shorthand_key i ∷ Identifier k i ∷ [])
property_of_name k i = search (rules, the_lemmas)

property_name : (k : Kind) (i : Ident) → Same property (Identifier k i)
property_name k i =
    ap property (text_name k i) ∙ property_of_name k (bare i) ∙ ap (λ u. Tree kind.KeyValueProp (u ∷ Identifier k (bare i) ∷ [])) (shorthand_same i)
    ∙ ap (λ u. Tree kind.KeyValueProp (by_texts (shorthand_key i) ∷ u ∷ [])) (sym (text_name k i)) ∙ sym (ap by_texts (property_of_name k i) ∙ text_tree kind.KeyValueProp (shorthand_key i ∷ Identifier k i ∷ []))

property_same : (t : Node) → Same property t
property_same t = by_children (Same property) (
  stays property Absent Absent (search (rules, the_lemmas)) (search (rules, the_lemmas)) (search (rules, the_lemmas)),
  λ x. stays property (Flag x) (Flag x) (search (rules, the_lemmas)) (search (rules, the_lemmas)) (search (rules, the_lemmas)),
  λ w. stays property (Word w) (Word w) (search (rules, the_lemmas)) (search (rules, the_lemmas)) (search (rules, the_lemmas)),
  λ x. stays property (Text x) (Text x) (search (rules, the_lemmas)) (search (rules, the_lemmas)) (search (rules, the_lemmas)),
  λ s. stays property (Span s) (Span s) (text_span s) (search (rules, the_lemmas)) (search (rules, the_lemmas)),
  λ k i. property_name k i,
)
    (λ ts l. stays property (Many ts) (Many (map by_texts ts)) (text_list ts) (search (rules, the_lemmas)) (search (rules, the_lemmas)))
    (λ k ts l. stays property (Tree k ts) (Tree k (map by_texts ts)) (text_tree k ts) (search (rules, the_lemmas)) (search (rules, the_lemmas))) t

pattern_of_name : (k : Kind) (i : Ident) → as_pattern (Identifier k i) ≡ pattern_in (Identifier k i) (Node-F.Identifier k i)
pattern_of_name k i = search (rules, the_lemmas)

pattern_row : (k : Kind) (i : Ident) → pattern_in (Identifier k (bare i)) (Node-F.Identifier k (bare i)) ≡ by_texts (pattern_in (Identifier k i) (Node-F.Identifier k i))
pattern_row kind.Ident i = sym (text_name kind.BindingIdent i)
pattern_row k i = sym (text_name k i)

pattern_same : (t : Node) → Same as_pattern t
pattern_same t = by_children (Same as_pattern) (
  stays as_pattern Absent Absent (search (rules, the_lemmas)) (search (rules, the_lemmas)) (search (rules, the_lemmas)),
  λ x. stays as_pattern (Flag x) (Flag x) (search (rules, the_lemmas)) (search (rules, the_lemmas)) (search (rules, the_lemmas)),
  λ w. stays as_pattern (Word w) (Word w) (search (rules, the_lemmas)) (search (rules, the_lemmas)) (search (rules, the_lemmas)),
  λ x. stays as_pattern (Text x) (Text x) (search (rules, the_lemmas)) (search (rules, the_lemmas)) (search (rules, the_lemmas)),
  λ s. stays as_pattern (Span s) (Span s) (text_span s) (search (rules, the_lemmas)) (search (rules, the_lemmas)),
  λ k i. ap as_pattern (text_name k i) ∙ pattern_of_name k (bare i) ∙ pattern_row k i ∙ ap by_texts (sym (pattern_of_name k i)),
)
    (λ ts l. stays as_pattern (Many ts) (Many (map by_texts ts)) (text_list ts) (search (rules, the_lemmas)) (search (rules, the_lemmas)))
    (λ k ts l. stays as_pattern (Tree k ts) (Tree k (map by_texts ts)) (text_tree k ts) (search (rules, the_lemmas)) (search (rules, the_lemmas))) t

default_if : (b : Bool) (s n v : Node) → (if b then by_texts n else Tree kind.AssignPat (by_texts s ∷ by_texts n ∷ by_texts v ∷ [])) ≡ by_texts (if b then n else Tree kind.AssignPat (s ∷ n ∷ v ∷ []))
default_if true s n v = refl
default_if false s n v = sym (text_tree kind.AssignPat (s ∷ n ∷ v ∷ []))

default_same : (s n v : Node) → with_default (by_texts s) (by_texts n) (by_texts v) ≡ by_texts (with_default s n v)
default_same s n v = ap (λ b. if b then by_texts n else Tree kind.AssignPat (by_texts s ∷ by_texts n ∷ by_texts v ∷ [])) (absent_same v) ∙ default_if (is_absent v) s n v

abbrev Shorthand : Node → Node → Node → Type 0
Shorthand s v t = pattern_property_in (by_texts s) (by_texts t) (by_texts v) (out-Node (by_texts t)) ≡ by_texts (pattern_property_in s t v (out-Node t))

shorthand_of_name : (s v : Node) (k : Kind) (i : Ident) → pattern_property_in s (Identifier k i) v (out-Node (Identifier k i)) ≡ Tree kind.KeyValuePatProp (key_of i ∷ with_default (Span i.span) (Identifier k i) v ∷ [])
shorthand_of_name s v k i = search (rules, the_lemmas)

shorthand_name : (s v : Node) (k : Kind) (i : Ident) → Shorthand s v (Identifier k i)
shorthand_name s v k i =
    let d = with_default (Span i.span) (Identifier k i) v in
    ap (λ t. pattern_property_in (by_texts s) t (by_texts v) (out-Node t)) (text_name k i) ∙ shorthand_of_name (by_texts s) (by_texts v) k (bare i)
    ∙ ap (λ u. Tree kind.KeyValuePatProp (u ∷ with_default (Span i.span) (Identifier k (bare i)) (by_texts v) ∷ [])) (key_less i)
    ∙ ap (λ u. Tree kind.KeyValuePatProp (by_texts (key_of i) ∷ with_default u (Identifier k (bare i)) (by_texts v) ∷ [])) (sym (text_span i.span))
    ∙ ap (λ u. Tree kind.KeyValuePatProp (by_texts (key_of i) ∷ with_default (by_texts (Span i.span)) u (by_texts v) ∷ [])) (sym (text_name k i))
    ∙ ap (λ u. Tree kind.KeyValuePatProp (by_texts (key_of i) ∷ u ∷ [])) (default_same (Span i.span) (Identifier k i) v)
    ∙ sym (ap by_texts (shorthand_of_name s v k i) ∙ text_tree kind.KeyValuePatProp (key_of i ∷ d ∷ []))

shorthand_leaf : (s v t u : Node) → by_texts t ≡ u → pattern_property_in (by_texts s) u (by_texts v) (out-Node u) ≡ Tree kind.AssignPatProp (by_texts s ∷ u ∷ by_texts v ∷ []) → pattern_property_in s t v (out-Node t) ≡ Tree kind.AssignPatProp (s ∷ t ∷ v ∷ []) → Shorthand s v t
shorthand_leaf s v t u e g h =
    ap (λ t. pattern_property_in (by_texts s) t (by_texts v) (out-Node t)) e ∙ g ∙ ap (λ u. Tree kind.AssignPatProp (by_texts s ∷ u ∷ by_texts v ∷ [])) (sym e)
    ∙ sym (ap by_texts h ∙ text_tree kind.AssignPatProp (s ∷ t ∷ v ∷ []))

shorthand_property : (s v t : Node) → Shorthand s v t
shorthand_property s v t = by_children (Shorthand s v) (
  shorthand_leaf s v Absent Absent (search (rules, the_lemmas)) (search (rules, the_lemmas)) (search (rules, the_lemmas)),
  λ x. shorthand_leaf s v (Flag x) (Flag x) (search (rules, the_lemmas)) (search (rules, the_lemmas)) (search (rules, the_lemmas)),
  λ w. shorthand_leaf s v (Word w) (Word w) (search (rules, the_lemmas)) (search (rules, the_lemmas)) (search (rules, the_lemmas)),
  λ x. shorthand_leaf s v (Text x) (Text x) (search (rules, the_lemmas)) (search (rules, the_lemmas)) (search (rules, the_lemmas)),
  λ r. shorthand_leaf s v (Span r) (Span r) (text_span r) (search (rules, the_lemmas)) (search (rules, the_lemmas)),
  λ k i. shorthand_name s v k i,
)
    (λ ts l. shorthand_leaf s v (Many ts) (Many (map by_texts ts)) (text_list ts) (search (rules, the_lemmas)) (search (rules, the_lemmas)))
    (λ k ts l. shorthand_leaf s v (Tree k ts) (Tree k (map by_texts ts)) (text_tree k ts) (search (rules, the_lemmas)) (search (rules, the_lemmas))) t

-- specifiers
plain_less : (i : Ident) → plain_name (bare i) ≡ by_texts (plain_name i)
plain_less i = search (rules, the_lemmas)

abbrev from_name : Node → Node
from_name t = again_in t (out-Node t)

from_same : (t : Node) → Same from_name t
from_same t = by_children (Same from_name) (
  stays from_name Absent Absent (search (rules, the_lemmas)) (search (rules, the_lemmas)) (search (rules, the_lemmas)),
  λ x. stays from_name (Flag x) (Flag x) (search (rules, the_lemmas)) (search (rules, the_lemmas)) (search (rules, the_lemmas)),
  λ w. stays from_name (Word w) (Word w) (search (rules, the_lemmas)) (search (rules, the_lemmas)) (search (rules, the_lemmas)),
  λ x. stays from_name (Text x) (Text x) (search (rules, the_lemmas)) (search (rules, the_lemmas)) (search (rules, the_lemmas)),
  λ s. stays from_name (Span s) (Span s) (text_span s) (search (rules, the_lemmas)) (search (rules, the_lemmas)),
  λ k i. (let e : (i : Ident) → from_name (Identifier k i) ≡ plain_name i = λ i. search (rules, the_lemmas) in ap from_name (text_name k i) ∙ e (bare i) ∙ plain_less i ∙ ap by_texts (sym (e i))),
)
    (λ ts l. stays from_name (Many ts) (Many (map by_texts ts)) (text_list ts) (search (rules, the_lemmas)) (search (rules, the_lemmas)))
    (λ k ts l. stays from_name (Tree k ts) (Tree k (map by_texts ts)) (text_tree k ts) (search (rules, the_lemmas)) (search (rules, the_lemmas))) t

again_if : (b : Bool) (n o : Node) → (if b then from_name (by_texts n) else by_texts o) ≡ by_texts (if b then from_name n else o)
again_if true n o = from_same n
again_if false n o = refl

again_same : (n o : Node) → again (by_texts n) (by_texts o) ≡ by_texts (again n o)
again_same n o = ap (λ b. if b then from_name (by_texts n) else by_texts o) (absent_same o) ∙ again_if (is_absent o) n o

specifier_of_tree : (k : Kind) (ts : List Node) → specifier (Tree k ts) ≡ specifier_in (Tree k ts) (Node-F.Tree k ts)
specifier_of_tree k ts = search (rules, the_lemmas)

specifier_row : (k : Kind) (ts : List Node) → specifier_in (Tree k (map by_texts ts)) (Node-F.Tree k (map by_texts ts)) ≡ by_texts (specifier_in (Tree k ts) (Node-F.Tree k ts))
specifier_row kind.ExportNamedSpecifier (s ∷ n ∷ o ∷ []) = ap (λ u. Tree kind.ExportNamedSpecifier (by_texts s ∷ by_texts n ∷ u ∷ [])) (again_same n o) ∙ sym (text_tree kind.ExportNamedSpecifier (s ∷ n ∷ again n o ∷ []))
specifier_row k ts = sym (text_tree k ts)

specifier_same : (t : Node) → Same specifier t
specifier_same t = by_children (Same specifier) (
  stays specifier Absent Absent (search (rules, the_lemmas)) (search (rules, the_lemmas)) (search (rules, the_lemmas)),
  λ x. stays specifier (Flag x) (Flag x) (search (rules, the_lemmas)) (search (rules, the_lemmas)) (search (rules, the_lemmas)),
  λ w. stays specifier (Word w) (Word w) (search (rules, the_lemmas)) (search (rules, the_lemmas)) (search (rules, the_lemmas)),
  λ x. stays specifier (Text x) (Text x) (search (rules, the_lemmas)) (search (rules, the_lemmas)) (search (rules, the_lemmas)),
  λ s. stays specifier (Span s) (Span s) (text_span s) (search (rules, the_lemmas)) (search (rules, the_lemmas)),
  λ k i. stays specifier (Identifier k i) (Identifier k (bare i)) (text_name k i) (search (rules, the_lemmas)) (search (rules, the_lemmas)),
)
    (λ ts l. stays specifier (Many ts) (Many (map by_texts ts)) (text_list ts) (search (rules, the_lemmas)) (search (rules, the_lemmas)))
    (λ k ts l. ap specifier (text_tree k ts) ∙ specifier_of_tree k (map by_texts ts) ∙ specifier_row k ts ∙ ap by_texts (sym (specifier_of_tree k ts))) t

-- the step
each_of : (f : Node → Node) → ((t : Node) → Same f t) → (ts : List Node) → map f (map by_texts ts) ≡ map by_texts (map f ts)
each_of f h [] = refl
each_of f h (t ∷ ts) = rw (h t, each_of f h ts) refl

items_of_each : (f : Node → Node) → ((t : Node) → Same f t) → (t : Node) → Many (map f (items_of (by_texts t))) ≡ by_texts (Many (map f (items_of t)))
items_of_each f h t = ap (λ us. Many (map f us)) (items_same t) ∙ ap Many (each_of f h (items_of t)) ∙ sym (text_list (map f (items_of t)))

specifiers_if : (b : Bool) (t : Node) → (if b then Many (map specifier (items_of (by_texts t))) else by_texts t) ≡ by_texts (if b then Many (map specifier (items_of t)) else t)
specifiers_if true t = items_of_each specifier specifier_same t
specifiers_if false t = refl

written_row : (k : Kind) (us : List Node) → IsTrue (no_module k) → written_step (Node-F.Tree k (map by_texts us)) ≡ by_texts (written_step (Node-F.Tree k us))
written_row kind.IfStmt (s ∷ t ∷ c ∷ a ∷ []) inner = ap (λ u. Tree kind.IfStmt (by_texts s ∷ by_texts t ∷ u ∷ by_texts a ∷ [])) (opened_same c) ∙ sym (text_tree kind.IfStmt (s ∷ t ∷ opened c ∷ a ∷ []))
written_row kind.ObjectLit (s ∷ p ∷ []) inner = ap (λ u. Tree kind.ObjectLit (by_texts s ∷ u ∷ [])) (items_of_each property property_same p) ∙ sym (text_tree kind.ObjectLit (s ∷ Many (map property (items_of p)) ∷ []))
written_row kind.AssignPatProp (s ∷ c ∷ v ∷ []) inner = shorthand_property s v c
written_row kind.ArrayPat (s ∷ p ∷ []) inner = ap (λ u. Tree kind.ArrayPat (by_texts s ∷ u ∷ [])) (items_of_each as_pattern pattern_same p) ∙ sym (text_tree kind.ArrayPat (s ∷ Many (map as_pattern (items_of p)) ∷ []))
written_row kind.RestPat (s ∷ p ∷ []) inner = ap (λ u. Tree kind.RestPat (by_texts s ∷ u ∷ [])) (pattern_same p) ∙ sym (text_tree kind.RestPat (s ∷ as_pattern p ∷ []))
written_row kind.KeyValuePatProp (c ∷ p ∷ []) inner = ap (λ u. Tree kind.KeyValuePatProp (by_texts c ∷ u ∷ [])) (pattern_same p) ∙ sym (text_tree kind.KeyValuePatProp (c ∷ as_pattern p ∷ []))
written_row kind.AssignPat (s ∷ p ∷ r ∷ []) inner = ap (λ u. Tree kind.AssignPat (by_texts s ∷ u ∷ by_texts r ∷ [])) (pattern_same p) ∙ sym (text_tree kind.AssignPat (s ∷ as_pattern p ∷ r ∷ []))
written_row kind.Param (s ∷ p ∷ []) inner = ap (λ u. Tree kind.Param (by_texts s ∷ u ∷ [])) (pattern_same p) ∙ sym (text_tree kind.Param (s ∷ as_pattern p ∷ []))
written_row kind.ArrowExpr (s ∷ p ∷ b ∷ a ∷ []) inner =
    ap (λ u. Tree kind.ArrowExpr (by_texts s ∷ u ∷ by_texts b ∷ by_texts a ∷ [])) (items_of_each as_pattern pattern_same p) ∙ sym (text_tree kind.ArrowExpr (s ∷ Many (map as_pattern (items_of p)) ∷ b ∷ a ∷ []))
written_row kind.SetterProp (s ∷ c ∷ p ∷ b ∷ []) inner = ap (λ u. Tree kind.SetterProp (by_texts s ∷ by_texts c ∷ u ∷ by_texts b ∷ [])) (pattern_same p) ∙ sym (text_tree kind.SetterProp (s ∷ c ∷ as_pattern p ∷ b ∷ []))
written_row kind.VarDeclarator (s ∷ n ∷ i ∷ []) inner = ap (λ u. Tree kind.VarDeclarator (by_texts s ∷ u ∷ by_texts i ∷ [])) (pattern_same n) ∙ sym (text_tree kind.VarDeclarator (s ∷ as_pattern n ∷ i ∷ []))
written_row kind.CatchClause (s ∷ p ∷ b ∷ []) inner = ap (λ u. Tree kind.CatchClause (by_texts s ∷ u ∷ by_texts b ∷ [])) (pattern_same p) ∙ sym (text_tree kind.CatchClause (s ∷ as_pattern p ∷ b ∷ []))
written_row kind.ForInStmt (s ∷ l ∷ r ∷ b ∷ []) inner = ap (λ u. Tree kind.ForInStmt (by_texts s ∷ u ∷ by_texts r ∷ by_texts b ∷ [])) (pattern_same l) ∙ sym (text_tree kind.ForInStmt (s ∷ as_pattern l ∷ r ∷ b ∷ []))
written_row kind.ForOfStmt (s ∷ w ∷ l ∷ r ∷ b ∷ []) inner =
    ap (λ u. Tree kind.ForOfStmt (by_texts s ∷ by_texts w ∷ u ∷ by_texts r ∷ by_texts b ∷ [])) (pattern_same l) ∙ sym (text_tree kind.ForOfStmt (s ∷ w ∷ as_pattern l ∷ r ∷ b ∷ []))
written_row kind.ImportNamedSpecifier (s ∷ l ∷ i ∷ []) inner = ap (λ u. Tree kind.ImportNamedSpecifier (by_texts s ∷ by_texts l ∷ u ∷ [])) (again_same l i) ∙ sym (text_tree kind.ImportNamedSpecifier (s ∷ l ∷ again l i ∷ []))
written_row kind.NamedExport (s ∷ l ∷ r ∷ a ∷ []) inner =
    ap (λ b. Tree kind.NamedExport (by_texts s ∷ (if b then Many (map specifier (items_of (by_texts l))) else by_texts l) ∷ by_texts r ∷ by_texts a ∷ [])) (absent_same r)
    ∙ ap (λ u. Tree kind.NamedExport (by_texts s ∷ u ∷ by_texts r ∷ by_texts a ∷ [])) (specifiers_if (is_absent r) l)
    ∙ sym (text_tree kind.NamedExport (s ∷ (if is_absent r then Many (map specifier (items_of l)) else l) ∷ r ∷ a ∷ []))
written_row kind.Module us inner = absurd (cc)
written_row k us inner = rolls-Tree k (map by_texts us) ∙ sym (ap by_texts (rolls-Tree k us) ∙ text_tree k us)

-- ---- trees without a module

abbrev Written : Node → Type 0
Written t = IsTrue (is_inner t) → written_out (by_texts t) ≡ by_texts (written_out t)

each_written : (ts : List Node) → Each Written ts → IsTrue (list_all is_inner ts) → map written_out (map by_texts ts) ≡ map by_texts (map written_out ts)
each_written [] l h = refl
each_written (t ∷ ts) l h = let p = both (is_inner t) (list_all is_inner ts) h in rw (l.0 p.0, each_written ts l.1 p.1) refl

pub written_same : (t : Node) → Written t
written_same t = by_children Written
    (λ h. search (rules, the_lemmas), λ x h. search (rules, the_lemmas), λ w h. search (rules, the_lemmas), λ x h. search (rules, the_lemmas), λ s h. search (rules, the_lemmas), λ k i h. search (rules, the_lemmas))
    (λ ts l h. ap written_out (text_list ts) ∙ written_of_list (map by_texts ts) ∙ ap Many (each_written ts l (sym (list_is ts) ∙ h)) ∙ sym (ap by_texts (written_of_list ts) ∙ text_list (map written_out ts)))
    (λ k ts l h.
    ap written_out (text_tree k ts) ∙ written_of_tree k (map by_texts ts) ∙ ap (λ us. written_step (Node-F.Tree k us)) (each_written ts l (sym (tree_is k ts (no_module_of k ts h)) ∙ h))
    ∙ written_row k (map written_out ts) (no_module_of k ts h) ∙ ap by_texts (sym (written_of_tree k ts))) t

pub all_written : (ts : List Node) → IsTrue (list_all is_inner ts) → map written_out (map by_texts ts) ≡ map by_texts (map written_out ts)
all_written [] h = refl
all_written (t ∷ ts) h = let p = both (is_inner t) (list_all is_inner ts) h in rw (written_same t p.0, all_written ts p.1) refl
