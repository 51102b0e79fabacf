-- What is asked of the lengths of a node rests on no context.
use Rattle.std.proofs.Common.{◌≡◌, ℕ, zero, suc, ◌-◌, Bool, true, false, not, ◌&&◌, ◌||◌, List, [], ◌∷◌, length, take, map, refl, ap, ◌∙◌}
use Rattle.std.specs.Prelude.{if◌then◌else◌, nat_eq, nat_le, slice_get, unwrap_or}
use Rattle.std.specs.List.{filter, list_any}
use Rattle.std.specs.Cmp.Lexicographic.{pointwise}
use Rattle.swc_tree_node.specs.declared.kind.Kind.{Kind}
use Rattle.swc_tree_node.specs.declared.kind.Kind.TheVariants as kind
use Rattle.swc_tree_node.specs.declared.fields.functions.function.TheConstants as function_fields
use Rattle.swc_tree_node.specs.declared.node.Node.{Node, out-Node}
use Rattle.swc_tree_node.specs.declared.node.Node.TheOpen.{Node-F}
use Rattle.swc_tree_scoping.specs.Places.{plain_in}
use Rattle.swc_tree_scoping.specs.Readings.{by_texts}
use Rattle.swc_tree_grammar.specs.Shapes.{items_of}
use Rattle.swc_tree_grammar.specs.Kinds.{has_kind, is_destructuring}
use Rattle.swc_tree_grammar.specs.Levels.{is_absent, word_of}
use Rattle.swc_tree_grammar.specs.Writable.{constructor_key_in, is_getter, is_setter, is_text}
use Rattle.text_grammar.specs.Shaped.{are_imported, are_names, at_most_one, constructor_kind, default_in, default_kind, ends_in_tail, import_kind, is_clause, is_constructor, is_default, is_empty, is_export, is_misshapen, is_odd_accessor, is_odd_method, is_odd_rest, is_spread, is_tail, is_template, named_kind, odd_rest_in, spread_in, star_kind, star_or_names, tail_at, tail_in}
use Rattle.text_kept_laws.proofs.Cleared.{absent_same, all_same, any_same, count_same, flag_at, holds_same, items_same, kind_same, look, word_same, words_same}

-- ---- lists

one_more : (b : Bool) (t u : Node) (ts us : List Node) → length ts ≡ length us → length (if b then t ∷ ts else ts) ≡ length (if b then u ∷ us else us)
one_more true t u ts us h = ap suc h
one_more false t u ts us h = h

filtered : (q : Node → Bool) → ((t : Node) → q (by_texts t) ≡ q t) → (ts : List Node) → length (filter q (map by_texts ts)) ≡ length (filter q ts)
filtered q h [] = refl
filtered q h (t ∷ ts) =
    ap (λ b. length (if b then by_texts t ∷ filter q (map by_texts ts) else filter q (map by_texts ts))) (h t)
    ∙ one_more (q t) (by_texts t) t (filter q (map by_texts ts)) (filter q ts) (filtered q h ts)

most_same : (q : Node → Bool) → ((t : Node) → q (by_texts t) ≡ q t) → (t : Node) → at_most_one q (items_of (by_texts t)) ≡ at_most_one q (items_of t)
most_same q h t = ap (at_most_one q) (items_same t) ∙ ap (λ n. nat_le n 1) (filtered q h (items_of t))

empty_same : (ts : List Node) → is_empty (map by_texts ts) ≡ is_empty ts
empty_same [] = refl
empty_same (t ∷ ts) = refl

empty_items : (t : Node) → is_empty (items_of (by_texts t)) ≡ is_empty (items_of t)
empty_items t = ap is_empty (items_same t) ∙ empty_same (items_of t)

-- ---- imports and exports

names_same : (ts : List Node) → are_names (map by_texts ts) ≡ are_names ts
names_same ts = all_same (has_kind named_kind) (kind_same named_kind) ts

star_same : (ts : List Node) → star_or_names (map by_texts ts) ≡ star_or_names ts
star_same [] = refl
star_same (t ∷ []) = rw (kind_same star_kind t, kind_same named_kind t) refl
star_same (t ∷ u ∷ ts) = names_same (t ∷ u ∷ ts)

clause_same : (ts : List Node) → is_clause (map by_texts ts) ≡ is_clause ts
clause_same [] = refl
clause_same (t ∷ ts) =
    ap (λ b. if b then star_or_names (map by_texts ts) else star_or_names (by_texts t ∷ map by_texts ts)) (kind_same default_kind t)
    ∙ ap (λ b. if has_kind default_kind t then b else star_or_names (by_texts t ∷ map by_texts ts)) (star_same ts)
    ∙ ap (λ b. if has_kind default_kind t then star_or_names ts else b) (star_same (t ∷ ts))

export_same : (ts : List Node) (s a : Node) → is_export (map by_texts ts) (by_texts s) (by_texts a) ≡ is_export ts s a
export_same ts s a =
    ap (λ b. if b then are_names (map by_texts ts) && is_absent (by_texts a) else star_or_names (map by_texts ts)) (absent_same s)
    ∙ ap (λ b. if is_absent s then b && is_absent (by_texts a) else star_or_names (map by_texts ts)) (names_same ts)
    ∙ ap (λ b. if is_absent s then are_names ts && b else star_or_names (map by_texts ts)) (absent_same a)
    ∙ ap (λ b. if is_absent s then are_names ts && is_absent a else b) (star_same ts)

-- ---- classes

text_same : (x : List ℕ) (t : Node) → is_text x (by_texts t) ≡ is_text x t
text_same x t = ap (λ o. pointwise nat_eq (unwrap_or o []) x) (words_same t)

key_row : (k : Kind) (ts : List Node) → constructor_key_in (Node-F.Tree k (map by_texts ts)) ≡ constructor_key_in (Node-F.Tree k ts)
key_row kind.IdentName [] = refl
key_row kind.IdentName (a ∷ []) = refl
key_row kind.IdentName (a ∷ b ∷ []) = text_same _ b
key_row kind.IdentName (a ∷ b ∷ c ∷ ts) = refl
key_row kind.Str [] = refl
key_row kind.Str (a ∷ []) = refl
key_row kind.Str (a ∷ b ∷ []) = refl
key_row kind.Str (a ∷ b ∷ c ∷ []) = text_same _ b
key_row kind.Str (a ∷ b ∷ c ∷ d ∷ ts) = refl
key_row k ts = refl

key_same : (t : Node) → constructor_key_in (out-Node (by_texts t)) ≡ constructor_key_in (out-Node t)
key_same t = look Bool constructor_key_in (λ k i. refl) (λ ts. refl) key_row t

plain_row : (k : Kind) (ts : List Node) → plain_in (Node-F.Tree k (map by_texts ts)) ≡ plain_in (Node-F.Tree k ts)
plain_row kind.Function ts = rw (flag_at function_fields.IS_GENERATOR ts, flag_at function_fields.IS_ASYNC ts) refl
plain_row k ts = refl

plain_same : (t : Node) → plain_in (out-Node (by_texts t)) ≡ plain_in (out-Node t)
plain_same t = look Bool plain_in (λ k i. refl) (λ ts. refl) plain_row t

accessor_same : (f k : Node) → is_odd_accessor (by_texts f) (by_texts k) ≡ is_odd_accessor f k
accessor_same f k =
    ap (λ w. (is_getter w || is_setter w) && not (plain_in (out-Node (by_texts f)))) (word_same k)
    ∙ ap (λ b. (is_getter (word_of k) || is_setter (word_of k)) && not b) (plain_same f)

method_same : (k s : Node) → is_odd_method (by_texts k) (by_texts s) ≡ is_odd_method k s
method_same k s = rw (key_same k, holds_same s) refl

-- ---- templates, calls, patterns and cases

tail_row : (k : Kind) (ts : List Node) → tail_in (Node-F.Tree k (map by_texts ts)) ≡ tail_in (Node-F.Tree k ts)
tail_row kind.TplElement [] = refl
tail_row kind.TplElement (a ∷ []) = refl
tail_row kind.TplElement (a ∷ b ∷ []) = refl
tail_row kind.TplElement (a ∷ b ∷ c ∷ []) = refl
tail_row kind.TplElement (a ∷ b ∷ c ∷ d ∷ []) = holds_same b
tail_row kind.TplElement (a ∷ b ∷ c ∷ d ∷ e ∷ ts) = refl
tail_row k ts = refl

tail_same : (t : Node) → is_tail (by_texts t) ≡ is_tail t
tail_same t = look Bool tail_in (λ k i. refl) (λ ts. refl) tail_row t

tail_there : (n : ℕ) (ts : List Node) → tail_at (slice_get (map by_texts ts) n) ≡ tail_at (slice_get ts n)
tail_there n [] = refl
tail_there zero (t ∷ ts) = tail_same t
tail_there (suc n) (t ∷ ts) = tail_there n ts

tails_before : (n : ℕ) (ts : List Node) → list_any is_tail (take n (map by_texts ts)) ≡ list_any is_tail (take n ts)
tails_before zero ts = refl
tails_before (suc n) [] = refl
tails_before (suc n) (t ∷ ts) = rw (tail_same t, tails_before n ts) refl

ends_same : (ts : List Node) → ends_in_tail (map by_texts ts) ≡ ends_in_tail ts
ends_same ts =
    ap (λ n. tail_at (slice_get (map by_texts ts) (n - 1)) && not (list_any is_tail (take (n - 1) (map by_texts ts)))) (count_same ts)
    ∙ ap (λ b. b && not (list_any is_tail (take (length ts - 1) (map by_texts ts)))) (tail_there (length ts - 1) ts)
    ∙ ap (λ b. tail_at (slice_get ts (length ts - 1)) && not b) (tails_before (length ts - 1) ts)

template_same : (ps qs : List Node) → is_template (map by_texts ps) (map by_texts qs) ≡ is_template ps qs
template_same ps qs =
    ap (λ n. nat_eq n (suc (length (map by_texts ps))) && ends_in_tail (map by_texts qs)) (count_same qs)
    ∙ ap (λ n. nat_eq (length qs) (suc n) && ends_in_tail (map by_texts qs)) (count_same ps)
    ∙ ap (λ b. nat_eq (length qs) (suc (length ps)) && b) (ends_same qs)

template_items : (p q : Node) → is_template (items_of (by_texts p)) (items_of (by_texts q)) ≡ is_template (items_of p) (items_of q)
template_items p q = ap (λ ps. is_template ps (items_of (by_texts q))) (items_same p) ∙ ap (is_template (map by_texts (items_of p))) (items_same q) ∙ template_same (items_of p) (items_of q)

spread_row : (k : Kind) (ts : List Node) → spread_in (Node-F.Tree k (map by_texts ts)) ≡ spread_in (Node-F.Tree k ts)
spread_row kind.ExprOrSpread [] = refl
spread_row kind.ExprOrSpread (a ∷ []) = refl
spread_row kind.ExprOrSpread (a ∷ b ∷ []) = ap not (absent_same a)
spread_row kind.ExprOrSpread (a ∷ b ∷ c ∷ ts) = refl
spread_row k ts = refl

spread_same : (t : Node) → is_spread (by_texts t) ≡ is_spread t
spread_same t = look Bool spread_in (λ k i. refl) (λ ts. refl) spread_row t

imported_same : (ts : List Node) → are_imported (map by_texts ts) ≡ are_imported ts
imported_same [] = refl
imported_same (t ∷ []) = ap not (spread_same t)
imported_same (t ∷ u ∷ []) = rw (spread_same t, spread_same u) refl
imported_same (t ∷ u ∷ v ∷ ts) = refl

imported_items : (t : Node) → are_imported (items_of (by_texts t)) ≡ are_imported (items_of t)
imported_items t = ap are_imported (items_same t) ∙ imported_same (items_of t)

rest_row : (k : Kind) (ts : List Node) → odd_rest_in (Node-F.Tree k (map by_texts ts)) ≡ odd_rest_in (Node-F.Tree k ts)
rest_row kind.RestPat [] = refl
rest_row kind.RestPat (a ∷ []) = refl
rest_row kind.RestPat (a ∷ b ∷ []) = kind_same is_destructuring b
rest_row kind.RestPat (a ∷ b ∷ c ∷ ts) = refl
rest_row k ts = refl

rest_same : (t : Node) → is_odd_rest (by_texts t) ≡ is_odd_rest t
rest_same t = look Bool odd_rest_in (λ k i. refl) (λ ts. refl) rest_row t

rests_same : (t : Node) → list_any is_odd_rest (items_of (by_texts t)) ≡ list_any is_odd_rest (items_of t)
rests_same t = ap (list_any is_odd_rest) (items_same t) ∙ any_same is_odd_rest rest_same (items_of t)

case_row : (k : Kind) (ts : List Node) → default_in (Node-F.Tree k (map by_texts ts)) ≡ default_in (Node-F.Tree k ts)
case_row kind.SwitchCase [] = refl
case_row kind.SwitchCase (a ∷ []) = refl
case_row kind.SwitchCase (a ∷ b ∷ []) = refl
case_row kind.SwitchCase (a ∷ b ∷ c ∷ []) = absent_same b
case_row kind.SwitchCase (a ∷ b ∷ c ∷ d ∷ ts) = refl
case_row k ts = refl

default_same : (t : Node) → is_default (by_texts t) ≡ is_default t
default_same t = look Bool default_in (λ k i. refl) (λ ts. refl) case_row t

-- ---- each node

row : (k : Kind) (ts : List Node) → is_misshapen (Node-F.Tree k (map by_texts ts)) ≡ is_misshapen (Node-F.Tree k ts)
row kind.TryStmt [] = refl
row kind.TryStmt (a ∷ []) = refl
row kind.TryStmt (a ∷ b ∷ []) = refl
row kind.TryStmt (a ∷ b ∷ c ∷ []) = refl
row kind.TryStmt (a ∷ b ∷ c ∷ d ∷ []) = rw (absent_same c, absent_same d) refl
row kind.TryStmt (a ∷ b ∷ c ∷ d ∷ e ∷ ts) = refl
row kind.SwitchStmt [] = refl
row kind.SwitchStmt (a ∷ []) = refl
row kind.SwitchStmt (a ∷ b ∷ []) = refl
row kind.SwitchStmt (a ∷ b ∷ c ∷ []) = ap not (most_same is_default default_same c)
row kind.SwitchStmt (a ∷ b ∷ c ∷ d ∷ ts) = refl
row kind.SeqExpr [] = refl
row kind.SeqExpr (a ∷ []) = refl
row kind.SeqExpr (a ∷ b ∷ []) = ap (λ n. not (nat_le 2 n)) (ap length (items_same b) ∙ count_same (items_of b))
row kind.SeqExpr (a ∷ b ∷ c ∷ ts) = refl
row kind.YieldExpr [] = refl
row kind.YieldExpr (a ∷ []) = refl
row kind.YieldExpr (a ∷ b ∷ []) = refl
row kind.YieldExpr (a ∷ b ∷ c ∷ []) = rw (holds_same c, absent_same b) refl
row kind.YieldExpr (a ∷ b ∷ c ∷ d ∷ ts) = refl
row kind.Tpl [] = refl
row kind.Tpl (a ∷ []) = refl
row kind.Tpl (a ∷ b ∷ []) = refl
row kind.Tpl (a ∷ b ∷ c ∷ []) = ap not (template_items b c)
row kind.Tpl (a ∷ b ∷ c ∷ d ∷ ts) = refl
row kind.CallExpr [] = refl
row kind.CallExpr (a ∷ []) = refl
row kind.CallExpr (a ∷ b ∷ []) = refl
row kind.CallExpr (a ∷ b ∷ c ∷ []) = ap (λ x. x && not (are_imported (items_of (by_texts c)))) (kind_same import_kind b) ∙ ap (λ x. has_kind import_kind b && not x) (imported_items c)
row kind.CallExpr (a ∷ b ∷ c ∷ d ∷ ts) = refl
row kind.ObjectPat [] = refl
row kind.ObjectPat (a ∷ []) = refl
row kind.ObjectPat (a ∷ b ∷ []) = rests_same b
row kind.ObjectPat (a ∷ b ∷ c ∷ ts) = refl
row kind.Class [] = refl
row kind.Class (a ∷ []) = refl
row kind.Class (a ∷ b ∷ []) = refl
row kind.Class (a ∷ b ∷ c ∷ []) = ap not (most_same is_constructor (kind_same constructor_kind) c)
row kind.Class (a ∷ b ∷ c ∷ d ∷ ts) = refl
row kind.ClassMethod [] = refl
row kind.ClassMethod (a ∷ []) = refl
row kind.ClassMethod (a ∷ b ∷ []) = refl
row kind.ClassMethod (a ∷ b ∷ c ∷ []) = refl
row kind.ClassMethod (a ∷ b ∷ c ∷ d ∷ []) = refl
row kind.ClassMethod (a ∷ b ∷ c ∷ d ∷ e ∷ []) = ap (λ x. x || is_odd_method (by_texts b) (by_texts e)) (accessor_same c d) ∙ ap (λ x. is_odd_accessor c d || x) (method_same b e)
row kind.ClassMethod (a ∷ b ∷ c ∷ d ∷ e ∷ f ∷ ts) = refl
row kind.PrivateMethod [] = refl
row kind.PrivateMethod (a ∷ []) = refl
row kind.PrivateMethod (a ∷ b ∷ []) = refl
row kind.PrivateMethod (a ∷ b ∷ c ∷ []) = refl
row kind.PrivateMethod (a ∷ b ∷ c ∷ d ∷ []) = refl
row kind.PrivateMethod (a ∷ b ∷ c ∷ d ∷ e ∷ []) = accessor_same c d
row kind.PrivateMethod (a ∷ b ∷ c ∷ d ∷ e ∷ f ∷ ts) = refl
row kind.VarDecl [] = refl
row kind.VarDecl (a ∷ []) = refl
row kind.VarDecl (a ∷ b ∷ []) = refl
row kind.VarDecl (a ∷ b ∷ c ∷ []) = empty_items c
row kind.VarDecl (a ∷ b ∷ c ∷ d ∷ ts) = refl
row kind.UsingDecl [] = refl
row kind.UsingDecl (a ∷ []) = refl
row kind.UsingDecl (a ∷ b ∷ []) = refl
row kind.UsingDecl (a ∷ b ∷ c ∷ []) = empty_items c
row kind.UsingDecl (a ∷ b ∷ c ∷ d ∷ ts) = refl
row kind.ImportDecl [] = refl
row kind.ImportDecl (a ∷ []) = refl
row kind.ImportDecl (a ∷ b ∷ []) = refl
row kind.ImportDecl (a ∷ b ∷ c ∷ []) = refl
row kind.ImportDecl (a ∷ b ∷ c ∷ d ∷ []) = ap not (ap is_clause (items_same b) ∙ clause_same (items_of b))
row kind.ImportDecl (a ∷ b ∷ c ∷ d ∷ e ∷ ts) = refl
row kind.NamedExport [] = refl
row kind.NamedExport (a ∷ []) = refl
row kind.NamedExport (a ∷ b ∷ []) = refl
row kind.NamedExport (a ∷ b ∷ c ∷ []) = refl
row kind.NamedExport (a ∷ b ∷ c ∷ d ∷ []) = ap not (ap (λ ts. is_export ts (by_texts c) (by_texts d)) (items_same b) ∙ export_same (items_of b) c d)
row kind.NamedExport (a ∷ b ∷ c ∷ d ∷ e ∷ ts) = refl
row k ts = refl

pub misshapen_same : (t : Node) → is_misshapen (out-Node (by_texts t)) ≡ is_misshapen (out-Node t)
misshapen_same t = look Bool is_misshapen (λ k i. refl) (λ ts. refl) row t
