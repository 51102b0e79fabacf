-- What is asked of the lengths of a node rests on what is seen of its fields and of their items.
use Rattle.std.proofs.Common.{◌≡◌, ℕ, zero, suc, ◌-◌, Bool, true, false, not, ◌&&◌, ◌||◌, List, [], ◌∷◌, length, take, map, refl, sym, ap, ◌∙◌}
use Rattle.std.specs.Prelude.{if◌then◌else◌, nat_eq, nat_le, slice_get}
use Rattle.std.specs.List.{filter, list_all, list_any}
use Rattle.swc_tree_node.specs.declared.kind.Kind.{Kind}
use Rattle.swc_tree_node.specs.declared.kind.Kind.TheVariants as kind
use Rattle.swc_tree_node.specs.declared.node.Node.{Node, out-Node}
use Rattle.swc_tree_node.specs.declared.node.Node.TheOpen.{Node-F}
use Rattle.swc_tree_scoping.specs.Places.{plain_in}
use Rattle.swc_tree_grammar.specs.Shapes.{items_of}
use Rattle.swc_tree_grammar.specs.Kinds.{has_kind}
use Rattle.swc_tree_grammar.specs.Levels.{is_absent, word_of}
use Rattle.swc_tree_grammar.specs.Forms.{holds}
use Rattle.swc_tree_grammar.specs.Writable.{is_getter, is_setter}
use Rattle.text_grammar.specs.Shaped.{are_imported, are_names, at_most_one, default_kind, ends_in_tail, import_kind, is_clause, is_constructor, is_default, is_empty, is_export, is_misshapen, is_odd_accessor, is_odd_method, is_odd_rest, is_spread, is_tail, is_template, named_kind, star_kind, star_or_names, tail_at}
use Rattle.text_kept_laws.proofs.Views.{Keyed, Listed, Of, View, afters, befores}

-- ---- lists

one_more : (b : Bool) (t u : Node) (ts us : List Node) → length ts ≡ length us → length (if b then t ∷ ts else ts) ≡ length (if b then u ∷ us else us)
one_more true t u ts us h = ap suc h
one_more false t u ts us h = h

count : (vs : List View) → length (afters vs) ≡ length (befores vs)
count [] = refl
count (v ∷ vs) = ap suc (count vs)

module _ (q : Node → Bool) (h : (v : View) → q v.after ≡ q v.before) where
  filtered : (vs : List View) → length (filter q (afters vs)) ≡ length (filter q (befores vs))
  filtered [] = refl
  filtered (v ∷ vs) =
      ap (λ b. length (if b then v.after ∷ filter q (afters vs) else filter q (afters vs))) (h v)
      ∙ one_more (q v.before) v.after v.before (filter q (afters vs)) (filter q (befores vs)) (filtered vs)

  most : (v : View) → Listed v → at_most_one q (items_of v.after) ≡ at_most_one q (items_of v.before)
  most v l = ap (at_most_one q) l.are ∙ ap (λ n. nat_le n 1) (filtered l.items) ∙ sym (ap (at_most_one q) l.were)

  pub all_same : (vs : List View) → list_all q (afters vs) ≡ list_all q (befores vs)
  all_same [] = refl
  all_same (v ∷ vs) = rw (h v, all_same vs) refl

  pub any_same : (vs : List View) → list_any q (afters vs) ≡ list_any q (befores vs)
  any_same [] = refl
  any_same (v ∷ vs) = rw (h v, any_same vs) refl

  any_items : (v : View) → Listed v → list_any q (items_of v.after) ≡ list_any q (items_of v.before)
  any_items v l = ap (list_any q) l.are ∙ any_same l.items ∙ sym (ap (list_any q) l.were)

empty_same : (vs : List View) → is_empty (afters vs) ≡ is_empty (befores vs)
empty_same [] = refl
empty_same (v ∷ vs) = refl

empty_items : (v : View) → Listed v → is_empty (items_of v.after) ≡ is_empty (items_of v.before)
empty_items v l = ap is_empty l.are ∙ empty_same l.items ∙ sym (ap is_empty l.were)

count_items : (v : View) → Listed v → length (items_of v.after) ≡ length (items_of v.before)
count_items v l = ap length l.are ∙ count l.items ∙ sym (ap length l.were)

-- ---- imports and exports

names_same : (vs : List View) → are_names (afters vs) ≡ are_names (befores vs)
names_same vs = all_same (has_kind named_kind) (λ v. v.kind.named) vs

star_same : (vs : List View) → star_or_names (afters vs) ≡ star_or_names (befores vs)
star_same [] = refl
star_same (v ∷ []) = rw (v.kind.star, v.kind.named) refl
star_same (v ∷ w ∷ vs) = names_same (v ∷ w ∷ vs)

clause_same : (vs : List View) → is_clause (afters vs) ≡ is_clause (befores vs)
clause_same [] = refl
clause_same (v ∷ vs) =
    ap (λ b. if b then star_or_names (afters vs) else star_or_names (v.after ∷ afters vs)) v.kind.default
    ∙ ap (λ b. if has_kind default_kind v.before then b else star_or_names (v.after ∷ afters vs)) (star_same vs)
    ∙ ap (λ b. if has_kind default_kind v.before then star_or_names (befores vs) else b) (star_same (v ∷ vs))

clause_items : (v : View) → Listed v → is_clause (items_of v.after) ≡ is_clause (items_of v.before)
clause_items v l = ap is_clause l.are ∙ clause_same l.items ∙ sym (ap is_clause l.were)

export_same : (vs : List View) (s a : View) → is_export (afters vs) s.after a.after ≡ is_export (befores vs) s.before a.before
export_same vs s a =
    ap (λ b. if b then are_names (afters vs) && is_absent a.after else star_or_names (afters vs)) s.leaf.absent
    ∙ ap (λ b. if is_absent s.before then b && is_absent a.after else star_or_names (afters vs)) (names_same vs)
    ∙ ap (λ b. if is_absent s.before then are_names (befores vs) && b else star_or_names (afters vs)) a.leaf.absent
    ∙ ap (λ b. if is_absent s.before then are_names (befores vs) && is_absent a.before else b) (star_same vs)

export_items : (v s a : View) → Listed v → is_export (items_of v.after) s.after a.after ≡ is_export (items_of v.before) s.before a.before
export_items v s a l = ap (λ ts. is_export ts s.after a.after) l.are ∙ export_same l.items s a ∙ sym (ap (λ ts. is_export ts s.before a.before) l.were)

-- ---- classes

accessor_same : (f k : View) → is_odd_accessor f.after k.after ≡ is_odd_accessor f.before k.before
accessor_same f k =
    ap (λ w. (is_getter w || is_setter w) && not (plain_in (out-Node f.after))) k.leaf.word
    ∙ ap (λ b. (is_getter (word_of k.before) || is_setter (word_of k.before)) && not b) f.parts.plain

method_same : (k s : View) → Keyed k → is_odd_method k.after s.after ≡ is_odd_method k.before s.before
method_same k s h = rw (h, s.leaf.flag) refl

-- ---- templates and calls

tail_there : (n : ℕ) (vs : List View) → tail_at (slice_get (afters vs) n) ≡ tail_at (slice_get (befores vs) n)
tail_there n [] = refl
tail_there zero (v ∷ vs) = v.parts.tail
tail_there (suc n) (v ∷ vs) = tail_there n vs

tails_before : (n : ℕ) (vs : List View) → list_any is_tail (take n (afters vs)) ≡ list_any is_tail (take n (befores vs))
tails_before zero vs = refl
tails_before (suc n) [] = refl
tails_before (suc n) (v ∷ vs) = ap (λ b. b || list_any is_tail (take n (afters vs))) v.parts.tail ∙ ap (λ b. is_tail v.before || b) (tails_before n vs)

ends_same : (vs : List View) → ends_in_tail (afters vs) ≡ ends_in_tail (befores vs)
ends_same vs =
    ap (λ n. tail_at (slice_get (afters vs) (n - 1)) && not (list_any is_tail (take (n - 1) (afters vs)))) (count vs)
    ∙ ap (λ b. b && not (list_any is_tail (take (length (befores vs) - 1) (afters vs)))) (tail_there (length (befores vs) - 1) vs)
    ∙ ap (λ b. tail_at (slice_get (befores vs) (length (befores vs) - 1)) && not b) (tails_before (length (befores vs) - 1) vs)

template_items : (p q : View) → Listed p → Listed q → is_template (items_of p.after) (items_of q.after) ≡ is_template (items_of p.before) (items_of q.before)
template_items p q l m =
    ap (λ n. nat_eq (length (items_of q.after)) (suc n) && ends_in_tail (items_of q.after)) (count_items p l)
    ∙ ap (λ n. nat_eq n (suc (length (items_of p.before))) && ends_in_tail (items_of q.after)) (count_items q m)
    ∙ ap (λ b. nat_eq (length (items_of q.before)) (suc (length (items_of p.before))) && b) (ap ends_in_tail m.are ∙ ends_same m.items ∙ sym (ap ends_in_tail m.were))

imported_same : (vs : List View) → are_imported (afters vs) ≡ are_imported (befores vs)
imported_same [] = refl
imported_same (v ∷ []) = ap not v.parts.spread
imported_same (v ∷ w ∷ []) = ap (λ b. not b && not (is_spread w.after)) v.parts.spread ∙ ap (λ b. not (is_spread v.before) && not b) w.parts.spread
imported_same (v ∷ w ∷ x ∷ vs) = refl

imported_items : (v : View) → Listed v → are_imported (items_of v.after) ≡ are_imported (items_of v.before)
imported_items v l = ap are_imported l.are ∙ imported_same l.items ∙ sym (ap are_imported l.were)

-- ---- each node

-- the kind of which a key is looked at
abbrev pub has_key : Kind → Bool
has_key kind.ClassMethod = true
has_key _ = false

-- the kinds of which the items of lists are looked at
abbrev pub has_items : Kind → Bool
has_items kind.SwitchStmt = true
has_items kind.SeqExpr = true
has_items kind.Tpl = true
has_items kind.CallExpr = true
has_items kind.ObjectPat = true
has_items kind.Class = true
has_items kind.VarDecl = true
has_items kind.UsingDecl = true
has_items kind.ImportDecl = true
has_items kind.NamedExport = true
has_items _ = false

pub row : (k : Kind) (vs : List View) → (has_items k ≡ true → Of Listed vs) → (has_key k ≡ true → Of Keyed vs) → is_misshapen (Node-F.Tree k (afters vs)) ≡ is_misshapen (Node-F.Tree k (befores vs))
row kind.TryStmt [] l h = refl
row kind.TryStmt (a ∷ []) l h = refl
row kind.TryStmt (a ∷ b ∷ []) l h = refl
row kind.TryStmt (a ∷ b ∷ c ∷ []) l h = refl
row kind.TryStmt (a ∷ b ∷ c ∷ d ∷ []) l h = ap (λ x. x && is_absent d.after) c.leaf.absent ∙ ap (λ x. is_absent c.before && x) d.leaf.absent
row kind.TryStmt (a ∷ b ∷ c ∷ d ∷ e ∷ vs) l h = refl
row kind.SwitchStmt [] l h = refl
row kind.SwitchStmt (a ∷ []) l h = refl
row kind.SwitchStmt (a ∷ b ∷ []) l h = refl
row kind.SwitchStmt (a ∷ b ∷ c ∷ []) l h = ap not (most is_default (λ v. v.parts.case) c (l refl).1.1.0)
row kind.SwitchStmt (a ∷ b ∷ c ∷ d ∷ vs) l h = refl
row kind.SeqExpr [] l h = refl
row kind.SeqExpr (a ∷ []) l h = refl
row kind.SeqExpr (a ∷ b ∷ []) l h = ap (λ n. not (nat_le 2 n)) (count_items b (l refl).1.0)
row kind.SeqExpr (a ∷ b ∷ c ∷ vs) l h = refl
row kind.YieldExpr [] l h = refl
row kind.YieldExpr (a ∷ []) l h = refl
row kind.YieldExpr (a ∷ b ∷ []) l h = refl
row kind.YieldExpr (a ∷ b ∷ c ∷ []) l h = ap (λ x. x && is_absent b.after) c.leaf.flag ∙ ap (λ x. holds c.before && x) b.leaf.absent
row kind.YieldExpr (a ∷ b ∷ c ∷ d ∷ vs) l h = refl
row kind.Tpl [] l h = refl
row kind.Tpl (a ∷ []) l h = refl
row kind.Tpl (a ∷ b ∷ []) l h = refl
row kind.Tpl (a ∷ b ∷ c ∷ []) l h = ap not (template_items b c (l refl).1.0 (l refl).1.1.0)
row kind.Tpl (a ∷ b ∷ c ∷ d ∷ vs) l h = refl
row kind.CallExpr [] l h = refl
row kind.CallExpr (a ∷ []) l h = refl
row kind.CallExpr (a ∷ b ∷ []) l h = refl
row kind.CallExpr (a ∷ b ∷ c ∷ []) l h = ap (λ x. x && not (are_imported (items_of c.after))) b.kind.imports ∙ ap (λ x. has_kind import_kind b.before && not x) (imported_items c (l refl).1.1.0)
row kind.CallExpr (a ∷ b ∷ c ∷ d ∷ vs) l h = refl
row kind.ObjectPat [] l h = refl
row kind.ObjectPat (a ∷ []) l h = refl
row kind.ObjectPat (a ∷ b ∷ []) l h = any_items is_odd_rest (λ v. v.parts.rest) b (l refl).1.0
row kind.ObjectPat (a ∷ b ∷ c ∷ vs) l h = refl
row kind.Class [] l h = refl
row kind.Class (a ∷ []) l h = refl
row kind.Class (a ∷ b ∷ []) l h = refl
row kind.Class (a ∷ b ∷ c ∷ []) l h = ap not (most is_constructor (λ v. v.kind.constructor) c (l refl).1.1.0)
row kind.Class (a ∷ b ∷ c ∷ d ∷ vs) l h = refl
row kind.ClassMethod [] l h = refl
row kind.ClassMethod (a ∷ []) l h = refl
row kind.ClassMethod (a ∷ b ∷ []) l h = refl
row kind.ClassMethod (a ∷ b ∷ c ∷ []) l h = refl
row kind.ClassMethod (a ∷ b ∷ c ∷ d ∷ []) l h = refl
row kind.ClassMethod (a ∷ b ∷ c ∷ d ∷ e ∷ []) l h = ap (λ x. x || is_odd_method b.after e.after) (accessor_same c d) ∙ ap (λ x. is_odd_accessor c.before d.before || x) (method_same b e (h refl).1.0)
row kind.ClassMethod (a ∷ b ∷ c ∷ d ∷ e ∷ f ∷ vs) l h = refl
row kind.PrivateMethod [] l h = refl
row kind.PrivateMethod (a ∷ []) l h = refl
row kind.PrivateMethod (a ∷ b ∷ []) l h = refl
row kind.PrivateMethod (a ∷ b ∷ c ∷ []) l h = refl
row kind.PrivateMethod (a ∷ b ∷ c ∷ d ∷ []) l h = refl
row kind.PrivateMethod (a ∷ b ∷ c ∷ d ∷ e ∷ []) l h = accessor_same c d
row kind.PrivateMethod (a ∷ b ∷ c ∷ d ∷ e ∷ f ∷ vs) l h = refl
row kind.VarDecl [] l h = refl
row kind.VarDecl (a ∷ []) l h = refl
row kind.VarDecl (a ∷ b ∷ []) l h = refl
row kind.VarDecl (a ∷ b ∷ c ∷ []) l h = empty_items c (l refl).1.1.0
row kind.VarDecl (a ∷ b ∷ c ∷ d ∷ vs) l h = refl
row kind.UsingDecl [] l h = refl
row kind.UsingDecl (a ∷ []) l h = refl
row kind.UsingDecl (a ∷ b ∷ []) l h = refl
row kind.UsingDecl (a ∷ b ∷ c ∷ []) l h = empty_items c (l refl).1.1.0
row kind.UsingDecl (a ∷ b ∷ c ∷ d ∷ vs) l h = refl
row kind.ImportDecl [] l h = refl
row kind.ImportDecl (a ∷ []) l h = refl
row kind.ImportDecl (a ∷ b ∷ []) l h = refl
row kind.ImportDecl (a ∷ b ∷ c ∷ []) l h = refl
row kind.ImportDecl (a ∷ b ∷ c ∷ d ∷ []) l h = ap not (clause_items b (l refl).1.0)
row kind.ImportDecl (a ∷ b ∷ c ∷ d ∷ e ∷ vs) l h = refl
row kind.NamedExport [] l h = refl
row kind.NamedExport (a ∷ []) l h = refl
row kind.NamedExport (a ∷ b ∷ []) l h = refl
row kind.NamedExport (a ∷ b ∷ c ∷ []) l h = refl
row kind.NamedExport (a ∷ b ∷ c ∷ d ∷ []) l h = ap not (export_items b c d (l refl).1.0)
row kind.NamedExport (a ∷ b ∷ c ∷ d ∷ e ∷ vs) l h = refl
row k vs l h = refl
