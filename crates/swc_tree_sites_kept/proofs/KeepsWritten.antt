-- A tree that is settled is settled once it is written out.
use Rattle.std.proofs.Common.{◌≡◌, ℕ, Bool, true, false, ◌||◌, IsTrue, Some, None, List, [], ◌∷◌, map, refl, sym, ap, ◌∙◌, subst, cond, rules, true≢false}
use Rattle.std.specs.List.{list_all}
use Rattle.std.specs.Prelude.{codes, nat_eq}
use Rattle.std.specs.Cmp.Lexicographic.{pointwise}
use Rattle.swc_tree_marks.specs.declared.ident.Ident.{Ident}
use Rattle.swc_tree_node.specs.declared.kind.Kind.{Kind}
use Rattle.swc_tree_node.specs.declared.kind.Kind.TheVariants as kind
use Rattle.swc_tree_node.specs.declared.kind.Class.TheVariants as class
use Rattle.swc_tree_node.specs.declared.slot.Slot.{Slot}
use Rattle.swc_tree_node.specs.declared.node.Node.{Node, Absent, Flag, Word, Text, Span, List as Many, Identifier, Tree, out-Node, the_lemmas}
use Rattle.swc_tree_node.specs.declared.node.Node.TheOpen.{Node-F}
use Rattle.swc_tree_node.specs.declared.node.Node.TheVariants.{outs-Tree, rolls-Identifier, rolls-List, rolls-Tree}
use Rattle.swc_tree_node.specs.Table.{slots_of}
use Rattle.swc_tree_node.specs.Fits.{AllFit, FieldsFit, Fits, belongs}
use Rattle.swc_tree_node.proofs.Fit.{both, fits-List}
use Rattle.swc_tree_scoping.specs.declared.places.Standing.{Standing}
use Rattle.swc_tree_scoping.specs.declared.places.Standing.TheVariants as standing
use Rattle.swc_tree_scoping.specs.declared.places.Place.{Place}
use Rattle.swc_tree_scoping.specs.declared.places.View.TheVariants as view
use Rattle.swc_tree_scoping.specs.Places.{block_scope, is_there, nested_below, place_in}
use Rattle.swc_tree_scoping.specs.Shorthands.{computed_key, key_of, shorthand_key}
use Rattle.swc_tree_scoping.proofs.Remarked.{rolled}
use Rattle.swc_tree_renaming.specs.Apart.{function_in}
use Rattle.swc_tree_grammar.specs.Blocks.{takes_else}
use Rattle.swc_tree_grammar.specs.Levels.{is_absent}
use Rattle.swc_tree_grammar.specs.Normal.{again, again_in, as_pattern, only_in, opened, opened_in, pattern_in, pattern_property_in, property, property_in, specifier, specifier_in, with_default, written_out, written_step}
use Rattle.swc_tree_grammar.specs.Shapes.{items_in, items_of}
use Rattle.swc_tree_grammar.proofs.Induction.{Each, by_children}
use Rattle.swc_tree_grammar.proofs.Places.{one, stands}
use Rattle.swc_tree_grammar_laws.proofs.Levelled.{also, half}
use Rattle.swc_tree_grammar_texts.proofs.Inner.{is_inner, list_is, no_module, no_module_of, tree_is}
use Rattle.swc_tree_sites_written.proofs.Written.{written_list, written_name, written_tree}
use Rattle.swc_tree_sites_kept.proofs.Patterns.{only_node}
use Rattle.swc_base_fixer_laws.specs.Sets.{item}
use Rattle.swc_base_fixer_laws.proofs.SetsRows.{items_open}
use Rattle.swc_tree_sites_kept.proofs.KeepsPlaces.{AllKeep, Calmer, Keeps, Suits, Z, absent_settled, calmer_same, each_list, items_keep, keeps_is, keeps_then, list_each, list_keeps, mark, name_settled, or_left, part_mark, same, settled_from, settled_parts, span_settled, suits_same, text_settled, tree_keeps}
use Rattle.swc_tree_sites_kept.proofs.KeepsCode.{is_code, mapped_keeps}
use Rattle.swc_tree_sites_kept.proofs.KeepsNested.{else_free}
use Rattle.swc_tree_sites_kept.proofs.KeepsStripped.{function_kind, or_false}

-- a field that stands in no scope of the node's own, before and after
abbrev inside : Place → Standing → Place
inside w r = record { standing = r; strict = w.strict || false; nested = w.nested }

calm : (v w : Place) (r q : Standing) → Calmer v w → Calmer (inside v r) (inside w q)
calm v w r q c = record { strict = λ e. or_left v.strict false (c.strict (or_false w.strict e)); nested = c.nested }

-- ---- keys, names and patterns

key_settled : (w : Place) (i : Ident) → Z w (key_of i) ≡ true
key_settled w i = settled_from w kind.IdentName (Span i.span ∷ Text i.sym ∷ []) refl (also (span_settled (inside w standing.Plain) i.span) (also (text_settled (inside w standing.Plain) i.sym) refl))

string_settled : (w : Place) (i : Ident) → Z w (Tree kind.Str (Span i.span ∷ Text i.sym ∷ Absent ∷ [])) ≡ true
string_settled w i =
    settled_from w kind.Str (Span i.span ∷ Text i.sym ∷ Absent ∷ []) refl
    (also (span_settled (inside w standing.Plain) i.span) (also (text_settled (inside w standing.Plain) i.sym) (also (absent_settled (inside w standing.Plain)) refl)))

computed_settled : (w : Place) (i : Ident) → Z w (computed_key i) ≡ true
computed_settled w i =
    settled_from w kind.ComputedPropName (Span i.span ∷ Tree kind.Str (Span i.span ∷ Text i.sym ∷ Absent ∷ []) ∷ []) refl
    (also (span_settled (inside w standing.Plain) i.span) (also (string_settled (inside w standing.Reference) i) refl))

shorthand_settled : (w : Place) (i : Ident) → Z w (shorthand_key i) ≡ true
shorthand_settled w i = at (pointwise nat_eq i.sym (codes "__proto__"))
  where
    at : (b : Bool) → Z w (cond b (computed_key i) (key_of i)) ≡ true
    at true = computed_settled w i
    at false = key_settled w i

named_settled : (w : Place) (t : Node) (k : Kind) (i : Ident) → out-Node t ≡ Node-F.Identifier k i → Z w t ≡ true
named_settled w t k i o = ap (Z w) (rolled t _ o ∙ rolls-Identifier k i) ∙ name_settled w k i

property_settled : (w : Place) (t : Node) → Z w t ≡ true → Z w (property t) ≡ true
property_settled w t h = at (out-Node t) refl
  where
    at : (y : Node-F Node) → out-Node t ≡ y → Z w (property_in t y) ≡ true
    at (Node-F.Identifier k i) o =
        settled_from w kind.KeyValueProp (shorthand_key i ∷ t ∷ []) refl (also (shorthand_settled (inside w standing.Plain) i) (also (named_settled (inside w standing.Reference) t k i o) refl))
    at Node-F.Absent o = h
    at _ o = h

pattern_keeps : (t : Node) → Keeps t (as_pattern t)
pattern_keeps t = at (out-Node t)
  where
    at : (y : Node-F Node) → Keeps t (pattern_in t y)
    at (Node-F.Identifier kind.Ident i) = λ w v c s h. name_settled v kind.BindingIdent i
    at _ = same t

pattern_settled : (w : Place) (t : Node) → Z w t ≡ true → Z w (as_pattern t) ≡ true
pattern_settled w t h = pattern_keeps t w w (calmer_same w) (suits_same (mark w.standing)) h

each_map : (w : Place) (f : Node → Node) → ((t : Node) → Z w t ≡ true → Z w (f t) ≡ true) → (ts : List Node) → Each (λ t. Z w t ≡ true) ts → Each (λ t. Z w t ≡ true) (map f ts)
each_map w f g [] h = tt
each_map w f g (t ∷ ts) h = (g t h.0, each_map w f g ts h.1)

-- ---- a block that goes

block_nested : (p : Standing) (n : Bool) → n ≡ true → nested_below n (block_scope p) view.Whole ≡ true
block_nested standing.Body n h = h
block_nested standing.Plain n h = refl
block_nested _ n h = refl

goes : (a s : Node) → takes_else s ≡ true → Keeps (Tree kind.BlockStmt (a ∷ Many (s ∷ []) ∷ [])) s
goes a s e w v c m h =
    let u = place_in w (Node-F.Tree kind.BlockStmt (a ∷ Many (s ∷ []) ∷ [])) 1 in
    let p = half (settled_parts w kind.BlockStmt (a ∷ Many (s ∷ []) ∷ []) h).1 in let q = half p.1 in
    else_free s e u v (record { strict = λ e. c.strict (or_false w.strict e); nested = λ e. block_nested w.standing w.nested (c.nested e) }) (list_each u (s ∷ []) q.0).0

one_item : (t s : Node) (y : Node-F Node) → out-Node t ≡ y → items_in y ≡ s ∷ [] → t ≡ Many (s ∷ [])
one_item t s (Node-F.List ts) o e = rolled t _ o ∙ rolls-List ts ∙ ap (λ ts. Many ts) e
one_item t s Node-F.Absent o e = absurd (cc)
one_item t s _ o e = absurd (cc)

opened_keeps : (t : Node) → Keeps t (opened t)
opened_keeps t = at (out-Node t) refl
  where
    block : (a b : Node) → out-Node t ≡ Node-F.Tree kind.BlockStmt (a ∷ b ∷ []) → (ss : List Node) → items_of b ≡ ss → Keeps t (only_in t ss)
    block a b o [] e = same t
    block a b o (s ∷ u ∷ ss) e = same t
    block a b o (s ∷ []) e = by (takes_else s) refl
      where
        is : t ≡ Tree kind.BlockStmt (a ∷ Many (s ∷ []) ∷ [])
        is = rolled t _ o ∙ rolls-Tree kind.BlockStmt (a ∷ b ∷ []) ∙ ap (λ b. Tree kind.BlockStmt (a ∷ b ∷ [])) (one_item b s (out-Node b) refl e)

        by : (x : Bool) → takes_else s ≡ x → Keeps t (cond x s t)
        by true f = subst (λ t. Keeps t s) (sym is) (goes a s f)
        by false f = same t

    at : (y : Node-F Node) → out-Node t ≡ y → Keeps t (opened_in t y)
    at (Node-F.Tree kind.BlockStmt (a ∷ b ∷ [])) o = block a b o (items_of b) refl
    at _ o = same t

-- ---- a name said again

again_settled : (name other : Node) (u w v : Place) → Calmer v u → Suits (mark v.standing) (mark u.standing) → Calmer v w → Suits (mark v.standing) (mark w.standing) → Z u name ≡ true → Z w other ≡ true → Z v (again name other) ≡ true
again_settled name other u w v c s d r h g = by (is_absent other)
  where
    at : (y : Node-F Node) → Z v (again_in name y) ≡ true
    at (Node-F.Identifier k i) = name_settled v kind.Ident (record { span = i.span; ctxt = []; sym = i.sym })
    at Node-F.Absent = same name u v c s h
    at _ = same name u v c s h

    by : (b : Bool) → Z v (cond b (again_in name (out-Node name)) other) ≡ true
    by true = at (out-Node name)
    by false = same other w v d r g

import_keeps : (a l m : Node) → Keeps (Tree kind.ImportNamedSpecifier (a ∷ l ∷ m ∷ [])) (Tree kind.ImportNamedSpecifier (a ∷ l ∷ again l m ∷ []))
import_keeps a l m w v c s h =
    let p = half (settled_parts w kind.ImportNamedSpecifier (a ∷ l ∷ m ∷ []) h).1 in let q = half p.1 in let r = half q.1 in
    settled_from v kind.ImportNamedSpecifier (a ∷ l ∷ again l m ∷ []) refl
    (also (same a (inside w standing.Plain) (inside v standing.Plain) (calm v w standing.Plain standing.Plain c) (suits_same None) p.0)
    (also (same l (inside w standing.Import) (inside v standing.Import) (calm v w standing.Import standing.Import c) (suits_same None) q.0)
    (also (again_settled l m (inside w standing.Import) (inside w standing.Imported) (inside v standing.Imported) (calm v w standing.Imported standing.Import c) (suits_same None) (calm v w standing.Imported standing.Imported c) (suits_same None) q.0 r.0) refl)))

-- where an export list stands, neither a branch nor a body does
abbrev Unmarked : Place → Type 0
Unmarked w = mark w.standing ≡ None

export_settled : (w : Place) → Unmarked w → (a o e : Node) → Z w (Tree kind.ExportNamedSpecifier (a ∷ o ∷ e ∷ [])) ≡ true → Z w (Tree kind.ExportNamedSpecifier (a ∷ o ∷ again o e ∷ [])) ≡ true
export_settled w n a o e h =
    let y = Node-F.Tree kind.ExportNamedSpecifier (a ∷ o ∷ e ∷ []) in
    let p = half (settled_parts w kind.ExportNamedSpecifier (a ∷ o ∷ e ∷ []) h).1 in let q = half p.1 in let r = half q.1 in
    settled_from w kind.ExportNamedSpecifier (a ∷ o ∷ again o e ∷ []) refl (also p.0 (also q.0 (also
    (again_settled o e (place_in w y 1) (inside w standing.Exported) (inside w standing.Exported) (record { strict = λ e. e; nested = λ e. e })
    (subst (λ m. Suits None m) (sym (part_mark w.standing (Some o) ∙ n)) (suits_same None)) (calmer_same (inside w standing.Exported)) (suits_same None) q.0 r.0)
    refl)))

specifier_settled : (w : Place) → Unmarked w → (t : Node) → Z w t ≡ true → Z w (specifier t) ≡ true
specifier_settled w n t h = at (out-Node t) refl
  where
    at : (y : Node-F Node) → out-Node t ≡ y → Z w (specifier_in t y) ≡ true
    at (Node-F.Tree kind.ExportNamedSpecifier (a ∷ o ∷ e ∷ [])) g = export_settled w n a o e (sym (ap (Z w) (rolled t _ g ∙ rolls-Tree kind.ExportNamedSpecifier (a ∷ o ∷ e ∷ []))) ∙ h)
    at _ g = h

specifiers_settled : (w : Place) → Unmarked w → (t : Node) → Z w t ≡ true → Z w (Many (map specifier (items_of t))) ≡ true
specifiers_settled w n t h = at (out-Node t) refl
  where
    at : (y : Node-F Node) → out-Node t ≡ y → Z w (Many (map specifier (items_in y))) ≡ true
    at (Node-F.List ts) o = each_list w (map specifier ts) (each_map w specifier (specifier_settled w n) ts (list_each w ts (sym (ap (Z w) (rolled t _ o ∙ rolls-List ts)) ∙ h)))
    at Node-F.Absent o = each_list w [] tt
    at _ o = each_list w [] tt

abbrev listed : Node → Place → Place
listed src w = inside w (cond (is_there (Some src)) standing.Imported standing.Reference)

list_mark : (b : Bool) → mark (cond b standing.Imported standing.Reference) ≡ None
list_mark true = refl
list_mark false = refl

exports_keep : (a b c d : Node) → Keeps (Tree kind.NamedExport (a ∷ b ∷ c ∷ d ∷ [])) (Tree kind.NamedExport (a ∷ cond (is_absent c) (Many (map specifier (items_of b))) b ∷ c ∷ d ∷ []))
exports_keep a b c d w v calmer s h =
    let p = half (settled_parts w kind.NamedExport (a ∷ b ∷ c ∷ d ∷ []) h).1 in let q = half p.1 in let r = half q.1 in let o = half r.1 in
    let plain : Calmer (inside v standing.Plain) (inside w standing.Plain) = calm v w standing.Plain standing.Plain calmer in
    let list : Z (listed c v) b ≡ true
    = same b (listed c w) (listed c v) (calm v w (cond (is_there (Some c)) standing.Imported standing.Reference) (cond (is_there (Some c)) standing.Imported standing.Reference) calmer) (suits_same _) q.0 in
    settled_from v kind.NamedExport (a ∷ cond (is_absent c) (Many (map specifier (items_of b))) b ∷ c ∷ d ∷ []) refl
    (also (same a (inside w standing.Plain) (inside v standing.Plain) plain (suits_same None) p.0)
    (also (at list (is_absent c))
    (also (same c (inside w standing.Plain) (inside v standing.Plain) plain (suits_same None) r.0) (also (same d (inside w standing.Plain) (inside v standing.Plain) plain (suits_same None) o.0) refl))))
  where
    at : Z (listed c v) b ≡ true → (x : Bool) → Z (listed c v) (cond x (Many (map specifier (items_of b))) b) ≡ true
    at g true = specifiers_settled (listed c v) (list_mark (is_there (Some c))) b g
    at g false = g

-- ---- a shorthand in a pattern

default_settled : (w : Place) (a : Ident) (name value : Node) (k : Kind) (i : Ident) → out-Node name ≡ Node-F.Identifier k i → Z (inside w standing.Reference) value ≡ true → Z w (with_default (Span a.span) name value) ≡ true
default_settled w a name value k i o h = at (is_absent value)
  where
    at : (b : Bool) → Z w (cond b name (Tree kind.AssignPat (Span a.span ∷ name ∷ value ∷ []))) ≡ true
    at true = named_settled w name k i o
    at false =
        settled_from w kind.AssignPat (Span a.span ∷ name ∷ value ∷ []) refl
        (also (span_settled (inside w standing.Plain) a.span) (also (named_settled (place_in w (Node-F.Tree kind.AssignPat (Span a.span ∷ name ∷ value ∷ [])) 1) name k i o) (also h refl)))

shorthand_keeps : (a name value : Node) → Keeps (Tree kind.AssignPatProp (a ∷ name ∷ value ∷ [])) (pattern_property_in a name value (out-Node name))
shorthand_keeps a name value = at (out-Node name) refl
  where
    at : (y : Node-F Node) → out-Node name ≡ y → Keeps (Tree kind.AssignPatProp (a ∷ name ∷ value ∷ [])) (pattern_property_in a name value y)
    at (Node-F.Identifier k i) o = λ w v c s h.
        let p = half (settled_parts w kind.AssignPatProp (a ∷ name ∷ value ∷ []) h).1 in let q = half p.1 in let r = half q.1 in
        let place = place_in v (Node-F.Tree kind.KeyValuePatProp (key_of i ∷ with_default (Span i.span) name value ∷ [])) 1 in
        settled_from v kind.KeyValuePatProp (key_of i ∷ with_default (Span i.span) name value ∷ []) refl
        (also (key_settled (inside v standing.Plain) i)
        (also (default_settled place i name value k i o
        (same value (inside w standing.Reference) (inside place standing.Reference) (record { strict = λ e. or_left place.strict false (or_left v.strict false (c.strict (or_false w.strict e))); nested = c.nested }) (suits_same None) r.0))
        refl))
    at Node-F.Absent o = same (Tree kind.AssignPatProp (a ∷ name ∷ value ∷ []))
    at _ o = same (Tree kind.AssignPatProp (a ∷ name ∷ value ∷ []))

-- ---- the step of each node

patterns_keep : (t : Node) → Keeps t (Many (map as_pattern (items_of t)))
patterns_keep = items_keep (map as_pattern) refl (λ w ts h. each_map w as_pattern (pattern_settled w) ts h)

step_keeps : (k : Kind) (ts : List Node) → IsTrue (no_module k) → Keeps (Tree k ts) (written_step (Node-F.Tree k ts))
step_keeps kind.Module ts n = absurd (true≢false (sym n))
step_keeps kind.IfStmt (a ∷ b ∷ c ∷ d ∷ []) n = tree_keeps kind.IfStmt (a ∷ b ∷ c ∷ d ∷ []) (a ∷ b ∷ opened c ∷ d ∷ []) (same a, (same b, (opened_keeps c, (same d, tt)))) (λ e. e) (λ w e. e)
step_keeps kind.ObjectLit (a ∷ b ∷ []) n =
    tree_keeps kind.ObjectLit (a ∷ b ∷ []) (a ∷ Many (map property (items_of b)) ∷ []) (same a, (items_keep (map property) refl (λ w ts h. each_map w property (property_settled w) ts h) b, tt)) (λ e. e) (λ w e. e)
step_keeps kind.AssignPatProp (a ∷ b ∷ c ∷ []) n = shorthand_keeps a b c
step_keeps kind.ArrayPat (a ∷ b ∷ []) n = tree_keeps kind.ArrayPat (a ∷ b ∷ []) (a ∷ Many (map as_pattern (items_of b)) ∷ []) (same a, (patterns_keep b, tt)) (λ e. e) (λ w e. e)
step_keeps kind.RestPat (a ∷ b ∷ []) n = tree_keeps kind.RestPat (a ∷ b ∷ []) (a ∷ as_pattern b ∷ []) (same a, (pattern_keeps b, tt)) (λ e. e) (λ w e. e)
step_keeps kind.KeyValuePatProp (a ∷ b ∷ []) n = tree_keeps kind.KeyValuePatProp (a ∷ b ∷ []) (a ∷ as_pattern b ∷ []) (same a, (pattern_keeps b, tt)) (λ e. e) (λ w e. e)
step_keeps kind.AssignPat (a ∷ b ∷ c ∷ []) n = tree_keeps kind.AssignPat (a ∷ b ∷ c ∷ []) (a ∷ as_pattern b ∷ c ∷ []) (same a, (pattern_keeps b, (same c, tt))) (λ e. e) (λ w e. e)
step_keeps kind.Param (a ∷ b ∷ []) n = tree_keeps kind.Param (a ∷ b ∷ []) (a ∷ as_pattern b ∷ []) (same a, (pattern_keeps b, tt)) (λ e. e) (λ w e. e)
step_keeps kind.ArrowExpr (a ∷ b ∷ c ∷ d ∷ []) n =
    tree_keeps kind.ArrowExpr (a ∷ b ∷ c ∷ d ∷ []) (a ∷ Many (map as_pattern (items_of b)) ∷ c ∷ d ∷ []) (same a, (patterns_keep b, (same c, (same d, tt)))) (λ e. e) (λ w e. e)
step_keeps kind.SetterProp (a ∷ b ∷ c ∷ d ∷ []) n = tree_keeps kind.SetterProp (a ∷ b ∷ c ∷ d ∷ []) (a ∷ b ∷ as_pattern c ∷ d ∷ []) (same a, (same b, (pattern_keeps c, (same d, tt)))) (λ e. e) (λ w e. e)
step_keeps kind.VarDeclarator (a ∷ b ∷ c ∷ []) n = tree_keeps kind.VarDeclarator (a ∷ b ∷ c ∷ []) (a ∷ as_pattern b ∷ c ∷ []) (same a, (pattern_keeps b, (same c, tt))) (λ e. e) (λ w e. e)
step_keeps kind.CatchClause (a ∷ b ∷ c ∷ []) n = tree_keeps kind.CatchClause (a ∷ b ∷ c ∷ []) (a ∷ as_pattern b ∷ c ∷ []) (same a, (pattern_keeps b, (same c, tt))) (λ e. e) (λ w e. e)
step_keeps kind.ForInStmt (a ∷ b ∷ c ∷ d ∷ []) n = tree_keeps kind.ForInStmt (a ∷ b ∷ c ∷ d ∷ []) (a ∷ as_pattern b ∷ c ∷ d ∷ []) (same a, (pattern_keeps b, (same c, (same d, tt)))) (λ e. e) (λ w e. e)
step_keeps kind.ForOfStmt (a ∷ b ∷ c ∷ d ∷ e ∷ []) n =
    tree_keeps kind.ForOfStmt (a ∷ b ∷ c ∷ d ∷ e ∷ []) (a ∷ b ∷ as_pattern c ∷ d ∷ e ∷ []) (same a, (same b, (pattern_keeps c, (same d, (same e, tt))))) (λ e. e) (λ w e. e)
step_keeps kind.ImportNamedSpecifier (a ∷ b ∷ c ∷ []) n = import_keeps a b c
step_keeps kind.NamedExport (a ∷ b ∷ c ∷ d ∷ []) n = exports_keep a b c d
step_keeps k ts n = keeps_is (Tree k ts) (Tree k ts) (written_step (Node-F.Tree k ts)) (rolls-Tree k ts) (same (Tree k ts))

-- ---- every node

stays_flag : (x : Bool) → written_out (Flag x) ≡ Flag x
stays_flag x = search (rules, the_lemmas)

stays_text : (x : List ℕ) → written_out (Text x) ≡ Text x
stays_text x = search (rules, the_lemmas)

stays_code : (k : Kind) (ts : List Node) → is_code k ≡ true → written_out (Tree k ts) ≡ Tree k (map written_out ts)
stays_code kind.BlockStmt ts e = written_tree kind.BlockStmt ts ∙ rolls-Tree kind.BlockStmt (map written_out ts)
stays_code kind.ExprStmt ts e = written_tree kind.ExprStmt ts ∙ rolls-Tree kind.ExprStmt (map written_out ts)
stays_code kind.Str ts e = written_tree kind.Str ts ∙ rolls-Tree kind.Str (map written_out ts)
stays_code kind.Function ts e = written_tree kind.Function ts ∙ rolls-Tree kind.Function (map written_out ts)
stays_code _ ts e = absurd (true≢false (sym e))

-- a statement stays one of its kind
statement_step : (k : Kind) (ts : List Node) → IsTrue (belongs k class.Stmt) → (us : List Node) × (written_step (Node-F.Tree k ts) ≡ Tree k us)
statement_step kind.IfStmt (a ∷ b ∷ c ∷ d ∷ []) e = (_, refl)
statement_step kind.ForInStmt (a ∷ b ∷ c ∷ d ∷ []) e = (_, refl)
statement_step kind.ForOfStmt (a ∷ b ∷ c ∷ d ∷ f ∷ []) e = (_, refl)
statement_step kind.ObjectLit ts e = absurd (true≢false (sym e))
statement_step kind.AssignPatProp ts e = absurd (true≢false (sym e))
statement_step kind.ArrayPat ts e = absurd (true≢false (sym e))
statement_step kind.RestPat ts e = absurd (true≢false (sym e))
statement_step kind.KeyValuePatProp ts e = absurd (true≢false (sym e))
statement_step kind.AssignPat ts e = absurd (true≢false (sym e))
statement_step kind.Param ts e = absurd (true≢false (sym e))
statement_step kind.ArrowExpr ts e = absurd (true≢false (sym e))
statement_step kind.SetterProp ts e = absurd (true≢false (sym e))
statement_step kind.VarDeclarator ts e = absurd (true≢false (sym e))
statement_step kind.CatchClause ts e = absurd (true≢false (sym e))
statement_step kind.ImportNamedSpecifier ts e = absurd (true≢false (sym e))
statement_step kind.NamedExport ts e = absurd (true≢false (sym e))
statement_step kind.Module ts e = absurd (true≢false (sym e))
statement_step k ts e = (ts, rolls-Tree k ts)

declared : (t : Node) → Fits t (one class.Stmt) → function_in (out-Node (written_out t)) ≡ true → function_in (out-Node t) ≡ true
declared t f = only_node class.Stmt (λ t. function_in (out-Node (written_out t)) ≡ true → function_in (out-Node t) ≡ true) (λ k i a b h. ap (λ t. function_in (out-Node t)) (sym (written_name k i)) ∙ h) (λ k ts b g x h. tree k ts b h) t f
  where
    tree : (k : Kind) (ts : List Node) → IsTrue (belongs k class.Stmt) → function_in (out-Node (written_out (Tree k ts))) ≡ true → function_in (out-Node (Tree k ts)) ≡ true
    tree k ts b h =
        let (us, is) = statement_step k (map written_out ts) b in
        ap function_in (outs-Tree k ts) ∙ function_kind k us ts ∙ sym (ap (λ t. function_in (out-Node t)) (written_tree k ts ∙ is) ∙ ap function_in (outs-Tree k us)) ∙ h

abbrev Claim : Node → Type 0
Claim t = (s : Slot) → Fits t s → IsTrue (is_inner t) → Keeps t (written_out t)

fields_claim : (ss : List Slot) (ts : List Node) → Each Claim ts → FieldsFit ss ts → IsTrue (list_all is_inner ts) → AllKeep ts (map written_out ts)
fields_claim [] [] l f n = tt
fields_claim [] (t ∷ ts) l f n = absurd f
fields_claim (s ∷ ss) [] l f n = absurd f
fields_claim (s ∷ ss) (t ∷ ts) l f n = let p = both (is_inner t) (list_all is_inner ts) n in (l.0 s f.0 p.0, fields_claim ss ts l.1 f.1 p.1)

items_claim : (s : Slot) (ts : List Node) → Each Claim ts → AllFit s ts → IsTrue (list_all is_inner ts) → AllKeep ts (map written_out ts)
items_claim s [] l f n = tt
items_claim s (t ∷ ts) l f n = let p = both (is_inner t) (list_all is_inner ts) n in (l.0 s f.0 p.0, items_claim s ts l.1 f.1 p.1)

list_claim : (ts : List Node) → Each Claim ts → Claim (Many ts)
list_claim ts l s f n =
    keeps_is (Many ts) (Many (map written_out ts)) (written_out (Many ts)) (written_list ts) (list_keeps ts (map written_out ts) (items_claim (item s) ts l (items_open s ts (sym (fits-List ts s) ∙ f)) (sym (list_is ts) ∙ n)))

tree_claim : (k : Kind) (ts : List Node) → Each Claim ts → Claim (Tree k ts)
tree_claim k ts l s f n =
    let us = map written_out ts in let fields = (stands k ts s f).fields in let m = no_module_of k ts n in
    keeps_is (Tree k ts) (written_step (Node-F.Tree k us)) (written_out (Tree k ts)) (written_tree k ts)
    (keeps_then (Tree k ts) (Tree k us) (written_step (Node-F.Tree k us))
    (mapped_keeps written_out written_list stays_text stays_flag stays_code declared k ts fields (fields_claim (slots_of k) ts l fields (sym (tree_is k ts m) ∙ n))) (step_keeps k us m))

leaf_claim : (t : Node) → written_out t ≡ t → Claim t
leaf_claim t e s f n = keeps_is t t (written_out t) e (same t)

pub written_keeps : (t : Node) → Claim t
written_keeps = by_children Claim (
  leaf_claim Absent (search (rules, the_lemmas)),
  λ x. leaf_claim (Flag x) (stays_flag x),
  λ x. leaf_claim (Word x) (search (rules, the_lemmas)),
  λ x. leaf_claim (Text x) (stays_text x),
  λ x. leaf_claim (Span x) (search (rules, the_lemmas)),
  λ k i. leaf_claim (Identifier k i) (written_name k i),
)
    list_claim tree_claim
