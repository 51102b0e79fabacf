-- The normal form of a tree without spans.
use Rattle.std.proofs.Common.{◌≡◌, ℕ, Bool, true, false, not, List, [], ◌∷◌, map, refl, sym, ap, ◌∙◌, rules}
use Rattle.std.specs.Prelude.{zero, suc, codes, nat_eq, slice_get, if◌then◌else◌}
use Rattle.std.specs.Cmp.Lexicographic.{pointwise}
use Rattle.std.specs.List.{flat_map, filter}
use Rattle.swc_tree_marks.specs.declared.ident.Ident.{Ident}
use Rattle.swc_tree_node.specs.declared.kind.Kind.{Kind}
use Rattle.swc_tree_node.specs.declared.kind.Kind.TheVariants as kind
use Rattle.swc_tree_node.specs.declared.node.Node.{Node, Absent, Flag, Word, Text, Span, List as Many, Identifier, Tree, out-Node, the_lemmas}
use Rattle.swc_tree_node.specs.declared.node.Node.TheVariants.{rolls-Tree}
use Rattle.swc_tree_node.specs.declared.node.Node.TheOpen.{Node-F}
use Rattle.swc_tree_node.specs.declared.fields.statements.class_decl.TheConstants as class_decl
use Rattle.swc_tree_node.specs.declared.fields.statements.fn_decl.TheConstants as fn_decl
use Rattle.swc_tree_scoping.specs.Places.{field_role}
use Rattle.swc_tree_scoping.specs.BoundNames.{Id, bound_ids, own_id, in_parts, declared_ids, declared_in, name_in, name_of, id_of}
use Rattle.swc_tree_scoping.specs.Shorthands.{key_of, computed_key, shorthand_key}
use Rattle.swc_tree_grammar.specs.Shapes.{items_of}
use Rattle.swc_tree_grammar.specs.Levels.{is_absent}
use Rattle.swc_tree_grammar.specs.Spanless.{spanless, SameButForSpans}
use Rattle.swc_tree_grammar.specs.Blocks.{takes_else, no_span}
use Rattle.swc_tree_grammar.specs.Normal.{normal_form, written_out, written_step, only_in, opened, opened_in, plain_name, property, as_pattern, pattern_in, with_default, pattern_property_in, again, again_in, each_once, made, exported_as_itself, export_list, same_id, split, split_in, specifier, specifier_in}
use Rattle.swc_tree_grammar.specs.Stripped.{stripped}
use Rattle.swc_tree_grammar.proofs.Induction.{Each, by_children}
use Rattle.swc_base_fixer_laws.proofs.NormalKeptBlocks.{each_same, map_after, written_of_tree, written_of_list}
use Rattle.swc_base_fixer_laws.proofs.AgainMapped.{items_mapped}
use Rattle.swc_base_fixer_laws.proofs.AgainLooks.{absent_mapped}
use Rattle.swc_base_fixer_laws.proofs.AgainNamed.{spanless_of_tree, spanless_of_list, spanless_mapped}
use Rattle.swc_base_fixer_laws.proofs.AgainSpans.{span_less, name_less}
use Rattle.swc_base_fixer_laws.proofs.AgainStripped.{stripped_spanless, takes_same, flat_same}

-- an identifier without its span
abbrev plain : Ident → Ident
plain i = record i { span = no_span }

-- bound names
bound_of_tree : (k : Kind) (ts : List Node) → bound_ids (Tree k ts) ≡ in_parts (field_role k) (map bound_ids ts)
bound_of_tree k ts = search (rules, the_lemmas)

bound_of_list : (ts : List Node) → bound_ids (Many ts) ≡ flat_map (λ ids. ids) (map bound_ids ts)
bound_of_list ts = search (rules, the_lemmas)

bound_of_name : (k : Kind) (i : Ident) → bound_ids (Identifier k i) ≡ own_id k i
bound_of_name k i = search (rules, the_lemmas)

own_row : (k : Kind) (i : Ident) → own_id k (plain i) ≡ own_id k i
own_row kind.BindingIdent i = refl
own_row k i = refl

abbrev Bound : Node → Type 0
Bound t = bound_ids (spanless t) ≡ bound_ids t

each_bound : (ts : List Node) → Each Bound ts → map bound_ids (map spanless ts) ≡ map bound_ids ts
each_bound ts l = map_after bound_ids spanless ts ∙ each_same (λ t. bound_ids (spanless t)) bound_ids ts l

bound_same : (t : Node) → Bound t
bound_same t = by_children Bound
    (search (rules, the_lemmas), λ x. search (rules, the_lemmas), λ w. search (rules, the_lemmas), λ x. search (rules, the_lemmas), λ s. search (rules, the_lemmas), λ k i. ap bound_ids (name_less k i) ∙ bound_of_name k (plain i) ∙ own_row k i ∙ sym (bound_of_name k i))
    (λ ts l. ap bound_ids (spanless_of_list ts) ∙ bound_of_list (map spanless ts) ∙ ap (flat_map (λ ids. ids)) (each_bound ts l) ∙ sym (bound_of_list ts))
    (λ k ts l. ap bound_ids (spanless_of_tree k ts) ∙ bound_of_tree k (map spanless ts) ∙ ap (in_parts (field_role k)) (each_bound ts l) ∙ sym (bound_of_tree k ts)) t

name_same : (t : Node) → id_of (name_in (out-Node (spanless t))) ≡ id_of (name_in (out-Node t))
name_same t = by_children (λ t. id_of (name_in (out-Node (spanless t))) ≡ id_of (name_in (out-Node t)))
    (search (rules, the_lemmas), λ x. search (rules, the_lemmas), λ w. search (rules, the_lemmas), λ x. search (rules, the_lemmas), λ s. search (rules, the_lemmas), λ k i. search (rules, the_lemmas))
    (λ ts l. search (rules, the_lemmas)) (λ k ts l. search (rules, the_lemmas)) t

field_same : (n : ℕ) (ts : List Node) → id_of (name_of (slice_get (map spanless ts) n)) ≡ id_of (name_of (slice_get ts n))
field_same n [] = refl
field_same zero (t ∷ ts) = name_same t
field_same (suc n) (t ∷ ts) = field_same n ts

declared_of_tree : (k : Kind) (ts : List Node) → declared_ids (Tree k ts) ≡ declared_in (Tree k ts) (Node-F.Tree k ts)
declared_of_tree k ts = search (rules, the_lemmas)

declared_row : (k : Kind) (ts : List Node) → declared_in (Tree k (map spanless ts)) (Node-F.Tree k (map spanless ts)) ≡ declared_in (Tree k ts) (Node-F.Tree k ts)
declared_row kind.FnDecl ts = field_same fn_decl.IDENT ts
declared_row kind.ClassDecl ts = field_same class_decl.IDENT ts
declared_row k ts = ap bound_ids (sym (spanless_of_tree k ts)) ∙ bound_same (Tree k ts)

declared_leaf : (t u : Node) → spanless t ≡ u → declared_ids u ≡ bound_ids u → declared_ids t ≡ bound_ids t → declared_ids (spanless t) ≡ declared_ids t
declared_leaf t u e g h = ap declared_ids e ∙ g ∙ ap bound_ids (sym e) ∙ bound_same t ∙ sym h

declared_same : (t : Node) → declared_ids (spanless t) ≡ declared_ids t
declared_same t = by_children (λ t. declared_ids (spanless t) ≡ declared_ids t) (
  declared_leaf Absent Absent (search (rules, the_lemmas)) (search (rules, the_lemmas)) (search (rules, the_lemmas)),
  λ x. declared_leaf (Flag x) (Flag x) (search (rules, the_lemmas)) (search (rules, the_lemmas)) (search (rules, the_lemmas)),
  λ w. declared_leaf (Word w) (Word w) (search (rules, the_lemmas)) (search (rules, the_lemmas)) (search (rules, the_lemmas)),
  λ x. declared_leaf (Text x) (Text x) (search (rules, the_lemmas)) (search (rules, the_lemmas)) (search (rules, the_lemmas)),
  λ s. declared_leaf (Span s) (Span no_span) (span_less s) (search (rules, the_lemmas)) (search (rules, the_lemmas)),
  λ k i. declared_leaf (Identifier k i) (Identifier k (plain i)) (name_less k i) (search (rules, the_lemmas)) (search (rules, the_lemmas)),
)
    (λ ts l. declared_leaf (Many ts) (Many (map spanless ts)) (spanless_of_list ts) (search (rules, the_lemmas)) (search (rules, the_lemmas)))
    (λ k ts l. ap declared_ids (spanless_of_tree k ts) ∙ declared_of_tree k (map spanless ts) ∙ declared_row k ts ∙ sym (declared_of_tree k ts)) t

-- a change of one node that sees names alone, or one kind of tree
abbrev Same : (Node → Node) → Node → Type 0
Same f t = f (spanless t) ≡ spanless (f t)

stays : (f : Node → Node) (t u : Node) → spanless t ≡ u → f u ≡ u → f t ≡ t → Same f t
stays f t u e g h = ap f e ∙ g ∙ sym e ∙ ap spanless (sym h)

-- blocks
opened_of_tree : (k : Kind) (ts : List Node) → opened (Tree k ts) ≡ opened_in (Tree k ts) (Node-F.Tree k ts)
opened_of_tree k ts = search (rules, the_lemmas)

only_if : (b : Bool) (s t : Node) → (if b then spanless s else spanless t) ≡ spanless (if b then s else t)
only_if true s t = refl
only_if false s t = refl

only_same : (t : Node) (ss : List Node) → only_in (spanless t) (map spanless ss) ≡ spanless (only_in t ss)
only_same t [] = refl
only_same t (s ∷ []) = ap (λ b. if b then spanless s else spanless t) (takes_same s) ∙ only_if (takes_else s) s t
only_same t (s ∷ u ∷ ss) = refl

opened_row : (k : Kind) (ts : List Node) → opened_in (Tree k (map spanless ts)) (Node-F.Tree k (map spanless ts)) ≡ spanless (opened_in (Tree k ts) (Node-F.Tree k ts))
opened_row kind.BlockStmt (s ∷ e ∷ []) =
    ap (λ t. only_in t (items_of (spanless e))) (sym (spanless_of_tree kind.BlockStmt (s ∷ e ∷ []))) ∙ ap (only_in (spanless (Tree kind.BlockStmt (s ∷ e ∷ [])))) (items_mapped spanless_mapped e) ∙ only_same (Tree kind.BlockStmt (s ∷ e ∷ [])) (items_of e)
opened_row k ts = sym (spanless_of_tree k ts)

opened_same : (t : Node) → Same opened t
opened_same t = by_children (Same opened) (
  stays opened Absent Absent (search (rules, the_lemmas)) (search (rules, the_lemmas)) (search (rules, the_lemmas)),
  λ x. stays opened (Flag x) (Flag x) (search (rules, the_lemmas)) (search (rules, the_lemmas)) (search (rules, the_lemmas)),
  λ w. stays opened (Word w) (Word w) (search (rules, the_lemmas)) (search (rules, the_lemmas)) (search (rules, the_lemmas)),
  λ x. stays opened (Text x) (Text x) (search (rules, the_lemmas)) (search (rules, the_lemmas)) (search (rules, the_lemmas)),
  λ s. stays opened (Span s) (Span no_span) (span_less s) (search (rules, the_lemmas)) (search (rules, the_lemmas)),
  λ k i. stays opened (Identifier k i) (Identifier k (plain i)) (name_less k i) (search (rules, the_lemmas)) (search (rules, the_lemmas)),
)
    (λ ts l. stays opened (Many ts) (Many (map spanless ts)) (spanless_of_list ts) (search (rules, the_lemmas)) (search (rules, the_lemmas)))
    (λ k ts l. ap opened (spanless_of_tree k ts) ∙ opened_of_tree k (map spanless ts) ∙ opened_row k ts ∙ ap spanless (sym (opened_of_tree k ts))) t

-- properties and patterns
key_less : (i : Ident) → key_of (plain i) ≡ spanless (key_of i)
key_less i = search (rules, the_lemmas)

computed_less : (i : Ident) → computed_key (plain i) ≡ spanless (computed_key i)
computed_less i = search (rules, the_lemmas)

key_if : (b : Bool) (i : Ident) → (if b then computed_key (plain i) else key_of (plain i)) ≡ spanless (if b then computed_key i else key_of i)
key_if true i = computed_less i
key_if false i = key_less i

shorthand_same : (i : Ident) → shorthand_key (plain i) ≡ spanless (shorthand_key i)
shorthand_same i = key_if (pointwise nat_eq i.sym (codes "__proto__")) i

property_of_name : (k : Kind) (i : Ident) → property (Identifier k i) ≡ Tree kind.KeyValueProp (shorthand_key i ∷ Identifier k i ∷ [])
property_of_name k i = search (rules, the_lemmas)

property_name : (k : Kind) (i : Ident) → Same property (Identifier k i)
property_name k i =
    ap property (name_less k i) ∙ property_of_name k (plain i) ∙ ap (λ u. Tree kind.KeyValueProp (u ∷ Identifier k (plain i) ∷ [])) (shorthand_same i)
    ∙ ap (λ u. Tree kind.KeyValueProp (spanless (shorthand_key i) ∷ u ∷ [])) (sym (name_less k i)) ∙ sym (ap spanless (property_of_name k i) ∙ spanless_of_tree kind.KeyValueProp (shorthand_key i ∷ Identifier k i ∷ []))

property_same : (t : Node) → Same property t
property_same t = by_children (Same property) (
  stays property Absent Absent (search (rules, the_lemmas)) (search (rules, the_lemmas)) (search (rules, the_lemmas)),
  λ x. stays property (Flag x) (Flag x) (search (rules, the_lemmas)) (search (rules, the_lemmas)) (search (rules, the_lemmas)),
  λ w. stays property (Word w) (Word w) (search (rules, the_lemmas)) (search (rules, the_lemmas)) (search (rules, the_lemmas)),
  λ x. stays property (Text x) (Text x) (search (rules, the_lemmas)) (search (rules, the_lemmas)) (search (rules, the_lemmas)),
  λ s. stays property (Span s) (Span no_span) (span_less s) (search (rules, the_lemmas)) (search (rules, the_lemmas)),
  λ k i. property_name k i,
)
    (λ ts l. stays property (Many ts) (Many (map spanless ts)) (spanless_of_list ts) (search (rules, the_lemmas)) (search (rules, the_lemmas)))
    (λ k ts l. stays property (Tree k ts) (Tree k (map spanless ts)) (spanless_of_tree k ts) (search (rules, the_lemmas)) (search (rules, the_lemmas))) t

pattern_of_name : (k : Kind) (i : Ident) → as_pattern (Identifier k i) ≡ pattern_in (Identifier k i) (Node-F.Identifier k i)
pattern_of_name k i = search (rules, the_lemmas)

pattern_row : (k : Kind) (i : Ident) → pattern_in (Identifier k (plain i)) (Node-F.Identifier k (plain i)) ≡ spanless (pattern_in (Identifier k i) (Node-F.Identifier k i))
pattern_row kind.Ident i = sym (name_less kind.BindingIdent i)
pattern_row k i = sym (name_less k i)

pattern_same : (t : Node) → Same as_pattern t
pattern_same t = by_children (Same as_pattern) (
  stays as_pattern Absent Absent (search (rules, the_lemmas)) (search (rules, the_lemmas)) (search (rules, the_lemmas)),
  λ x. stays as_pattern (Flag x) (Flag x) (search (rules, the_lemmas)) (search (rules, the_lemmas)) (search (rules, the_lemmas)),
  λ w. stays as_pattern (Word w) (Word w) (search (rules, the_lemmas)) (search (rules, the_lemmas)) (search (rules, the_lemmas)),
  λ x. stays as_pattern (Text x) (Text x) (search (rules, the_lemmas)) (search (rules, the_lemmas)) (search (rules, the_lemmas)),
  λ s. stays as_pattern (Span s) (Span no_span) (span_less s) (search (rules, the_lemmas)) (search (rules, the_lemmas)),
  λ k i. ap as_pattern (name_less k i) ∙ pattern_of_name k (plain i) ∙ pattern_row k i ∙ ap spanless (sym (pattern_of_name k i)),
)
    (λ ts l. stays as_pattern (Many ts) (Many (map spanless ts)) (spanless_of_list ts) (search (rules, the_lemmas)) (search (rules, the_lemmas)))
    (λ k ts l. stays as_pattern (Tree k ts) (Tree k (map spanless ts)) (spanless_of_tree k ts) (search (rules, the_lemmas)) (search (rules, the_lemmas))) t

default_if : (b : Bool) (s n v : Node) → (if b then spanless n else Tree kind.AssignPat (spanless s ∷ spanless n ∷ spanless v ∷ [])) ≡ spanless (if b then n else Tree kind.AssignPat (s ∷ n ∷ v ∷ []))
default_if true s n v = refl
default_if false s n v = sym (spanless_of_tree kind.AssignPat (s ∷ n ∷ v ∷ []))

default_same : (s n v : Node) → with_default (spanless s) (spanless n) (spanless v) ≡ spanless (with_default s n v)
default_same s n v = ap (λ b. if b then spanless n else Tree kind.AssignPat (spanless s ∷ spanless n ∷ spanless v ∷ [])) (absent_mapped spanless_mapped v) ∙ default_if (is_absent v) s n v

abbrev Shorthand : Node → Node → Node → Type 0
Shorthand s v t = pattern_property_in (spanless s) (spanless t) (spanless v) (out-Node (spanless t)) ≡ spanless (pattern_property_in s t v (out-Node t))

shorthand_of_name : (s v : Node) (k : Kind) (i : Ident) → pattern_property_in s (Identifier k i) v (out-Node (Identifier k i)) ≡ Tree kind.KeyValuePatProp (key_of i ∷ with_default (Span i.span) (Identifier k i) v ∷ [])
shorthand_of_name s v k i = search (rules, the_lemmas)

shorthand_name : (s v : Node) (k : Kind) (i : Ident) → Shorthand s v (Identifier k i)
shorthand_name s v k i =
    let d = with_default (Span i.span) (Identifier k i) v in
    ap (λ t. pattern_property_in (spanless s) t (spanless v) (out-Node t)) (name_less k i) ∙ shorthand_of_name (spanless s) (spanless v) k (plain i)
    ∙ ap (λ u. Tree kind.KeyValuePatProp (u ∷ with_default (Span no_span) (Identifier k (plain i)) (spanless v) ∷ [])) (key_less i)
    ∙ ap (λ u. Tree kind.KeyValuePatProp (spanless (key_of i) ∷ with_default u (Identifier k (plain i)) (spanless v) ∷ [])) (sym (span_less i.span))
    ∙ ap (λ u. Tree kind.KeyValuePatProp (spanless (key_of i) ∷ with_default (spanless (Span i.span)) u (spanless v) ∷ [])) (sym (name_less k i))
    ∙ ap (λ u. Tree kind.KeyValuePatProp (spanless (key_of i) ∷ u ∷ [])) (default_same (Span i.span) (Identifier k i) v)
    ∙ sym (ap spanless (shorthand_of_name s v k i) ∙ spanless_of_tree kind.KeyValuePatProp (key_of i ∷ d ∷ []))

shorthand_leaf : (s v t u : Node) → spanless t ≡ u → pattern_property_in (spanless s) u (spanless v) (out-Node u) ≡ Tree kind.AssignPatProp (spanless s ∷ u ∷ spanless v ∷ []) → pattern_property_in s t v (out-Node t) ≡ Tree kind.AssignPatProp (s ∷ t ∷ v ∷ []) → Shorthand s v t
shorthand_leaf s v t u e g h =
    ap (λ t. pattern_property_in (spanless s) t (spanless v) (out-Node t)) e ∙ g ∙ ap (λ u. Tree kind.AssignPatProp (spanless s ∷ u ∷ spanless v ∷ [])) (sym e)
    ∙ sym (ap spanless h ∙ spanless_of_tree kind.AssignPatProp (s ∷ t ∷ v ∷ []))

shorthand_property : (s v t : Node) → Shorthand s v t
shorthand_property s v t = by_children (Shorthand s v) (
  shorthand_leaf s v Absent Absent (search (rules, the_lemmas)) (search (rules, the_lemmas)) (search (rules, the_lemmas)),
  λ x. shorthand_leaf s v (Flag x) (Flag x) (search (rules, the_lemmas)) (search (rules, the_lemmas)) (search (rules, the_lemmas)),
  λ w. shorthand_leaf s v (Word w) (Word w) (search (rules, the_lemmas)) (search (rules, the_lemmas)) (search (rules, the_lemmas)),
  λ x. shorthand_leaf s v (Text x) (Text x) (search (rules, the_lemmas)) (search (rules, the_lemmas)) (search (rules, the_lemmas)),
  λ r. shorthand_leaf s v (Span r) (Span no_span) (span_less r) (search (rules, the_lemmas)) (search (rules, the_lemmas)),
  λ k i. shorthand_name s v k i,
)
    (λ ts l. shorthand_leaf s v (Many ts) (Many (map spanless ts)) (spanless_of_list ts) (search (rules, the_lemmas)) (search (rules, the_lemmas)))
    (λ k ts l. shorthand_leaf s v (Tree k ts) (Tree k (map spanless ts)) (spanless_of_tree k ts) (search (rules, the_lemmas)) (search (rules, the_lemmas))) t

-- specifiers
plain_less : (i : Ident) → plain_name (plain i) ≡ spanless (plain_name i)
plain_less i = search (rules, the_lemmas)

abbrev from_name : Node → Node
from_name t = again_in t (out-Node t)

from_same : (t : Node) → Same from_name t
from_same t = by_children (Same from_name) (
  stays from_name Absent Absent (search (rules, the_lemmas)) (search (rules, the_lemmas)) (search (rules, the_lemmas)),
  λ x. stays from_name (Flag x) (Flag x) (search (rules, the_lemmas)) (search (rules, the_lemmas)) (search (rules, the_lemmas)),
  λ w. stays from_name (Word w) (Word w) (search (rules, the_lemmas)) (search (rules, the_lemmas)) (search (rules, the_lemmas)),
  λ x. stays from_name (Text x) (Text x) (search (rules, the_lemmas)) (search (rules, the_lemmas)) (search (rules, the_lemmas)),
  λ s. stays from_name (Span s) (Span no_span) (span_less s) (search (rules, the_lemmas)) (search (rules, the_lemmas)),
  λ k i. (let e : (i : Ident) → from_name (Identifier k i) ≡ plain_name i = λ i. search (rules, the_lemmas) in ap from_name (name_less k i) ∙ e (plain i) ∙ plain_less i ∙ ap spanless (sym (e i))),
)
    (λ ts l. stays from_name (Many ts) (Many (map spanless ts)) (spanless_of_list ts) (search (rules, the_lemmas)) (search (rules, the_lemmas)))
    (λ k ts l. stays from_name (Tree k ts) (Tree k (map spanless ts)) (spanless_of_tree k ts) (search (rules, the_lemmas)) (search (rules, the_lemmas))) t

again_if : (b : Bool) (n o : Node) → (if b then from_name (spanless n) else spanless o) ≡ spanless (if b then from_name n else o)
again_if true n o = from_same n
again_if false n o = refl

again_same : (n o : Node) → again (spanless n) (spanless o) ≡ spanless (again n o)
again_same n o = ap (λ b. if b then from_name (spanless n) else spanless o) (absent_mapped spanless_mapped o) ∙ again_if (is_absent o) n o

specifier_of_tree : (k : Kind) (ts : List Node) → specifier (Tree k ts) ≡ specifier_in (Tree k ts) (Node-F.Tree k ts)
specifier_of_tree k ts = search (rules, the_lemmas)

specifier_row : (k : Kind) (ts : List Node) → specifier_in (Tree k (map spanless ts)) (Node-F.Tree k (map spanless ts)) ≡ spanless (specifier_in (Tree k ts) (Node-F.Tree k ts))
specifier_row kind.ExportNamedSpecifier (s ∷ n ∷ o ∷ []) = ap (λ u. Tree kind.ExportNamedSpecifier (spanless s ∷ spanless n ∷ u ∷ [])) (again_same n o) ∙ sym (spanless_of_tree kind.ExportNamedSpecifier (s ∷ n ∷ again n o ∷ []))
specifier_row k ts = sym (spanless_of_tree k ts)

specifier_same : (t : Node) → Same specifier t
specifier_same t = by_children (Same specifier) (
  stays specifier Absent Absent (search (rules, the_lemmas)) (search (rules, the_lemmas)) (search (rules, the_lemmas)),
  λ x. stays specifier (Flag x) (Flag x) (search (rules, the_lemmas)) (search (rules, the_lemmas)) (search (rules, the_lemmas)),
  λ w. stays specifier (Word w) (Word w) (search (rules, the_lemmas)) (search (rules, the_lemmas)) (search (rules, the_lemmas)),
  λ x. stays specifier (Text x) (Text x) (search (rules, the_lemmas)) (search (rules, the_lemmas)) (search (rules, the_lemmas)),
  λ s. stays specifier (Span s) (Span no_span) (span_less s) (search (rules, the_lemmas)) (search (rules, the_lemmas)),
  λ k i. stays specifier (Identifier k i) (Identifier k (plain i)) (name_less k i) (search (rules, the_lemmas)) (search (rules, the_lemmas)),
)
    (λ ts l. stays specifier (Many ts) (Many (map spanless ts)) (spanless_of_list ts) (search (rules, the_lemmas)) (search (rules, the_lemmas)))
    (λ k ts l. ap specifier (spanless_of_tree k ts) ∙ specifier_of_tree k (map spanless ts) ∙ specifier_row k ts ∙ ap spanless (sym (specifier_of_tree k ts))) t

-- exported declarations
abbrev other_than : Ident → Ident → Bool
other_than i j = not (same_id i j)

filter_if : (b : Bool) (j : Ident) (js us : List Ident) → us ≡ map plain js → (if b then plain j ∷ us else us) ≡ map plain (if b then j ∷ js else js)
filter_if true j js us e = ap (λ us. plain j ∷ us) e
filter_if false j js us e = e

filter_plain : (i : Ident) (js : List Ident) → filter (other_than (plain i)) (map plain js) ≡ map plain (filter (other_than i) js)
filter_plain i [] = refl
filter_plain i (j ∷ js) = filter_if (other_than i j) j (filter (other_than i) js) (filter (other_than (plain i)) (map plain js)) (filter_plain i js)

once_plain : (is : List Ident) → each_once (map plain is) ≡ map plain (each_once is)
once_plain [] = refl
once_plain (i ∷ is) = ap (λ us. plain i ∷ filter (other_than (plain i)) us) (once_plain is) ∙ ap (λ us. plain i ∷ us) (filter_plain i (each_once is))

made_plain : (ids : List Id) → map plain (map made ids) ≡ map made ids
made_plain [] = refl
made_plain (x ∷ ids) = ap (λ us. made x ∷ us) (made_plain ids)

itself_less : (i : Ident) → spanless (exported_as_itself i) ≡ exported_as_itself (plain i)
itself_less i = search (rules, the_lemmas)

each_itself : (is : List Ident) → map spanless (map exported_as_itself is) ≡ map exported_as_itself (map plain is)
each_itself [] = refl
each_itself (i ∷ is) = rw (itself_less i, each_itself is) refl

list_less : (ts : List Node) → spanless (Tree kind.NamedExport (Span no_span ∷ Many ts ∷ Absent ∷ Absent ∷ [])) ≡ Tree kind.NamedExport (Span no_span ∷ Many (map spanless ts) ∷ Absent ∷ Absent ∷ [])
list_less ts =
    let a : spanless Absent ≡ Absent = search (rules, the_lemmas) in
    spanless_of_tree kind.NamedExport (Span no_span ∷ Many ts ∷ Absent ∷ Absent ∷ []) ∙ rw (span_less no_span, spanless_of_list ts, a) refl

export_less : (is : List Ident) → spanless (export_list is) ≡ export_list (map plain is)
export_less is = list_less (map exported_as_itself is) ∙ ap (λ us. Tree kind.NamedExport (Span no_span ∷ Many us ∷ Absent ∷ Absent ∷ [])) (each_itself is)

abbrev exported : Node → Node
exported t = export_list (each_once (map made (declared_ids t)))

exported_same : (t : Node) → exported (spanless t) ≡ spanless (exported t)
exported_same t =
    let is = map made (declared_ids t) in
    ap (λ ids. export_list (each_once (map made ids))) (declared_same t) ∙ ap (λ is. export_list (each_once is)) (sym (made_plain (declared_ids t))) ∙ ap export_list (once_plain is) ∙ sym (export_less (each_once is))

split_of_tree : (k : Kind) (ts : List Node) → split (Tree k ts) ≡ split_in (Tree k ts) (Node-F.Tree k ts)
split_of_tree k ts = search (rules, the_lemmas)

split_row : (k : Kind) (ts : List Node) → split_in (Tree k (map spanless ts)) (Node-F.Tree k (map spanless ts)) ≡ map spanless (split_in (Tree k ts) (Node-F.Tree k ts))
split_row kind.ExportDecl (s ∷ d ∷ []) = ap (λ u. spanless d ∷ u ∷ []) (exported_same d)
split_row k ts = ap (λ t. t ∷ []) (sym (spanless_of_tree k ts))

split_leaf : (t u : Node) → spanless t ≡ u → split u ≡ u ∷ [] → split t ≡ t ∷ [] → split (spanless t) ≡ map spanless (split t)
split_leaf t u e g h = ap split e ∙ g ∙ ap (λ u. u ∷ []) (sym e) ∙ sym (ap (map spanless) h)

split_same : (t : Node) → split (spanless t) ≡ map spanless (split t)
split_same t = by_children (λ t. split (spanless t) ≡ map spanless (split t)) (
  split_leaf Absent Absent (search (rules, the_lemmas)) (search (rules, the_lemmas)) (search (rules, the_lemmas)),
  λ x. split_leaf (Flag x) (Flag x) (search (rules, the_lemmas)) (search (rules, the_lemmas)) (search (rules, the_lemmas)),
  λ w. split_leaf (Word w) (Word w) (search (rules, the_lemmas)) (search (rules, the_lemmas)) (search (rules, the_lemmas)),
  λ x. split_leaf (Text x) (Text x) (search (rules, the_lemmas)) (search (rules, the_lemmas)) (search (rules, the_lemmas)),
  λ s. split_leaf (Span s) (Span no_span) (span_less s) (search (rules, the_lemmas)) (search (rules, the_lemmas)),
  λ k i. split_leaf (Identifier k i) (Identifier k (plain i)) (name_less k i) (search (rules, the_lemmas)) (search (rules, the_lemmas)),
)
    (λ ts l. split_leaf (Many ts) (Many (map spanless ts)) (spanless_of_list ts) (search (rules, the_lemmas)) (search (rules, the_lemmas)))
    (λ k ts l. ap split (spanless_of_tree k ts) ∙ split_of_tree k (map spanless ts) ∙ split_row k ts ∙ sym (ap (map spanless) (split_of_tree k ts))) t

-- the step
each_of : (f : Node → Node) → ((t : Node) → Same f t) → (ts : List Node) → map f (map spanless ts) ≡ map spanless (map f ts)
each_of f h [] = refl
each_of f h (t ∷ ts) = rw (h t, each_of f h ts) refl

items_of_each : (f : Node → Node) → ((t : Node) → Same f t) → (t : Node) → Many (map f (items_of (spanless t))) ≡ spanless (Many (map f (items_of t)))
items_of_each f h t = ap (λ us. Many (map f us)) (items_mapped spanless_mapped t) ∙ ap Many (each_of f h (items_of t)) ∙ sym (spanless_of_list (map f (items_of t)))

specifiers_if : (b : Bool) (t : Node) → (if b then Many (map specifier (items_of (spanless t))) else spanless t) ≡ spanless (if b then Many (map specifier (items_of t)) else t)
specifiers_if true t = items_of_each specifier specifier_same t
specifiers_if false t = refl

written_row : (k : Kind) (us : List Node) → written_step (Node-F.Tree k (map spanless us)) ≡ spanless (written_step (Node-F.Tree k us))
written_row kind.IfStmt (s ∷ t ∷ c ∷ a ∷ []) = ap (λ u. Tree kind.IfStmt (spanless s ∷ spanless t ∷ u ∷ spanless a ∷ [])) (opened_same c) ∙ sym (spanless_of_tree kind.IfStmt (s ∷ t ∷ opened c ∷ a ∷ []))
written_row kind.ObjectLit (s ∷ p ∷ []) = ap (λ u. Tree kind.ObjectLit (spanless s ∷ u ∷ [])) (items_of_each property property_same p) ∙ sym (spanless_of_tree kind.ObjectLit (s ∷ Many (map property (items_of p)) ∷ []))
written_row kind.AssignPatProp (s ∷ c ∷ v ∷ []) = shorthand_property s v c
written_row kind.ArrayPat (s ∷ p ∷ []) = ap (λ u. Tree kind.ArrayPat (spanless s ∷ u ∷ [])) (items_of_each as_pattern pattern_same p) ∙ sym (spanless_of_tree kind.ArrayPat (s ∷ Many (map as_pattern (items_of p)) ∷ []))
written_row kind.RestPat (s ∷ p ∷ []) = ap (λ u. Tree kind.RestPat (spanless s ∷ u ∷ [])) (pattern_same p) ∙ sym (spanless_of_tree kind.RestPat (s ∷ as_pattern p ∷ []))
written_row kind.KeyValuePatProp (c ∷ p ∷ []) = ap (λ u. Tree kind.KeyValuePatProp (spanless c ∷ u ∷ [])) (pattern_same p) ∙ sym (spanless_of_tree kind.KeyValuePatProp (c ∷ as_pattern p ∷ []))
written_row kind.AssignPat (s ∷ p ∷ r ∷ []) = ap (λ u. Tree kind.AssignPat (spanless s ∷ u ∷ spanless r ∷ [])) (pattern_same p) ∙ sym (spanless_of_tree kind.AssignPat (s ∷ as_pattern p ∷ r ∷ []))
written_row kind.Param (s ∷ p ∷ []) = ap (λ u. Tree kind.Param (spanless s ∷ u ∷ [])) (pattern_same p) ∙ sym (spanless_of_tree kind.Param (s ∷ as_pattern p ∷ []))
written_row kind.ArrowExpr (s ∷ p ∷ b ∷ a ∷ []) =
    ap (λ u. Tree kind.ArrowExpr (spanless s ∷ u ∷ spanless b ∷ spanless a ∷ [])) (items_of_each as_pattern pattern_same p) ∙ sym (spanless_of_tree kind.ArrowExpr (s ∷ Many (map as_pattern (items_of p)) ∷ b ∷ a ∷ []))
written_row kind.SetterProp (s ∷ c ∷ p ∷ b ∷ []) = ap (λ u. Tree kind.SetterProp (spanless s ∷ spanless c ∷ u ∷ spanless b ∷ [])) (pattern_same p) ∙ sym (spanless_of_tree kind.SetterProp (s ∷ c ∷ as_pattern p ∷ b ∷ []))
written_row kind.VarDeclarator (s ∷ n ∷ i ∷ []) = ap (λ u. Tree kind.VarDeclarator (spanless s ∷ u ∷ spanless i ∷ [])) (pattern_same n) ∙ sym (spanless_of_tree kind.VarDeclarator (s ∷ as_pattern n ∷ i ∷ []))
written_row kind.CatchClause (s ∷ p ∷ b ∷ []) = ap (λ u. Tree kind.CatchClause (spanless s ∷ u ∷ spanless b ∷ [])) (pattern_same p) ∙ sym (spanless_of_tree kind.CatchClause (s ∷ as_pattern p ∷ b ∷ []))
written_row kind.ForInStmt (s ∷ l ∷ r ∷ b ∷ []) = ap (λ u. Tree kind.ForInStmt (spanless s ∷ u ∷ spanless r ∷ spanless b ∷ [])) (pattern_same l) ∙ sym (spanless_of_tree kind.ForInStmt (s ∷ as_pattern l ∷ r ∷ b ∷ []))
written_row kind.ForOfStmt (s ∷ w ∷ l ∷ r ∷ b ∷ []) =
    ap (λ u. Tree kind.ForOfStmt (spanless s ∷ spanless w ∷ u ∷ spanless r ∷ spanless b ∷ [])) (pattern_same l) ∙ sym (spanless_of_tree kind.ForOfStmt (s ∷ w ∷ as_pattern l ∷ r ∷ b ∷ []))
written_row kind.ImportNamedSpecifier (s ∷ l ∷ i ∷ []) = ap (λ u. Tree kind.ImportNamedSpecifier (spanless s ∷ spanless l ∷ u ∷ [])) (again_same l i) ∙ sym (spanless_of_tree kind.ImportNamedSpecifier (s ∷ l ∷ again l i ∷ []))
written_row kind.NamedExport (s ∷ l ∷ r ∷ a ∷ []) =
    ap (λ b. Tree kind.NamedExport (spanless s ∷ (if b then Many (map specifier (items_of (spanless l))) else spanless l) ∷ spanless r ∷ spanless a ∷ [])) (absent_mapped spanless_mapped r)
    ∙ ap (λ u. Tree kind.NamedExport (spanless s ∷ u ∷ spanless r ∷ spanless a ∷ [])) (specifiers_if (is_absent r) l)
    ∙ sym (spanless_of_tree kind.NamedExport (s ∷ (if is_absent r then Many (map specifier (items_of l)) else l) ∷ r ∷ a ∷ []))
written_row kind.Module (s ∷ b ∷ h ∷ []) =
    ap (λ us. Tree kind.Module (spanless s ∷ Many (flat_map split us) ∷ spanless h ∷ [])) (items_mapped spanless_mapped b)
    ∙ ap (λ us. Tree kind.Module (spanless s ∷ Many us ∷ spanless h ∷ [])) (flat_same split split_same (items_of b))
    ∙ ap (λ u. Tree kind.Module (spanless s ∷ u ∷ spanless h ∷ [])) (sym (spanless_of_list (flat_map split (items_of b)))) ∙ sym (spanless_of_tree kind.Module (s ∷ Many (flat_map split (items_of b)) ∷ h ∷ []))
written_row k us = rolls-Tree k (map spanless us) ∙ sym (ap spanless (rolls-Tree k us) ∙ spanless_of_tree k us)

each_written : (ts : List Node) → Each (Same written_out) ts → map written_out (map spanless ts) ≡ map spanless (map written_out ts)
each_written [] l = refl
each_written (t ∷ ts) l = rw (l.0, each_written ts l.1) refl

written_same : (t : Node) → Same written_out t
written_same t = by_children (Same written_out)
    (search (rules, the_lemmas), λ x. search (rules, the_lemmas), λ w. search (rules, the_lemmas), λ x. search (rules, the_lemmas), λ s. search (rules, the_lemmas), λ k i. search (rules, the_lemmas))
    (λ ts l. ap written_out (spanless_of_list ts) ∙ written_of_list (map spanless ts) ∙ ap Many (each_written ts l) ∙ sym (ap spanless (written_of_list ts) ∙ spanless_of_list (map written_out ts)))
    (λ k ts l.
    ap written_out (spanless_of_tree k ts) ∙ written_of_tree k (map spanless ts) ∙ ap (λ us. written_step (Node-F.Tree k us)) (each_written ts l)
    ∙ written_row k (map written_out ts) ∙ ap spanless (sym (written_of_tree k ts))) t

normal_spanless : (t : Node) → normal_form (spanless t) ≡ spanless (normal_form t)
normal_spanless t = ap written_out (stripped_spanless t) ∙ written_same (stripped t)

pub normal_same : (t u : Node) → SameButForSpans t u → SameButForSpans (normal_form t) (normal_form u)
normal_same t u e = sym (normal_spanless t) ∙ ap normal_form e ∙ normal_spanless u
