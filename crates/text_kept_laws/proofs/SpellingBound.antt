-- The names that a spelled declaration binds are names, and no reserved words.
use Rattle.std.proofs.Common.{◌≡◌, ℕ, zero, suc, Bool, true, false, not, ◌||◌, IsTrue, Option, Some, None, List, [], ◌∷◌, ◌++◌, map, refl, sym, ap, ◌∙◌, subst}
use Rattle.std.specs.Prelude.{slice_get, if◌then◌else◌}
use Rattle.std.specs.List.{flat_map, list_any}
use Rattle.swc_tree_marks.specs.declared.ident.Ident.{Ident}
use Rattle.swc_tree_node.specs.declared.kind.Kind.{Kind}
use Rattle.swc_tree_node.specs.declared.kind.Kind.TheVariants as kind
use Rattle.swc_tree_node.specs.declared.kind.Class.TheVariants as class
use Rattle.swc_tree_node.specs.declared.slot.Content.TheVariants as content
use Rattle.swc_tree_node.specs.declared.slot.Role.{Role}
use Rattle.swc_tree_node.specs.declared.slot.Role.TheVariants as role
use Rattle.swc_tree_node.specs.declared.slot.Slot.{Slot}
use Rattle.swc_tree_node.specs.declared.slot.Slot.TheVariants as slot
use Rattle.swc_tree_node.specs.declared.node.Node.{Node, Absent, Flag, Word, Text, Span, List as Many, Identifier, Tree, out-Node}
use Rattle.swc_tree_node.specs.declared.node.Node.TheOpen.{Node-F}
use Rattle.swc_tree_node.specs.declared.node.Node.TheVariants.{outs-Identifier, outs-List, outs-Tree}
use Rattle.swc_tree_node.specs.Table.{slots_of}
use Rattle.swc_tree_node.specs.Fits.{FieldsFit, Fits, belongs, fits}
use Rattle.swc_tree_node.proofs.Fit.{fits-List}
use Rattle.swc_tree_scoping.specs.BoundNames.{Id, bound_ids, declared_ids, declared_in, id_of, in_part, in_parts, name_in, name_of, own_id}
use Rattle.swc_tree_scoping.specs.Places.{field_role}
use Rattle.swc_tree_scoping.proofs.BoundNames.{bound-Absent, bound-Flag, bound-Word, bound-Text, bound-Span, bound-Identifier, bound-List, bound-Tree}
use Rattle.swc_tree_scoping.proofs.Remarked.{identifier_is, tree_is}
use Rattle.swc_tree_grammar.proofs.Induction.{Each, by_children}
use Rattle.swc_base_rename_substitution.specs.Exports.{distinct, exported_ids, exported_in, without}
use Rattle.swc_base_rename_substitution.specs.Names.{same_id}
use Rattle.swc_base_rename_substitution.proofs.Room.{identifier_open, tree_open}
use Rattle.text_words.specs.Words.{is_name, is_reserved}
use Rattle.text_checks.specs.Spelled.{has_amiss, is_amiss, is_bad_leaf, is_misspelled, is_reserved_name, is_valueless}
use Rattle.text_kept_laws.proofs.Free.{Free, free_here, list_below, list_here, tree_below, tree_here}
use Rattle.text_kept_laws.proofs.Fitting.{Fitting, list_fitting, tree_fields, tree_fitting}
use Rattle.text_kept_laws.specs.Spelling.{IsWord}
use Rattle.text_kept_laws.proofs.Calm.{neither, none_passes}

abbrev pub S : Node → Type 0
S t = Free is_misspelled t

abbrev pub AllWords : List Id → Type 0
AllWords [] = Unit {0}
AllWords (x ∷ xs) = IsWord x.0 × AllWords xs

words_joined : (xs ys : List Id) → AllWords xs → AllWords ys → AllWords (xs ++ ys)
words_joined [] ys h g = g
words_joined (x ∷ xs) ys h g = (h.0, words_joined xs ys h.1 g)

-- ---- one name

holds_if : (b : Bool) → not b ≡ false → b ≡ true
holds_if true h = refl
holds_if false h = absurd (cc)

pub named : (k : Kind) (i : Ident) → S (Identifier k i) → is_name i.sym ≡ true
named k i f = holds_if (is_name i.sym) (neither (is_bad_leaf (Node-F.Identifier k i)) (has_amiss (Node-F.Identifier k i)) (sym (ap is_misspelled (outs-Identifier k i)) ∙ free_here is_misspelled (Identifier k i) f)).0

pub unreserved : (k : Kind) (i : Ident) → is_amiss (Identifier k i) ≡ false → is_reserved i.sym ≡ false
unreserved k i h = sym (ap is_reserved_name (outs-Identifier k i)) ∙ (neither (is_reserved_name (out-Node (Identifier k i))) (is_valueless (out-Node (Identifier k i))) h).0

pub word : (k : Kind) (i : Ident) → S (Identifier k i) → is_amiss (Identifier k i) ≡ false → IsWord i.sym
word k i f h = (named k i f, unreserved k i h)

-- ---- fields by their roles

abbrev binds : Role → Bool
binds role.Declared = true
binds role.Lexical = true
binds role.Inherited = true
binds _ = false

part_words : (r : Role) (xs : List Id) → AllWords xs → AllWords (in_part r xs)
part_words role.Declared xs h = h
part_words role.Lexical xs h = h
part_words role.Inherited xs h = h
part_words r xs h = tt

part_skipped : (r : Role) (xs : List Id) → binds r ≡ false → in_part r xs ≡ []
part_skipped role.Declared xs h = absurd (cc)
part_skipped role.Lexical xs h = absurd (cc)
part_skipped role.Inherited xs h = absurd (cc)
part_skipped r xs h = refl

pub skipped : (roles : ℕ → Role) → ((i : ℕ) → binds (roles i) ≡ false) → (ls : List (List Id)) → in_parts roles ls ≡ []
skipped roles h [] = refl
skipped roles h (xs ∷ ls) = ap (λ l. l ++ in_parts (λ i. roles (suc i)) ls) (part_skipped (roles zero) xs (h zero)) ∙ skipped (λ i. roles (suc i)) (λ i. h (suc i)) ls

parts_words : (roles : ℕ → Role) (ts : List Node) → Each (λ t. AllWords (bound_ids t)) ts → AllWords (in_parts roles (map bound_ids ts))
parts_words roles [] w = tt
parts_words roles (t ∷ ts) w =
    words_joined (in_part (roles zero) (bound_ids t)) (in_parts (λ i. roles (suc i)) (map bound_ids ts)) (part_words (roles zero) (bound_ids t) w.0) (parts_words (λ i. roles (suc i)) ts w.1)

import_roles : (i : ℕ) → binds (field_role kind.ImportNamedSpecifier i) ≡ false
import_roles zero = refl
import_roles (suc zero) = refl
import_roles (suc (suc zero)) = refl
import_roles (suc (suc (suc i))) = refl

namespace_roles : (i : ℕ) → binds (field_role kind.ExportNamespaceSpecifier i) ≡ false
namespace_roles zero = refl
namespace_roles (suc zero) = refl
namespace_roles (suc (suc i)) = refl

export_roles : (i : ℕ) → binds (field_role kind.NamedExport i) ≡ false
export_roles zero = refl
export_roles (suc zero) = refl
export_roles (suc (suc zero)) = refl
export_roles (suc (suc (suc zero))) = refl
export_roles (suc (suc (suc (suc i)))) = refl

tagged_roles : (i : ℕ) → binds (field_role kind.TaggedTpl i) ≡ false
tagged_roles zero = refl
tagged_roles (suc zero) = refl
tagged_roles (suc (suc zero)) = refl
tagged_roles (suc (suc (suc i))) = refl

string_roles : (i : ℕ) → binds (field_role kind.Str i) ≡ false
string_roles zero = refl
string_roles (suc zero) = refl
string_roles (suc (suc zero)) = refl
string_roles (suc (suc (suc i))) = refl

-- ---- a name that is exported, which binds nothing

abbrev exported_place : Slot
exported_place = slot.One (content.Node class.ModuleExportName)

name_binds_none : (k : Kind) (i : Ident) → IsTrue (belongs k class.ModuleExportName) → own_id k i ≡ []
name_binds_none kind.BindingIdent i h = absurd (cc)
name_binds_none k i h = refl

text_binds_none : (k : Kind) (ts : List Node) → IsTrue (belongs k class.ModuleExportName) → in_parts (field_role k) (map bound_ids ts) ≡ []
text_binds_none kind.Str ts h = skipped (field_role kind.Str) string_roles (map bound_ids ts)
text_binds_none kind.Ident ts h = skipped (field_role kind.Ident) (λ i. refl) (map bound_ids ts)
text_binds_none k ts h = absurd (cc)

exported_binds_none : (t : Node) → Fits t exported_place → bound_ids t ≡ []
exported_binds_none t = by_children (λ t. Fits t exported_place → bound_ids t ≡ []) (
  λ f. bound-Absent,
  λ x f. bound-Flag x,
  λ x f. bound-Word x,
  λ x f. bound-Text x,
  λ x f. bound-Span x,
  λ k i f. (
      let o = identifier_open k i exported_place f in
      let same : o.0 ≡ class.ModuleExportName = let q = o.1 in cc in
      bound-Identifier k i ∙ name_binds_none k i (subst (λ c. IsTrue (belongs k c)) same o.3)
      ),
)
    (λ ts l f. (let never : fits (Many ts) exported_place ≡ false = fits-List ts exported_place in absurd (cc)))
    (λ k ts l f. (
    let o = tree_open k ts exported_place f in
    let same : o.0 ≡ class.ModuleExportName = let q = o.1 in cc in
    bound-Tree k ts ∙ text_binds_none k ts (subst (λ c. IsTrue (belongs k c)) same o.3)
    )) t

specifier_binds_none : (ts : List Node) → FieldsFit (slots_of kind.ExportNamedSpecifier) ts → in_parts (field_role kind.ExportNamedSpecifier) (map bound_ids ts) ≡ []
specifier_binds_none (a ∷ b ∷ c ∷ []) f = ap (λ l. l ++ []) (exported_binds_none b f.1.0)
specifier_binds_none [] f = absurd f
specifier_binds_none (a ∷ []) f = absurd f.1
specifier_binds_none (a ∷ b ∷ []) f = absurd f.1.1
specifier_binds_none (a ∷ b ∷ c ∷ d ∷ ts) f = absurd f.1.1.1

-- ---- patterns and declarators

abbrev Bound : Node → Type 0
Bound t = Fitting t → S t → is_amiss t ≡ false → AllWords (bound_ids t)

each_bound : (ts : List Node) → Each Bound ts → Each Fitting ts → Each S ts → Each (λ t. is_amiss t ≡ false) ts → Each (λ t. AllWords (bound_ids t)) ts
each_bound [] l w f h = tt
each_bound (t ∷ ts) l w f h = (l.0 w.0 f.0 h.0, each_bound ts l.1 w.1 f.1 h.1)

all_bound : (ts : List Node) → Each (λ t. AllWords (bound_ids t)) ts → AllWords (flat_map bound_ids ts)
all_bound [] w = tt
all_bound (t ∷ ts) w = words_joined (bound_ids t) (flat_map bound_ids ts) w.0 (all_bound ts w.1)

none_bound : {xs : List Id} → xs ≡ [] → AllWords xs
none_bound e = subst AllWords (sym e) tt

own_words : (k : Kind) (i : Ident) → IsWord i.sym → AllWords (own_id k i)
own_words kind.BindingIdent i h = (h, tt)
own_words k i h = tt

fields_words : (k : Kind) (ts : List Node) → FieldsFit (slots_of k) ts → (Each (λ t. is_amiss t ≡ false) ts → Each (λ t. AllWords (bound_ids t)) ts) → has_amiss (Node-F.Tree k ts) ≡ false
    → AllWords (in_parts (field_role k) (map bound_ids ts))
fields_words kind.ImportNamedSpecifier ts f w h = none_bound (skipped (field_role kind.ImportNamedSpecifier) import_roles (map bound_ids ts))
fields_words kind.ExportNamespaceSpecifier ts f w h = none_bound (skipped (field_role kind.ExportNamespaceSpecifier) namespace_roles (map bound_ids ts))
fields_words kind.NamedExport ts f w h = none_bound (skipped (field_role kind.NamedExport) export_roles (map bound_ids ts))
fields_words kind.TaggedTpl ts f w h = none_bound (skipped (field_role kind.TaggedTpl) tagged_roles (map bound_ids ts))
fields_words kind.ExportNamedSpecifier ts f w h = none_bound (specifier_binds_none ts f)
fields_words k ts f w h = parts_words (field_role k) ts (w (none_passes is_amiss ts h))

pub bound_words : (t : Node) → Bound t
bound_words t = by_children Bound (
  λ w f h. none_bound bound-Absent,
  λ x w f h. none_bound (bound-Flag x),
  λ x w f h. none_bound (bound-Word x),
  λ x w f h. none_bound (bound-Text x),
  λ x w f h. none_bound (bound-Span x),
  λ k i w f h. subst AllWords (sym (bound-Identifier k i)) (own_words k i (word k i f h)),
)
    (λ ts l w f h. subst AllWords (sym (bound-List ts)) (all_bound ts (each_bound ts l (list_fitting ts w) (list_below is_misspelled ts f) (none_passes is_amiss ts (neither false _ (list_here is_misspelled ts f)).1))))
    (λ k ts l w f h. subst AllWords (sym (bound-Tree k ts)) (fields_words k ts (tree_fields k ts w) (λ c. each_bound ts l (tree_fitting k ts w) (tree_below is_misspelled k ts f) c) (neither (is_bad_leaf (Node-F.Tree k ts)) _ (tree_here is_misspelled k ts f)).1)) t

-- ---- declarations

name_words : (t : Node) (y : Node-F Node) → out-Node t ≡ y → S t → is_amiss t ≡ false → AllWords (id_of (name_in y))
name_words t (Node-F.Identifier k i) o f h =
    let same : t ≡ Identifier k i = identifier_is t k i o in
    (word k i (subst S same f) (subst (λ t. is_amiss t ≡ false) same h), tt)
name_words t (Node-F.Tree k ts) o f h = tt
name_words t (Node-F.List ts) o f h = tt
name_words t Node-F.Absent o f h = tt
name_words t (Node-F.Flag x) o f h = tt
name_words t (Node-F.Word x) o f h = tt
name_words t (Node-F.Text x) o f h = tt
name_words t (Node-F.Span x) o f h = tt

first_words : (ts : List Node) → Each S ts → list_any is_amiss ts ≡ false → AllWords (id_of (name_of (slice_get ts 0)))
first_words [] f h = tt
first_words (t ∷ ts) f h = name_words t (out-Node t) refl f.0 (neither (is_amiss t) (list_any is_amiss ts) h).0

pub declared_words : (t : Node) → Fitting t → S t → is_amiss t ≡ false → AllWords (declared_ids t)
declared_words t w f h = by (out-Node t) refl
  where
    below : (k : Kind) (ts : List Node) → out-Node t ≡ Node-F.Tree k ts → Each S ts × (has_amiss (Node-F.Tree k ts) ≡ false)
    below k ts o = let g : S (Tree k ts) = subst S (tree_is t k ts o) f in (tree_below is_misspelled k ts g, (neither (is_bad_leaf (Node-F.Tree k ts)) _ (tree_here is_misspelled k ts g)).1)

    by : (y : Node-F Node) → out-Node t ≡ y → AllWords (declared_in t y)
    by (Node-F.Tree kind.FnDecl ts) o = let b = below kind.FnDecl ts o in first_words ts b.0 b.1
    by (Node-F.Tree kind.ClassDecl ts) o = let b = below kind.ClassDecl ts o in first_words ts b.0 b.1
    by (Node-F.Tree k ts) o = bound_words t w f h
    by (Node-F.List ts) o = bound_words t w f h
    by (Node-F.Identifier k i) o = bound_words t w f h
    by Node-F.Absent o = bound_words t w f h
    by (Node-F.Flag x) o = bound_words t w f h
    by (Node-F.Word x) o = bound_words t w f h
    by (Node-F.Text x) o = bound_words t w f h
    by (Node-F.Span x) o = bound_words t w f h

-- ---- exported declarations

without_if : (b : Bool) (y : Id) (ys : List Id) → IsWord y.0 → AllWords ys → AllWords (if b then ys else y ∷ ys)
without_if true y ys h g = g
without_if false y ys h g = (h, g)

without_words : (x : Id) (ys : List Id) → AllWords ys → AllWords (without x ys)
without_words x [] h = tt
without_words x (y ∷ ys) h = without_if (same_id y x) y (without x ys) h.0 (without_words x ys h.1)

distinct_words : (xs : List Id) → AllWords xs → AllWords (distinct xs)
distinct_words [] h = tt
distinct_words (x ∷ xs) h = (h.0, without_words x (distinct xs) (distinct_words xs h.1))

pub exported_words : (t : Node) → Fitting t → S t → AllWords (exported_ids t)
exported_words t w f = by (out-Node t) refl
  where
    inside : (a d : Node) → Fitting (Tree kind.ExportDecl (a ∷ d ∷ [])) → S (Tree kind.ExportDecl (a ∷ d ∷ [])) → AllWords (declared_ids d)
    inside a d w f =
        let calm = none_passes is_amiss (a ∷ d ∷ []) (neither false _ (tree_here is_misspelled kind.ExportDecl (a ∷ d ∷ []) f)).1 in
        declared_words d (tree_fitting kind.ExportDecl (a ∷ d ∷ []) w).1.0 (tree_below is_misspelled kind.ExportDecl (a ∷ d ∷ []) f).1.0 calm.1.0

    by : (y : Node-F Node) → out-Node t ≡ y → AllWords (exported_in y)
    by (Node-F.Tree kind.ExportDecl (a ∷ d ∷ [])) o =
        let same : t ≡ Tree kind.ExportDecl (a ∷ d ∷ []) = tree_is t kind.ExportDecl (a ∷ d ∷ []) o in
        distinct_words (declared_ids d) (inside a d (subst Fitting same w) (subst S same f))
    by (Node-F.Tree kind.ExportDecl []) o = tt
    by (Node-F.Tree kind.ExportDecl (a ∷ [])) o = tt
    by (Node-F.Tree kind.ExportDecl (a ∷ b ∷ c ∷ ts)) o = tt
    by (Node-F.Tree k ts) o = tt
    by (Node-F.List ts) o = tt
    by (Node-F.Identifier k i) o = tt
    by Node-F.Absent o = tt
    by (Node-F.Flag x) o = tt
    by (Node-F.Word x) o = tt
    by (Node-F.Text x) o = tt
    by (Node-F.Span x) o = tt
