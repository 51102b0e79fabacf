-- What is written out is spelled, where the names are names.
use Rattle.std.proofs.Common.{◌≡◌, ℕ, Bool, true, false, not, ◌&&◌, ◌||◌, Option, Some, None, List, [], ◌∷◌, ◌++◌, map, rules, refl, sym, ap, ◌∙◌, subst, cond}
use Rattle.std.specs.Prelude.{codes, is_some, nat_eq, if◌then◌else◌}
use Rattle.std.specs.List.{list_any}
use Rattle.std.specs.Cmp.Lexicographic.{pointwise}
use Rattle.swc_tree_marks.specs.declared.span.Span.{Span as Range}
use Rattle.swc_tree_marks.specs.declared.ident.Ident.{Ident}
use Rattle.swc_tree_node.specs.declared.kind.Kind.{Kind}
use Rattle.swc_tree_node.specs.declared.kind.Kind.TheVariants as kind
use Rattle.swc_tree_node.specs.declared.kind.Word.{Word as Word'}
use Rattle.swc_tree_node.specs.declared.node.Node.{Node, Absent, Flag, Word, Text, Span, List as Many, Identifier, Tree, out-Node, the_lemmas}
use Rattle.swc_tree_node.specs.declared.node.Node.TheOpen.{Node-F}
use Rattle.swc_tree_node.specs.declared.node.Node.TheVariants.{outs-Absent, outs-Identifier, outs-List, outs-Span, outs-Text, outs-Tree, outs-Word}
use Rattle.swc_tree_node.specs.Parts.{text_of}
use Rattle.swc_tree_scoping.specs.Shorthands.{computed_key, key_of, shorthand_key}
use Rattle.swc_tree_scoping.proofs.Remarked.{tree_is}
use Rattle.swc_tree_grammar.specs.Shapes.{items_in}
use Rattle.swc_tree_grammar.specs.Levels.{is_absent, is_absent_in}
use Rattle.swc_tree_grammar.proofs.Induction.{Each}
use Rattle.swc_base_rename_substitution.specs.Names.{Id}
use Rattle.swc_base_rename_substitution.specs.Identifiers.{Changes, default_in, kept_in, kept_name, or_kept, with_default, with_other, written_out, written_out_if}
use Rattle.swc_base_rename_substitution.specs.Exports.{declaration_in, declaration_of, export_list, exported_ids, exports_of, items_for, made, nowhere, specifier, specifier_to, with_exports}
use Rattle.text_words.specs.Words.{is_name, is_reserved}
use Rattle.text_words.specs.Words as words
use Rattle.text_checks.specs.Spelled.{fails, fails_there, has_amiss, is_amiss, is_amiss_export, is_amiss_specifier, is_bad_leaf, is_bad_raw, is_bad_string, is_misspelled, is_reserved_name, is_valueless}
use Rattle.text_kept_laws.proofs.Free.{Free, free_leaf, free_list, free_tree, tree_below, tree_here}
use Rattle.text_kept_laws.specs.Spelling.{GivesWords, IsWord}
use Rattle.text_kept_laws.proofs.Calm.{all_fail, both_false, neither, none_passes}
use Rattle.text_kept_laws.proofs.SpellingBound.{AllWords, S}

-- ---- leaves

pub absent_spelled : S Absent
absent_spelled = free_leaf is_misspelled Absent Node-F.Absent outs-Absent refl refl

pub word_spelled : (w : Word') → S (Word w)
word_spelled w = free_leaf is_misspelled (Word w) (Node-F.Word w) (outs-Word w) refl refl

pub text_spelled : (x : List ℕ) → S (Text x)
text_spelled x = free_leaf is_misspelled (Text x) (Node-F.Text x) (outs-Text x) refl refl

pub span_spelled : (x : Range) → S (Span x)
span_spelled x = free_leaf is_misspelled (Span x) (Node-F.Span x) (outs-Span x) refl refl

pub name_spelled : (k : Kind) (i : Ident) → is_name i.sym ≡ true → S (Identifier k i)
name_spelled k i h = free_leaf is_misspelled (Identifier k i) (Node-F.Identifier k i) (outs-Identifier k i) refl (ap (λ b. not b || false) h)

-- ---- what may stand anywhere

abbrev pub C : Node → Type 0
C t = is_amiss t ≡ false

seen_amiss : (t : Node) (y : Node-F Node) → out-Node t ≡ y → (is_reserved_name y || is_valueless y) ≡ false → C t
seen_amiss t y o h = ap (λ y. is_reserved_name y || is_valueless y) o ∙ h

pub absent_calm : C Absent
absent_calm = seen_amiss Absent Node-F.Absent outs-Absent refl

pub word_calm : (w : Word') → C (Word w)
word_calm w = seen_amiss (Word w) (Node-F.Word w) (outs-Word w) refl

pub text_calm : (x : List ℕ) → C (Text x)
text_calm x = seen_amiss (Text x) (Node-F.Text x) (outs-Text x) refl

pub span_calm : (x : Range) → C (Span x)
span_calm x = seen_amiss (Span x) (Node-F.Span x) (outs-Span x) refl

pub list_calm : (ts : List Node) → C (Many ts)
list_calm ts = seen_amiss (Many ts) (Node-F.List ts) (outs-List ts) refl

pub name_calm : (k : Kind) (i : Ident) → is_reserved i.sym ≡ false → C (Identifier k i)
name_calm k i h = seen_amiss (Identifier k i) (Node-F.Identifier k i) (outs-Identifier k i) (both_false (is_reserved i.sym) false h refl)

pub tree_calm : (k : Kind) (ts : List Node) → is_valueless (Node-F.Tree k ts) ≡ false → C (Tree k ts)
tree_calm k ts h = seen_amiss (Tree k ts) (Node-F.Tree k ts) (outs-Tree k ts) h

-- a node with what may stand in it
pub tree_spelled : (k : Kind) (ts : List Node) → is_bad_leaf (Node-F.Tree k ts) ≡ false → has_amiss (Node-F.Tree k ts) ≡ false → Each S ts → S (Tree k ts)
tree_spelled k ts b h l = free_tree is_misspelled k ts (both_false (is_bad_leaf (Node-F.Tree k ts)) (has_amiss (Node-F.Tree k ts)) b h) l

pub list_spelled : (ts : List Node) → Each C ts → Each S ts → S (Many ts)
list_spelled ts c l = free_list is_misspelled ts (all_fail is_amiss ts c) l

-- ---- keys

pub key_spelled : (i : Ident) → is_name i.sym ≡ true → S (key_of i)
key_spelled i h =
    tree_spelled kind.IdentName (Span i.span ∷ Text i.sym ∷ [])
    ((let e : text_of (Text i.sym) ≡ Some i.sym = search (rules, the_lemmas) in ap (fails is_name) e ∙ ap not h))
    (all_fail is_amiss (Span i.span ∷ Text i.sym ∷ []) (span_calm i.span, (text_calm i.sym, tt))) (span_spelled i.span, (text_spelled i.sym, tt))

pub key_calm : (i : Ident) → C (key_of i)
key_calm i = tree_calm kind.IdentName _ refl

text_key_leaf : (x : List ℕ) (o : Option (List ℕ)) → o ≡ Some x → is_bad_raw o Absent ≡ false
text_key_leaf x o e = ap (λ o. is_bad_raw o Absent) e ∙ ap (λ y. not (is_absent_in y) && fails (words.is_string x) (text_of Absent)) outs-Absent

computed_spelled : (i : Ident) → S (computed_key i)
computed_spelled i =
    let ts : List Node = Span i.span ∷ Text i.sym ∷ Absent ∷ [] in
    let e : text_of (Text i.sym) ≡ Some i.sym = search (rules, the_lemmas) in
    let inner : S (Tree kind.Str ts) = tree_spelled kind.Str ts (text_key_leaf i.sym (text_of (Text i.sym)) e) (all_fail is_amiss ts (span_calm i.span, (text_calm i.sym, (absent_calm, tt)))) (span_spelled i.span, (text_spelled i.sym, (absent_spelled, tt))) in
    tree_spelled kind.ComputedPropName (Span i.span ∷ Tree kind.Str ts ∷ []) refl (all_fail is_amiss (Span i.span ∷ Tree kind.Str ts ∷ []) (span_calm i.span, (tree_calm kind.Str ts refl, tt))) (span_spelled i.span, (inner, tt))

pub shorthand_spelled : (i : Ident) → is_name i.sym ≡ true → S (shorthand_key i)
shorthand_spelled i h = by (pointwise nat_eq i.sym (codes "__proto__"))
  where
    by : (b : Bool) → S (cond b (computed_key i) (key_of i))
    by true = computed_spelled i
    by false = key_spelled i h

pub shorthand_calm : (i : Ident) → C (shorthand_key i)
shorthand_calm i = by (pointwise nat_eq i.sym (codes "__proto__"))
  where
    by : (b : Bool) → C (cond b (computed_key i) (key_of i))
    by true = tree_calm kind.ComputedPropName _ refl
    by false = key_calm i

-- ---- export lists

specifier_spelled : (x : Id) (o : Option Id) → is_name x.0 ≡ true → ((y : Id) → o ≡ Some y → IsWord y.0) → S (specifier_to x o)
specifier_spelled x None h g =
    tree_spelled kind.ExportNamedSpecifier (nowhere ∷ Identifier kind.Ident (made x) ∷ Absent ∷ []) refl refl (span_spelled _, (name_spelled kind.Ident (made x) h, (absent_spelled, tt)))
specifier_spelled x (Some y) h g =
    tree_spelled kind.ExportNamedSpecifier (nowhere ∷ Identifier kind.Ident (made y) ∷ Identifier kind.Ident (made (x.0, [])) ∷ []) refl refl
    (span_spelled _, (name_spelled kind.Ident (made y) (g y refl).0, (name_spelled kind.Ident (made (x.0, [])) h, tt)))

specifier_calm : (x : Id) (o : Option Id) → is_reserved x.0 ≡ false → ((y : Id) → o ≡ Some y → IsWord y.0) → is_amiss_specifier (out-Node (specifier_to x o)) ≡ false
specifier_calm x None h g = ap is_amiss_specifier (outs-Tree kind.ExportNamedSpecifier _) ∙ name_calm kind.Ident (made x) h
specifier_calm x (Some y) h g = ap is_amiss_specifier (outs-Tree kind.ExportNamedSpecifier _) ∙ name_calm kind.Ident (made y) (g y refl).1

module _ (m : Changes) (gives : GivesWords m) where
  specifiers_spelled : (xs : List Id) → AllWords xs → Each S (map (specifier m) xs)
  specifiers_spelled [] w = tt
  specifiers_spelled (x ∷ xs) w = (specifier_spelled x (m x) w.0.0 (gives x), specifiers_spelled xs w.1)

  specifiers_listed : (xs : List Id) → Each C (map (specifier m) xs)
  specifiers_listed [] = tt
  specifiers_listed (x ∷ xs) = (by (m x), specifiers_listed xs)
    where
      by : (o : Option Id) → C (specifier_to x o)
      by None = tree_calm kind.ExportNamedSpecifier _ refl
      by (Some y) = tree_calm kind.ExportNamedSpecifier _ refl

  specifiers_calm : (xs : List Id) → AllWords xs → list_any (λ t. is_amiss_specifier (out-Node t)) (map (specifier m) xs) ≡ false
  specifiers_calm [] w = refl
  specifiers_calm (x ∷ xs) w =
      both_false (is_amiss_specifier (out-Node (specifier m x))) (list_any (λ t. is_amiss_specifier (out-Node t)) (map (specifier m) xs)) (specifier_calm x (m x) w.0.1 (gives x)) (specifiers_calm xs w.1)

  exports_calm : (xs : List Id) → AllWords xs → has_amiss (Node-F.Tree kind.NamedExport (nowhere ∷ Many (map (specifier m) xs) ∷ Absent ∷ Absent ∷ [])) ≡ false
  exports_calm xs w =
      ap (λ y. is_absent_in y && list_any (λ t. is_amiss_specifier (out-Node t)) (items_in (out-Node (Many (map (specifier m) xs))))) outs-Absent
      ∙ ap (λ y. list_any (λ t. is_amiss_specifier (out-Node t)) (items_in y)) (outs-List (map (specifier m) xs))
      ∙ specifiers_calm xs w

  exports_spelled : (xs : List Id) → AllWords xs → S (export_list m xs)
  exports_spelled xs w =
      tree_spelled kind.NamedExport (nowhere ∷ Many (map (specifier m) xs) ∷ Absent ∷ Absent ∷ []) refl (exports_calm xs w)
      (span_spelled _, (list_spelled (map (specifier m) xs) (specifiers_listed xs) (specifiers_spelled xs w), (absent_spelled, (absent_spelled, tt))))

-- ---- what stands for an item of a list

abbrev pub Both : Node → Type 0
Both t = S t × C t

declaration_spelled : (u : Node) → Both u → Both (declaration_of u)
declaration_spelled u f = by (out-Node u) refl
  where
    inside : (s d : Node) → S (Tree kind.ExportDecl (s ∷ d ∷ [])) → Both d
    inside s d g = (
      (tree_below is_misspelled kind.ExportDecl (s ∷ d ∷ []) g).1.0,
      (none_passes is_amiss (s ∷ d ∷ []) (neither false _ (tree_here is_misspelled kind.ExportDecl (s ∷ d ∷ []) g)).1).1.0,
    )

    by : (y : Node-F Node) → out-Node u ≡ y → Both (declaration_in u y)
    by (Node-F.Tree kind.ExportDecl (s ∷ d ∷ [])) o = inside s d (subst S (tree_is u kind.ExportDecl (s ∷ d ∷ []) o) f.0)
    by (Node-F.Tree kind.ExportDecl []) o = f
    by (Node-F.Tree kind.ExportDecl (s ∷ [])) o = f
    by (Node-F.Tree kind.ExportDecl (s ∷ d ∷ e ∷ ts)) o = f
    by (Node-F.Tree k ts) o = f
    by (Node-F.List ts) o = f
    by (Node-F.Identifier k i) o = f
    by Node-F.Absent o = f
    by (Node-F.Flag x) o = f
    by (Node-F.Word x) o = f
    by (Node-F.Text x) o = f
    by (Node-F.Span x) o = f

pub joined : (us vs : List Node) → Each Both us → Each Both vs → Each Both (us ++ vs)
joined [] vs f g = g
joined (u ∷ us) vs f g = (f.0, joined us vs f.1 g)

pub firsts : (us : List Node) → Each Both us → Each S us
firsts [] f = tt
firsts (u ∷ us) f = (f.0.0, firsts us f.1)

pub seconds : (us : List Node) → Each Both us → Each C us
seconds [] f = tt
seconds (u ∷ us) f = (f.0.1, seconds us f.1)

module _ (m : Changes) (gives : GivesWords m) where
  with_exports_spelled : (b : Bool) (xs : List Id) (u : Node) → AllWords xs → Both u → Each Both (with_exports u (cond b (Some (export_list m xs)) None))
  with_exports_spelled true xs u w f = (declaration_spelled u f, ((exports_spelled m gives xs w, tree_calm kind.NamedExport _ refl), tt))
  with_exports_spelled false xs u w f = (f, tt)

  pub item_spelled : (t u : Node) → AllWords (exported_ids t) → Both u → Each Both (items_for m t u)
  item_spelled t u w f = with_exports_spelled (list_any (λ x. is_some (m x)) (exported_ids t)) (exported_ids t) u w f

-- ---- a node that writes a changed name out

other_spelled : (i : Ident) (us : List Node) → is_name i.sym ≡ true → Each S us → Each S (with_other i us)
other_spelled i (s ∷ local ∷ other ∷ []) h f = (f.0, (f.1.0, (name (out-Node other), tt)))
  where
    name : (y : Node-F Node) → S (kept_in i other y)
    name Node-F.Absent = name_spelled kind.Ident (kept_name i) h
    name (Node-F.Identifier k x) = f.1.1.0
    name (Node-F.Tree k x) = f.1.1.0
    name (Node-F.List x) = f.1.1.0
    name (Node-F.Flag x) = f.1.1.0
    name (Node-F.Word x) = f.1.1.0
    name (Node-F.Text x) = f.1.1.0
    name (Node-F.Span x) = f.1.1.0
other_spelled i [] h f = f
other_spelled i (s ∷ []) h f = f
other_spelled i (s ∷ t ∷ []) h f = f
other_spelled i (s ∷ t ∷ u ∷ v ∷ us) h f = f

import_amiss : (i : Ident) (us : List Node) → has_amiss (Node-F.Tree kind.ImportNamedSpecifier us) ≡ false → has_amiss (Node-F.Tree kind.ImportNamedSpecifier (with_other i us)) ≡ false
import_amiss i [] h = h
import_amiss i (a ∷ []) h = h
import_amiss i (a ∷ b ∷ []) h = h
import_amiss i (a ∷ b ∷ c ∷ []) h = h
import_amiss i (a ∷ b ∷ c ∷ d ∷ us) h = h

default_spelled : (i : Ident) (target value : Node) → Both target → Both value → Both (with_default i target value)
default_spelled i target value f g = by (out-Node value)
  where
    pattern_spelled : Both (Tree kind.AssignPat (Span i.span ∷ target ∷ value ∷ []))
    pattern_spelled =
        let ts : List Node = Span i.span ∷ target ∷ value ∷ [] in
        (tree_spelled kind.AssignPat ts refl (all_fail is_amiss ts (span_calm i.span, (f.1, (g.1, tt)))) (span_spelled i.span, (f.0, (g.0, tt))), tree_calm kind.AssignPat ts refl)

    by : (y : Node-F Node) → Both (default_in i target value y)
    by Node-F.Absent = f
    by (Node-F.Identifier k x) = pattern_spelled
    by (Node-F.Tree k x) = pattern_spelled
    by (Node-F.List x) = pattern_spelled
    by (Node-F.Flag x) = pattern_spelled
    by (Node-F.Word x) = pattern_spelled
    by (Node-F.Text x) = pattern_spelled
    by (Node-F.Span x) = pattern_spelled

property_spelled : (i : Ident) (target value : Node) → is_name i.sym ≡ true → Both target → Both value → S (Tree kind.KeyValuePatProp (key_of i ∷ with_default i target value ∷ []))
property_spelled i target value h f g =
    let d = default_spelled i target value f g in
    let ts : List Node = key_of i ∷ with_default i target value ∷ [] in
    tree_spelled kind.KeyValuePatProp ts refl (all_fail is_amiss ts (key_calm i, (d.1, tt))) (key_spelled i h, (d.0, tt))

written_spelled : (k : Kind) (i : Ident) (us : List Node) → is_name i.sym ≡ true → S (Tree k us) → has_amiss (Node-F.Tree k us) ≡ false → Each S us → S (written_out k i us)
written_spelled kind.AssignPatProp i (s ∷ target ∷ value ∷ []) h f c l =
    let n = none_passes is_amiss (s ∷ target ∷ value ∷ []) c in
    property_spelled i target value h (l.1.0, n.1.0) (l.1.1.0, n.1.1.0)
written_spelled kind.ImportNamedSpecifier i us h f c l = tree_spelled kind.ImportNamedSpecifier (with_other i us) refl (import_amiss i us c) (other_spelled i us h l)
written_spelled kind.ExportNamedSpecifier i us h f c l = tree_spelled kind.ExportNamedSpecifier (with_other i us) refl refl (other_spelled i us h l)
written_spelled kind.AssignPatProp i [] h f c l = f
written_spelled kind.AssignPatProp i (s ∷ []) h f c l = f
written_spelled kind.AssignPatProp i (s ∷ t ∷ []) h f c l = f
written_spelled kind.AssignPatProp i (s ∷ t ∷ u ∷ v ∷ us) h f c l = f
written_spelled k i us h f c l = f

pub written_if_spelled : (k : Kind) (o : Option Ident) (us : List Node) → ((i : Ident) → o ≡ Some i → is_name i.sym ≡ true) → S (Tree k us) → has_amiss (Node-F.Tree k us) ≡ false → Each S us
    → S (written_out_if k o us)
written_if_spelled k None us h f c l = f
written_if_spelled k (Some i) us h f c l = written_spelled k i us (h i refl) f c l
