-- A tree that fits its place and is shaped still is when its names are given anew.
use Rattle.std.proofs.Common.{◌≡◌, ℕ, zero, suc, Bool, true, false, not, ◌&&◌, Option, Some, None, List, [], ◌∷◌, ◌++◌, map, refl, sym, ap, ◌∙◌, subst, cond}
use Rattle.std.specs.Prelude.{codes, is_some, nat_eq, if◌then◌else◌}
use Rattle.std.specs.List.{flat_map, list_all, list_any}
use Rattle.std.specs.Cmp.Lexicographic.{pointwise}
use Rattle.swc_tree_marks.specs.declared.span.Span.{Span as Range}
use Rattle.swc_tree_marks.specs.declared.ident.Ident.{Ident}
use Rattle.swc_tree_node.specs.declared.kind.Kind.{Kind}
use Rattle.swc_tree_node.specs.declared.kind.Kind.TheVariants as kind
use Rattle.swc_tree_node.specs.declared.kind.Word.{Word as Word'}
use Rattle.swc_tree_node.specs.declared.kind.Word.TheVariants as word
use Rattle.swc_tree_node.specs.declared.node.Node.{Node, Absent, Flag, Word, Text, Span, List as Many, Identifier, Tree, out-Node}
use Rattle.swc_tree_node.specs.declared.node.Node.TheOpen.{Node-F}
use Rattle.swc_tree_node.specs.declared.node.Node.TheVariants.{outs-Absent, outs-Flag, outs-Identifier, outs-List, outs-Span, outs-Text, outs-Tree, outs-Word}
use Rattle.swc_tree_node.specs.Table.{slots_of}
use Rattle.swc_tree_node.specs.Fits.{FieldsFit}
use Rattle.swc_tree_scoping.specs.Shorthands.{computed_key, key_of, shorthand_key}
use Rattle.swc_tree_scoping.proofs.Remarked.{tree_is}
use Rattle.swc_tree_grammar.specs.Shapes.{items_in}
use Rattle.swc_tree_grammar.specs.Kinds.{has_kind, has_kind_in}
use Rattle.swc_tree_grammar.specs.Levels.{is_absent_in}
use Rattle.swc_tree_grammar.proofs.Induction.{Each, by_children}
use Rattle.swc_base_rename_substitution.specs.declared.place.Place.{Place}
use Rattle.swc_base_rename_substitution.specs.declared.place.Place.TheVariants as place
use Rattle.swc_base_rename_substitution.specs.Names.{Id}
use Rattle.swc_base_rename_substitution.specs.Identifiers.{Changes, changed, default_in, identifier_at, identifier_in, identifier_to, kept_in, kept_name, or_kept, with_default, with_other, written_out, written_out_if}
use Rattle.swc_base_rename_substitution.specs.Exports.{declaration_in, declaration_of, export_list, exported_ids, exports_of, items_for, made, nowhere, specifier, specifier_to, with_exports}
use Rattle.swc_base_rename_substitution.specs.Places.{places}
use Rattle.swc_base_rename_substitution.specs.Classes.{class_span, kept_class, let_if, let_of_class}
use Rattle.swc_base_rename_substitution.specs.Substituted.{if_changed, keeps_name, substituted}
use Rattle.swc_base_rename_substitution.specs.Walk.{each_substituted, items_substituted}
use Rattle.swc_base_rename_substitution.proofs.Equations.{substituted-Absent, substituted-Flag, substituted-Word, substituted-Text, substituted-Span, substituted_identifier, substituted_list, substituted_tree}
use Rattle.text_grammar.specs.Shaped.{are_names, is_empty, is_export, is_misshapen, named_kind, star_or_names}
use Rattle.text_kept_laws.proofs.Free.{Free, free_child, free_leaf, free_list, free_tree, list_below, tree_below, tree_here}
use Rattle.text_kept_laws.proofs.Fitting.{Fitting, are_quiet, fields_quiet, list_fitting, tree_fields, tree_fitting}
use Rattle.text_kept_laws.proofs.Views.{Listed, Of, afters, befores}
use Rattle.text_kept_laws.proofs.RenamesLengths.{has_items, has_key, row}
use Rattle.text_kept_laws.proofs.RenamesSeen.{keyed_all, listed_all, views, views_after, views_before}
use Rattle.text_kept_laws.proofs.Looks.{keeps_class}

abbrev F : Node → Type 0
F t = Free is_misshapen t

-- ---- what is made

absent_free : F Absent
absent_free = free_leaf is_misshapen Absent Node-F.Absent outs-Absent refl refl

word_free : (w : Word') → F (Word w)
word_free w = free_leaf is_misshapen (Word w) (Node-F.Word w) (outs-Word w) refl refl

text_free : (x : List ℕ) → F (Text x)
text_free x = free_leaf is_misshapen (Text x) (Node-F.Text x) (outs-Text x) refl refl

pub span_free : (x : Range) → F (Span x)
span_free x = free_leaf is_misshapen (Span x) (Node-F.Span x) (outs-Span x) refl refl

pub name_free : (k : Kind) (i : Ident) → F (Identifier k i)
name_free k i = free_leaf is_misshapen (Identifier k i) (Node-F.Identifier k i) (outs-Identifier k i) refl refl

key_free : (i : Ident) → F (key_of i)
key_free i = free_tree is_misshapen kind.IdentName (Span i.span ∷ Text i.sym ∷ []) refl (span_free i.span, (text_free i.sym, tt))

computed_free : (i : Ident) → F (computed_key i)
computed_free i =
    let inner : F (Tree kind.Str (Span i.span ∷ Text i.sym ∷ Absent ∷ [])) = free_tree is_misshapen kind.Str (Span i.span ∷ Text i.sym ∷ Absent ∷ []) refl (span_free i.span, (text_free i.sym, (absent_free, tt))) in
    free_tree is_misshapen kind.ComputedPropName (Span i.span ∷ Tree kind.Str (Span i.span ∷ Text i.sym ∷ Absent ∷ []) ∷ []) refl (span_free i.span, (inner, tt))

shorthand_free : (i : Ident) → F (shorthand_key i)
shorthand_free i = by (pointwise nat_eq i.sym (codes "__proto__"))
  where
    by : (b : Bool) → F (cond b (computed_key i) (key_of i))
    by true = computed_free i
    by false = key_free i

specifier_free : (x : Id) (o : Option Id) → F (specifier_to x o)
specifier_free x None = free_tree is_misshapen kind.ExportNamedSpecifier (nowhere ∷ Identifier kind.Ident (made x) ∷ Absent ∷ []) refl (span_free _, (name_free kind.Ident (made x), (absent_free, tt)))
specifier_free x (Some y) =
    free_tree is_misshapen kind.ExportNamedSpecifier (nowhere ∷ Identifier kind.Ident (made y) ∷ Identifier kind.Ident (made (x.0, [])) ∷ []) refl
    (span_free _, (name_free kind.Ident (made y), (name_free kind.Ident (made (x.0, [])), tt)))

specifier_named : (x : Id) (o : Option Id) → has_kind named_kind (specifier_to x o) ≡ true
specifier_named x None = ap (has_kind_in named_kind) (outs-Tree kind.ExportNamedSpecifier _)
specifier_named x (Some y) = ap (has_kind_in named_kind) (outs-Tree kind.ExportNamedSpecifier _)

module _ (m : Changes) where
  specifiers_free : (xs : List Id) → Each F (map (specifier m) xs)
  specifiers_free [] = tt
  specifiers_free (x ∷ xs) = (specifier_free x (m x), specifiers_free xs)

  specifiers_named : (xs : List Id) → are_names (map (specifier m) xs) ≡ true
  specifiers_named [] = refl
  specifiers_named (x ∷ xs) = ap (λ b. b && are_names (map (specifier m) xs)) (specifier_named x (m x)) ∙ specifiers_named xs

  exports_shaped : (xs : List Id) → is_misshapen (Node-F.Tree kind.NamedExport (nowhere ∷ Many (map (specifier m) xs) ∷ Absent ∷ Absent ∷ [])) ≡ false
  exports_shaped xs =
      ap (λ y. not (is_export (items_in y) Absent Absent)) (outs-List (map (specifier m) xs))
      ∙ ap (λ y. not (if is_absent_in y then are_names (map (specifier m) xs) && is_absent_in y else star_or_names (map (specifier m) xs))) outs-Absent
      ∙ ap (λ b. not (b && true)) (specifiers_named xs)

  exports_free : (xs : List Id) → F (export_list m xs)
  exports_free xs =
      free_tree is_misshapen kind.NamedExport (nowhere ∷ Many (map (specifier m) xs) ∷ Absent ∷ Absent ∷ []) (exports_shaped xs)
      (span_free _, (free_list is_misshapen (map (specifier m) xs) refl (specifiers_free xs), (absent_free, (absent_free, tt))))

-- ---- what stands for an item of a list

declaration_free : (u : Node) → F u → F (declaration_of u)
declaration_free u f = by (out-Node u) refl
  where
    by : (y : Node-F Node) → out-Node u ≡ y → F (declaration_in u y)
    by (Node-F.Tree kind.ExportDecl (s ∷ d ∷ [])) o = (tree_below is_misshapen kind.ExportDecl (s ∷ d ∷ []) (subst F (tree_is u kind.ExportDecl (s ∷ d ∷ []) o) f)).1.0
    by (Node-F.Tree kind.ExportDecl []) o = f
    by (Node-F.Tree kind.ExportDecl (s ∷ [])) o = f
    by (Node-F.Tree kind.ExportDecl (s ∷ d ∷ e ∷ ts)) o = f
    by (Node-F.Tree k ts) o = f
    by (Node-F.List ts) o = f
    by (Node-F.Identifier k i) o = f
    by Node-F.Absent o = f
    by (Node-F.Flag x) o = f
    by (Node-F.Word x) o = f
    by (Node-F.Text x) o = f
    by (Node-F.Span x) o = f

joined : (us vs : List Node) → Each F us → Each F vs → Each F (us ++ vs)
joined [] vs f g = g
joined (u ∷ us) vs f g = (f.0, joined us vs f.1 g)

module _ (m : Changes) where
  with_exports_free : (b : Bool) (xs : List Id) (u : Node) → F u → Each F (with_exports u (cond b (Some (export_list m xs)) None))
  with_exports_free true xs u f = (declaration_free u f, (exports_free m xs, tt))
  with_exports_free false xs u f = (f, tt)

  item_free : (t u : Node) → F u → Each F (items_for m t u)
  item_free t u f = with_exports_free (list_any (λ x. is_some (m x)) (exported_ids t)) (exported_ids t) u f

-- ---- a node that writes a changed name out

other_free : (i : Ident) (us : List Node) → Each F us → Each F (with_other i us)
other_free i (s ∷ local ∷ other ∷ []) f = (f.0, (f.1.0, (name (out-Node other), tt)))
  where
    name : (y : Node-F Node) → F (kept_in i other y)
    name Node-F.Absent = name_free kind.Ident (kept_name i)
    name (Node-F.Identifier k x) = f.1.1.0
    name (Node-F.Tree k x) = f.1.1.0
    name (Node-F.List x) = f.1.1.0
    name (Node-F.Flag x) = f.1.1.0
    name (Node-F.Word x) = f.1.1.0
    name (Node-F.Text x) = f.1.1.0
    name (Node-F.Span x) = f.1.1.0
other_free i [] f = f
other_free i (s ∷ []) f = f
other_free i (s ∷ t ∷ []) f = f
other_free i (s ∷ t ∷ u ∷ v ∷ us) f = f

default_free : (i : Ident) (target value : Node) → F target → F value → F (with_default i target value)
default_free i target value f g = by (out-Node value)
  where
    pattern_free : F (Tree kind.AssignPat (Span i.span ∷ target ∷ value ∷ []))
    pattern_free = free_tree is_misshapen kind.AssignPat (Span i.span ∷ target ∷ value ∷ []) refl (span_free i.span, (f, (g, tt)))

    by : (y : Node-F Node) → F (default_in i target value y)
    by Node-F.Absent = f
    by (Node-F.Identifier k x) = pattern_free
    by (Node-F.Tree k x) = pattern_free
    by (Node-F.List x) = pattern_free
    by (Node-F.Flag x) = pattern_free
    by (Node-F.Word x) = pattern_free
    by (Node-F.Text x) = pattern_free
    by (Node-F.Span x) = pattern_free

written_free : (k : Kind) (i : Ident) (us : List Node) → F (Tree k us) → Each F us → F (written_out k i us)
written_free kind.AssignPatProp i (s ∷ target ∷ value ∷ []) f l =
    free_tree is_misshapen kind.KeyValuePatProp (key_of i ∷ with_default i target value ∷ []) refl (key_free i, (default_free i target value l.1.0 l.1.1.0, tt))
written_free kind.ImportNamedSpecifier i us f l = free_tree is_misshapen kind.ImportNamedSpecifier (with_other i us) refl (other_free i us l)
written_free kind.ExportNamedSpecifier i us f l = free_tree is_misshapen kind.ExportNamedSpecifier (with_other i us) refl (other_free i us l)
written_free kind.AssignPatProp i [] f l = f
written_free kind.AssignPatProp i (s ∷ []) f l = f
written_free kind.AssignPatProp i (s ∷ t ∷ []) f l = f
written_free kind.AssignPatProp i (s ∷ t ∷ u ∷ v ∷ us) f l = f
written_free k i us f l = f

written_if_free : (k : Kind) (o : Option Ident) (us : List Node) → F (Tree k us) → Each F us → F (written_out_if k o us)
written_if_free k None us f l = f
written_if_free k (Some i) us f l = written_free k i us f l

-- ---- a class that keeps its name

let_free : (s : Range) (i j : Ident) (class : Node) → F class → F (let_of_class s i j class)
let_free s i j class f =
    let expression : Node = Tree kind.ClassExpr (Identifier kind.Ident (kept_name i) ∷ class ∷ []) in
    let declarator : Node = Tree kind.VarDeclarator (Span s ∷ Identifier kind.BindingIdent j ∷ expression ∷ []) in
    let expression_free : F expression = free_tree is_misshapen kind.ClassExpr (Identifier kind.Ident (kept_name i) ∷ class ∷ []) refl (name_free kind.Ident (kept_name i), (f, tt)) in
    let declarator_free : F declarator = free_tree is_misshapen kind.VarDeclarator (Span s ∷ Identifier kind.BindingIdent j ∷ expression ∷ []) refl (span_free s, (name_free kind.BindingIdent j, (expression_free, tt))) in
    free_tree is_misshapen kind.VarDecl (Span s ∷ Word word.Let ∷ Many (declarator ∷ []) ∷ []) (ap (λ y. is_empty (items_in y)) (outs-List (declarator ∷ [])))
    (span_free s, (word_free word.Let, (free_list is_misshapen (declarator ∷ []) refl (declarator_free, tt), tt)))

let_if_free : (o : Option Ident) (s : Option Range) (i : Ident) (a b : Node) → F (Tree kind.ClassDecl (a ∷ b ∷ [])) → F b → F (let_if o s i a b)
let_if_free (Some j) (Some s) i a b f g = let_free s i j b g
let_if_free None s i a b f g = f
let_if_free (Some j) None i a b f g = f

kept_free : (o : Option Ident) (us : List Node) → F (Tree kind.ClassDecl us) → Each F us → F (kept_class o us)
kept_free None us f l = f
kept_free (Some i) [] f l = f
kept_free (Some i) (a ∷ []) f l = f
kept_free (Some i) (a ∷ b ∷ []) f l = let_if_free (identifier_in (out-Node a)) (class_span b) i a b f l.1.0
kept_free (Some i) (a ∷ b ∷ c ∷ us) f l = f

-- ---- the tree

-- the kinds whose lists are looked at have no exported declarations in them
quiet_kind : (k : Kind) → has_items k ≡ true → are_quiet k ≡ true
quiet_kind kind.SwitchStmt h = refl
quiet_kind kind.SeqExpr h = refl
quiet_kind kind.Tpl h = refl
quiet_kind kind.CallExpr h = refl
quiet_kind kind.ObjectPat h = refl
quiet_kind kind.Class h = refl
quiet_kind kind.VarDecl h = refl
quiet_kind kind.UsingDecl h = refl
quiet_kind kind.ImportDecl h = refl
quiet_kind kind.NamedExport h = refl
quiet_kind k h = absurd (cc)

module _ (m : Changes) (keeps : Bool) where
  abbrev Stays : Node → Type 0
  Stays t = (p : Place) → Fitting t → F t → F (substituted m keeps p t)

  each_stays : (ps : ℕ → Place) (ts : List Node) → Each Stays ts → Each Fitting ts → Each F ts → Each F (each_substituted m keeps ps ts)
  each_stays ps [] s w f = tt
  each_stays ps (t ∷ ts) s w f = (s.0 (ps zero) w.0 f.0, each_stays (λ i. ps (suc i)) ts s.1 w.1 f.1)

  items_stay : (p : Place) (ts : List Node) → Each Stays ts → Each Fitting ts → Each F ts → Each F (items_substituted m keeps p ts)
  items_stay p [] s w f = tt
  items_stay p (t ∷ ts) s w f = joined (items_for m t (substituted m keeps p t)) (items_substituted m keeps p ts) (item_free m t (substituted m keeps p t) (s.0 p w.0 f.0)) (items_stay p ts s.1 w.1 f.1)

  identifier_stays : (p : Place) (k : Kind) (i : Ident) (j : Option Ident) → F (identifier_to p k i j)
  identifier_stays place.ClassName k i j = name_free k (kept_name i)
  identifier_stays place.Name k i None = name_free k i
  identifier_stays place.Shorthand k i None = name_free k i
  identifier_stays place.Exported k i None = name_free k i
  identifier_stays place.Other k i None = name_free k i
  identifier_stays place.Name k i (Some j) = name_free k j
  identifier_stays place.Exported k i (Some j) = name_free k j
  identifier_stays place.Other k i (Some j) = name_free k j
  identifier_stays place.Shorthand k i (Some j) = free_tree is_misshapen kind.KeyValueProp (shorthand_key i ∷ Identifier k j ∷ []) refl (shorthand_free i, (name_free k j, tt))

  same_lengths : (ps : ℕ → Place) (k : Kind) (ts : List Node) → FieldsFit (slots_of k) ts → is_misshapen (Node-F.Tree k (each_substituted m keeps ps ts)) ≡ is_misshapen (Node-F.Tree k ts)
  same_lengths ps k ts f =
      ap (λ us. is_misshapen (Node-F.Tree k us)) (sym (views_after m keeps ps ts))
      ∙ row k (views m keeps ps ts) (λ h. listed_all m keeps ps ts (fields_quiet (slots_of k) ts (quiet_kind k h) f)) (λ h. keyed_all m keeps ps ts)
      ∙ ap (λ us. is_misshapen (Node-F.Tree k us)) (views_before m keeps ps ts)

  made_stays : (p : Place) (k : Kind) (ts us : List Node) (b : Bool) → keeps_name keeps p k ≡ b → F (Tree k us) → Each F us
      → F (if b then kept_class (identifier_at ts 0) us else written_out_if k (if_changed m (places keeps p k ts 1) (identifier_at ts 1)) us)
  made_stays p k ts us true e f l = kept_free (identifier_at ts 0) us (subst (λ k. F (Tree k us)) (keeps_class keeps p k e) f) l
  made_stays p k ts us false e f l = written_if_free k (if_changed m (places keeps p k ts 1) (identifier_at ts 1)) us f l

  tree_stays : (k : Kind) (ts : List Node) → Each Stays ts → Stays (Tree k ts)
  tree_stays k ts s p w f =
      let ps : ℕ → Place = places keeps p k ts in
      let us : List Node = each_substituted m keeps ps ts in
      let l : Each F us = each_stays ps ts s (tree_fitting k ts w) (tree_below is_misshapen k ts f) in
      let whole : F (Tree k us) = free_tree is_misshapen k us (same_lengths ps k ts (tree_fields k ts w) ∙ tree_here is_misshapen k ts f) l in
      subst F (sym (substituted_tree m keeps p k ts)) (made_stays p k ts us (keeps_name keeps p k) refl whole l)

  pub stays : (t : Node) → Stays t
  stays t = by_children Stays (
    λ p w f. subst F (sym (substituted-Absent m keeps p)) f,
    λ x p w f. subst F (sym (substituted-Flag m keeps p x)) f,
    λ x p w f. subst F (sym (substituted-Word m keeps p x)) f,
    λ x p w f. subst F (sym (substituted-Text m keeps p x)) f,
    λ x p w f. subst F (sym (substituted-Span m keeps p x)) f,
    λ k i p w f. subst F (sym (substituted_identifier m keeps p k i)) (identifier_stays p k i (changed m p i)),
  )
      (λ ts s p w f. subst F (sym (substituted_list m keeps p ts)) (free_list is_misshapen (items_substituted m keeps p ts) refl (items_stay p ts s (list_fitting ts w) (list_below is_misshapen ts f))))
      tree_stays t
