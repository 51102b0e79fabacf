-- With labels for contexts, and the same new texts, a tree becomes the same but for contexts.
use Rattle.std.proofs.Common.{◌≡◌, ℕ, zero, suc, Bool, true, false, ◌||◌, Option, Some, None, List, [], ◌∷◌, ◌++◌, map, refl, sym, ap, ◌∙◌}
use Rattle.std.specs.Prelude.{is_some, option_map, if◌then◌else◌}
use Rattle.std.specs.List.{flat_map, list_any}
use Rattle.swc_tree_marks.specs.declared.ident.Ident.{Ident}
use Rattle.swc_tree_node.specs.declared.fields.statements.class_decl.TheConstants as class_decl
use Rattle.swc_tree_node.specs.declared.kind.Kind.{Kind}
use Rattle.swc_tree_node.specs.declared.kind.Kind.TheVariants as kind
use Rattle.swc_tree_node.specs.declared.node.Node.{Node, Absent, Flag, Word, Text, Span, List as Many, Identifier, Tree}
use Rattle.swc_tree_scoping.specs.Places.{field_role}
use Rattle.swc_tree_scoping.specs.Readings.{by_texts}
use Rattle.swc_tree_scoping.specs.Shorthands.{shorthand_key}
use Rattle.swc_tree_grammar.proofs.Induction.{Each, by_children}
use Rattle.swc_tree_grammar_texts.proofs.Cleared.{bare}
use Rattle.swc_base_rename_substitution.specs.declared.place.Place.{Place}
use Rattle.swc_base_rename_substitution.specs.declared.place.Place.TheVariants as place
use Rattle.swc_base_rename_substitution.specs.Names.{Id}
use Rattle.swc_base_rename_substitution.specs.Identifiers.{Changes, changed, id_of, identifier_at, identifier_to, kept_name, with_id, written_out_if}
use Rattle.swc_base_rename_substitution.specs.Exports.{declaration_of, export_list, exported_ids, exports_of, items_for, made, nowhere, specifier, specifier_to, with_exports}
use Rattle.swc_base_rename_substitution.specs.Places.{place_below, places}
use Rattle.swc_base_rename_substitution.specs.Classes.{kept_class}
use Rattle.swc_base_rename_substitution.specs.Substituted.{if_changed, keeps_name, substituted}
use Rattle.swc_base_rename_substitution.specs.Walk.{each_substituted, items_substituted}
use Rattle.swc_base_rename_substitution.proofs.Equations.{substituted-Absent, substituted-Flag, substituted-Word, substituted-Text, substituted-Span, substituted_identifier, substituted_list, substituted_tree}
use Rattle.swc_base_renaming_laws.specs.Contexts.{CarriesTexts, SubstitutionNeedsNoContexts, new_text, with_label}
use Rattle.swc_base_renaming_laws.proofs.Relabelled.{R, at_absent, at_flag, at_list, at_name, at_span, at_text, at_tree, at_word, exported_same, identifier_there, labelled, source_same}
use Rattle.swc_base_renaming_laws.proofs.ContextsWritten.{append_texts, declaration_alike, list_alike, name_alike, node_texts, tree_alike}

-- of one text
some_text : (x y : Id) → new_text (Some x) ≡ new_text (Some y) → x.0 ≡ y.0
some_text x y e = cc

is_some_same : (o q : Option Id) → new_text o ≡ new_text q → is_some o ≡ is_some q
is_some_same None None e = refl
is_some_same (Some x) (Some y) e = refl
is_some_same None (Some y) e = absurd (cc)
is_some_same (Some x) None e = absurd (cc)

mapped_some : (f g : Id → Ident) (o q : Option Id) → is_some o ≡ is_some q → is_some (option_map f o) ≡ is_some (option_map g q)
mapped_some f g None None e = refl
mapped_some f g (Some x) (Some y) e = refl
mapped_some f g None (Some y) e = absurd (cc)
mapped_some f g (Some x) None e = absurd (cc)

module _ (label : Id → List ℕ) (m n : Changes) (keeps : Bool) (law : CarriesTexts label m n) where
  abbrev L : Node → Node
  L t = R label t

  abbrev put : Ident → Ident
  put i = labelled label i

  -- ---- identifiers

  name_given : (k : Kind) (i : Ident) (o q : Option Id) → new_text o ≡ new_text q
      → by_texts (identifier_to place.Name k (put i) (option_map (with_id (put i)) o)) ≡ by_texts (identifier_to place.Name k i (option_map (with_id i) q))
  name_given k i None None e = name_alike k (put i) i refl
  name_given k i (Some x) (Some y) e = name_alike k (with_id (put i) x) (with_id i y) (ap (λ (s : List ℕ). bare (with_id i (s, []))) (some_text x y e))
  name_given k i None (Some y) e = absurd (cc)
  name_given k i (Some x) None e = absurd (cc)

  shorthand_given : (k : Kind) (i : Ident) (o q : Option Id) → new_text o ≡ new_text q
      → by_texts (identifier_to place.Shorthand k (put i) (option_map (with_id (put i)) o)) ≡ by_texts (identifier_to place.Shorthand k i (option_map (with_id i) q))
  shorthand_given k i None None e = name_alike k (put i) i refl
  shorthand_given k i (Some x) (Some y) e =
      tree_alike kind.KeyValueProp (shorthand_key (put i) ∷ Identifier k (with_id (put i) x) ∷ []) (shorthand_key i ∷ Identifier k (with_id i y) ∷ [])
      (ap (λ u. by_texts (shorthand_key i) ∷ u ∷ []) (name_alike k (with_id (put i) x) (with_id i y) (ap (λ (s : List ℕ). bare (with_id i (s, []))) (some_text x y e))))
  shorthand_given k i None (Some y) e = absurd (cc)
  shorthand_given k i (Some x) None e = absurd (cc)

  identifier_row : (p : Place) (k : Kind) (i : Ident) → by_texts (identifier_to p k (put i) (changed n p (put i))) ≡ by_texts (identifier_to p k i (changed m p i))
  identifier_row place.Other k i = name_alike k (put i) i refl
  identifier_row place.Exported k i = name_alike k (put i) i refl
  identifier_row place.ClassName k i = name_alike k (kept_name (put i)) (kept_name i) refl
  identifier_row place.Name k i = name_given k i (n (id_of (put i))) (m (id_of i)) (law.texts (id_of i))
  identifier_row place.Shorthand k i = shorthand_given k i (n (id_of (put i))) (m (id_of i)) (law.texts (id_of i))

  changed_same : (p : Place) (i : Ident) → is_some (changed n p (put i)) ≡ is_some (changed m p i)
  changed_same place.Other i = refl
  changed_same place.Exported i = refl
  changed_same place.ClassName i = refl
  changed_same place.Name i = mapped_some (with_id (put i)) (with_id i) (n (id_of (put i))) (m (id_of i)) (is_some_same (n (id_of (put i))) (m (id_of i)) (law.texts (id_of i)))
  changed_same place.Shorthand i = mapped_some (with_id (put i)) (with_id i) (n (id_of (put i))) (m (id_of i)) (is_some_same (n (id_of (put i))) (m (id_of i)) (law.texts (id_of i)))

  bare_if : (b : Bool) (i : Ident) → option_map bare (if b then Some (put i) else None) ≡ option_map bare (if b then Some i else None)
  bare_if true i = refl
  bare_if false i = refl

  changed_names : (p : Place) (o : Option Ident) → option_map bare (if_changed n p (option_map put o)) ≡ option_map bare (if_changed m p o)
  changed_names p None = refl
  changed_names p (Some i) = ap (λ b. option_map bare (if b then Some (put i) else None)) (changed_same p i) ∙ bare_if (is_some (changed m p i)) i

  bare_names : (o : Option Ident) → option_map bare (option_map put o) ≡ option_map bare o
  bare_names None = refl
  bare_names (Some i) = refl

  -- ---- export lists

  specifier_given : (x : Id) (o q : Option Id) → new_text o ≡ new_text q → by_texts (specifier_to (with_label label x) o) ≡ by_texts (specifier_to x q)
  specifier_given x None None e =
      tree_alike kind.ExportNamedSpecifier (nowhere ∷ Identifier kind.Ident (made (with_label label x)) ∷ Absent ∷ []) (nowhere ∷ Identifier kind.Ident (made x) ∷ Absent ∷ [])
      (ap (λ u. by_texts nowhere ∷ u ∷ by_texts Absent ∷ []) (name_alike kind.Ident (made (with_label label x)) (made x) refl))
  specifier_given x (Some y) (Some z) e =
      let other : Node = Identifier kind.Ident (made (x.0, [])) in
      tree_alike kind.ExportNamedSpecifier (nowhere ∷ Identifier kind.Ident (made y) ∷ other ∷ []) (nowhere ∷ Identifier kind.Ident (made z) ∷ other ∷ [])
      (ap (λ u. by_texts nowhere ∷ u ∷ by_texts other ∷ []) (name_alike kind.Ident (made y) (made z) (ap (λ (s : List ℕ). made (s, [])) (some_text y z e))))
  specifier_given x None (Some z) e = absurd (cc)
  specifier_given x (Some y) None e = absurd (cc)

  specifiers_same : (xs : List Id) → map by_texts (map (specifier n) (map (with_label label) xs)) ≡ map by_texts (map (specifier m) xs)
  specifiers_same [] = refl
  specifiers_same (x ∷ xs) =
      ap (λ u. u ∷ map by_texts (map (specifier n) (map (with_label label) xs))) (specifier_given x (n (with_label label x)) (m x) (law.texts x))
      ∙ ap (λ us. by_texts (specifier m x) ∷ us) (specifiers_same xs)

  lists_same : (xs : List Id) → by_texts (export_list n (map (with_label label) xs)) ≡ by_texts (export_list m xs)
  lists_same xs =
      tree_alike kind.NamedExport (nowhere ∷ Many (map (specifier n) (map (with_label label) xs)) ∷ Absent ∷ Absent ∷ []) (nowhere ∷ Many (map (specifier m) xs) ∷ Absent ∷ Absent ∷ [])
      (ap (λ u. by_texts nowhere ∷ u ∷ by_texts Absent ∷ by_texts Absent ∷ []) (list_alike (map (specifier n) (map (with_label label) xs)) (map (specifier m) xs) (specifiers_same xs)))

  any_same : (xs : List Id) → list_any (λ x. is_some (n x)) (map (with_label label) xs) ≡ list_any (λ x. is_some (m x)) xs
  any_same [] = refl
  any_same (x ∷ xs) =
      ap (λ b. b || list_any (λ x. is_some (n x)) (map (with_label label) xs)) (is_some_same (n (with_label label x)) (m x) (law.texts x))
      ∙ ap (λ b. is_some (m x) || b) (any_same xs)

  exports_row : (b c : Bool) (xs : List Id) (u v : Node) → b ≡ c → by_texts u ≡ by_texts v
      → map by_texts (with_exports u (if b then Some (export_list n (map (with_label label) xs)) else None)) ≡ map by_texts (with_exports v (if c then Some (export_list m xs) else None))
  exports_row true true xs u v e h =
      ap (λ d. d ∷ by_texts (export_list n (map (with_label label) xs)) ∷ []) (declaration_alike u v h) ∙ ap (λ l. by_texts (declaration_of v) ∷ l ∷ []) (lists_same xs)
  exports_row false false xs u v e h = ap (λ d. d ∷ []) h
  exports_row true false xs u v e h = absurd (cc)
  exports_row false true xs u v e h = absurd (cc)

  item_same : (t u v : Node) → by_texts u ≡ by_texts v → map by_texts (items_for n (L t) u) ≡ map by_texts (items_for m t v)
  item_same t u v h =
      let xs = exported_ids t in
      ap (λ ys. map by_texts (with_exports u (exports_of n ys))) (exported_same label law.apart t)
      ∙ exports_row (list_any (λ x. is_some (n x)) (map (with_label label) xs)) (list_any (λ x. is_some (m x)) xs) xs u v (any_same xs) h

  -- ---- the tree

  abbrev Alike : Node → Type 0
  Alike t = (p : Place) → by_texts (substituted n keeps p (L t)) ≡ by_texts (substituted m keeps p t)

  leaf_alike : (t : Node) → L t ≡ t → ((p : Place) → substituted n keeps p t ≡ t) → ((p : Place) → substituted m keeps p t ≡ t) → Alike t
  leaf_alike t e f g p = ap (λ t. by_texts (substituted n keeps p t)) e ∙ ap by_texts (f p ∙ sym (g p))

  name_case : (k : Kind) (i : Ident) → Alike (Identifier k i)
  name_case k i p =
      ap (λ t. by_texts (substituted n keeps p t)) (at_name label k i) ∙ ap by_texts (substituted_identifier n keeps p k (put i)) ∙ identifier_row p k i
      ∙ ap by_texts (sym (substituted_identifier m keeps p k i))

  items_row : (p : Place) (ts : List Node) → Each Alike ts → map by_texts (items_substituted n keeps p (map L ts)) ≡ map by_texts (items_substituted m keeps p ts)
  items_row p [] l = refl
  items_row p (t ∷ ts) l =
      append_texts (items_for n (L t) (substituted n keeps p (L t))) (items_substituted n keeps p (map L ts))
      ∙ ap (λ us. us ++ map by_texts (items_substituted n keeps p (map L ts))) (item_same t (substituted n keeps p (L t)) (substituted m keeps p t) (l.0 p))
      ∙ ap (λ us. map by_texts (items_for m t (substituted m keeps p t)) ++ us) (items_row p ts l.1)
      ∙ sym (append_texts (items_for m t (substituted m keeps p t)) (items_substituted m keeps p ts))

  list_case : (ts : List Node) → Each Alike ts → Alike (Many ts)
  list_case ts l p =
      ap (λ t. by_texts (substituted n keeps p t)) (at_list label ts) ∙ ap by_texts (substituted_list n keeps p (map L ts))
      ∙ list_alike (items_substituted n keeps p (map L ts)) (items_substituted m keeps p ts) (items_row p ts l) ∙ ap by_texts (sym (substituted_list m keeps p ts))

  fields_row : (ps : ℕ → Place) (ts : List Node) → Each Alike ts → map by_texts (each_substituted n keeps ps (map L ts)) ≡ map by_texts (each_substituted m keeps ps ts)
  fields_row ps [] l = refl
  fields_row ps (t ∷ ts) l =
      ap (λ u. u ∷ map by_texts (each_substituted n keeps (λ i. ps (suc i)) (map L ts))) (l.0 (ps zero))
      ∙ ap (λ us. by_texts (substituted m keeps (ps zero) t) ∷ us) (fields_row (λ i. ps (suc i)) ts l.1)

  -- what a node becomes goes by its fields, by the name in the first and by a changed one in the second
  abbrev becomes : Place → Kind → Option Ident → Option Ident → List Node → Node
  becomes p k o q us = if keeps_name keeps p k then kept_class o us else written_out_if k q us

  places_same : (p : Place) (k : Kind) (ts : List Node) → places keeps p k (map L ts) ≡ places keeps p k ts
  places_same p k ts = ap {B = ℕ → Place} (λ (b : Bool) (i : ℕ). place_below keeps p b k (field_role k i)) (source_same label ts)

  tree_case : (k : Kind) (ts : List Node) → Each Alike ts → Alike (Tree k ts)
  tree_case k ts l p =
      let ps = places keeps p k ts in
      let o = identifier_at ts class_decl.IDENT in
      let q = identifier_at ts 1 in
      let us = each_substituted m keeps ps ts in
      ap (λ t. by_texts (substituted n keeps p t)) (at_tree label k ts) ∙ ap by_texts (substituted_tree n keeps p k (map L ts))
      ∙ ap (λ (ps : ℕ → Place). by_texts (becomes p k (identifier_at (map L ts) class_decl.IDENT) (if_changed n (ps 1) (identifier_at (map L ts) 1)) (each_substituted n keeps ps (map L ts)))) (places_same p k ts)
      ∙ node_texts (keeps_name keeps p k) k (identifier_at (map L ts) class_decl.IDENT) (if_changed n (ps 1) (identifier_at (map L ts) 1)) (each_substituted n keeps ps (map L ts))
      ∙ ap (becomes p k (option_map bare (identifier_at (map L ts) class_decl.IDENT)) (option_map bare (if_changed n (ps 1) (identifier_at (map L ts) 1)))) (fields_row ps ts l)
      ∙ ap (λ a. becomes p k a (option_map bare (if_changed n (ps 1) (identifier_at (map L ts) 1))) (map by_texts us)) (ap (option_map bare) (identifier_there label ts class_decl.IDENT) ∙ bare_names o)
      ∙ ap (λ a. becomes p k (option_map bare o) a (map by_texts us)) (ap (λ a. option_map bare (if_changed n (ps 1) a)) (identifier_there label ts 1) ∙ changed_names (ps 1) q)
      ∙ sym (node_texts (keeps_name keeps p k) k o (if_changed m (ps 1) q) us) ∙ ap by_texts (sym (substituted_tree m keeps p k ts))

  pub alike : (t : Node) → Alike t
  alike t = by_children Alike (
    leaf_alike Absent (at_absent label) (λ p. substituted-Absent n keeps p) (λ p. substituted-Absent m keeps p),
    λ x. leaf_alike (Flag x) (at_flag label x) (λ p. substituted-Flag n keeps p x) (λ p. substituted-Flag m keeps p x),
    λ w. leaf_alike (Word w) (at_word label w) (λ p. substituted-Word n keeps p w) (λ p. substituted-Word m keeps p w),
    λ x. leaf_alike (Text x) (at_text label x) (λ p. substituted-Text n keeps p x) (λ p. substituted-Text m keeps p x),
    λ s. leaf_alike (Span s) (at_span label s) (λ p. substituted-Span n keeps p s) (λ p. substituted-Span m keeps p s),
    name_case,
  )
      list_case tree_case t

pub substitution_needs_no_contexts : SubstitutionNeedsNoContexts
substitution_needs_no_contexts label m n keeps p t law = alike label m n keeps law t p
