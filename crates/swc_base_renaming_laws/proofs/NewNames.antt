-- With new names, of which none is `eval`, a tree reads no more.
use Rattle.std.proofs.Common.{◌≡◌, ◌≢◌, ℕ, zero, suc, Bool, true, false, ◌⊎◌, inl, inr, Option, Some, None, List, [], ◌∷◌, ◌++◌, map, refl, sym, ap, ◌∙◌, subst, cond}
use Rattle.std.specs.Prelude.{codes, is_some, nat_eq, option_map}
use Rattle.std.specs.Cmp.Lexicographic.{pointwise}
use Rattle.std.specs.List.{flat_map, list_any}
use Rattle.std.specs.Str.{bytes_eq}
use Rattle.std.proofs.lemmas.Slice.Eq.{bytes_eq-Decides}
use Rattle.swc_tree_marks.specs.declared.ident.Ident.{Ident}
use Rattle.swc_tree_node.specs.declared.kind.Kind.{Kind}
use Rattle.swc_tree_node.specs.declared.kind.Kind.TheVariants as kind
use Rattle.swc_tree_node.specs.declared.node.Node.{Node, Absent, Flag, Word, Span, Text, List as Many, Identifier, Tree, out-Node}
use Rattle.swc_tree_node.specs.declared.node.Node.TheOpen.{Node-F}
use Rattle.swc_tree_node.specs.declared.node.Node.TheVariants.{outs-Identifier, outs-List}
use Rattle.swc_tree_scoping.specs.Shorthands.{computed_key, key_of, shorthand_key}
use Rattle.swc_tree_scoping.proofs.Remarked.{tree_is}
use Rattle.swc_tree_grammar.proofs.Induction.{Each, by_children}
use Rattle.swc_base_rename_substitution.specs.declared.place.Place.{Place}
use Rattle.swc_base_rename_substitution.specs.declared.place.Place.TheVariants as place
use Rattle.swc_base_rename_substitution.specs.Names.{Id}
use Rattle.swc_base_rename_substitution.specs.Identifiers.{Changes, changed, default_in, id_of, identifier_at, identifier_to, kept_in, kept_name, or_kept, with_default, with_id, with_other, written_out, written_out_if}
use Rattle.swc_base_rename_substitution.specs.Exports.{declaration_in, declaration_of, export_list, exported_ids, exports_of, items_for, made, nowhere, specifier, specifier_to, with_exports}
use Rattle.swc_base_rename_substitution.specs.Places.{places}
use Rattle.swc_base_rename_substitution.specs.Classes.{kept_class}
use Rattle.swc_base_rename_substitution.specs.Substituted.{if_changed, keeps_name, substituted}
use Rattle.swc_base_rename_substitution.specs.Walk.{each_substituted, items_substituted}
use Rattle.swc_base_rename_substitution.proofs.Equations.{substituted-Absent, substituted-Flag, substituted-Word, substituted-Text, substituted-Span, substituted_identifier, substituted_list, substituted_tree}
use Rattle.swc_base_rename_units.specs.Eval.{HasEval, eval_step, is_eval}
use Rattle.swc_base_renaming_laws.specs.Readers.{NewNamesAddNoReader}
use Rattle.swc_base_renaming_laws.proofs.Calm.{AllCalm, Calm, SomeRead, absent_reads, calm_is, calm_tree, eval_out, identifier_reads, list_reads, plain_calm, plain_open, reads_fields, reads_list, some_calm, some_cases, span_reads, text_reads}

-- ---- what is written out reads nothing

pub key_reads : (i : Ident) → HasEval (key_of i) → ⊥
key_reads i h = by (plain_open kind.IdentName (Span i.span ∷ Text i.sym ∷ []) refl h)
  where
    by : SomeRead (Span i.span ∷ Text i.sym ∷ []) → ⊥
    by (inl h) = span_reads i.span h
    by (inr (inl h)) = text_reads i.sym h
    by (inr (inr h)) = h

computed_reads : (i : Ident) → HasEval (computed_key i) → ⊥
computed_reads i h = by (plain_open kind.ComputedPropName (Span i.span ∷ Tree kind.Str (Span i.span ∷ Text i.sym ∷ Absent ∷ []) ∷ []) refl h)
  where
    inner : SomeRead (Span i.span ∷ Text i.sym ∷ Absent ∷ []) → ⊥
    inner (inl h) = span_reads i.span h
    inner (inr (inl h)) = text_reads i.sym h
    inner (inr (inr (inl h))) = absent_reads h
    inner (inr (inr (inr h))) = h

    by : SomeRead (Span i.span ∷ Tree kind.Str (Span i.span ∷ Text i.sym ∷ Absent ∷ []) ∷ []) → ⊥
    by (inl h) = span_reads i.span h
    by (inr (inl h)) = inner (plain_open kind.Str (Span i.span ∷ Text i.sym ∷ Absent ∷ []) refl h)
    by (inr (inr h)) = h

shorthand_reads : (i : Ident) → HasEval (shorthand_key i) → ⊥
shorthand_reads i h = by (pointwise nat_eq i.sym (codes "__proto__")) h
  where
    by : (b : Bool) → HasEval (cond b (computed_key i) (key_of i)) → ⊥
    by true h = computed_reads i h
    by false h = key_reads i h

specifier_reads : (x : Id) (o : Option Id) → HasEval (specifier_to x o) → ⊥
specifier_reads x None h = by (plain_open kind.ExportNamedSpecifier (nowhere ∷ Identifier kind.Ident (made x) ∷ Absent ∷ []) refl h)
  where
    by : SomeRead (nowhere ∷ Identifier kind.Ident (made x) ∷ Absent ∷ []) → ⊥
    by (inl h) = span_reads _ h
    by (inr (inl h)) = identifier_reads kind.Ident (made x) h
    by (inr (inr (inl h))) = absent_reads h
    by (inr (inr (inr h))) = h
specifier_reads x (Some y) h = by (plain_open kind.ExportNamedSpecifier (nowhere ∷ Identifier kind.Ident (made y) ∷ Identifier kind.Ident (made (x.0, [])) ∷ []) refl h)
  where
    by : SomeRead (nowhere ∷ Identifier kind.Ident (made y) ∷ Identifier kind.Ident (made (x.0, [])) ∷ []) → ⊥
    by (inl h) = span_reads _ h
    by (inr (inl h)) = identifier_reads kind.Ident (made y) h
    by (inr (inr (inl h))) = identifier_reads kind.Ident (made (x.0, [])) h
    by (inr (inr (inr h))) = h

module _ (m : Changes) where
  specifiers_read : (xs : List Id) → SomeRead (map (specifier m) xs) → ⊥
  specifiers_read [] h = h
  specifiers_read (x ∷ xs) (inl h) = specifier_reads x (m x) h
  specifiers_read (x ∷ xs) (inr h) = specifiers_read xs h

  exports_read : (xs : List Id) → HasEval (export_list m xs) → ⊥
  exports_read xs h = by (plain_open kind.NamedExport (nowhere ∷ Many (map (specifier m) xs) ∷ Absent ∷ Absent ∷ []) refl h)
    where
      by : SomeRead (nowhere ∷ Many (map (specifier m) xs) ∷ Absent ∷ Absent ∷ []) → ⊥
      by (inl h) = span_reads _ h
      by (inr (inl h)) = specifiers_read xs (list_reads (map (specifier m) xs) h)
      by (inr (inr (inl h))) = absent_reads h
      by (inr (inr (inr (inl h)))) = absent_reads h
      by (inr (inr (inr (inr h)))) = h

-- ---- what stands for an item of a list

declaration_reads : (u : Node) → HasEval (declaration_of u) → HasEval u
declaration_reads u h = by (out-Node u) refl h
  where
    by : (y : Node-F Node) → out-Node u ≡ y → HasEval (declaration_in u y) → HasEval u
    by (Node-F.Tree kind.ExportDecl (s ∷ d ∷ [])) o h = subst HasEval (sym (tree_is u kind.ExportDecl (s ∷ d ∷ []) o)) (reads_fields kind.ExportDecl (s ∷ d ∷ []) (inr (inl h)))
    by (Node-F.Tree kind.ExportDecl []) o h = h
    by (Node-F.Tree kind.ExportDecl (s ∷ [])) o h = h
    by (Node-F.Tree kind.ExportDecl (s ∷ d ∷ e ∷ ts)) o h = h
    by (Node-F.Tree k ts) o h = h
    by (Node-F.List ts) o h = h
    by (Node-F.Identifier k i) o h = h
    by Node-F.Absent o h = h
    by (Node-F.Flag x) o h = h
    by (Node-F.Word x) o h = h
    by (Node-F.Text x) o h = h
    by (Node-F.Span x) o h = h

module _ (m : Changes) where
  some_exports : (b : Bool) (xs : List Id) (u : Node) → SomeRead (with_exports u (cond b (Some (export_list m xs)) None)) → HasEval u
  some_exports true xs u (inl h) = declaration_reads u h
  some_exports true xs u (inr (inl h)) = absurd (exports_read m xs h)
  some_exports true xs u (inr (inr h)) = absurd h
  some_exports false xs u (inl h) = h
  some_exports false xs u (inr h) = absurd h

  item_reads : (t u : Node) → SomeRead (items_for m t u) → HasEval u
  item_reads t u h = some_exports (list_any (λ x. is_some (m x)) (exported_ids t)) (exported_ids t) u h

  -- one item is what it was, and there are never fewer
  alone_named : (t u : Node) (o : Option Node) (rest : List Node) → eval_step (Node-F.List (map is_eval (with_exports u o ++ rest))) ≡ true → (is_eval u ≡ true) × (rest ≡ [])
  alone_named t u None [] h = (h, refl)
  alone_named t u None (r ∷ rest) h = absurd (cc)
  alone_named t u (Some e) rest h = absurd (cc)

  no_items : (t u : Node) (o : Option Node) (rest : List Node) → with_exports u o ++ rest ≡ [] → ⊥
  no_items t u None rest h = absurd (cc)
  no_items t u (Some e) rest h = absurd (cc)

-- ---- a node that writes a changed name out

other_reads : (i : Ident) (us : List Node) → SomeRead (with_other i us) → SomeRead us
other_reads i (s ∷ local ∷ other ∷ []) h = by h
  where
    name : (y : Node-F Node) → HasEval (kept_in i other y) → HasEval other
    name Node-F.Absent h = absurd (identifier_reads kind.Ident (kept_name i) h)
    name (Node-F.Identifier k x) h = h
    name (Node-F.Tree k x) h = h
    name (Node-F.List x) h = h
    name (Node-F.Flag x) h = h
    name (Node-F.Word x) h = h
    name (Node-F.Text x) h = h
    name (Node-F.Span x) h = h

    by : SomeRead (s ∷ local ∷ or_kept i other ∷ []) → SomeRead (s ∷ local ∷ other ∷ [])
    by (inl h) = inl h
    by (inr (inl h)) = inr (inl h)
    by (inr (inr (inl h))) = inr (inr (inl (name (out-Node other) h)))
    by (inr (inr (inr h))) = absurd h
other_reads i [] h = h
other_reads i (s ∷ []) h = h
other_reads i (s ∷ t ∷ []) h = h
other_reads i (s ∷ t ∷ u ∷ v ∷ us) h = h

default_reads : (i : Ident) (s target value : Node) → SomeRead (key_of i ∷ with_default i target value ∷ []) → SomeRead (s ∷ target ∷ value ∷ [])
default_reads i s target value h = by h
  where
    opened : SomeRead (Span i.span ∷ target ∷ value ∷ []) → SomeRead (s ∷ target ∷ value ∷ [])
    opened (inl h) = absurd (span_reads i.span h)
    opened (inr h) = inr h

    in_pattern : HasEval (Tree kind.AssignPat (Span i.span ∷ target ∷ value ∷ [])) → SomeRead (s ∷ target ∷ value ∷ [])
    in_pattern h = opened (plain_open kind.AssignPat (Span i.span ∷ target ∷ value ∷ []) refl h)

    name : (y : Node-F Node) → HasEval (default_in i target value y) → SomeRead (s ∷ target ∷ value ∷ [])
    name Node-F.Absent h = inr (inl h)
    name (Node-F.Identifier k x) h = in_pattern h
    name (Node-F.Tree k x) h = in_pattern h
    name (Node-F.List x) h = in_pattern h
    name (Node-F.Flag x) h = in_pattern h
    name (Node-F.Word x) h = in_pattern h
    name (Node-F.Text x) h = in_pattern h
    name (Node-F.Span x) h = in_pattern h

    by : SomeRead (key_of i ∷ with_default i target value ∷ []) → SomeRead (s ∷ target ∷ value ∷ [])
    by (inl h) = absurd (key_reads i h)
    by (inr (inl h)) = name (out-Node value) h
    by (inr (inr h)) = absurd h

written_calm : (k : Kind) (i : Ident) (us ts : List Node) → AllCalm us ts → Calm (written_out k i us) (Tree k ts)
written_calm kind.AssignPatProp i (s ∷ target ∷ value ∷ []) ts l =
    plain_calm kind.KeyValuePatProp (key_of i ∷ with_default i target value ∷ []) (Tree kind.AssignPatProp ts) refl (λ h. reads_fields kind.AssignPatProp ts (some_calm (s ∷ target ∷ value ∷ []) ts l (default_reads i s target value h)))
written_calm kind.ImportNamedSpecifier i us ts l =
    plain_calm kind.ImportNamedSpecifier (with_other i us) (Tree kind.ImportNamedSpecifier ts) refl (λ h. reads_fields kind.ImportNamedSpecifier ts (some_calm us ts l (other_reads i us h)))
written_calm kind.ExportNamedSpecifier i us ts l =
    plain_calm kind.ExportNamedSpecifier (with_other i us) (Tree kind.ExportNamedSpecifier ts) refl (λ h. reads_fields kind.ExportNamedSpecifier ts (some_calm us ts l (other_reads i us h)))
written_calm kind.AssignPatProp i [] ts l = calm_tree kind.AssignPatProp [] ts l
written_calm kind.AssignPatProp i (s ∷ []) ts l = calm_tree kind.AssignPatProp (s ∷ []) ts l
written_calm kind.AssignPatProp i (s ∷ t ∷ []) ts l = calm_tree kind.AssignPatProp (s ∷ t ∷ []) ts l
written_calm kind.AssignPatProp i (s ∷ t ∷ u ∷ v ∷ us) ts l = calm_tree kind.AssignPatProp (s ∷ t ∷ u ∷ v ∷ us) ts l
written_calm k i us ts l = calm_tree k us ts l

written_if_calm : (k : Kind) (o : Option Ident) (us ts : List Node) → AllCalm us ts → Calm (written_out_if k o us) (Tree k ts)
written_if_calm k None us ts l = calm_tree k us ts l
written_if_calm k (Some i) us ts l = written_calm k i us ts l

-- no class keeps its name
keeps_none : (p : Place) (k : Kind) → keeps_name false p k ≡ false
keeps_none p kind.ClassDecl = refl
keeps_none p _ = refl

-- ---- the tree

module _ (m : Changes) (fine : (x y : Id) → m x ≡ Some y → y.0 ≢ codes "eval") where
  abbrev Answers : Node → Type 0
  Answers t = (p : Place) → Calm (substituted m false p t) t

  renamed : (k : Kind) (i : Ident) (y : Id) → m (id_of i) ≡ Some y → Calm (Identifier k (with_id i y)) (Identifier k i)
  renamed k i y e = record {
    named = λ h. absurd (by k (sym (eval_out (Identifier k (with_id i y)) (Node-F.Identifier k (with_id i y)) (outs-Identifier k (with_id i y))) ∙ h));
    reads = λ h. absurd (identifier_reads k (with_id i y) h);
  }
    where
      by : (k : Kind) → eval_step (Node-F.Identifier k (with_id i y)) ≡ true → ⊥
      by kind.Ident h = fine (id_of i) y e ((bytes_eq-Decides y.0 (codes "eval")).0 h)
      by kind.BindingIdent h = absurd (cc)
      by _ h = absurd (cc)

  kept : (k : Kind) (i : Ident) → Calm (Identifier k (kept_name i)) (Identifier k i)
  kept k i = record {
    named = λ h. eval_out (Identifier k i) (Node-F.Identifier k i) (outs-Identifier k i) ∙ by k (sym (eval_out (Identifier k (kept_name i)) (Node-F.Identifier k (kept_name i)) (outs-Identifier k (kept_name i))) ∙ h);
    reads = λ h. absurd (identifier_reads k (kept_name i) h);
  }
    where
      by : (k : Kind) → eval_step (Node-F.Identifier k (kept_name i)) ≡ true → eval_step (Node-F.Identifier k i) ≡ true
      by kind.Ident h = h
      by kind.BindingIdent h = h
      by _ h = h

  shorthand : (k : Kind) (i j : Ident) → Calm (Tree kind.KeyValueProp (shorthand_key i ∷ Identifier k j ∷ [])) (Identifier k i)
  shorthand k i j = plain_calm kind.KeyValueProp (shorthand_key i ∷ Identifier k j ∷ []) (Identifier k i) refl by
    where
      by : SomeRead (shorthand_key i ∷ Identifier k j ∷ []) → HasEval (Identifier k i)
      by (inl h) = absurd (shorthand_reads i h)
      by (inr (inl h)) = absurd (identifier_reads k j h)
      by (inr (inr h)) = absurd h

  named_calm : (p : Place) (k : Kind) (i : Ident) (o : Option Id) → m (id_of i) ≡ o → Calm (identifier_to p k i (changed m p i)) (Identifier k i)
  named_calm place.Other k i o e = calm_is (Identifier k i) (Identifier k i) refl
  named_calm place.Exported k i o e = calm_is (Identifier k i) (Identifier k i) refl
  named_calm place.ClassName k i o e = kept k i
  named_calm place.Name k i None e = calm_is (identifier_to place.Name k i (changed m place.Name i)) (Identifier k i) (ap (λ o. identifier_to place.Name k i (option_map (with_id i) o)) e)
  named_calm place.Name k i (Some y) e = subst (λ o. Calm (identifier_to place.Name k i (option_map (with_id i) o)) (Identifier k i)) (sym e) (renamed k i y e)
  named_calm place.Shorthand k i None e = calm_is (identifier_to place.Shorthand k i (changed m place.Shorthand i)) (Identifier k i) (ap (λ o. identifier_to place.Shorthand k i (option_map (with_id i) o)) e)
  named_calm place.Shorthand k i (Some y) e = subst (λ o. Calm (identifier_to place.Shorthand k i (option_map (with_id i) o)) (Identifier k i)) (sym e) (shorthand k i (with_id i y))

  identifier_calm : (k : Kind) (i : Ident) → Answers (Identifier k i)
  identifier_calm k i p = subst (λ u. Calm u (Identifier k i)) (sym (substituted_identifier m false p k i)) (named_calm p k i (m (id_of i)) refl)

  -- the items of a list
  abbrev item : Place → Node → List Node
  item p t = items_for m t (substituted m false p t)

  flat_reads : (p : Place) (ts : List Node) → Each Answers ts → SomeRead (flat_map (item p) ts) → SomeRead ts
  flat_reads p [] l h = h
  flat_reads p (t ∷ ts) l h = by (λ g. flat_reads p ts l.1 g) (some_cases (item p t) (flat_map (item p) ts) h)
    where
      by : (SomeRead (flat_map (item p) ts) → SomeRead ts) → SomeRead (item p t) ⊎ SomeRead (flat_map (item p) ts) → SomeRead (t ∷ ts)
      by rest (inl g) = inl ((l.0 p).reads (item_reads m t (substituted m false p t) g))
      by rest (inr g) = inr (rest g)

  flat_named : (p : Place) (ts : List Node) → Each Answers ts → eval_step (Node-F.List (map is_eval (flat_map (item p) ts))) ≡ true → eval_step (Node-F.List (map is_eval ts)) ≡ true
  flat_named p [] l h = h
  flat_named p (t ∷ []) l h = (l.0 p).named (alone_named m t (substituted m false p t) (exports_of m (exported_ids t)) [] h).0
  flat_named p (t ∷ s ∷ ts) l h =
      absurd (no_items m s (substituted m false p s) (exports_of m (exported_ids s)) (flat_map (item p) ts) (alone_named m t (substituted m false p t) (exports_of m (exported_ids t)) (flat_map (item p) (s ∷ ts)) h).1)

  list_calm : (ts : List Node) → Each Answers ts → Answers (Many ts)
  list_calm ts l p = subst (λ u. Calm u (Many ts)) (sym (substituted_list m false p ts)) (record {
    named = λ h. eval_out (Many ts) (Node-F.List ts) (outs-List ts) ∙ flat_named p ts l (sym (eval_out (Many (items_substituted m false p ts)) (Node-F.List (items_substituted m false p ts)) (outs-List (items_substituted m false p ts))) ∙ h);
    reads = λ h. reads_list ts (flat_reads p ts l (list_reads (items_substituted m false p ts) h));
  })

  each_calm : (ps : ℕ → Place) (ts : List Node) → Each Answers ts → AllCalm (each_substituted m false ps ts) ts
  each_calm ps [] l = tt
  each_calm ps (t ∷ ts) l = (l.0 (ps zero), each_calm (λ i. ps (suc i)) ts l.1)

  tree_calm : (k : Kind) (ts : List Node) → Each Answers ts → Answers (Tree k ts)
  tree_calm k ts l p =
      let us = each_substituted m false (places false p k ts) ts in
      let o = if_changed m (places false p k ts 1) (identifier_at ts 1) in
      subst (λ u. Calm u (Tree k ts)) (sym (substituted_tree m false p k ts))
      (subst (λ b. Calm (cond b (kept_class (identifier_at ts 0) us) (written_out_if k o us)) (Tree k ts)) (sym (keeps_none p k)) (written_if_calm k o us ts (each_calm (places false p k ts) ts l)))

  pub calm : (t : Node) → Answers t
  calm t = by_children Answers (
    λ p. calm_is (substituted m false p Absent) Absent (substituted-Absent m false p),
    λ x p. calm_is (substituted m false p (Flag x)) (Flag x) (substituted-Flag m false p x),
    λ w p. calm_is (substituted m false p (Word w)) (Word w) (substituted-Word m false p w),
    λ x p. calm_is (substituted m false p (Text x)) (Text x) (substituted-Text m false p x),
    λ s p. calm_is (substituted m false p (Span s)) (Span s) (substituted-Span m false p s),
    identifier_calm,
  )
      list_calm tree_calm t

pub new_names_add_no_reader : NewNamesAddNoReader
new_names_add_no_reader m p t fine h = (calm m fine t p).reads h
