-- What is read off a node, and stays where names are given anew.
use Rattle.std.proofs.Common.{◌≡◌, ℕ, zero, suc, Bool, true, false, not, ◌&&◌, ◌||◌, ◌==◌, IsTrue, Option, Some, None, List, [], ◌∷◌, ◌++◌, map, refl, sym, ap, ◌∙◌, subst, cond}
use Rattle.std.specs.List.{list_any, slice_get}
use Rattle.std.specs.Option.{is_some}
use Rattle.std.specs.Prelude.{option_map, unwrap_or}
use Rattle.swc_tree_marks.specs.declared.ident.Ident.{Ident}
use Rattle.swc_tree_node.specs.declared.fields.statements.fn_decl.TheConstants as fn_decl
use Rattle.swc_tree_node.specs.declared.kind.Kind.{Kind}
use Rattle.swc_tree_node.specs.declared.kind.Kind.TheVariants as kind
use Rattle.swc_tree_node.specs.declared.kind.Class.TheVariants as class
use Rattle.swc_tree_node.specs.declared.slot.Content.TheVariants as content
use Rattle.swc_tree_node.specs.declared.slot.Role.{Role}
use Rattle.swc_tree_node.specs.declared.slot.Role.TheVariants as role
use Rattle.swc_tree_node.specs.declared.slot.Slot.TheVariants as slot
use Rattle.swc_tree_node.specs.declared.node.Node.{Node, Absent, Flag, Word, Text, Span, List as Many, Identifier, Tree, out-Node}
use Rattle.swc_tree_node.specs.declared.node.Node.TheOpen.{Node-F}
use Rattle.swc_tree_node.specs.declared.node.Node.TheVariants.{outs-Absent, outs-Flag, outs-Identifier, outs-List, outs-Span, outs-Text, outs-Tree, outs-Word}
use Rattle.swc_tree_node.specs.Table.{is_identifier, slots_of}
use Rattle.swc_tree_node.specs.Fits.{AllFit, FieldsFit, Fits, belongs}
use Rattle.swc_tree_scoping.specs.declared.places.Standing.{Standing}
use Rattle.swc_tree_scoping.specs.declared.places.Standing.TheVariants as standing
use Rattle.swc_tree_scoping.specs.declared.places.Place.{Place as ScopingPlace}
use Rattle.swc_tree_scoping.specs.Places.{binds_patterns, by_keyword, field_role, given, is_expression_in, is_identifier_expression, items_in, keyword_in, part_standing, place_in, standing_below}
use Rattle.swc_tree_scoping.specs.BoundNames.{name_in, name_of}
use Rattle.swc_tree_grammar.proofs.Induction.{by_children}
use Rattle.swc_tree_grammar.proofs.Items.{listed}
use Rattle.swc_base_rename_substitution.specs.declared.place.Place.{Place}
use Rattle.swc_base_rename_substitution.specs.declared.place.Place.TheVariants as place
use Rattle.swc_base_rename_substitution.specs.Names.{Id}
use Rattle.swc_base_rename_substitution.specs.Identifiers.{Changes, changed, id_of, identifier_at, identifier_to, with_id, with_other, writes_out, written_out_if}
use Rattle.swc_base_rename_substitution.specs.Places.{places}
use Rattle.swc_base_rename_substitution.specs.Substituted.{if_changed, substituted, tree_for}
use Rattle.swc_base_rename_substitution.specs.Walk.{each_substituted, items_substituted}
use Rattle.swc_base_rename_substitution.proofs.Equations.{substituted-Absent, substituted-Flag, substituted-Word, substituted-Text, substituted-Span, substituted_identifier, substituted_list, substituted_tree}
use Rattle.swc_base_rename_laws.specs.Texts.{is_object}
use Rattle.swc_base_rename_laws.proofs.OuterTextsForms.{IsSomeTree, is_plain, is_tree, not_exported, one_item, same_kind, there_at, tree_here}
use Rattle.swc_base_rename_laws.proofs.Impossible.{impossible}
use Rattle.swc_base_rename_analysis.specs.Analysis.{function_has_rest_or_default, has_identifier, is_rest_or_default, parameter_is_rest_or_default}
use Rattle.swc_base_rename_analysis.specs.Walk.{own_name_below}
use Rattle.swc_base_renaming_laws.specs.Meetings.{used}
use Rattle.swc_base_renaming_laws.proofs.Placed.{sort}
use Rattle.swc_base_renaming_laws.specs.NamedMeetings.{anew}
use Rattle.swc_base_renaming_laws.proofs.Agreed.{Agrees, plain_first, plain_places, still_reference}

module _ (m : Changes) where
  -- the fields of a node, each given anew
  abbrev pub now : Place → Kind → List Node → List Node
  now q k ts = each_substituted m false (places false q k ts) ts

  -- what does not go by ids is read off alike where a changed identifier stays one
  module _ {A : Type 0} (r : Node-F Node → A) (names : (k : Kind) (i j : Ident) → r (Node-F.Identifier k j) ≡ r (Node-F.Identifier k i))
      (lists : (q : Place) (ts : List Node) → r (Node-F.List (items_substituted m false q ts)) ≡ r (Node-F.List ts)) (trees : (q : Place) (k : Kind) (ts : List Node) → r (Node-F.Tree k (now q k ts)) ≡ r (Node-F.Tree k ts))
      (others : (k : Kind) (ts us : List Node) → writes_out k ≡ true → r (Node-F.Tree k us) ≡ r (Node-F.Tree k ts)) (patterns : (ts us : List Node) → r (Node-F.Tree kind.KeyValuePatProp us) ≡ r (Node-F.Tree kind.AssignPatProp ts)) where
    name_read : (q : Place) (k : Kind) (i : Ident) (o : Option Ident) → is_plain q ≡ true → r (out-Node (identifier_to q k i o)) ≡ r (Node-F.Identifier k i)
    name_read place.Name k i None h = ap r (outs-Identifier k i)
    name_read place.Other k i None h = ap r (outs-Identifier k i)
    name_read place.Exported k i None h = ap r (outs-Identifier k i)
    name_read place.Name k i (Some j) h = ap r (outs-Identifier k j) ∙ names k i j
    name_read place.Other k i (Some j) h = ap r (outs-Identifier k j) ∙ names k i j
    name_read place.Exported k i (Some j) h = ap r (outs-Identifier k j) ∙ names k i j
    name_read place.Shorthand k i o h = impossible h
    name_read place.ClassName k i o h = impossible h

    other_read : (k : Kind) (ts us : List Node) → writes_out k ≡ true → r (out-Node (Tree k us)) ≡ r (Node-F.Tree k ts)
    other_read k ts us w = ap r (outs-Tree k us) ∙ others k ts us w

    pattern_read : (c : Option Ident) (ts us : List Node) → r (out-Node (written_out_if kind.AssignPatProp c us)) ≡ r (Node-F.Tree kind.AssignPatProp ts)
    pattern_read None ts us = other_read kind.AssignPatProp ts us refl
    pattern_read (Some i) ts (s ∷ target ∷ value ∷ []) = ap r (outs-Tree kind.KeyValuePatProp _) ∙ patterns ts _
    pattern_read (Some i) ts [] = other_read kind.AssignPatProp ts [] refl
    pattern_read (Some i) ts (a ∷ []) = other_read kind.AssignPatProp ts (a ∷ []) refl
    pattern_read (Some i) ts (a ∷ b ∷ []) = other_read kind.AssignPatProp ts (a ∷ b ∷ []) refl
    pattern_read (Some i) ts (a ∷ b ∷ c ∷ d ∷ ds) = other_read kind.AssignPatProp ts (a ∷ b ∷ c ∷ d ∷ ds) refl

    import_read : (c : Option Ident) (ts us : List Node) → r (out-Node (written_out_if kind.ImportNamedSpecifier c us)) ≡ r (Node-F.Tree kind.ImportNamedSpecifier ts)
    import_read None ts us = other_read kind.ImportNamedSpecifier ts us refl
    import_read (Some i) ts us = other_read kind.ImportNamedSpecifier ts (with_other i us) refl

    export_read : (c : Option Ident) (ts us : List Node) → r (out-Node (written_out_if kind.ExportNamedSpecifier c us)) ≡ r (Node-F.Tree kind.ExportNamedSpecifier ts)
    export_read None ts us = other_read kind.ExportNamedSpecifier ts us refl
    export_read (Some i) ts us = other_read kind.ExportNamedSpecifier ts (with_other i us) refl

    same_read : (q : Place) (k : Kind) (ts : List Node) → tree_for m false q k ts (now q k ts) ≡ Tree k (now q k ts) → r (out-Node (tree_for m false q k ts (now q k ts))) ≡ r (Node-F.Tree k ts)
    same_read q k ts e = ap (λ t. r (out-Node t)) e ∙ ap r (outs-Tree k (now q k ts)) ∙ trees q k ts

    tree_read : (q : Place) (k : Kind) (ts : List Node) → r (out-Node (tree_for m false q k ts (now q k ts))) ≡ r (Node-F.Tree k ts)
    tree_read q kind.AssignPatProp ts = pattern_read (if_changed m (places false q kind.AssignPatProp ts 1) (identifier_at ts 1)) ts (now q kind.AssignPatProp ts)
    tree_read q kind.ImportNamedSpecifier ts = import_read (if_changed m (places false q kind.ImportNamedSpecifier ts 1) (identifier_at ts 1)) ts (now q kind.ImportNamedSpecifier ts)
    tree_read q kind.ExportNamedSpecifier ts = export_read (if_changed m (places false q kind.ExportNamedSpecifier ts 1) (identifier_at ts 1)) ts (now q kind.ExportNamedSpecifier ts)
    tree_read q k ts = same_read q k ts (same_kind k _ (now q k ts) (λ i. refl))

    pub reads : (q : Place) → is_plain q ≡ true → (t : Node) → r (out-Node (substituted m false q t)) ≡ r (out-Node t)
    reads q h = by_children (λ t. r (out-Node (substituted m false q t)) ≡ r (out-Node t)) (
      ap (λ t. r (out-Node t)) (substituted-Absent m false q),
      λ x. ap (λ t. r (out-Node t)) (substituted-Flag m false q x),
      λ w. ap (λ t. r (out-Node t)) (substituted-Word m false q w),
      λ x. ap (λ t. r (out-Node t)) (substituted-Text m false q x),
      λ x. ap (λ t. r (out-Node t)) (substituted-Span m false q x),
      λ k i. ap (λ t. r (out-Node t)) (substituted_identifier m false q k i) ∙ name_read q k i (changed m q i) h ∙ sym (ap r (outs-Identifier k i)),
    )
        (λ ts below. ap (λ t. r (out-Node t)) (substituted_list m false q ts) ∙ ap r (outs-List (items_substituted m false q ts)) ∙ lists q ts ∙ sym (ap r (outs-List ts)))
        (λ k ts below. ap (λ t. r (out-Node t)) (substituted_tree m false q k ts) ∙ tree_read q k ts ∙ sym (ap r (outs-Tree k ts)))

  -- ---- identifier expressions, keywords and what is named

  expression_anew : (q : Place) → is_plain q ≡ true → (t : Node) → is_identifier_expression (Some (substituted m false q t)) ≡ is_identifier_expression (Some t)
  expression_anew = reads is_expression_in expressions (λ q ts. refl) (λ q k ts. refl) (λ k ts us w. refl) (λ ts us. refl)
    where
      expressions : (k : Kind) (i j : Ident) → is_expression_in (Node-F.Identifier k j) ≡ is_expression_in (Node-F.Identifier k i)
      expressions kind.Ident i j = refl
      expressions k i j = refl

  expression_at : (ps : ℕ → Place) (ts : List Node) (i : ℕ) → ((i : ℕ) → is_plain (ps i) ≡ true) → is_identifier_expression (slice_get (each_substituted m false ps ts) i) ≡ is_identifier_expression (slice_get ts i)
  expression_at ps [] i h = refl
  expression_at ps (t ∷ ts) zero h = expression_anew (ps zero) (h zero) t
  expression_at ps (t ∷ ts) (suc i) h = expression_at (λ i. ps (suc i)) ts i (λ i. h (suc i))

  -- an item stands as it did
  pub part_item : (q : Place) (w : ScopingPlace) (t : Node) → Agrees q w → part_standing w.standing (Some (substituted m false q t)) ≡ part_standing w.standing (Some t)
  part_item place.Shorthand w t h = still_reference w.standing (Some (substituted m false place.Shorthand t)) (h.short refl) ∙ sym (still_reference w.standing (Some t) (h.short refl))
  part_item place.ClassName w t h = impossible (sym h.kept)
  part_item q w t h = ap (λ b. cond (binds_patterns w.standing && b) standing.Reference w.standing) (expression_anew q refl t)

  keyword_anew : (ps : ℕ → Place) (ts : List Node) → ((i : ℕ) → is_plain (ps i) ≡ true) → by_keyword (each_substituted m false ps ts) ≡ by_keyword ts
  keyword_anew ps [] h = refl
  keyword_anew ps (t ∷ ts) h =
      ap (keyword_in (out-Node (substituted m false (ps zero) t))) (keyword_anew (λ i. ps (suc i)) ts (λ i. h (suc i)))
      ∙ reads (λ y. keyword_in y (by_keyword ts)) (λ k i j. refl) (λ q ts. refl) (λ q k ts. refl) (λ k ts us w. refl) (λ ts us. refl) (ps zero) (h zero) t

  named_anew : (q : Place) → is_plain q ≡ true → (t : Node) → is_some (name_of (Some (substituted m false q t))) ≡ is_some (name_of (Some t))
  named_anew = reads (λ y. is_some (name_in y)) (λ k i j. refl) (λ q ts. refl) (λ q k ts. refl) (λ k ts us w. refl) (λ ts us. refl)

  pub identifier_anew : (q : Place) (k : Kind) (ts : List Node) → has_identifier (now q k ts) ≡ has_identifier ts
  identifier_anew q k [] = refl
  identifier_anew q k (t ∷ ts) = named_anew (places false q k (t ∷ ts) 0) (plain_first q k (t ∷ ts)) t

  -- ---- the names of functions

  none_used : (t u : Node) → name_of (Some u) ≡ None → name_of (Some t) ≡ None → used (name_of (Some u)) ≡ map (anew m) (used (name_of (Some t)))
  none_used t u e h = ap used e ∙ sym (ap (λ o. map (anew m) (used o)) h)

  leaf_used : (t u : Node) → u ≡ t → name_of (Some t) ≡ None → used (name_of (Some u)) ≡ map (anew m) (used (name_of (Some t)))
  leaf_used t u e h = none_used t u (ap (λ t. name_of (Some t)) e ∙ h) h

  no_name : (t : Node) → IsSomeTree t → name_of (Some t) ≡ None
  no_name t (k, ts, e) = ap (λ t. name_of (Some t)) e ∙ ap name_in (outs-Tree k ts)

  new_name : (k : Kind) (i : Ident) (o : Option Id) → m (id_of i) ≡ o → used (name_of (Some (identifier_to place.Name k i (option_map (with_id i) o)))) ≡ anew m (id_of i) ∷ []
  new_name k i None e = ap (λ y. used (name_in y)) (outs-Identifier k i) ∙ ap (λ o. unwrap_or o (id_of i) ∷ []) (sym e)
  new_name k i (Some x) e = ap (λ y. used (name_in y)) (outs-Identifier k (with_id i x)) ∙ ap (λ o. unwrap_or o (id_of i) ∷ []) (sym e)

  name_used : (t : Node) → used (name_of (Some (substituted m false place.Name t))) ≡ map (anew m) (used (name_of (Some t)))
  name_used = by_children (λ t. used (name_of (Some (substituted m false place.Name t))) ≡ map (anew m) (used (name_of (Some t)))) (
    leaf_used Absent (substituted m false place.Name Absent) (substituted-Absent m false place.Name) (ap name_in outs-Absent),
    λ x. leaf_used (Flag x) (substituted m false place.Name (Flag x)) (substituted-Flag m false place.Name x) (ap name_in (outs-Flag x)),
    λ w. leaf_used (Word w) (substituted m false place.Name (Word w)) (substituted-Word m false place.Name w) (ap name_in (outs-Word w)),
    λ x. leaf_used (Text x) (substituted m false place.Name (Text x)) (substituted-Text m false place.Name x) (ap name_in (outs-Text x)),
    λ x. leaf_used (Span x) (substituted m false place.Name (Span x)) (substituted-Span m false place.Name x) (ap name_in (outs-Span x)),
    λ k i.
        ap (λ t. used (name_of (Some t))) (substituted_identifier m false place.Name k i) ∙ new_name k i (m (id_of i)) refl
        ∙ sym (ap (λ y. map (anew m) (used (name_in y))) (outs-Identifier k i)),
  )
      (λ ts below.
      none_used (Many ts) (substituted m false place.Name (Many ts)) (ap (λ t. name_of (Some t)) (substituted_list m false place.Name ts) ∙ ap name_in (outs-List (items_substituted m false place.Name ts)))
      (ap name_in (outs-List ts)))
      (λ k ts below.
      none_used (Tree k ts) (substituted m false place.Name (Tree k ts))
      (ap (λ t. name_of (Some t)) (substituted_tree m false place.Name k ts) ∙ no_name (tree_for m false place.Name k ts (now place.Name k ts)) (is_tree m false place.Name k ts (now place.Name k ts))) (ap name_in (outs-Tree k ts)))

  -- ---- functions that count as using their names

  rest_anew : (q : Place) → is_plain q ≡ true → (t : Node) → is_rest_or_default (out-Node (substituted m false q t)) ≡ is_rest_or_default (out-Node t)
  rest_anew = reads is_rest_or_default (λ k i j. refl) (λ q ts. refl) rows none (λ ts us. refl)
    where
      rows : (q : Place) (k : Kind) (ts : List Node) → is_rest_or_default (Node-F.Tree k (now q k ts)) ≡ is_rest_or_default (Node-F.Tree k ts)
      rows q kind.RestPat ts = refl
      rows q kind.AssignPat ts = refl
      rows q k ts = refl

      none : (k : Kind) (ts us : List Node) → writes_out k ≡ true → is_rest_or_default (Node-F.Tree k us) ≡ is_rest_or_default (Node-F.Tree k ts)
      none kind.RestPat ts us h = refl
      none kind.AssignPat ts us h = refl
      none k ts us h = refl

  parameter_anew : (q : Place) → is_plain q ≡ true → (t : Node) → parameter_is_rest_or_default (out-Node (substituted m false q t)) ≡ parameter_is_rest_or_default (out-Node t)
  parameter_anew = reads parameter_is_rest_or_default (λ k i j. refl) (λ q ts. refl) rows none (λ ts us. refl)
    where
      rows : (q : Place) (k : Kind) (ts : List Node) → parameter_is_rest_or_default (Node-F.Tree k (now q k ts)) ≡ parameter_is_rest_or_default (Node-F.Tree k ts)
      rows q kind.Param [] = refl
      rows q kind.Param (a ∷ []) = refl
      rows q kind.Param (a ∷ b ∷ ts) = rest_anew place.Name refl b
      rows q k ts = refl

      none : (k : Kind) (ts us : List Node) → writes_out k ≡ true → parameter_is_rest_or_default (Node-F.Tree k us) ≡ parameter_is_rest_or_default (Node-F.Tree k ts)
      none kind.Param ts us h = impossible h
      none k ts us h = refl

  abbrev is_such : Node → Bool
  is_such c = parameter_is_rest_or_default (out-Node c)

  any_anew : (ts : List Node) → AllFit (slot.One (content.Node class.Param)) ts → list_any is_such (items_substituted m false place.Other ts) ≡ list_any is_such ts
  any_anew [] f = refl
  any_anew (t ∷ ts) f =
      let u : Node = substituted m false place.Other t in
      ap (λ l. list_any is_such (l ++ items_substituted m false place.Other ts)) (one_item m t u (not_exported (slot.One (content.Node class.Param)) refl t f.0))
      ∙ ap (λ b. b || list_any is_such (items_substituted m false place.Other ts)) (parameter_anew place.Other refl t) ∙ ap (λ b. is_such t || b) (any_anew ts f.1)

  items_anew : (t : Node) → Fits t (slot.List (content.Node class.Param)) → list_any is_such (items_in (out-Node (substituted m false place.Other t))) ≡ list_any is_such (items_in (out-Node t))
  items_anew t f =
      let l = listed t (content.Node class.Param) f in
      ap (λ t. list_any is_such (items_in (out-Node (substituted m false place.Other t)))) l.is
      ∙ ap (λ t. list_any is_such (items_in (out-Node t))) (substituted_list m false place.Other l.items)
      ∙ ap (λ y. list_any is_such (items_in y)) (outs-List (items_substituted m false place.Other l.items)) ∙ any_anew l.items l.fit
      ∙ sym (ap (λ t. list_any is_such (items_in (out-Node t))) l.is ∙ ap (λ y. list_any is_such (items_in y)) (outs-List l.items))

  function_fields : (ts : List Node) → FieldsFit (slots_of kind.Function) ts → function_has_rest_or_default (Node-F.Tree kind.Function (now place.Other kind.Function ts)) ≡ function_has_rest_or_default (Node-F.Tree kind.Function ts)
  function_fields [] f = absurd f
  function_fields (x ∷ []) f = absurd f.1
  function_fields (x ∷ p ∷ ts) f = items_anew p f.1.0

  no_identifiers : (k : Kind) → IsTrue (belongs k class.Function) → is_identifier k ≡ false
  no_identifiers kind.Ident h = impossible h
  no_identifiers kind.BindingIdent h = impossible h
  no_identifiers k h = refl

  only_functions : (k : Kind) → IsTrue (belongs k class.Function) → k ≡ kind.Function
  only_functions kind.Function h = refl
  only_functions k h = impossible h

  function_anew : (t : Node) → Fits t (slot.One (content.Node class.Function)) → function_has_rest_or_default (out-Node (substituted m false place.Other t)) ≡ function_has_rest_or_default (out-Node t)
  function_anew t f =
      let (k, ts, e, b, fields) = tree_here class.Function no_identifiers t f in
      let one : k ≡ kind.Function = only_functions k b in
      let is : t ≡ Tree kind.Function ts = e ∙ ap (λ k. Tree k ts) one in
      let fit : FieldsFit (slots_of kind.Function) ts = subst (λ k. FieldsFit (slots_of k) ts) one fields in
      ap (λ t. function_has_rest_or_default (out-Node (substituted m false place.Other t))) is
      ∙ ap (λ t. function_has_rest_or_default (out-Node t)) (substituted_tree m false place.Other kind.Function ts ∙ same_kind kind.Function _ (now place.Other kind.Function ts) (λ i. refl))
      ∙ ap function_has_rest_or_default (outs-Tree kind.Function (now place.Other kind.Function ts)) ∙ function_fields ts fit
      ∙ sym (ap (λ t. function_has_rest_or_default (out-Node t)) is ∙ ap function_has_rest_or_default (outs-Tree kind.Function ts))

  chosen_name : (b : Bool) (o p : Option Ident) → used o ≡ map (anew m) (used p) → used (cond b o None) ≡ map (anew m) (used (cond b p None))
  chosen_name true o p e = e
  chosen_name false o p e = refl

  and_false : (b : Bool) → (b && false) ≡ false
  and_false true = refl
  and_false false = refl

  no_own : (b : Bool) (o p : Option Ident) → used (cond (b && false) o None) ≡ map (anew m) (used (cond (b && false) p None))
  no_own b o p = ap (λ c. used (cond c o None)) (and_false b) ∙ sym (ap (λ c. map (anew m) (used (cond c p None))) (and_false b))

  -- the name that a function counts as using is the new one
  pub own_anew : (q : Place) (k : Kind) (ts : List Node) → FieldsFit (slots_of k) ts → (i : ℕ) → used (own_name_below k (now q k ts) i) ≡ map (anew m) (used (own_name_below k ts i))
  own_anew q kind.FnDecl (a ∷ f ∷ []) fit i =
      ap (λ b. used (cond (i == fn_decl.FUNCTION && b) (name_of (Some (substituted m false place.Name a))) None)) (function_anew f fit.1.0)
      ∙ chosen_name (i == fn_decl.FUNCTION && function_has_rest_or_default (out-Node f)) (name_of (Some (substituted m false place.Name a))) (name_of (Some a)) (name_used a)
  own_anew q kind.FnExpr (a ∷ f ∷ []) fit i =
      ap (λ b. used (cond (i == fn_decl.FUNCTION && b) (name_of (Some (substituted m false place.Name a))) None)) (function_anew f fit.1.0)
      ∙ chosen_name (i == fn_decl.FUNCTION && function_has_rest_or_default (out-Node f)) (name_of (Some (substituted m false place.Name a))) (name_of (Some a)) (name_used a)
  own_anew q kind.FnDecl [] fit i = absurd fit
  own_anew q kind.FnDecl (a ∷ []) fit i = absurd fit.1
  own_anew q kind.FnDecl (a ∷ b ∷ c ∷ cs) fit i = absurd fit.1.1
  own_anew q kind.FnExpr [] fit i = absurd fit
  own_anew q kind.FnExpr (a ∷ []) fit i = absurd fit.1
  own_anew q kind.FnExpr (a ∷ b ∷ c ∷ cs) fit i = absurd fit.1.1
  own_anew q k ts fit i = no_own (i == fn_decl.FUNCTION) (name_of (slice_get (now q k ts) 0)) (name_of (slice_get ts 0))

  -- ---- as what fields stand

  function_chosen : (a b : Bool) → sort (cond a standing.Function (cond b standing.SloppyFunction standing.BlockFunction)) ≡ standing.Function
  function_chosen true b = refl
  function_chosen false true = refl
  function_chosen false false = refl

  module _ (q : Place) (w : ScopingPlace) (k : Kind) (ts : List Node) where
    module _ (plain : (i : ℕ) → is_plain (places false q k ts i) ≡ true) where
      part_anew : (r : Standing) (i : ℕ) → sort (part_standing r (slice_get (now q k ts) i)) ≡ sort (part_standing r (slice_get ts i))
      part_anew r i = ap (λ b. sort (cond (binds_patterns r && b) standing.Reference r)) (expression_at (places false q k ts) ts i plain)

      role_anew : (i : ℕ) (r : Role) → sort (standing_below w k (now q k ts) i r) ≡ sort (standing_below w k ts i r)
      role_anew i role.Inherited = part_anew w.standing i
      role_anew i role.Parameter = part_anew standing.Parameter i
      role_anew i role.Catch = part_anew standing.CatchParameter i
      role_anew i role.Declared = ap sort (keyword_anew (places false q k ts) ts plain)
      role_anew i role.Function = function_chosen _ _ ∙ sym (function_chosen _ _)
      role_anew i role.ExportLocal = ap (λ b. sort (cond b standing.Imported standing.Reference)) (there_at m false (places false q k ts) ts 2)
      role_anew i role.Plain = refl
      role_anew i r = refl

  other_places : (q : Place) (w : ScopingPlace) (k : Kind) (ts : List Node) (i : ℕ) → is_object k ≡ false → sort (place_in w (Node-F.Tree k (now q k ts)) i).standing ≡ sort (place_in w (Node-F.Tree k ts) i).standing
  other_places q w k ts i o = role_anew q w k ts (λ i. plain_places q k ts i o) i (field_role k i)

  pub places_anew : (q : Place) (w : ScopingPlace) (k : Kind) (ts : List Node) (i : ℕ) → sort (place_in w (Node-F.Tree k (now q k ts)) i).standing ≡ sort (place_in w (Node-F.Tree k ts) i).standing
  places_anew q w kind.ObjectLit ts zero = refl
  places_anew q w kind.ObjectLit ts (suc zero) = refl
  places_anew q w kind.ObjectLit ts (suc (suc i)) = refl
  places_anew q w k ts i = other_places q w k ts i refl
