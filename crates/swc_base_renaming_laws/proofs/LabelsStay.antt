-- No label names a function where none did, when names are given anew.
use Rattle.std.proofs.Common.{◌≡◌, ℕ, zero, suc, Bool, true, false, not, ◌&&◌, Option, Some, None, List, [], ◌∷◌, ◌++◌, map, refl, sym, ap, ◌∙◌}
use Rattle.std.specs.Prelude.{if◌then◌else◌, option_map, slice_get}
use Rattle.std.specs.List.{list_all}
use Rattle.std.proofs.lemmas.Option.{slice_get-map}
use Rattle.swc_tree_marks.specs.declared.ident.Ident.{Ident}
use Rattle.swc_tree_marks.specs.declared.span.Span.{Span as Range}
use Rattle.swc_tree_node.specs.declared.kind.Kind.{Kind}
use Rattle.swc_tree_node.specs.declared.kind.Kind.TheVariants as kind
use Rattle.swc_tree_node.specs.declared.fields.statements.labeled_stmt.TheConstants as labeled_stmt
use Rattle.swc_tree_node.specs.declared.node.Node.{Node, Absent, Flag, Word, Text, Span, List as Many, Identifier, Tree, fold-Node, fold_out-Node, map-Node, out-Node, roll-Node, roll-out-Node}
use Rattle.swc_tree_node.specs.declared.node.Node.TheVariants.{outs-Absent, outs-Identifier, outs-List, outs-Span, outs-Text, outs-Tree, rolls-Tree}
use Rattle.swc_tree_node.specs.declared.node.Node.TheOpen.{Node-F}
use Rattle.swc_tree_scoping.specs.BoundNames.{Id}
use Rattle.swc_tree_scoping.specs.Shorthands.{computed_key, key_of}
use Rattle.swc_tree_renaming.specs.Apart.{Labelled, function_in, is_named, labelled_step, labels_no_function, names_function}
use Rattle.swc_tree_grammar.proofs.Induction.{Each, by_children}
use Rattle.swc_base_rename_substitution.specs.declared.place.Place.{Place}
use Rattle.swc_base_rename_substitution.specs.declared.place.Place.TheVariants as place
use Rattle.swc_base_rename_substitution.specs.Exports.{declaration_in, export_list, exported_ids, items_for, specifier, specifier_to, with_exports}
use Rattle.swc_base_rename_substitution.specs.Identifiers.{Changes, changed, default_in, identifier_to, kept_in, kept_name, written_out, written_out_if}
use Rattle.swc_base_rename_substitution.specs.Places.{places}
use Rattle.swc_base_rename_substitution.specs.Substituted.{substituted}
use Rattle.swc_base_rename_substitution.specs.Walk.{each_substituted, items_substituted}
use Rattle.swc_base_rename_substitution.proofs.Equations.{substituted-Absent, substituted-Flag, substituted-Word, substituted-Text, substituted-Span, substituted_identifier, substituted_list}
use Rattle.swc_base_rename_substitution.proofs.Room.{left, right}
use Rattle.swc_base_rename_laws.proofs.WritableStaysShape.{Even, even_anywhere, fields, old_name, tree_is}
use Rattle.swc_base_rename_laws.proofs.WritableStaysNames.{both_true}
use Rattle.swc_base_renaming_laws.proofs.StaysSettled.{field_same}

abbrev labelled : Node → Labelled
labelled = fold-Node Labelled labelled_step

abbrev all_none : List Node → Bool
all_none ts = list_all (λ e. e.names_none) (map labelled ts)

-- ---- what a layer says

opened : (t : Node) (y : Node-F Node) → out-Node t ≡ y → labelled t ≡ labelled_step (map-Node Node Labelled labelled y)
opened t y o = fold_out-Node Labelled labelled_step t ∙ ap (λ y. labelled_step (map-Node Node Labelled labelled y)) o

none_in : (t : Node) (y : Node-F Node) → out-Node t ≡ y → labels_no_function t ≡ (labelled_step (map-Node Node Labelled labelled y)).names_none
none_in t y o = ap (λ e. e.names_none) (opened t y o)

none_tree : (k : Kind) (ts : List Node) → labels_no_function (Tree k ts) ≡ (not (names_function (Node-F.Tree k (map labelled ts))) && all_none ts)
none_tree k ts = none_in (Tree k ts) _ (outs-Tree k ts)

none_list : (ts : List Node) → labels_no_function (Many ts) ≡ all_none ts
none_list ts = none_in (Many ts) _ (outs-List ts)

function_map : (y : Node-F Node) → function_in (map-Node Node Labelled labelled y) ≡ function_in y
function_map (Node-F.Tree kind.FnDecl ts) = refl
function_map (Node-F.Tree k ts) = refl
function_map y = refl

is_function_of : (t : Node) → (labelled t).is_function ≡ function_in (out-Node t)
is_function_of t = ap (λ e. e.is_function) (opened t (out-Node t) refl) ∙ function_map (out-Node t)

abbrev NamesNone : Node → Type 0
NamesNone t = labels_no_function t ≡ true

all_append : (ts us : List Node) → all_none ts ≡ true → all_none us ≡ true → all_none (ts ++ us) ≡ true
all_append [] us h g = g
all_append (t ∷ ts) us h g = both_true (left (labels_no_function t) _ h) (all_append ts us (right (labels_no_function t) _ h) g)

-- ---- nodes that are made

none_absent : NamesNone Absent
none_absent = none_in Absent _ outs-Absent

none_span : (s : Range) → NamesNone (Span s)
none_span s = none_in (Span s) _ (outs-Span s)

none_text : (x : List ℕ) → NamesNone (Text x)
none_text x = none_in (Text x) _ (outs-Text x)

none_name : (k : Kind) (i : Ident) → NamesNone (Identifier k i)
none_name k i = none_in (Identifier k i) _ (outs-Identifier k i)

none_key : (i : Ident) → NamesNone (key_of i)
none_key i = none_tree kind.IdentName _ ∙ both_true (none_span i.span) (both_true (none_text i.sym) refl)

none_computed : (i : Ident) → NamesNone (computed_key i)
none_computed i =
    none_tree kind.ComputedPropName _
    ∙ both_true (none_span i.span) (both_true (none_tree kind.Str _ ∙ both_true (none_span i.span) (both_true (none_text i.sym) (both_true none_absent refl))) refl)

either : (b : Bool) (t u : Node) → NamesNone t → NamesNone u → NamesNone (if b then t else u)
either true t u h g = h
either false t u h g = g

none_now : (p : Place) (k : Kind) (i : Ident) (j : Option Ident) → NamesNone (identifier_to p k i j)
none_now place.ClassName k i j = none_name k (kept_name i)
none_now place.Name k i None = none_name k i
none_now place.Shorthand k i None = none_name k i
none_now place.Exported k i None = none_name k i
none_now place.Other k i None = none_name k i
none_now place.Name k i (Some j) = none_name k j
none_now place.Exported k i (Some j) = none_name k j
none_now place.Other k i (Some j) = none_name k j
none_now place.Shorthand k i (Some j) = none_tree kind.KeyValueProp _ ∙ both_true (either _ (computed_key i) (key_of i) (none_computed i) (none_key i)) (both_true (none_name k j) refl)

none_default : (i : Ident) (target value : Node) (y : Node-F Node) → NamesNone target → NamesNone value → NamesNone (default_in i target value y)
none_default i target value Node-F.Absent h g = h
none_default i target value y h g = none_tree kind.AssignPat _ ∙ both_true (none_span i.span) (both_true h (both_true g refl))

none_kept : (i : Ident) (t : Node) (y : Node-F Node) → NamesNone t → NamesNone (kept_in i t y)
none_kept i t Node-F.Absent h = none_name kind.Ident (kept_name i)
none_kept i t y h = h

none_written : (k : Kind) (i : Ident) (us : List Node) → NamesNone (Tree k us) → NamesNone (written_out k i us)
none_written kind.AssignPatProp i (a ∷ target ∷ value ∷ []) h =
    let l = sym (none_tree kind.AssignPatProp (a ∷ target ∷ value ∷ [])) ∙ h in
    let r = right (labels_no_function a) _ l in
    none_tree kind.KeyValuePatProp _
    ∙ both_true (none_key i) (both_true (none_default i target value (out-Node value) (left (labels_no_function target) _ r) (left (labels_no_function value) _ (right (labels_no_function target) _ r))) refl)
none_written kind.ImportNamedSpecifier i (a ∷ l ∷ o ∷ []) h =
    let r = sym (none_tree kind.ImportNamedSpecifier (a ∷ l ∷ o ∷ [])) ∙ h in
    let q = right (labels_no_function a) _ r in
    none_tree kind.ImportNamedSpecifier _
    ∙ both_true (left (labels_no_function a) _ r) (both_true (left (labels_no_function l) _ q) (both_true (none_kept i o (out-Node o) (left (labels_no_function o) _ (right (labels_no_function l) _ q))) refl))
none_written kind.ExportNamedSpecifier i (a ∷ l ∷ o ∷ []) h =
    let r = sym (none_tree kind.ExportNamedSpecifier (a ∷ l ∷ o ∷ [])) ∙ h in
    let q = right (labels_no_function a) _ r in
    none_tree kind.ExportNamedSpecifier _
    ∙ both_true (left (labels_no_function a) _ r) (both_true (left (labels_no_function l) _ q) (both_true (none_kept i o (out-Node o) (left (labels_no_function o) _ (right (labels_no_function l) _ q))) refl))
none_written k i us h = h

none_written_if : (k : Kind) (o : Option Ident) (us : List Node) → NamesNone (Tree k us) → NamesNone (written_out_if k o us)
none_written_if k None us h = h
none_written_if k (Some i) us h = none_written k i us h

-- ---- exported declarations

none_specifier : (x : Id) (y : Option Id) → NamesNone (specifier_to x y)
none_specifier x None = none_tree kind.ExportNamedSpecifier _ ∙ both_true (none_span _) (both_true (none_name kind.Ident _) (both_true none_absent refl))
none_specifier x (Some y) = none_tree kind.ExportNamedSpecifier _ ∙ both_true (none_span _) (both_true (none_name kind.Ident _) (both_true (none_name kind.Ident _) refl))

none_specifiers : (m : Changes) (xs : List Id) → all_none (map (specifier m) xs) ≡ true
none_specifiers m [] = refl
none_specifiers m (x ∷ xs) = both_true (none_specifier x (m x)) (none_specifiers m xs)

none_exports : (m : Changes) (xs : List Id) → NamesNone (export_list m xs)
none_exports m xs = none_tree kind.NamedExport _ ∙ both_true (none_span _) (both_true (none_list _ ∙ none_specifiers m xs) (both_true none_absent (both_true none_absent refl)))

none_declared : (u : Node) (y : Node-F Node) → out-Node u ≡ y → NamesNone u → NamesNone (declaration_in u y)
none_declared u (Node-F.Tree kind.ExportDecl (a ∷ d ∷ [])) o h =
    let is : u ≡ Tree kind.ExportDecl (a ∷ d ∷ []) = sym (roll-out-Node u) ∙ ap roll-Node o ∙ rolls-Tree kind.ExportDecl (a ∷ d ∷ []) in
    left (labels_no_function d) _ (right (labels_no_function a) _ (sym (none_tree kind.ExportDecl (a ∷ d ∷ [])) ∙ ap labels_no_function (sym is) ∙ h))
none_declared u y o h = h

none_items : (m : Changes) (u : Node) (b : Bool) (xs : List Id) → NamesNone u → all_none (with_exports u (if b then Some (export_list m xs) else None)) ≡ true
none_items m u true xs h = both_true (none_declared u (out-Node u) refl h) (both_true (none_exports m xs) refl)
none_items m u false xs h = both_true h refl

module _ (m : Changes) where
  -- ---- functions stay functions

  function_trees : (k : Kind) (ts us : List Node) → function_in (Node-F.Tree k us) ≡ function_in (Node-F.Tree k ts)
  function_trees kind.FnDecl ts us = refl
  function_trees k ts us = refl

  functions : Even m function_in
  functions = record { trees = λ p k ts. function_trees k ts (fields m p k ts); properties = λ us vs. refl; imports = λ i us. refl; exports = λ i us. refl; names = λ k i j. refl; lists = λ p ts. refl }

  function_same : (p : Place) (t : Node) → (labelled (substituted m false p t)).is_function ≡ (labelled t).is_function
  function_same p t = is_function_of (substituted m false p t) ∙ even_anywhere m function_in functions false (λ k i. refl) (λ us. refl) p t ∙ sym (is_function_of t)

  body_same : (p : Place) (ts : List Node) → is_named (slice_get (map labelled (fields m p kind.LabeledStmt ts)) labeled_stmt.BODY) ≡ is_named (slice_get (map labelled ts) labeled_stmt.BODY)
  body_same p ts =
      ap is_named (slice_get-map labelled (fields m p kind.LabeledStmt ts) labeled_stmt.BODY)
      ∙ field_same m (λ o. is_named (option_map labelled o)) (places false p kind.LabeledStmt ts) ts labeled_stmt.BODY (function_same (places false p kind.LabeledStmt ts labeled_stmt.BODY))
      ∙ sym (ap is_named (slice_get-map labelled ts labeled_stmt.BODY))

  names_same : (p : Place) (k : Kind) (ts : List Node) → names_function (Node-F.Tree k (map labelled (fields m p k ts))) ≡ names_function (Node-F.Tree k (map labelled ts))
  names_same p kind.LabeledStmt ts = body_same p ts
  names_same p k ts = refl

  -- ---- the whole

  abbrev Keeps : Node → Type 0
  Keeps t = (p : Place) → NamesNone t → NamesNone (substituted m false p t)

  leaf_none : (t : Node) → ((p : Place) → substituted m false p t ≡ t) → Keeps t
  leaf_none t e p h = ap labels_no_function (e p) ∙ h

  items_none : (p : Place) (ts : List Node) → Each Keeps ts → all_none ts ≡ true → all_none (items_substituted m false p ts) ≡ true
  items_none p [] l h = refl
  items_none p (t ∷ ts) l h =
      all_append (items_for m t (substituted m false p t)) (items_substituted m false p ts) (none_items m (substituted m false p t) _ (exported_ids t) (l.0 p (left (labels_no_function t) _ h)))
      (items_none p ts l.1 (right (labels_no_function t) _ h))

  fields_none : (ps : ℕ → Place) (ts : List Node) → Each Keeps ts → all_none ts ≡ true → all_none (each_substituted m false ps ts) ≡ true
  fields_none ps [] l h = refl
  fields_none ps (t ∷ ts) l h = both_true (l.0 (ps zero) (left (labels_no_function t) _ h)) (fields_none (λ i. ps (suc i)) ts l.1 (right (labels_no_function t) _ h))

  tree_none : (k : Kind) (ts : List Node) → Each Keeps ts → Keeps (Tree k ts)
  tree_none k ts l p h =
      let us = fields m p k ts in
      let o = sym (none_tree k ts) ∙ h in
      let now : NamesNone (Tree k us)
      = none_tree k us ∙ both_true (ap not (names_same p k ts) ∙ left (not (names_function (Node-F.Tree k (map labelled ts)))) _ o)
      (fields_none (places false p k ts) ts l (right (not (names_function (Node-F.Tree k (map labelled ts)))) _ o)) in
      ap labels_no_function (tree_is m p k ts) ∙ none_written_if k (old_name m p k ts) us now

  pub labels_stay : (t : Node) → Keeps t
  labels_stay = by_children Keeps (
    leaf_none Absent (substituted-Absent m false),
    λ x. leaf_none (Flag x) (λ p. substituted-Flag m false p x),
    λ w. leaf_none (Word w) (λ p. substituted-Word m false p w),
    λ x. leaf_none (Text x) (λ p. substituted-Text m false p x),
    λ x. leaf_none (Span x) (λ p. substituted-Span m false p x),
    λ k i p h. ap labels_no_function (substituted_identifier m false p k i) ∙ none_now p k i (changed m p i),
  )
      (λ ts l p h. ap labels_no_function (substituted_list m false p ts) ∙ none_list (items_substituted m false p ts) ∙ items_none p ts l (sym (none_list ts) ∙ h))
      tree_none
