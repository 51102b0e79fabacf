-- No function hoists that did not, where names are given anew.
use Rattle.std.proofs.Common.{◌≡◌, ℕ, zero, suc, Bool, true, false, not, ◌||◌, Option, Some, None, List, [], ◌∷◌, ◌++◌, map, refl, sym, ap, ◌∙◌, subst}
use Rattle.std.specs.Prelude.{if◌then◌else◌, slice_get}
use Rattle.std.specs.List.{list_all}
use Rattle.swc_tree_marks.specs.declared.ident.Ident.{Ident}
use Rattle.swc_tree_marks.specs.declared.span.Span.{Span as Range}
use Rattle.swc_tree_node.specs.declared.kind.Kind.{Kind}
use Rattle.swc_tree_node.specs.declared.kind.Kind.TheVariants as kind
use Rattle.swc_tree_node.specs.declared.slot.Content.{Content}
use Rattle.swc_tree_node.specs.declared.slot.Content.TheVariants as content
use Rattle.swc_tree_node.specs.declared.slot.Slot.{Slot}
use Rattle.swc_tree_node.specs.declared.slot.Slot.TheVariants as slot
use Rattle.swc_tree_node.specs.declared.node.Node.{Node, Absent, Flag, Word, Text, Span, List as Many, Identifier, Tree, out-Node, roll-Node, roll-out-Node}
use Rattle.swc_tree_node.specs.declared.node.Node.TheVariants.{outs-Absent, outs-Span, outs-Text, rolls-Tree}
use Rattle.swc_tree_node.specs.declared.node.Node.TheOpen.{Node-F}
use Rattle.swc_tree_node.specs.Table.{slots_of}
use Rattle.swc_tree_node.specs.Fits.{AllFit, FieldsFit, Fits, belongs, single}
use Rattle.swc_tree_node.specs.declared.fields.modules.script.TheConstants as script
use Rattle.swc_tree_node.specs.declared.fields.functions.arrow_expr.TheConstants as arrow_expr
use Rattle.swc_tree_node.specs.declared.fields.functions.constructor.TheConstants as constructor
use Rattle.swc_tree_node.specs.declared.fields.functions.function.TheConstants as function
use Rattle.swc_tree_node.specs.declared.fields.functions.getter_prop.TheConstants as getter_prop
use Rattle.swc_tree_node.specs.declared.fields.functions.setter_prop.TheConstants as setter_prop
use Rattle.swc_tree_node.specs.declared.fields.modules.named_export.TheConstants as named_export
use Rattle.swc_tree_node.specs.declared.fields.statements.fn_decl.TheConstants as fn_decl
use Rattle.swc_tree_scoping.specs.declared.places.Place.{Place}
use Rattle.swc_tree_scoping.specs.declared.places.Standing.TheVariants as standing
use Rattle.swc_tree_scoping.specs.BoundNames.{Id}
use Rattle.swc_tree_scoping.specs.Places.{has_use_strict, is_plain_function, is_strict, is_there, items_of, part_standing, place_in, plain_in, program_place, statements_of}
use Rattle.swc_tree_scoping.specs.Shorthands.{computed_key, key_of, shorthand_key}
use Rattle.swc_tree_renaming.specs.Apart.{HasNoSloppy}
use Rattle.swc_tree_grammar.specs.Kinds.{is_object}
use Rattle.swc_tree_grammar.proofs.Induction.{Each, by_children}
use Rattle.swc_base_rename_substitution.specs.declared.place.Place.{Place as Spot}
use Rattle.swc_base_rename_substitution.specs.declared.place.Place.TheVariants as spot
use Rattle.swc_base_rename_substitution.specs.Exports.{declaration_in, export_list, exported_ids, items_for, made, nowhere, specifier, specifier_to, with_exports}
use Rattle.swc_base_rename_substitution.specs.Identifiers.{Changes, changed, default_in, identifier_to, kept_in, kept_name, with_default, written_out, written_out_if}
use Rattle.swc_base_rename_substitution.specs.Places.{places}
use Rattle.swc_base_rename_substitution.specs.Substituted.{substituted}
use Rattle.swc_base_rename_substitution.specs.Walk.{each_substituted, is_exported_declaration, items_substituted}
use Rattle.swc_base_rename_substitution.proofs.Equations.{substituted-Absent, substituted-Flag, substituted-Word, substituted-Text, substituted-Span, substituted_identifier, substituted_list}
use Rattle.swc_base_rename_substitution.proofs.Room.{left, right, tree_open}
use Rattle.swc_base_rename_laws.specs.Laws.{GivesNames}
use Rattle.swc_base_rename_laws.proofs.OuterTextsForms.{item_slot, items_open, not_exported, one_item, takes_none}
use Rattle.swc_base_rename_laws.proofs.WritableStaysShape.{even_anywhere, fields, long, old_name, tree_is}
use Rattle.swc_base_rename_laws.proofs.WritableStaysForms.{plain_functions}
use Rattle.swc_base_rename_laws.proofs.WritableStaysParts.{strict_list_same, strict_same}
use Rattle.swc_base_renaming_laws.proofs.HygieneAlike.{Alike, Calm, CalmIn, CalmItems, alike_calm, alike_itself, below_alike, calm_fields, calm_here, calm_items, calm_leaf, calm_list, calm_name, calm_tree, item, item_alike, list_rest, part_rest, plain_apart, rest, NotSloppy}

-- ---- nodes that are made

calm_absent : (w : Place) → Calm w Absent
calm_absent w = calm_leaf w Absent _ outs-Absent refl (λ k i e. absurd (cc))

calm_span : (w : Place) (s : Range) → Calm w (Span s)
calm_span w s = calm_leaf w (Span s) _ (outs-Span s) refl (λ k i e. absurd (cc))

calm_text : (w : Place) (x : List ℕ) → Calm w (Text x)
calm_text w x = calm_leaf w (Text x) _ (outs-Text x) refl (λ k i e. absurd (cc))

calm_key : (w : Place) (i : Ident) → Calm w (key_of i)
calm_key w i = calm_tree w kind.IdentName _ (calm_span _ i.span, (calm_text _ i.sym, tt))

calm_computed : (w : Place) (i : Ident) → Calm w (computed_key i)
calm_computed w i = calm_tree w kind.ComputedPropName _ (calm_span _ i.span, (calm_tree _ kind.Str _ (calm_span _ i.span, (calm_text _ i.sym, (calm_absent _, tt))), tt))

calm_either : (w : Place) (b : Bool) (t u : Node) → Calm w t → Calm w u → Calm w (if b then t else u)
calm_either w true t u h g = h
calm_either w false t u h g = g

calm_short : (w : Place) (i : Ident) → Calm w (shorthand_key i)
calm_short w i = calm_either w _ (computed_key i) (key_of i) (calm_computed w i) (calm_key w i)

calm_now : (w : Place) (p : Spot) (k : Kind) (i : Ident) (j : Option Ident) → NotSloppy w.standing → Calm w (identifier_to p k i j)
calm_now w spot.ClassName k i j n = calm_name w k (kept_name i) n
calm_now w spot.Name k i None n = calm_name w k i n
calm_now w spot.Shorthand k i None n = calm_name w k i n
calm_now w spot.Exported k i None n = calm_name w k i n
calm_now w spot.Other k i None n = calm_name w k i n
calm_now w spot.Name k i (Some j) n = calm_name w k j n
calm_now w spot.Exported k i (Some j) n = calm_name w k j n
calm_now w spot.Other k i (Some j) n = calm_name w k j n
calm_now w spot.Shorthand k i (Some j) n = calm_tree w kind.KeyValueProp _ (calm_short _ i, (calm_name _ k j (plain_apart standing.Reference refl), tt))

-- ---- what is written out

or_false : (b : Bool) → (b || false) ≡ b
or_false true = refl
or_false false = refl

module _ (v : Place) (i : Ident) (a target value : Node) where
  abbrev short : List Node
  short = a ∷ target ∷ value ∷ []

  default_calm : (u : Place) (y : Node-F Node) → out-Node value ≡ y → Alike (place_in v (Node-F.Tree kind.AssignPatProp short) 1) u → CalmIn (place_in v (Node-F.Tree kind.AssignPatProp short)) short
      → Calm u (default_in i target value y)
  default_calm u Node-F.Absent o h l = alike_calm target _ u h l.1.0
  default_calm u y o h l = calm_tree u kind.AssignPat (Span i.span ∷ target ∷ value ∷ []) (
    calm_span _ i.span,
    (
      alike_calm target _ _ (record { strict = h.strict ∙ sym (or_false u.strict); nested = h.nested; standing = h.standing ∙ sym (part_rest u.standing (Some target)) }) l.1.0,
      (alike_calm value _ _ (record { strict = h.strict ∙ sym (or_false u.strict); nested = h.nested; standing = refl }) l.1.1.0, tt),
    ),
  )

  property_calm : Calm v (Tree kind.AssignPatProp short) → Calm v (Tree kind.KeyValuePatProp (key_of i ∷ with_default i target value ∷ []))
  property_calm h = calm_tree v kind.KeyValuePatProp _ (
    calm_key _ i,
    (
      default_calm _ (out-Node value) refl (record { strict = refl; nested = refl; standing = part_rest v.standing (Some target) ∙ sym (part_rest v.standing (Some (with_default i target value))) })
          (calm_fields v kind.AssignPatProp short h),
      tt,
    ),
  )

kept_calm : (w : Place) (i : Ident) (t : Node) (y : Node-F Node) → NotSloppy w.standing → Calm w t → Calm w (kept_in i t y)
kept_calm w i t Node-F.Absent n h = calm_name w kind.Ident (kept_name i) n
kept_calm w i t y n h = h

written_calm : (v : Place) (k : Kind) (i : Ident) (us : List Node) → Calm v (Tree k us) → Calm v (written_out k i us)
written_calm v kind.AssignPatProp i (a ∷ target ∷ value ∷ []) h = property_calm v i a target value h
written_calm v kind.ImportNamedSpecifier i (a ∷ l ∷ o ∷ []) h =
    let f = calm_fields v kind.ImportNamedSpecifier (a ∷ l ∷ o ∷ []) h in
    calm_tree v kind.ImportNamedSpecifier _ (f.0, (f.1.0, (kept_calm _ i o (out-Node o) (plain_apart standing.Imported refl) f.1.1.0, tt)))
written_calm v kind.ExportNamedSpecifier i (a ∷ l ∷ o ∷ []) h =
    let f = calm_fields v kind.ExportNamedSpecifier (a ∷ l ∷ o ∷ []) h in
    calm_tree v kind.ExportNamedSpecifier _ (f.0, (f.1.0, (kept_calm _ i o (out-Node o) (plain_apart standing.Exported refl) f.1.1.0, tt)))
written_calm v k i us h = h

written_if_calm : (v : Place) (k : Kind) (o : Option Ident) (us : List Node) → Calm v (Tree k us) → Calm v (written_out_if k o us)
written_if_calm v k None us h = h
written_if_calm v k (Some i) us h = written_calm v k i us h

-- ---- exported declarations

original_apart : (w : Place) (o : Option Node) → rest w.standing ≡ standing.Plain → NotSloppy (part_standing w.standing o)
original_apart w o n = plain_apart (part_standing w.standing o) (part_rest w.standing o ∙ n)

specifier_calm : (w : Place) (x : Id) (y : Option Id) → rest w.standing ≡ standing.Plain → Calm w (specifier_to x y)
specifier_calm w x None n =
    let ts : List Node = nowhere ∷ Identifier kind.Ident (made x) ∷ Absent ∷ [] in
    calm_tree w kind.ExportNamedSpecifier ts
    (calm_span _ _, (calm_name (place_in w (Node-F.Tree kind.ExportNamedSpecifier ts) 1) kind.Ident (made x) (original_apart w (slice_get ts 1) n), (calm_absent _, tt)))
specifier_calm w x (Some y) n =
    let ts : List Node = nowhere ∷ Identifier kind.Ident (made y) ∷ Identifier kind.Ident (made (x.0, [])) ∷ [] in
    calm_tree w kind.ExportNamedSpecifier ts (
      calm_span _ _,
      (
        calm_name (place_in w (Node-F.Tree kind.ExportNamedSpecifier ts) 1) kind.Ident (made y) (original_apart w (slice_get ts 1) n),
        (calm_name _ kind.Ident (made (x.0, [])) (plain_apart standing.Exported refl), tt),
      ),
    )

specifiers_calm : (m : Changes) (w : Place) (xs : List Id) → rest w.standing ≡ standing.Plain → CalmItems w (map (specifier m) xs)
specifiers_calm m w [] n = tt
specifiers_calm m w (x ∷ xs) n = (specifier_calm (item w (Some (specifier m x))) x (m x) (part_rest w.standing (Some (specifier m x)) ∙ n), specifiers_calm m w xs n)

list_calm : (m : Changes) (v : Place) (xs : List Id) → Calm v (export_list m xs)
list_calm m v xs =
    let ts : List Node = nowhere ∷ Many (map (specifier m) xs) ∷ Absent ∷ Absent ∷ [] in
    let u : Place = place_in v (Node-F.Tree kind.NamedExport ts) 1 in
    calm_tree v kind.NamedExport ts
    (calm_span _ _, (calm_list u (map (specifier m) xs) (specifiers_calm m u xs (list_rest (is_there (slice_get ts named_export.SRC)))), (calm_absent _, (calm_absent _, tt))))

declared_calm : (v : Place) (u : Node) (y : Node-F Node) → rest v.standing ≡ standing.Plain → out-Node u ≡ y → Calm (item v (Some u)) u → Calm (item v (Some (declaration_in u y))) (declaration_in u y)
declared_calm v u (Node-F.Tree kind.ExportDecl (a ∷ d ∷ [])) n o h =
    let is : u ≡ Tree kind.ExportDecl (a ∷ d ∷ []) = sym (roll-out-Node u) ∙ ap roll-Node o ∙ rolls-Tree kind.ExportDecl (a ∷ d ∷ []) in
    let f = calm_fields (item v (Some u)) kind.ExportDecl (a ∷ d ∷ []) (subst (Calm (item v (Some u))) is h) in
    alike_calm d _ _ (record { strict = or_false v.strict; nested = refl; standing = sym (part_rest v.standing (Some d) ∙ n) }) f.1.0
declared_calm v u y n o h = h

-- ---- slots that take exported declarations

abbrev exports_in : Content → Bool
exports_in (content.Node c) = belongs kind.ExportDecl c
exports_in _ = false

abbrev exports : Slot → Bool
exports (slot.One c) = exports_in c
exports (slot.Optional c) = exports_in c
exports (slot.List c) = exports_in c
exports (slot.Holes c) = exports_in c
exports (slot.OptionalList c) = exports_in c
exports _ = false

item_exports : (s : Slot) → exports (item_slot s) ≡ exports s
item_exports (slot.List c) = refl
item_exports (slot.Holes c) = refl
item_exports (slot.OptionalList c) = refl
item_exports s = refl

content_none : (c : Content) → exports_in c ≡ false → takes_none (Some c) ≡ true
content_none (content.Node c) h = ap not h
content_none c h = refl

takes_nothing : (s : Slot) → exports s ≡ false → takes_none (single s) ≡ true
takes_nothing (slot.One c) h = content_none c h
takes_nothing (slot.Optional c) h = content_none c h
takes_nothing s h = refl

-- where they may stand, the place counts for nothing
abbrev Quiet : Slot → Place → Type 0
Quiet s v = exports s ≡ true → rest v.standing ≡ standing.Plain

abbrev no_items : Kind → Bool
no_items kind.Module = false
no_items kind.TsModuleDecl = false
no_items k = true

none_exported : (k : Kind) → no_items k ≡ true → list_all (λ s. not (exports s)) (slots_of k) ≡ true
none_exported kind.Module h = absurd (cc)
none_exported kind.TsModuleDecl h = absurd (cc)
none_exported k h = refl

not_at : (ss : List Slot) (i : ℕ) (s : Slot) → list_all (λ s. not (exports s)) ss ≡ true → slice_get ss i ≡ Some s → exports s ≡ true → ⊥
not_at [] i s l e x = absurd (cc)
not_at (r ∷ ss) zero s l e x = let same : r ≡ s = cc in let never : false ≡ true = ap not (sym x) ∙ ap (λ s. not (exports s)) (sym same) ∙ left _ _ l in absurd (cc)
not_at (r ∷ ss) (suc i) s l e x = not_at ss i s (right (not (exports r)) _ l) e x

fields_quiet : (v : Place) (k : Kind) (ts : List Node) (i : ℕ) (s : Slot) → slice_get (slots_of k) i ≡ Some s → Quiet s (place_in v (Node-F.Tree k ts) i)
fields_quiet v kind.Module ts zero s e x = refl
fields_quiet v kind.Module ts (suc zero) s e x = refl
fields_quiet v kind.Module ts (suc (suc zero)) s e x = refl
fields_quiet v kind.Module ts (suc (suc (suc i))) s e x = refl
fields_quiet v kind.TsModuleDecl ts zero s e x = refl
fields_quiet v kind.TsModuleDecl ts (suc zero) s e x = refl
fields_quiet v kind.TsModuleDecl ts (suc (suc zero)) s e x = refl
fields_quiet v kind.TsModuleDecl ts (suc (suc (suc i))) s e x = refl
fields_quiet v k ts i s e x = absurd (not_at (slots_of k) i s (none_exported k refl) e x)

append_calm : (v : Place) (ts us : List Node) → CalmItems v ts → CalmItems v us → CalmItems v (ts ++ us)
append_calm v [] us l k = k
append_calm v (t ∷ ts) us l k = (l.0, append_calm v ts us l.1 k)

-- what is seen of a field, where giving names anew does not change it
pub field_same : {A : Type 0} (m : Changes) (f : Option Node → A) (ps : ℕ → Spot) (ts : List Node) (i : ℕ) → ((t : Node) → f (Some (substituted m false (ps i) t)) ≡ f (Some t)) → f (slice_get (each_substituted m false ps ts) i) ≡ f (slice_get ts i)
field_same m f ps [] i h = refl
field_same m f ps (t ∷ ts) zero h = h t
field_same m f ps (t ∷ ts) (suc i) h = field_same m f (λ i. ps (suc i)) ts i h

module _ (m : Changes) (g : GivesNames m) where
  -- ---- what a node's fields say of the places below it

  body_same : (p : Spot) (k : Kind) (ts : List Node) (i : ℕ) → is_object k ≡ false → has_use_strict (statements_of (slice_get (fields m p k ts) i)) ≡ has_use_strict (statements_of (slice_get ts i))
  body_same p k ts i o = field_same m (λ b. has_use_strict (statements_of b)) (places false p k ts) ts i (strict_same m g (places false p k ts i) (long p k ts o i))

  strict_kept : (p : Spot) (k : Kind) (ts : List Node) → is_strict k (fields m p k ts) ≡ is_strict k ts
  strict_kept p kind.Script ts = field_same m (λ b. has_use_strict (items_of b)) (places false p kind.Script ts) ts script.BODY (strict_list_same m g _ (long p kind.Script ts refl script.BODY))
  strict_kept p kind.Function ts = body_same p kind.Function ts function.BODY refl
  strict_kept p kind.ArrowExpr ts = body_same p kind.ArrowExpr ts arrow_expr.BODY refl
  strict_kept p kind.Constructor ts = body_same p kind.Constructor ts constructor.BODY refl
  strict_kept p kind.GetterProp ts = body_same p kind.GetterProp ts getter_prop.BODY refl
  strict_kept p kind.SetterProp ts = body_same p kind.SetterProp ts setter_prop.BODY refl
  strict_kept p kind.Module ts = refl
  strict_kept p kind.Class ts = refl
  strict_kept p k ts = refl

  plain_kept : (p : Spot) (k : Kind) (ts : List Node) → is_plain_function (slice_get (fields m p k ts) fn_decl.FUNCTION) ≡ is_plain_function (slice_get ts fn_decl.FUNCTION)
  plain_kept p k ts = field_same m is_plain_function (places false p k ts) ts fn_decl.FUNCTION (even_anywhere m plain_in (plain_functions m g) false (λ k i. refl) (λ us. refl) (places false p k ts fn_decl.FUNCTION))

  -- ---- the whole

  abbrev Keeps : Node → Type 0
  Keeps t = (s : Slot) (p : Spot) (w v : Place) → Fits t s → Quiet s v → Alike w v → Calm w t → Calm v (substituted m false p t)

  leaf_calm : (t : Node) → ((p : Spot) → substituted m false p t ≡ t) → Keeps t
  leaf_calm t e s p w v f q a h = subst (Calm v) (sym (e p)) (alike_calm t w v a h)

  named_calm : (k : Kind) (i : Ident) → Keeps (Identifier k i)
  named_calm k i s p w v f q a h = subst (Calm v) (sym (substituted_identifier m false p k i)) (calm_now v p k i (changed m p i) (calm_here v (Identifier k i) (alike_calm (Identifier k i) w v a h) k i refl))

  exported_calm : (v : Place) (t : Node) (b : Bool) (xs : List Id) → rest v.standing ≡ standing.Plain → Calm (item v (Some t)) t → CalmItems v (with_exports t (if b then Some (export_list m xs) else None))
  exported_calm v t true xs n h = (declared_calm v t (out-Node t) n refl h, (list_calm m _ xs, tt))
  exported_calm v t false xs n h = (h, tt)

  item_calm : (p : Spot) (w v : Place) (s : Slot) (t : Node) → Keeps t → Fits t s → Quiet s v → Alike w v → Calm (item w (Some t)) t → CalmItems v (items_for m t (substituted m false p t))
  item_calm p w v s t k f q a h = by (is_exported_declaration t) (exports s) refl refl
    where
      u : Node
      u = substituted m false p t

      now : Calm (item v (Some u)) u
      now = k s p (item w (Some t)) (item v (Some u)) f (λ x. part_rest v.standing (Some u) ∙ q x) (item_alike w v (Some t) (Some u) a) h

      by : (b c : Bool) → is_exported_declaration t ≡ b → exports s ≡ c → CalmItems v (items_for m t u)
      by false c e x = subst (CalmItems v) (sym (one_item m t u e)) (now, tt)
      by true true e x = exported_calm v u _ (exported_ids t) (q x) now
      by true false e x = let no : is_exported_declaration t ≡ false = not_exported s (takes_nothing s x) t f in absurd (cc)

  items_calm : (p : Spot) (w v : Place) (s : Slot) (ts : List Node) → Each Keeps ts → AllFit s ts → Quiet s v → Alike w v → CalmItems w ts → CalmItems v (items_substituted m false p ts)
  items_calm p w v s [] l f q a h = tt
  items_calm p w v s (t ∷ ts) l f q a h =
      append_calm v (items_for m t (substituted m false p t)) (items_substituted m false p ts) (item_calm p w v s t l.0 f.0 q a h.0) (items_calm p w v s ts l.1 f.1 q a h.1)

  many_calm : (ts : List Node) → Each Keeps ts → Keeps (Many ts)
  many_calm ts l s p w v f q a h =
      subst (Calm v) (sym (substituted_list m false p ts))
      (calm_list v _ (items_calm p w v (item_slot s) ts l (items_open ts s f) (λ x. q (sym (item_exports s) ∙ x)) a (calm_items w ts h)))

  fields_calm : (ps : ℕ → Spot) (ws vs : ℕ → Place) (ss : List Slot) (ts : List Node) → Each Keeps ts → FieldsFit ss ts → ((i : ℕ) (s : Slot) → slice_get ss i ≡ Some s → Quiet s (vs i)) → ((i : ℕ) → Alike (ws i) (vs i))
      → CalmIn ws ts → CalmIn vs (each_substituted m false ps ts)
  fields_calm ps ws vs [] [] l f q a h = tt
  fields_calm ps ws vs [] (t ∷ ts) l f q a h = absurd f
  fields_calm ps ws vs (s ∷ ss) [] l f q a h = absurd f
  fields_calm ps ws vs (s ∷ ss) (t ∷ ts) l f q a h =
      (l.0 s (ps zero) (ws zero) (vs zero) f.0 (q zero s refl) (a zero) h.0, fields_calm (λ i. ps (suc i)) (λ i. ws (suc i)) (λ i. vs (suc i)) ss ts l.1 f.1 (λ i. q (suc i)) (λ i. a (suc i)) h.1)

  tree_calm : (k : Kind) (ts : List Node) → Each Keeps ts → Keeps (Tree k ts)
  tree_calm k ts l s p w v f q a h =
      let us = fields m p k ts in
      subst (Calm v) (sym (tree_is m p k ts)) (written_if_calm v k (old_name m p k ts) us (calm_tree v k us
      (fields_calm (places false p k ts) (place_in w (Node-F.Tree k ts)) (place_in v (Node-F.Tree k us)) (slots_of k) ts l (tree_open k ts s f).4 (fields_quiet v k us)
      (λ i. below_alike w v k ts us i a (sym (strict_kept p k ts)) (sym (plain_kept p k ts))) (calm_fields w k ts h))))

  kept : (t : Node) → Keeps t
  kept = by_children Keeps (
    leaf_calm Absent (substituted-Absent m false),
    λ x. leaf_calm (Flag x) (λ p. substituted-Flag m false p x),
    λ w. leaf_calm (Word w) (λ p. substituted-Word m false p w),
    λ x. leaf_calm (Text x) (λ p. substituted-Text m false p x),
    λ x. leaf_calm (Span x) (λ p. substituted-Span m false p x),
    named_calm,
  )
      many_calm tree_calm

  pub settled_stays : (s : Slot) (t : Node) → Fits t s → HasNoSloppy t → HasNoSloppy (substituted m false spot.Other t)
  settled_stays s t f h = kept t s spot.Other program_place program_place f (λ x. refl) (alike_itself program_place) h
