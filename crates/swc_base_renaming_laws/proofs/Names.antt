-- Where names are given anew, ids meet that are the new ones of ids that met.
use Rattle.std.proofs.Common.{◌≡◌, ℕ, zero, suc, Bool, true, false, not, ◌||◌, inl, Option, Some, None, List, [], ◌∷◌, map, refl, sym, ap, ◌∙◌, subst, cond}
use Rattle.std.specs.List.{list_any}
use Rattle.std.specs.Prelude.{is_some, option_map, unwrap_or}
use Rattle.swc_tree_marks.specs.declared.ident.Ident.{Ident}
use Rattle.swc_tree_node.specs.declared.kind.Kind.{Kind}
use Rattle.swc_tree_node.specs.declared.kind.Kind.TheVariants as kind
use Rattle.swc_tree_node.specs.declared.kind.Class.TheVariants as class
use Rattle.swc_tree_node.specs.declared.slot.Content.TheVariants as content
use Rattle.swc_tree_node.specs.declared.slot.Slot.{Slot}
use Rattle.swc_tree_node.specs.declared.slot.Slot.TheVariants as slot
use Rattle.swc_tree_node.specs.declared.node.Node.{Node, Absent, Flag, Word, Text, Span, List as Many, Identifier, Tree}
use Rattle.swc_tree_node.specs.declared.node.Node.TheOpen.{Node-F}
use Rattle.swc_tree_node.specs.declared.node.Node.TheVariants.{outs-Absent, outs-Flag, outs-Identifier, outs-List, outs-Span, outs-Text, outs-Tree, outs-Word}
use Rattle.swc_tree_node.specs.Table.{slots_of}
use Rattle.swc_tree_node.specs.Fits.{AllFit, FieldsFit, Fits}
use Rattle.swc_tree_scoping.specs.declared.places.Standing.{Standing}
use Rattle.swc_tree_scoping.specs.declared.places.Standing.TheVariants as standing
use Rattle.swc_tree_scoping.specs.declared.places.Place.{Place as ScopingPlace}
use Rattle.swc_tree_scoping.specs.Folds.{each_in}
use Rattle.swc_tree_scoping.specs.Places.{has_own_name, place_in, program_place}
use Rattle.swc_tree_scoping.specs.Scopes.{is_binding, is_name, is_reference}
use Rattle.swc_tree_scoping.specs.BoundNames.{Id, declared_ids}
use Rattle.swc_tree_sites.specs.Smaller.{In}
use Rattle.swc_tree_sites.proofs.Found.{in_map, map_in}
use Rattle.swc_tree_grammar.proofs.Induction.{Each, by_children}
use Rattle.swc_base_rename_substitution.specs.declared.place.Place.{Place}
use Rattle.swc_base_rename_substitution.specs.declared.place.Place.TheVariants as place
use Rattle.swc_base_rename_substitution.specs.Exports.{declaration_in, declaration_of, distinct, export_list, exported_in, exports_of, items_for, with_exports}
use Rattle.swc_base_rename_substitution.specs.Identifiers.{Changes, changed, id_of, identifier_at, identifier_to, with_id}
use Rattle.swc_base_rename_substitution.specs.Places.{places}
use Rattle.swc_base_rename_substitution.specs.Substituted.{if_changed, substituted}
use Rattle.swc_base_rename_substitution.specs.Walk.{each_substituted, is_exported_declaration, is_exported_in, items_substituted}
use Rattle.swc_base_rename_substitution.proofs.Equations.{substituted-Absent, substituted-Flag, substituted-Word, substituted-Text, substituted-Span, substituted_identifier, substituted_list, substituted_tree}
use Rattle.swc_base_rename_substitution.proofs.Room.{tree_open}
use Rattle.swc_base_rename_laws.proofs.OuterTextsForms.{item_slot, items_open, one_item, same_kind, span_here, there_at}
use Rattle.swc_base_rename_laws.proofs.OuterTextsNames.{declaration_here, same_declaration}
use Rattle.swc_base_rename_laws.proofs.Impossible.{impossible}
use Rattle.swc_base_rename_analysis.specs.declared.scopes.ScopeKind.TheVariants.{Block}
use Rattle.swc_base_rename_analysis.specs.Analysis.{body_kind, has_identifier, is_for_body, is_outside, own_kind, takes}
use Rattle.swc_base_rename_analysis.specs.Walk.{own_name_below}
use Rattle.swc_base_renaming_laws.specs.Meetings.{Meeting, Met, both, fields_where, in_scope, met, name_met, nothing, tree_met, used}
use Rattle.swc_base_renaming_laws.proofs.Meets.{M, ins, kids, out_is, outs}
use Rattle.swc_base_renaming_laws.proofs.Placed.{placed, sort}
use Rattle.swc_base_renaming_laws.proofs.Within.{Subset, Within, left_within, nothing_within, pairs_within, right_within, within_is, within_same, within_through}
use Rattle.swc_base_renaming_laws.specs.NamedMeetings.{MeetsNoMore, SubstitutionKeepsMeetings, anew, mapped, other_bound}
use Rattle.swc_base_renaming_laws.proofs.Agreed.{Agrees, agrees_field, agrees_item, agrees_plain, item_at}
use Rattle.swc_base_renaming_laws.proofs.NamedMeetingsDeclared.{declaration_alike, declared_names, distinct_in}
use Rattle.swc_base_renaming_laws.proofs.NamedMeetingsLooks.{identifier_anew, now, own_anew, part_item, places_anew}
use Rattle.swc_base_renaming_laws.proofs.Mapped.{both_anew, both_mapped, chosen_anew, into, scope_anew}
use Rattle.swc_base_renaming_laws.proofs.NamedMeetingsWritten.{L, T, export_same, exports_met, import_same, list_append, of_identifier, of_list, of_property, pattern_same, standing_only}

-- ---- what stands as no name

or_left : (a b : Bool) → false ≡ (a || b) → a ≡ false
or_left true b h = impossible h
or_left false b h = refl

no_names : (r : Standing) (i : Ident) → false ≡ is_name r → name_met r i ≡ nothing
no_names r i e = λ j. record { pending = cond (or_left (is_binding r) (is_reference r) e j) ((takes Block r, (i.sym, i.ctxt)) ∷ []) []; names = cond (sym e j) ((i.sym, i.ctxt) ∷ []) []; pairs = [] }

module _ (m : Changes) where
  abbrev g : Id → Id
  g = anew m

  -- a name with its new id
  bound_anew : (b c : Bool) (x y : Id) → y ≡ g x → cond b ((c, y) ∷ []) [] ≡ map (other_bound g) (cond b ((c, x) ∷ []) [])
  bound_anew true c x y e = ap (λ (z : Id). (c, z) ∷ []) e
  bound_anew false c x y e = refl

  name_anew : (b : Bool) (x y : Id) → y ≡ g x → cond b (y ∷ []) [] ≡ map g (cond b (x ∷ []) [])
  name_anew true x y e = ap (λ z. z ∷ []) e
  name_anew false x y e = refl

  met_anew : (r : Standing) (i j : Ident) → id_of j ≡ g (id_of i) → name_met r j ≡ mapped g (name_met r i)
  met_anew r i j e = λ l. record { pending = bound_anew (is_binding r) (takes Block r) (id_of i) (id_of j) e l; names = name_anew (is_name r) (id_of i) (id_of j) e l; pairs = [] }

  -- ---- what is claimed

  -- of a node at its place, and of what stands for it as an item of a list
  abbrev Single : Node → Type 0
  Single t = (q : Place) (w : ScopingPlace) (s : Slot) (f : Bool) (own after : Option Ident) → Agrees q w → Fits t s → used after ≡ map g (used own) → Within (M w (substituted m false q t) f after) (mapped g (M w t f own))

  abbrev Item : Node → Type 0
  Item t = (q : Place) (w : ScopingPlace) (s : Slot) → Agrees q w → Fits t s → Within (L w (items_for m t (substituted m false q t))) (mapped g (M (item_at w (Some t)) t false None))

  abbrev Claim : Node → Type 0
  Claim t = Single t × Item t

  -- an item stands for itself
  alone : (u : Node) (w : ScopingPlace) (a : Met) → Within (M (item_at w (Some u)) u false None) a → Within (L w (u ∷ [])) a
  alone u w a h = into (M (item_at w (Some u)) u false None) nothing a h (nothing_within a)

  single_item : (t : Node) (q : Place) (w : ScopingPlace) (s : Slot) → Single t → Agrees q w → Fits t s → Within (L w (substituted m false q t ∷ [])) (mapped g (M (item_at w (Some t)) t false None))
  single_item t q w s h a fit =
      let u : Node = substituted m false q t in
      alone u w (mapped g (M (item_at w (Some t)) t false None))
      (subst (λ (n : Meeting). Within (n false None) (mapped g (M (item_at w (Some t)) t false None))) (sym (placed u (item_at w (Some u)) (item_at w (Some t)) (ap sort (part_item m q w t a))))
      (h q (item_at w (Some t)) s false None None (agrees_item q w (Some t) a) fit refl))

  item : (t : Node) → is_exported_declaration t ≡ false → Single t → Item t
  item t none h q w s a fit = subst (λ us. Within (L w us) (mapped g (M (item_at w (Some t)) t false None))) (sym (one_item m t (substituted m false q t) none)) (single_item t q w s h a fit)

  claim : (t : Node) → is_exported_declaration t ≡ false → Single t → Claim t
  claim t none h = (h, item t none h)

  -- ---- leaves

  leaf : (t : Node) → ((q : Place) → substituted m false q t ≡ t) → is_exported_declaration t ≡ false → ((w : ScopingPlace) (f : Bool) (own : Option Ident) → M w t f own ≡ nothing) → Claim t
  leaf t same none gone = claim t none (λ q w s f own after a fit e.
      within_is (M w (substituted m false q t) f after) (mapped g (M w t f own)) (ap (λ t. M w t f after) (same q) ∙ gone w f after ∙ sym (ap (mapped g) (gone w f own))))

  -- ---- identifiers

  name_now : (k : Kind) (i : Ident) (w : ScopingPlace) (f : Bool) (after : Option Ident) (o : Option Id) → m (id_of i) ≡ o → M w (identifier_to place.Name k i (option_map (with_id i) o)) f after ≡ mapped g (name_met w.standing i)
  name_now k i w f after None e = of_identifier w k i f after ∙ met_anew w.standing i i (ap (λ o. unwrap_or o (id_of i)) (sym e))
  name_now k i w f after (Some x) e = of_identifier w k (with_id i x) f after ∙ met_anew w.standing i (with_id i x) (ap (λ o. unwrap_or o (id_of i)) (sym e))

  short_now : (k : Kind) (i : Ident) (w : ScopingPlace) (f : Bool) (after : Option Ident) (o : Option Id) → m (id_of i) ≡ o → w.standing ≡ standing.Reference
      → M w (identifier_to place.Shorthand k i (option_map (with_id i) o)) f after ≡ mapped g (name_met w.standing i)
  short_now k i w f after None e r = of_identifier w k i f after ∙ met_anew w.standing i i (ap (λ o. unwrap_or o (id_of i)) (sym e))
  short_now k i w f after (Some x) e r =
      let t : Node = identifier_to place.Shorthand k i (Some (with_id i x)) in
      standing_only w t f after ∙ ap (λ r. M (T r) t f after) r ∙ of_property i (with_id i x) k f after ∙ met_anew standing.Reference i (with_id i x) (ap (λ o. unwrap_or o (id_of i)) (sym e))
      ∙ ap (λ r. mapped g (name_met r i)) (sym r)

  other_now : (k : Kind) (i : Ident) (w : ScopingPlace) (f : Bool) (after : Option Ident) → false ≡ is_name w.standing → M w (Identifier k i) f after ≡ mapped g (name_met w.standing i)
  other_now k i w f after e = of_identifier w k i f after ∙ no_names w.standing i e ∙ sym (ap (mapped g) (no_names w.standing i e))

  identifier_now : (k : Kind) (i : Ident) (q : Place) (w : ScopingPlace) (f : Bool) (after : Option Ident) → Agrees q w → M w (identifier_to q k i (changed m q i)) f after ≡ mapped g (name_met w.standing i)
  identifier_now k i place.Name w f after a = name_now k i w f after (m (id_of i)) refl
  identifier_now k i place.Shorthand w f after a = short_now k i w f after (m (id_of i)) refl (a.short refl)
  identifier_now k i place.Exported w f after a = other_now k i w f after a.name
  identifier_now k i place.Other w f after a = other_now k i w f after a.name
  identifier_now k i place.ClassName w f after a = impossible (sym a.kept)

  identifier_single : (k : Kind) (i : Ident) → Single (Identifier k i)
  identifier_single k i q w s f own after a fit e =
      within_is (M w (substituted m false q (Identifier k i)) f after) (mapped g (M w (Identifier k i) f own))
      (ap (λ t. M w t f after) (substituted_identifier m false q k i) ∙ identifier_now k i q w f after a ∙ sym (ap (mapped g) (of_identifier w k i f own)))

  -- ---- lists

  items_anew : (q : Place) (w : ScopingPlace) (s : Slot) (ts : List Node) → Agrees q w → AllFit s ts → Each Claim ts → Within (L w (items_substituted m false q ts)) (mapped g (L w ts))
  items_anew q w s [] a fit h = within_same nothing
  items_anew q w s (t ∷ ts) a fit h =
      subst (λ (n : Met). Within n (mapped g (L w (t ∷ ts)))) (sym (list_append w (items_for m t (substituted m false q t)) (items_substituted m false q ts)))
      (both_anew g (L w (items_for m t (substituted m false q t))) (M (item_at w (Some t)) t false None) (L w (items_substituted m false q ts)) (L w ts) (h.0.1 q w s a fit.0) (items_anew q w s ts a fit.1 h.1))

  list_single : (ts : List Node) → Each Claim ts → Single (Many ts)
  list_single ts h q w s f own after a fit e =
      subst (λ (n : Met). Within n (mapped g (M w (Many ts) f own))) (sym (ap (λ t. M w t f after) (substituted_list m false q ts) ∙ of_list w (items_substituted m false q ts) f after))
      (subst (λ (n : Met). Within (L w (items_substituted m false q ts)) (mapped g n)) (sym (of_list w ts f own)) (items_anew q w (item_slot s) ts a (items_open ts s fit) h))

  -- ---- the fields of a node

  fields_anew : (h b : ℕ → Bool) (o r : ℕ → Option Ident) (ls : ℕ → Place) (qs ps : ℕ → ScopingPlace) (ss : List Slot) (ts : List Node) → ((i : ℕ) → sort (qs i).standing ≡ sort (ps i).standing)
      → ((i : ℕ) → used (o i) ≡ map g (used (r i))) → ((i : ℕ) → Agrees (ls i) (ps i)) → FieldsFit ss ts → Each Claim ts
      → Within (fields_where h (λ i (n : Meeting). n (b i) (o i)) (each_in M qs (each_substituted m false ls ts))) (mapped g (fields_where h (λ i (n : Meeting). n (b i) (r i)) (each_in M ps ts)))
  fields_anew h b o r ls qs ps [] [] e u a f c = within_same nothing
  fields_anew h b o r ls qs ps [] (t ∷ ts) e u a f c = absurd f
  fields_anew h b o r ls qs ps (s ∷ ss) [] e u a f c = absurd f
  fields_anew h b o r ls qs ps (s ∷ ss) (t ∷ ts) e u a f c =
      let before : Met = M (ps zero) t (b zero) (r zero) in
      let first : Within (M (qs zero) (substituted m false (ls zero) t) (b zero) (o zero)) (mapped g before)
      = subst (λ (n : Meeting). Within (n (b zero) (o zero)) (mapped g before)) (sym (placed (substituted m false (ls zero) t) (qs zero) (ps zero) (e zero))) (c.0.0 (ls zero) (ps zero) s (b zero) (r zero) (o zero) (a zero) f.0 (u zero)) in
      both_anew g (cond (h zero) (M (qs zero) (substituted m false (ls zero) t) (b zero) (o zero)) nothing) (cond (h zero) before nothing)
      (fields_where (λ i. h (suc i)) (λ i (n : Meeting). n (b (suc i)) (o (suc i))) (each_in M (λ i. qs (suc i)) (each_substituted m false (λ i. ls (suc i)) ts)))
      (fields_where (λ i. h (suc i)) (λ i (n : Meeting). n (b (suc i)) (r (suc i))) (each_in M (λ i. ps (suc i)) ts))
      (chosen_anew g (h zero) (M (qs zero) (substituted m false (ls zero) t) (b zero) (o zero)) before first)
      (fields_anew (λ i. h (suc i)) (λ i. b (suc i)) (λ i. o (suc i)) (λ i. r (suc i)) (λ i. ls (suc i)) (λ i. qs (suc i)) (λ i. ps (suc i)) ss ts (λ i. e (suc i)) (λ i. u (suc i)) (λ i. a (suc i)) f.1 c.1)

  module _ (q : Place) (w : ScopingPlace) (k : Kind) (ts : List Node) (a : Agrees q w) (fit : FieldsFit (slots_of k) ts) (h : Each Claim ts) where
    abbrev us : List Node
    us = now m q k ts

    part : (n : ℕ → Bool) → Within (fields_where n (λ i (c : Meeting). c (is_for_body (Node-F.Tree k us) i) (own_name_below k us i)) (kids w k us)) (mapped g (fields_where n (λ i (c : Meeting). c (is_for_body (Node-F.Tree k ts) i) (own_name_below k ts i)) (kids w k ts)))
    part n = fields_anew n (λ i. is_for_body (Node-F.Tree k ts) i) (λ i. own_name_below k us i) (λ i. own_name_below k ts i) (places false q k ts) (place_in w (Node-F.Tree k us)) (place_in w (Node-F.Tree k ts)) (slots_of k) ts
        (places_anew m q w k ts) (own_anew m q k ts fit) (λ i. agrees_field q w k ts i a) fit h

    outs_anew : Within (outs w k us) (mapped g (outs w k ts))
    outs_anew = subst (λ b. Within (outs w k us) (mapped g (fields_where (λ i. is_outside w k b i) (λ i (c : Meeting). c (is_for_body (Node-F.Tree k ts) i) (own_name_below k ts i)) (kids w k ts)))) (identifier_anew m q k ts) (part (λ i. is_outside w k (has_identifier us) i))

    ins_anew : Within (ins w k us) (mapped g (ins w k ts))
    ins_anew = subst (λ b. Within (ins w k us) (mapped g (fields_where (λ i. not (is_outside w k b i)) (λ i (c : Meeting). c (is_for_body (Node-F.Tree k ts) i) (own_name_below k ts i)) (kids w k ts)))) (identifier_anew m q k ts) (part (λ i. not (is_outside w k (has_identifier us) i)))

    -- a node of its kind with its fields given anew
    tree_anew : (f : Bool) (own after : Option Ident) → used after ≡ map g (used own) → Within (M w (Tree k us) f after) (mapped g (M w (Tree k ts) f own))
    tree_anew f own after e =
        let same : has_own_name us ≡ has_own_name ts = there_at m false (places false q k ts) ts 0 in
        subst (λ (n : Met). Within n (mapped g (M w (Tree k ts) f own))) (sym (out_is w (Tree k us) (Node-F.Tree k us) f after (outs-Tree k us)))
        (subst (λ (n : Met). Within (tree_met w k us (kids w k us) f after) (mapped g n)) (sym (out_is w (Tree k ts) (Node-F.Tree k ts) f own (outs-Tree k ts)))
        (both_anew g (outs w k us) (outs w k ts) (in_scope (body_kind f (own_kind w k (has_own_name us))) after (ins w k us)) (in_scope (body_kind f (own_kind w k (has_own_name ts))) own (ins w k ts)) outs_anew
        (subst (λ b. Within (in_scope (body_kind f (own_kind w k (has_own_name us))) after (ins w k us)) (mapped g (in_scope (body_kind f (own_kind w k b)) own (ins w k ts)))) same
        (scope_anew g (body_kind f (own_kind w k (has_own_name us))) own after (ins w k us) (ins w k ts) e ins_anew))))

  -- ---- what a tree becomes

  same_became : (k : Kind) (ts : List Node) (q : Place) (w : ScopingPlace) (f : Bool) (own : Option Ident) → substituted m false q (Tree k ts) ≡ Tree k (now m q k ts) → M w (substituted m false q (Tree k ts)) f own ≡ M w (Tree k (now m q k ts)) f own
  same_became k ts q w f own e = ap (λ t. M w t f own) e

  -- what is written out meets what the node with its fields given anew meets
  became : (k : Kind) (ts : List Node) (q : Place) (w : ScopingPlace) (f : Bool) (own : Option Ident) → FieldsFit (slots_of k) ts → M w (substituted m false q (Tree k ts)) f own ≡ M w (Tree k (now m q k ts)) f own
  became kind.AssignPatProp (a ∷ t ∷ v ∷ []) q w f own fit =
      let ps : ℕ → Place = places false q kind.AssignPatProp (a ∷ t ∷ v ∷ []) in
      let (x, span) = span_here a fit.0 in
      ap (λ t. M w t f own) (substituted_tree m false q kind.AssignPatProp (a ∷ t ∷ v ∷ []))
      ∙ pattern_same w (if_changed m (ps 1) (identifier_at (a ∷ t ∷ v ∷ []) 1)) (substituted m false (ps 0) a) (substituted m false (ps 1) t) (substituted m false (ps 2) v) x f own (ap (substituted m false (ps 0)) span ∙ substituted-Span m false (ps 0) x)
  became kind.AssignPatProp [] q w f own fit = absurd fit
  became kind.AssignPatProp (a ∷ []) q w f own fit = absurd fit.1
  became kind.AssignPatProp (a ∷ b ∷ []) q w f own fit = absurd fit.1.1
  became kind.AssignPatProp (a ∷ b ∷ c ∷ d ∷ ds) q w f own fit = absurd fit.1.1.1
  became kind.ImportNamedSpecifier (a ∷ t ∷ v ∷ []) q w f own fit =
      let ps : ℕ → Place = places false q kind.ImportNamedSpecifier (a ∷ t ∷ v ∷ []) in
      ap (λ t. M w t f own) (substituted_tree m false q kind.ImportNamedSpecifier (a ∷ t ∷ v ∷ [])) ∙ import_same w (if_changed m (ps 1) (identifier_at (a ∷ t ∷ v ∷ []) 1)) (substituted m false (ps 0) a) (substituted m false (ps 1) t) (substituted m false (ps 2) v) f own
  became kind.ImportNamedSpecifier [] q w f own fit = absurd fit
  became kind.ImportNamedSpecifier (a ∷ []) q w f own fit = absurd fit.1
  became kind.ImportNamedSpecifier (a ∷ b ∷ []) q w f own fit = absurd fit.1.1
  became kind.ImportNamedSpecifier (a ∷ b ∷ c ∷ d ∷ ds) q w f own fit = absurd fit.1.1.1
  became kind.ExportNamedSpecifier (a ∷ t ∷ v ∷ []) q w f own fit =
      let ps : ℕ → Place = places false q kind.ExportNamedSpecifier (a ∷ t ∷ v ∷ []) in
      ap (λ t. M w t f own) (substituted_tree m false q kind.ExportNamedSpecifier (a ∷ t ∷ v ∷ [])) ∙ export_same w (if_changed m (ps 1) (identifier_at (a ∷ t ∷ v ∷ []) 1)) (substituted m false (ps 0) a) (substituted m false (ps 1) t) (substituted m false (ps 2) v) f own
  became kind.ExportNamedSpecifier [] q w f own fit = absurd fit
  became kind.ExportNamedSpecifier (a ∷ []) q w f own fit = absurd fit.1
  became kind.ExportNamedSpecifier (a ∷ b ∷ []) q w f own fit = absurd fit.1.1
  became kind.ExportNamedSpecifier (a ∷ b ∷ c ∷ d ∷ ds) q w f own fit = absurd fit.1.1.1
  became k ts q w f own fit = same_became k ts q w f own (substituted_tree m false q k ts ∙ same_kind k _ (now m q k ts) (λ i. refl))

  tree_single : (k : Kind) (ts : List Node) → Each Claim ts → Single (Tree k ts)
  tree_single k ts h q w s f own after a fit e =
      let fields : FieldsFit (slots_of k) ts = (tree_open k ts s fit).4 in
      subst (λ (n : Met). Within n (mapped g (M w (Tree k ts) f own))) (sym (became k ts q w f after fields)) (tree_anew q w k ts a fields h f own after e)

  -- ---- exported declarations

  -- a declaration and the list that exports its names meet no more than the exported declaration
  module _ (w : ScopingPlace) (a d : Node) (fit : Fits d (slot.One (content.Node class.Decl))) (h : Single d) where
    abbrev d' : Node
    d' = substituted m false place.Exported d

    abbrev xs : List Id
    xs = distinct (declared_ids d)

    abbrev before : Met
    before = M (T standing.Plain) d false None

    -- wherever it stands
    moved : (v : ScopingPlace) → M v d' false None ≡ M (T standing.Plain) d' false None
    moved v =
        let (k, ts, e, b, fields) = declaration_here d fit in
        let is : d' ≡ Tree k (now m place.Exported k ts) = ap (substituted m false place.Exported) e ∙ substituted_tree m false place.Exported k ts ∙ same_declaration m false k ts (now m place.Exported k ts) b in
        ap (λ t. M v t false None) is ∙ declaration_alike v (T standing.Plain) k (now m place.Exported k ts) false None b ∙ ap (λ t. M (T standing.Plain) t false None) (sym is)

    declaration_within : (v : ScopingPlace) → Within (M v d' false None) (mapped g before)
    declaration_within v = subst (λ (n : Met). Within n (mapped g before)) (sym (moved v))
        (h place.Exported (T standing.Plain) (slot.One (content.Node class.Decl)) false None None (agrees_plain place.Exported (T standing.Plain) refl refl) fit refl)

    exported_names : Subset (map g xs) (map g before.names)
    exported_names x i =
        let (y, j, e) = in_map g x xs i in
        subst (λ x. In x (map g before.names)) e (map_in g y before.names (declared_names d y fit (distinct_in y (declared_ids d) j)))

    exports_within : (v : ScopingPlace) → Within (M v (export_list m xs) false None) (mapped g before)
    exports_within v = subst (λ (n : Met). Within n (mapped g before)) (sym (exports_met m v xs)) (record { pending = λ x i. absurd i; names = exported_names; pairs = λ z i. absurd i })

    inner : (v : ScopingPlace) → Within (mapped g before) (mapped g (M v (Tree kind.ExportDecl (a ∷ d ∷ [])) false None))
    inner v =
        let first : Met = M (T standing.Plain) a false None in
        subst (λ (n : Met). Within (mapped g before) (mapped g n))
        (sym (standing_only v (Tree kind.ExportDecl (a ∷ d ∷ [])) false None ∙ out_is (T v.standing) (Tree kind.ExportDecl (a ∷ d ∷ [])) (Node-F.Tree kind.ExportDecl (a ∷ d ∷ [])) false None (outs-Tree kind.ExportDecl (a ∷ d ∷ []))))
        (subst (Within (mapped g before)) (sym (both_mapped g first (both before nothing) ∙ ap (both (mapped g first)) (both_mapped g before nothing)))
        (right_within (mapped g before) (mapped g first) (both (mapped g before) nothing) (left_within (mapped g before) (mapped g before) nothing (within_same (mapped g before)))))

    both_items : (t : Node) → declaration_of t ≡ d' → Within (L w (declaration_of t ∷ export_list m xs ∷ [])) (mapped g before)
    both_items t e =
        subst (λ u. Within (L w (u ∷ export_list m xs ∷ [])) (mapped g before)) (sym e)
        (into (M (item_at w (Some d')) d' false None) (both (M (item_at w (Some (export_list m xs))) (export_list m xs) false None) nothing) (mapped g before) (declaration_within (item_at w (Some d')))
        (into (M (item_at w (Some (export_list m xs))) (export_list m xs) false None) nothing (mapped g before) (exports_within (item_at w (Some (export_list m xs)))) (nothing_within (mapped g before))))

  exported_item : (a d : Node) → Fits d (slot.One (content.Node class.Decl)) → Single d → Single (Tree kind.ExportDecl (a ∷ d ∷ [])) → Item (Tree kind.ExportDecl (a ∷ d ∷ []))
  exported_item a d fit h whole q w s agrees f =
      subst (λ xs. Within (L w (with_exports u (exports_of m xs))) after) (sym (ap exported_in (outs-Tree kind.ExportDecl (a ∷ d ∷ [])))) (by (list_any (λ x. is_some (m x)) (distinct (declared_ids d))))
    where
      t : Node
      t = Tree kind.ExportDecl (a ∷ d ∷ [])

      u : Node
      u = substituted m false q t

      after : Met
      after = mapped g (M (item_at w (Some t)) t false None)

      us : List Node
      us = now m q kind.ExportDecl (a ∷ d ∷ [])

      is : u ≡ Tree kind.ExportDecl us
      is = substituted_tree m false q kind.ExportDecl (a ∷ d ∷ []) ∙ same_kind kind.ExportDecl _ us (λ i. refl)

      declares : declaration_of u ≡ substituted m false place.Exported d
      declares = ap declaration_of is ∙ ap (declaration_in (Tree kind.ExportDecl us)) (outs-Tree kind.ExportDecl us)

      by : (b : Bool) → Within (L w (with_exports u (cond b (Some (export_list m (distinct (declared_ids d)))) None))) after
      by true = within_through (L w (declaration_of u ∷ export_list m (distinct (declared_ids d)) ∷ [])) (mapped g (M (T standing.Plain) d false None)) after (both_items w a d fit h u declares) (inner w a d fit h (item_at w (Some t)))
      by false = single_item t q w s whole agrees f

  -- ---- the whole

  tree_claim : (k : Kind) (ts : List Node) → Each Claim ts → Claim (Tree k ts)
  tree_claim kind.ExportDecl (a ∷ d ∷ []) h = (
    tree_single kind.ExportDecl (a ∷ d ∷ []) h,
    λ q w s agrees fit. exported_item a d ((tree_open kind.ExportDecl (a ∷ d ∷ []) s fit).4.1.0) h.1.0.0 (tree_single kind.ExportDecl (a ∷ d ∷ []) h) q w s agrees fit,
  )
  tree_claim kind.ExportDecl [] h = (tree_single kind.ExportDecl [] h, λ q w s agrees fit. absurd (tree_open kind.ExportDecl [] s fit).4)
  tree_claim kind.ExportDecl (a ∷ []) h = (tree_single kind.ExportDecl (a ∷ []) h, λ q w s agrees fit. absurd ((tree_open kind.ExportDecl (a ∷ []) s fit).4.1))
  tree_claim kind.ExportDecl (a ∷ b ∷ c ∷ cs) h = (tree_single kind.ExportDecl (a ∷ b ∷ c ∷ cs) h, λ q w s agrees fit. absurd ((tree_open kind.ExportDecl (a ∷ b ∷ c ∷ cs) s fit).4.1.1))
  tree_claim k ts h = claim (Tree k ts) (ap is_exported_in (outs-Tree k ts)) (tree_single k ts h)

  pub claims : (t : Node) → Claim t
  claims = by_children Claim (
    leaf Absent (substituted-Absent m false) (ap is_exported_in outs-Absent) (λ w f own. out_is w Absent Node-F.Absent f own outs-Absent),
    λ x. leaf (Flag x) (λ q. substituted-Flag m false q x) (ap is_exported_in (outs-Flag x)) (λ w f own. out_is w (Flag x) (Node-F.Flag x) f own (outs-Flag x)),
    λ v. leaf (Word v) (λ q. substituted-Word m false q v) (ap is_exported_in (outs-Word v)) (λ w f own. out_is w (Word v) (Node-F.Word v) f own (outs-Word v)),
    λ x. leaf (Text x) (λ q. substituted-Text m false q x) (ap is_exported_in (outs-Text x)) (λ w f own. out_is w (Text x) (Node-F.Text x) f own (outs-Text x)),
    λ x. leaf (Span x) (λ q. substituted-Span m false q x) (ap is_exported_in (outs-Span x)) (λ w f own. out_is w (Span x) (Node-F.Span x) f own (outs-Span x)),
    λ k i. claim (Identifier k i) (ap is_exported_in (outs-Identifier k i)) (identifier_single k i),
  )
      (λ ts h. claim (Many ts) (ap is_exported_in (outs-List ts)) (list_single ts h)) tree_claim

-- what a tree meets anew
pub new_names_within : (m : Changes) (s : Slot) (t : Node) → Fits t s → Within (met (substituted m false place.Other t)) (mapped (anew m) (met t))
new_names_within m s t fit = (claims m t).0 place.Other program_place s false None None (agrees_plain place.Other program_place refl refl) fit refl

nothing_left : {X : Type 0} (xs : List X) → Subset xs [] → xs ≡ []
nothing_left [] h = refl
nothing_left (x ∷ xs) h = absurd (h x (inl refl))

pub substitution_keeps_meetings : SubstitutionKeepsMeetings
substitution_keeps_meetings m s t answer fit none is =
    let less : Within (met answer) (mapped (anew m) (met t)) = subst (λ u. Within (met u) (mapped (anew m) (met t))) (sym is) (new_names_within m s t fit) in
    let empty : (mapped (anew m) (met t)).pending ≡ [] = ap (λ l. map (other_bound (anew m)) l) none in
    record {
      pending = nothing_left (met answer).pending (λ x i. subst (In x) empty (less.pending x i));
      names = less.names;
      pairs = pairs_within (met answer) (mapped (anew m) (met t)) less empty;
    }
