-- What meets in what is written out, and in export lists that are added.
use Rattle.std.proofs.Common.{◌≡◌, ℕ, Bool, true, false, not, ◌&&◌, Option, Some, None, List, [], ◌∷◌, ◌++◌, map, refl, sym, ap, ◌∙◌, cond}
use Rattle.std.specs.List.{slice_get}
use Rattle.std.specs.Prelude.{codes, nat_eq, unwrap_or}
use Rattle.std.specs.Cmp.Lexicographic.{pointwise}
use Rattle.swc_tree_marks.specs.declared.span.Span.{Span as Range}
use Rattle.swc_tree_marks.specs.declared.ident.Ident.{Ident}
use Rattle.swc_tree_node.specs.declared.kind.Kind.{Kind}
use Rattle.swc_tree_node.specs.declared.kind.Kind.TheVariants as kind
use Rattle.swc_tree_node.specs.declared.node.Node.{Node, Absent, Text, Span, List as Many, Identifier, Tree, out-Node}
use Rattle.swc_tree_node.specs.declared.node.Node.TheOpen.{Node-F}
use Rattle.swc_tree_node.specs.declared.node.Node.TheVariants.{outs-Absent, outs-Identifier, outs-List, outs-Span, outs-Text, outs-Tree}
use Rattle.swc_tree_scoping.specs.declared.places.Standing.{Standing}
use Rattle.swc_tree_scoping.specs.declared.places.Standing.TheVariants as standing
use Rattle.swc_tree_scoping.specs.declared.places.Place.{Place}
use Rattle.swc_tree_scoping.specs.Folds.{each_in}
use Rattle.swc_tree_scoping.specs.Places.{absent_in, binds_patterns, is_expression_in, part_standing}
use Rattle.swc_tree_scoping.specs.Shorthands.{computed_key, key_of, shorthand_key}
use Rattle.swc_base_rename_substitution.specs.Names.{Id}
use Rattle.swc_base_rename_substitution.specs.Identifiers.{Changes, default_in, kept_in, kept_name, or_kept, with_default, written_out_if}
use Rattle.swc_base_rename_substitution.specs.Exports.{export_list, made, nowhere, specifier, specifier_to}
use Rattle.swc_base_rename_analysis.specs.Analysis.{body_kind}
use Rattle.swc_base_renaming_laws.specs.Meetings.{Meeting, Met, both, in_scope, items_met, name_met, nothing}
use Rattle.swc_base_renaming_laws.proofs.Meets.{M, out_is}
use Rattle.swc_base_renaming_laws.proofs.Placed.{placed}
use Rattle.swc_base_renaming_laws.specs.NamedMeetings.{anew}
use Rattle.swc_base_renaming_laws.proofs.Agreed.{item_at}
use Rattle.swc_base_renaming_laws.proofs.Mapped.{both_assoc, both_nothing}

-- a place of which only the standing matters
abbrev pub T : Standing → Place
T r = record { standing = r; strict = true; nested = false }

pub standing_only : (w : Place) (t : Node) (f : Bool) (own : Option Ident) → M w t f own ≡ M (T w.standing) t f own
standing_only w t f own = ap (λ (n : Meeting). n f own) (placed t w (T w.standing) refl)

-- ---- lists

-- what meets in the items of a list
abbrev pub L : Place → List Node → Met
L w ts = items_met (each_in M (λ i. item_at w (slice_get ts i)) ts)

pub of_list : (w : Place) (ts : List Node) (f : Bool) (own : Option Ident) → M w (Many ts) f own ≡ L w ts
of_list w ts f own = out_is w (Many ts) (Node-F.List ts) f own (outs-List ts)

pub list_append : (w : Place) (ts us : List Node) → L w (ts ++ us) ≡ both (L w ts) (L w us)
list_append w [] us = refl
list_append w (t ∷ ts) us = ap (both (M (item_at w (Some t)) t false None)) (list_append w ts us) ∙ sym (both_assoc (M (item_at w (Some t)) t false None) (L w ts) (L w us))

-- ---- nodes that meet nothing

pub of_span : (w : Place) (r : Range) (f : Bool) (own : Option Ident) → M w (Span r) f own ≡ nothing
of_span w r f own = out_is w (Span r) (Node-F.Span r) f own (outs-Span r)

of_text : (w : Place) (x : List ℕ) (f : Bool) (own : Option Ident) → M w (Text x) f own ≡ nothing
of_text w x f own = out_is w (Text x) (Node-F.Text x) f own (outs-Text x)

of_absent : (w : Place) (f : Bool) (own : Option Ident) → M w Absent f own ≡ nothing
of_absent w f own = out_is w Absent Node-F.Absent f own outs-Absent

pub of_identifier : (w : Place) (k : Kind) (i : Ident) (f : Bool) (own : Option Ident) → M w (Identifier k i) f own ≡ name_met w.standing i
of_identifier w k i f own = out_is w (Identifier k i) (Node-F.Identifier k i) f own (outs-Identifier k i)

abbrev Q : Place
Q = T standing.Plain

of_key : (i : Ident) → M Q (key_of i) false None ≡ nothing
of_key i =
    out_is Q (key_of i) (Node-F.Tree kind.IdentName (Span i.span ∷ Text i.sym ∷ [])) false None (outs-Tree kind.IdentName (Span i.span ∷ Text i.sym ∷ []))
    ∙ (λ j. both (of_span Q i.span false None j) (both (of_text Q i.sym false None j) nothing))

of_string : (i : Ident) → M (T standing.Reference) (Tree kind.Str (Span i.span ∷ Text i.sym ∷ Absent ∷ [])) false None ≡ nothing
of_string i =
    out_is (T standing.Reference) (Tree kind.Str (Span i.span ∷ Text i.sym ∷ Absent ∷ [])) (Node-F.Tree kind.Str (Span i.span ∷ Text i.sym ∷ Absent ∷ [])) false None (outs-Tree kind.Str (Span i.span ∷ Text i.sym ∷ Absent ∷ []))
    ∙ (λ j. both (of_span Q i.span false None j) (both (of_text Q i.sym false None j) (both (of_absent Q false None j) nothing)))

of_computed : (i : Ident) → M Q (computed_key i) false None ≡ nothing
of_computed i =
    out_is Q (computed_key i) (Node-F.Tree kind.ComputedPropName (Span i.span ∷ Tree kind.Str (Span i.span ∷ Text i.sym ∷ Absent ∷ []) ∷ [])) false None
    (outs-Tree kind.ComputedPropName (Span i.span ∷ Tree kind.Str (Span i.span ∷ Text i.sym ∷ Absent ∷ []) ∷ []))
    ∙ (λ j. both (of_span Q i.span false None j) (both (of_string i j) nothing))

of_shorthand : (i : Ident) → M Q (shorthand_key i) false None ≡ nothing
of_shorthand i = by (pointwise nat_eq i.sym (codes "__proto__"))
  where
    by : (b : Bool) → M Q (cond b (computed_key i) (key_of i)) false None ≡ nothing
    by true = of_computed i
    by false = of_key i

-- ---- a property

-- a reference in a scope of its own meets nothing
reference_alone : (f : Bool) (own : Option Ident) (i : Ident) → in_scope (body_kind f None) own (name_met standing.Reference i) ≡ name_met standing.Reference i
reference_alone true own i = refl
reference_alone false own i = refl

pub of_property : (i j : Ident) (k : Kind) (f : Bool) (own : Option Ident) → M (T standing.Reference) (Tree kind.KeyValueProp (shorthand_key i ∷ Identifier k j ∷ [])) f own ≡ name_met standing.Reference j
of_property i j k f own =
    out_is (T standing.Reference) (Tree kind.KeyValueProp (shorthand_key i ∷ Identifier k j ∷ [])) (Node-F.Tree kind.KeyValueProp (shorthand_key i ∷ Identifier k j ∷ [])) f own (outs-Tree kind.KeyValueProp (shorthand_key i ∷ Identifier k j ∷ []))
    ∙ (λ l. both nothing (in_scope (body_kind f None) own (both (of_shorthand i l) (both (of_identifier (T standing.Reference) k j false None l) nothing))))
    ∙ reference_alone f own j

-- ---- a pattern

and_false : (b : Bool) → (b && false) ≡ false
and_false true = refl
and_false false = refl

module _ (r : Standing) (t v : Node) where
  -- what meets in a target and its default
  abbrev targets : Met
  targets = both (M (T (part_standing r (Some t))) t false None) (both (M (T standing.Reference) v false None) nothing)

  assigned : (x : Range) → M (T (part_standing r (Some (Tree kind.AssignPat (Span x ∷ t ∷ v ∷ []))))) (Tree kind.AssignPat (Span x ∷ t ∷ v ∷ [])) false None ≡ targets
  assigned x =
      let d : Node = Tree kind.AssignPat (Span x ∷ t ∷ v ∷ []) in
      let same : part_standing r (Some d) ≡ r = ap (λ y. cond (binds_patterns r && is_expression_in y) standing.Reference r) (outs-Tree kind.AssignPat (Span x ∷ t ∷ v ∷ [])) ∙ ap (λ b. cond b standing.Reference r) (and_false (binds_patterns r)) in
      ap (λ p. M (T p) d false None) same
      ∙ out_is (T r) d (Node-F.Tree kind.AssignPat (Span x ∷ t ∷ v ∷ [])) false None (outs-Tree kind.AssignPat (Span x ∷ t ∷ v ∷ []))
      ∙ ap (λ (a : Met). both a targets) (of_span Q x false None)

  default_met : (i : Ident) (y : Node-F Node) → out-Node v ≡ y → both (M (T (part_standing r (Some (default_in i t v y)))) (default_in i t v y) false None) nothing ≡ targets
  default_met i Node-F.Absent e = ap (λ (a : Met). both (M (T (part_standing r (Some t))) t false None) (both a nothing)) (sym (out_is (T standing.Reference) v Node-F.Absent false None e))
  default_met i y e = ap (λ (a : Met). both a nothing) (assigned i.span) ∙ both_nothing targets

  shorthand_pattern : (x : Range) (f : Bool) (own : Option Ident) → M (T r) (Tree kind.AssignPatProp (Span x ∷ t ∷ v ∷ [])) f own ≡ in_scope (body_kind f None) own targets
  shorthand_pattern x f own =
      out_is (T r) (Tree kind.AssignPatProp (Span x ∷ t ∷ v ∷ [])) (Node-F.Tree kind.AssignPatProp (Span x ∷ t ∷ v ∷ [])) f own (outs-Tree kind.AssignPatProp (Span x ∷ t ∷ v ∷ []))
      ∙ ap (λ (a : Met). both nothing (in_scope (body_kind f None) own (both a targets))) (of_span Q x false None)

  keyed_pattern : (i : Ident) (f : Bool) (own : Option Ident) → M (T r) (Tree kind.KeyValuePatProp (key_of i ∷ with_default i t v ∷ [])) f own ≡ in_scope (body_kind f None) own targets
  keyed_pattern i f own =
      out_is (T r) (Tree kind.KeyValuePatProp (key_of i ∷ with_default i t v ∷ [])) (Node-F.Tree kind.KeyValuePatProp (key_of i ∷ with_default i t v ∷ [])) f own (outs-Tree kind.KeyValuePatProp (key_of i ∷ with_default i t v ∷ []))
      ∙ (λ j. both nothing (in_scope (body_kind f None) own (both (of_key i j) (default_met i (out-Node v) refl j))))

pub pattern_same : (w : Place) (c : Option Ident) (a t v : Node) (x : Range) (f : Bool) (own : Option Ident) → a ≡ Span x → M w (written_out_if kind.AssignPatProp c (a ∷ t ∷ v ∷ [])) f own ≡ M w (Tree kind.AssignPatProp (a ∷ t ∷ v ∷ [])) f own
pattern_same w None a t v x f own e = refl
pattern_same w (Some i) a t v x f own e =
    standing_only w (Tree kind.KeyValuePatProp (key_of i ∷ with_default i t v ∷ [])) f own ∙ keyed_pattern w.standing t v i f own ∙ sym (shorthand_pattern w.standing t v x f own)
    ∙ sym (standing_only w (Tree kind.AssignPatProp (Span x ∷ t ∷ v ∷ [])) f own) ∙ ap (λ a. M w (Tree kind.AssignPatProp (a ∷ t ∷ v ∷ [])) f own) (sym e)

-- ---- specifiers

-- the other name is no name of the module's own
kept_met : (r : Standing) → ((i : Ident) → name_met r i ≡ nothing) → (i : Ident) (t : Node) (y : Node-F Node) → out-Node t ≡ y → M (T r) (kept_in i t y) false None ≡ M (T r) t false None
kept_met r h i t Node-F.Absent e = of_identifier (T r) kind.Ident (kept_name i) false None ∙ h (kept_name i) ∙ sym (out_is (T r) t Node-F.Absent false None e)
kept_met r h i t y e = refl

of_import : (w : Place) (a l t : Node) (f : Bool) (own : Option Ident)
    → M w (Tree kind.ImportNamedSpecifier (a ∷ l ∷ t ∷ [])) f own ≡ in_scope (body_kind f None) own (both (M Q a false None) (both (M (T standing.Import) l false None) (both (M (T standing.Imported) t false None) nothing)))
of_import w a l t f own =
    standing_only w (Tree kind.ImportNamedSpecifier (a ∷ l ∷ t ∷ [])) f own
    ∙ out_is (T w.standing) (Tree kind.ImportNamedSpecifier (a ∷ l ∷ t ∷ [])) (Node-F.Tree kind.ImportNamedSpecifier (a ∷ l ∷ t ∷ [])) f own (outs-Tree kind.ImportNamedSpecifier (a ∷ l ∷ t ∷ []))

pub import_same : (w : Place) (c : Option Ident) (a l t : Node) (f : Bool) (own : Option Ident) → M w (written_out_if kind.ImportNamedSpecifier c (a ∷ l ∷ t ∷ [])) f own ≡ M w (Tree kind.ImportNamedSpecifier (a ∷ l ∷ t ∷ [])) f own
import_same w None a l t f own = refl
import_same w (Some i) a l t f own =
    of_import w a l (or_kept i t) f own
    ∙ ap (λ (n : Met). in_scope (body_kind f None) own (both (M Q a false None) (both (M (T standing.Import) l false None) (both n nothing)))) (kept_met standing.Imported (λ i. refl) i t (out-Node t) refl)
    ∙ sym (of_import w a l t f own)

of_export : (w : Place) (a l t : Node) (f : Bool) (own : Option Ident) → M w (Tree kind.ExportNamedSpecifier (a ∷ l ∷ t ∷ [])) f own
    ≡ in_scope (body_kind f None) own (both (M Q a false None) (both (M (T (part_standing w.standing (Some l))) l false None) (both (M (T standing.Exported) t false None) nothing)))
of_export w a l t f own =
    standing_only w (Tree kind.ExportNamedSpecifier (a ∷ l ∷ t ∷ [])) f own
    ∙ out_is (T w.standing) (Tree kind.ExportNamedSpecifier (a ∷ l ∷ t ∷ [])) (Node-F.Tree kind.ExportNamedSpecifier (a ∷ l ∷ t ∷ [])) f own (outs-Tree kind.ExportNamedSpecifier (a ∷ l ∷ t ∷ []))

pub export_same : (w : Place) (c : Option Ident) (a l t : Node) (f : Bool) (own : Option Ident) → M w (written_out_if kind.ExportNamedSpecifier c (a ∷ l ∷ t ∷ [])) f own ≡ M w (Tree kind.ExportNamedSpecifier (a ∷ l ∷ t ∷ [])) f own
export_same w None a l t f own = refl
export_same w (Some i) a l t f own =
    of_export w a l (or_kept i t) f own
    ∙ ap (λ (n : Met). in_scope (body_kind f None) own (both (M Q a false None) (both (M (T (part_standing w.standing (Some l))) l false None) (both n nothing)))) (kept_met standing.Exported (λ i. refl) i t (out-Node t) refl)
    ∙ sym (of_export w a l t f own)

-- ---- export lists

-- names, of which none meets another
abbrev pub only : List Id → Met
only xs = record { pending = []; names = xs; pairs = [] }

abbrev R : Place
R = T standing.Reference

made_met : (x : Id) (t : Node) → M (T standing.Exported) t false None ≡ nothing → M R (Tree kind.ExportNamedSpecifier (nowhere ∷ Identifier kind.Ident (made x) ∷ t ∷ [])) false None ≡ only (x ∷ [])
made_met x t e =
    of_export R nowhere (Identifier kind.Ident (made x)) t false None
    ∙ (λ j. both (of_span Q (record { lo = 0; hi = 0 }) false None j) (both (of_identifier R kind.Ident (made x) false None j) (both (e j) nothing)))

specifier_met : (x : Id) (o : Option Id) → M R (specifier_to x o) false None ≡ only (unwrap_or o x ∷ [])
specifier_met x None = made_met x Absent (of_absent (T standing.Exported) false None)
specifier_met x (Some y) = made_met y (Identifier kind.Ident (made (x.0, []))) (of_identifier (T standing.Exported) kind.Ident (made (x.0, [])) false None)

module _ (m : Changes) where
  specifiers_met : (xs : List Id) → L R (map (specifier m) xs) ≡ only (map (anew m) xs)
  specifiers_met [] = refl
  specifiers_met (x ∷ xs) = λ j. both (specifier_met x (m x) j) (specifiers_met xs j)

  -- an export list refers to the new ids
  pub exports_met : (w : Place) (xs : List Id) → M w (export_list m xs) false None ≡ only (map (anew m) xs)
  exports_met w xs =
      let all : Node = Many (map (specifier m) xs) in
      let ts : List Node = nowhere ∷ all ∷ Absent ∷ Absent ∷ [] in
      standing_only w (export_list m xs) false None ∙ out_is (T w.standing) (export_list m xs) (Node-F.Tree kind.NamedExport ts) false None (outs-Tree kind.NamedExport ts)
      ∙ ap (λ y. both (M Q nowhere false None) (both (M (T (cond (not (absent_in y)) standing.Imported standing.Reference)) all false None) (both (M Q Absent false None) (both (M Q Absent false None) nothing)))) outs-Absent
      ∙ (λ j. both (of_span Q (record { lo = 0; hi = 0 }) false None j) (both ((of_list R (map (specifier m) xs) false None ∙ specifiers_met xs) j) (both (of_absent Q false None j) (both (of_absent Q false None j) nothing))))
      ∙ both_nothing (only (map (anew m) xs))
