-- Giving names anew keeps the texts that names give way to.
use Rattle.std.proofs.Common.{◌≡◌, ℕ, zero, suc, Bool, true, false, IsTrue, Option, Some, None, List, [], ◌∷◌, ◌++◌, map, append_assoc, append-nil, refl, sym, ap, ◌∙◌, inl, inr}
use Rattle.std.specs.Prelude.{if◌then◌else◌, is_some}
use Rattle.std.specs.List.{list_all, list_any}
use Rattle.swc_tree_marks.specs.declared.ident.Ident.{Ident}
use Rattle.swc_tree_node.specs.declared.kind.Kind.{Kind}
use Rattle.swc_tree_node.specs.declared.kind.Kind.TheVariants as kind
use Rattle.swc_tree_node.specs.declared.kind.Class.TheVariants as class
use Rattle.swc_tree_node.specs.declared.slot.Content.TheVariants as content
use Rattle.swc_tree_node.specs.declared.slot.Role.{Role}
use Rattle.swc_tree_node.specs.declared.slot.Role.TheVariants as role
use Rattle.swc_tree_node.specs.declared.slot.Slot.{Slot}
use Rattle.swc_tree_node.specs.declared.slot.Slot.TheVariants as slot
use Rattle.swc_tree_node.specs.declared.fields.modules.named_export.TheConstants as named_export
use Rattle.swc_tree_node.specs.declared.node.Node.{Node, Absent, Flag, Word, Text, Span, List as Many, Identifier, Tree}
use Rattle.swc_tree_node.specs.declared.node.Node.TheVariants.{outs-Absent, outs-Flag, outs-Word, outs-Text, outs-Span, outs-List, outs-Identifier, outs-Tree}
use Rattle.swc_tree_node.specs.Table.{slots_of}
use Rattle.swc_tree_node.specs.Fits.{Fits, FieldsFit, AllFit, belongs, single}
use Rattle.swc_tree_scoping.specs.Places.{field_role, is_there}
use Rattle.swc_tree_scoping.specs.BoundNames.{declared_ids}
use Rattle.swc_tree_scoping.specs.Shorthands.{key_of, shorthand_key}
use Rattle.swc_tree_grammar.proofs.Induction.{Each, by_children}
use Rattle.swc_base_rename_substitution.specs.declared.place.Place.{Place}
use Rattle.swc_base_rename_substitution.specs.declared.place.Place.TheVariants as place
use Rattle.swc_base_rename_substitution.specs.Names.{Id}
use Rattle.swc_base_rename_substitution.specs.Identifiers.{Changes, changed, identifier_at, identifier_to, kept_name, or_kept, with_default, written_out_if}
use Rattle.swc_base_rename_substitution.specs.Classes.{kept_class}
use Rattle.swc_base_rename_substitution.specs.Exports.{declaration_in, distinct, export_list, exported_ids, exported_in, exports_of, items_for, with_exports}
use Rattle.swc_base_rename_substitution.specs.Places.{by_role, has_source, in_kind, is_name, place_below, places, within}
use Rattle.swc_base_rename_substitution.specs.Substituted.{if_changed, keeps_name, substituted, tree_for}
use Rattle.swc_base_rename_substitution.specs.Walk.{each_substituted, is_exported_declaration, is_exported_in, items_substituted}
use Rattle.swc_base_rename_substitution.proofs.Equations.{substituted-Absent, substituted-Flag, substituted-Word, substituted-Text, substituted-Span, substituted_identifier, substituted_list, substituted_tree}
use Rattle.swc_base_rename_substitution.proofs.Room.{is_short, left, right, tree_open}
use Rattle.swc_base_rename_laws.specs.Laws.{OuterTextsStay}
use Rattle.swc_base_rename_laws.specs.Texts.{is_object, key_text, other_texts, outer_texts, text_of}
use Rattle.swc_base_rename_laws.proofs.OuterTexts.{all_append, all_texts, outer_role, texts, texts-Span, texts_identifier, texts_list, texts_tree}
use Rattle.swc_base_rename_laws.proofs.OuterTextsForms.{is_plain, item_slot, items_open, keeps_name_of, named, not_exported, one_item, same_kind, span_here, stays_there, takes_none, there_at}
use Rattle.swc_base_rename_laws.proofs.OuterTextsNames.{declaration_here, exported_stay, role_plain, same_declaration}
use Rattle.swc_base_rename_laws.proofs.OuterTextsWritten.{default_texts, either, export_texts, exports_texts, import_texts, kept_class_texts, kept_other, key_texts, other_side, quiet, shorthand_texts}
use Rattle.swc_base_rename_laws.proofs.Impossible.{impossible}

-- ---- places

-- a name is no outer one, and it is a shorthand property just where its place is
abbrev Agrees : Place → Bool → Bool → Type 0
Agrees p outer short = is_name p ≡ true → (outer ≡ false) × (is_short p ≡ short)

within_name : (p : Place) → is_name (within p) ≡ true → is_name p ≡ true
within_name place.Name h = refl
within_name place.Shorthand h = refl
within_name place.ClassName h = refl
within_name place.Exported h = absurd (cc)
within_name place.Other h = absurd (cc)

source_agrees : (b : Bool) → is_name (if b then place.Other else place.Name) ≡ true → b ≡ false
source_agrees true h = absurd (cc)
source_agrees false h = refl

role_agrees : (p : Place) (outer short b : Bool) (r : Role) → Agrees p outer short → is_name (by_role p b r) ≡ true → outer_role outer b r ≡ false
role_agrees p outer short b role.Inherited h n = (h (within_name p n)).0
role_agrees p outer short b role.ExportLocal h n = source_agrees b n
role_agrees p outer short b role.Label h n = absurd (cc)
role_agrees p outer short b role.Imported h n = absurd (cc)
role_agrees p outer short b role.Exported h n = absurd (cc)
role_agrees p outer short b r h n = refl

own_class : (keeps : Bool) → is_short (if keeps then place.ClassName else place.Name) ≡ false
own_class true = refl
own_class false = refl

plain_long : (q : Place) → is_plain q ≡ true → is_short q ≡ false
plain_long place.Name h = refl
plain_long place.Exported h = refl
plain_long place.Other h = refl
plain_long place.Shorthand h = absurd (cc)
plain_long place.ClassName h = refl

kind_agrees : (keeps : Bool) (k : Kind) (q : Place) (outer : Bool) → is_plain q ≡ true → (is_name q ≡ true → outer ≡ false) → Agrees (in_kind keeps k q) outer (is_object k)
kind_agrees keeps kind.ObjectLit place.Name outer n h g = (h refl, refl)
kind_agrees keeps kind.ObjectLit place.Exported outer n h g = absurd (cc)
kind_agrees keeps kind.ObjectLit place.Other outer n h g = absurd (cc)
kind_agrees keeps kind.ObjectLit q outer n h g = absurd (cc)
kind_agrees keeps kind.ExportDecl place.Other outer n h g = absurd (cc)
kind_agrees keeps kind.ExportDecl place.Name outer n h g = (h refl, refl)
kind_agrees keeps kind.ExportDecl place.Exported outer n h g = absurd (cc)
kind_agrees keeps kind.ExportDecl q outer n h g = absurd (cc)
kind_agrees keeps kind.ClassExpr place.Name outer n h g = (h refl, own_class keeps)
kind_agrees keeps kind.ClassExpr place.Exported outer n h g = absurd (cc)
kind_agrees keeps kind.ClassExpr place.Other outer n h g = absurd (cc)
kind_agrees keeps kind.ClassExpr q outer n h g = absurd (cc)
kind_agrees keeps k q outer n h g = (h g, plain_long q n)

below_agrees : (keeps : Bool) (p : Place) (outer short b : Bool) (k : Kind) (r : Role) → Agrees p outer short → Agrees (place_below keeps p b k r) (outer_role outer b r) (is_object k)
below_agrees keeps p outer short b k r h = kind_agrees keeps k (by_role p b r) (outer_role outer b r) (role_plain p b r) (role_agrees p outer short b r h)

joined : (a b c d e f : List (List ℕ)) → a ≡ d → b ≡ e → c ≡ f → a ++ (b ++ c) ≡ d ++ (e ++ f)
joined a b c d e f g h k = λ i. g i ++ (h i ++ k i)

-- ---- the table: an exported declaration is no field

table_takes_none : (k : Kind) → list_all (λ s. takes_none (single s)) (slots_of k) ≡ true
table_takes_none kind.Module = refl
table_takes_none k = refl

-- ---- names that change

picked : (b : Bool) (i j : Ident) → (if b then Some i else None) ≡ Some j → i ≡ j
picked true i j h = cc
picked false i j h = absurd (cc)

is_changed : (m : Changes) (p : Place) (n : Option Ident) (i : Ident) → if_changed m p n ≡ Some i → (is_name p ≡ true) × (n ≡ Some i)
is_changed m p None i h = absurd (cc)
is_changed m place.Name (Some j) i h = (refl, ap (λ j. Some j) (picked _ j i h))
is_changed m place.Shorthand (Some j) i h = (refl, ap (λ j. Some j) (picked _ j i h))
is_changed m place.ClassName (Some j) i h = absurd (cc)
is_changed m place.Exported (Some j) i h = absurd (cc)
is_changed m place.Other (Some j) i h = absurd (cc)

abbrev other_for : Option Ident → Node → Node
other_for None t = t
other_for (Some i) t = or_kept i t

import_written : (c : Option Ident) (a l t : Node) → written_out_if kind.ImportNamedSpecifier c (a ∷ l ∷ t ∷ []) ≡ Tree kind.ImportNamedSpecifier (a ∷ l ∷ other_for c t ∷ [])
import_written None a l t = refl
import_written (Some i) a l t = refl

export_written : (c : Option Ident) (a l t : Node) → written_out_if kind.ExportNamedSpecifier c (a ∷ l ∷ t ∷ []) ≡ Tree kind.ExportNamedSpecifier (a ∷ l ∷ other_for c t ∷ [])
export_written None a l t = refl
export_written (Some i) a l t = refl

module _ (m : Changes) (keeps : Bool) where
  -- what stands for a node, as an item of a list, has its texts
  abbrev Keeps : Node → Type 0
  Keeps t = (p : Place) (o short : Bool) (s : Slot) → Agrees p o short → Fits t s → all_texts (λ i. o) short (items_for m t (substituted m keeps p t)) ≡ texts o short t

  alone : (t u : Node) (o short : Bool) → is_exported_declaration t ≡ false → texts o short u ≡ texts o short t → all_texts (λ i. o) short (items_for m t u) ≡ texts o short t
  alone t u o short h e = ap (all_texts (λ i. o) short) (one_item m t u h) ∙ append-nil (texts o short u) ∙ e

  -- ... and so has what stands for it where no declaration is exported
  single_kept : (t : Node) (p : Place) (o short : Bool) (s : Slot) → Keeps t → takes_none (single s) ≡ true → Agrees p o short → Fits t s → texts o short (substituted m keeps p t) ≡ texts o short t
  single_kept t p o short s kept none h f =
      let u : Node = substituted m keeps p t in
      sym (append-nil (texts o short u)) ∙ sym (ap (all_texts (λ i. o) short) (one_item m t u (not_exported s none t f))) ∙ kept p o short s h f

  -- ---- leaves

  leaf : (t : Node) → is_exported_declaration t ≡ false → ((p : Place) → substituted m keeps p t ≡ t) → Keeps t
  leaf t none e p o short s h f = alone t (substituted m keeps p t) o short none (ap (texts o short) (e p))

  named_now : (k : Kind) (i : Ident) (o short : Bool) (j : Option Ident) → o ≡ false → false ≡ short → texts o short (identifier_to place.Name k i j) ≡ texts o short (Identifier k i)
  named_now k i o short None e f = refl
  named_now k i o short (Some j) e f = quiet o short k j e (sym f) ∙ sym (quiet o short k i e (sym f))

  short_now : (k : Kind) (i : Ident) (o short : Bool) (j : Option Ident) → o ≡ false → true ≡ short → texts o short (identifier_to place.Shorthand k i j) ≡ texts o short (Identifier k i)
  short_now k i o short None e f = refl
  short_now k i o short (Some j) e f =
      texts_tree o short kind.KeyValueProp (shorthand_key i ∷ Identifier k j ∷ [])
      ∙ ap (λ l. (l ++ (texts false false (Identifier k j) ++ [])) ++ []) (shorthand_texts false false i)
      ∙ ap (λ l. ((i.sym ∷ []) ++ (l ++ [])) ++ []) (quiet false false k j refl refl)
      ∙ sym (ap (λ short. texts o short (Identifier k i)) (sym f) ∙ texts_identifier o true k i)

  identifier_now : (p : Place) (k : Kind) (i : Ident) (o short : Bool) → Agrees p o short → texts o short (identifier_to p k i (changed m p i)) ≡ texts o short (Identifier k i)
  identifier_now place.Name k i o short h = let a = h refl in named_now k i o short _ a.0 a.1
  identifier_now place.Shorthand k i o short h = let a = h refl in short_now k i o short _ a.0 a.1
  identifier_now place.ClassName k i o short h = let a = h refl in quiet o short k (kept_name i) a.0 (sym a.1) ∙ sym (quiet o short k i a.0 (sym a.1))
  identifier_now place.Exported k i o short h = refl
  identifier_now place.Other k i o short h = refl

  identifier_kept : (k : Kind) (i : Ident) → Keeps (Identifier k i)
  identifier_kept k i p o short s h f =
      alone (Identifier k i) _ o short (ap is_exported_in (outs-Identifier k i)) (ap (texts o short) (substituted_identifier m keeps p k i) ∙ identifier_now p k i o short h)

  -- ---- lists

  items_kept : (p : Place) (o short : Bool) (s : Slot) (ts : List Node) → Agrees p o short → AllFit s ts → Each Keeps ts → all_texts (λ i. o) short (items_substituted m keeps p ts) ≡ all_texts (λ i. o) short ts
  items_kept p o short s [] h f below = refl
  items_kept p o short s (t ∷ ts) h f below =
      all_append o short (items_for m t (substituted m keeps p t)) (items_substituted m keeps p ts)
      ∙ ap (λ l. l ++ all_texts (λ i. o) short (items_substituted m keeps p ts)) (below.0 p o short s h f.0)
      ∙ ap (λ l. texts o short t ++ l) (items_kept p o short s ts h f.1 below.1)

  list_kept : (ts : List Node) → Each Keeps ts → Keeps (Many ts)
  list_kept ts below p o short s h f =
      alone (Many ts) _ o short (ap is_exported_in (outs-List ts))
      (ap (texts o short) (substituted_list m keeps p ts) ∙ texts_list o short (items_substituted m keeps p ts)
      ∙ items_kept p o short (item_slot s) ts h (items_open ts s f) below ∙ sym (texts_list o short ts))

  -- ---- fields

  fields_kept : (outer : ℕ → Bool) (short : Bool) (ps : ℕ → Place) (ss : List Slot) (ts : List Node) → ((i : ℕ) → Agrees (ps i) (outer i) short) → list_all (λ s. takes_none (single s)) ss ≡ true
      → FieldsFit ss ts → Each Keeps ts → all_texts outer short (each_substituted m keeps ps ts) ≡ all_texts outer short ts
  fields_kept outer short ps [] [] h none f below = refl
  fields_kept outer short ps [] (t ∷ ts) h none f below = absurd f
  fields_kept outer short ps (s ∷ ss) [] h none f below = absurd f
  fields_kept outer short ps (s ∷ ss) (t ∷ ts) h none f below =
      ap (λ l. l ++ all_texts (λ i. outer (suc i)) short (each_substituted m keeps (λ i. ps (suc i)) ts)) (single_kept t (ps zero) (outer zero) short s below.0 (left _ _ none) (h zero) f.0)
      ∙ ap (λ l. texts (outer zero) short t ++ l)
      (fields_kept (λ i. outer (suc i)) short (λ i. ps (suc i)) ss ts (λ i. h (suc i)) (right (takes_none (single s)) _ none) f.1 below.1)

  abbrev now : Place → Kind → List Node → List Node
  now p k ts = each_substituted m keeps (places keeps p k ts) ts

  -- a node whose own texts stay, of its kind
  same_texts : (p : Place) (o short : Bool) (k : Kind) (ts : List Node) → Agrees p o short → FieldsFit (slots_of k) ts → Each Keeps ts → key_text k (now p k ts) ≡ key_text k ts
      → other_texts k (now p k ts) (Tree k (now p k ts)) ≡ other_texts k ts (Tree k ts) → texts o short (Tree k (now p k ts)) ≡ texts o short (Tree k ts)
  same_texts p o short k ts h f below key other =
      let us : List Node = now p k ts in
      texts_tree o short k us
      ∙ ap (λ b. key_text k us ++ (all_texts (λ i. outer_role o b (field_role k i)) (is_object k) us ++ other_texts k us (Tree k us))) (there_at m keeps (places keeps p k ts) ts named_export.SRC)
      ∙ ap (λ l. key_text k us ++ (l ++ other_texts k us (Tree k us)))
      (fields_kept _ (is_object k) (places keeps p k ts) (slots_of k) ts (λ i. below_agrees keeps p o short (has_source ts) k (field_role k i) h) (table_takes_none k) f below)
      ∙ ap (λ l. l ++ (all_texts (λ i. outer_role o (has_source ts) (field_role k i)) (is_object k) ts ++ other_texts k us (Tree k us))) key
      ∙ ap (λ l. key_text k ts ++ (all_texts (λ i. outer_role o (has_source ts) (field_role k i)) (is_object k) ts ++ l)) other
      ∙ sym (texts_tree o short k ts)

  field_kept : (p : Place) (o short : Bool) (k : Kind) (ts : List Node) (i : ℕ) (t : Node) (s : Slot) → Agrees p o short → Keeps t → takes_none (single s) ≡ true → Fits t s
      → texts (outer_role o (has_source ts) (field_role k i)) (is_object k) (substituted m keeps (places keeps p k ts i) t) ≡ texts (outer_role o (has_source ts) (field_role k i)) (is_object k) t
  field_kept p o short k ts i t s h kept none f = single_kept t (places keeps p k ts i) _ (is_object k) s kept none (below_agrees keeps p o short (has_source ts) k (field_role k i) h) f

  -- ---- specifiers

  sides : (q : Place) (local t other : Node) (c : Option Ident) → is_plain q ≡ true → if_changed m q (named local) ≡ c → is_there (Some t) ≡ is_there (Some other) → texts true false t ≡ texts true false other
      → other_side (other_for c t) (named (substituted m keeps q local)) ≡ other_side other (named local)
  sides q local t other None n e there same =
      ap (λ l. l ++ (if is_there (Some t) then [] else text_of (named (substituted m keeps q local)))) same
      ∙ ap (λ b. texts true false other ++ (if b then [] else text_of (named (substituted m keeps q local)))) there
      ∙ ap (λ i. texts true false other ++ (if is_there (Some other) then [] else text_of i)) (keeps_name_of m keeps local q n e)
  sides q local t other (Some i) n e there same = kept_other i _ t other there same ∙ ap (other_side other) (sym (is_changed m q (named local) i e).1)

  import_kept : (p : Place) (o short : Bool) (ts : List Node) → Agrees p o short → FieldsFit (slots_of kind.ImportNamedSpecifier) ts → Each Keeps ts
      → texts o short (tree_for m keeps p kind.ImportNamedSpecifier ts (now p kind.ImportNamedSpecifier ts)) ≡ texts o short (Tree kind.ImportNamedSpecifier ts)
  import_kept p o short (a ∷ local ∷ other ∷ []) h f below =
      let ts : List Node = a ∷ local ∷ other ∷ [] in
      let ps : ℕ → Place = places keeps p kind.ImportNamedSpecifier ts in
      let c : Option Ident = if_changed m (ps 1) (named local) in
      let t : Node = substituted m keeps (ps 2) other in
      ap (texts o short) (import_written c (substituted m keeps (ps 0) a) (substituted m keeps (ps 1) local) t)
      ∙ import_texts o short (substituted m keeps (ps 0) a) (substituted m keeps (ps 1) local) (other_for c t)
      ∙ joined _ _ _ _ _ _ (field_kept p o short kind.ImportNamedSpecifier ts 0 a _ h below.0 refl f.0) (field_kept p o short kind.ImportNamedSpecifier ts 1 local _ h below.1.0 refl f.1.0)
      (sides (ps 1) local t other c refl refl (stays_there m keeps other (ps 2)) (field_kept p o short kind.ImportNamedSpecifier ts 2 other _ h below.1.1.0 refl f.1.1.0))
      ∙ sym (import_texts o short a local other)
  import_kept p o short [] h f below = absurd f
  import_kept p o short (a ∷ []) h f below = absurd f.1
  import_kept p o short (a ∷ b ∷ []) h f below = absurd f.1.1
  import_kept p o short (a ∷ b ∷ c ∷ d ∷ ds) h f below = absurd f.1.1.1

  export_kept : (p : Place) (o short : Bool) (ts : List Node) → Agrees p o short → FieldsFit (slots_of kind.ExportNamedSpecifier) ts → Each Keeps ts
      → texts o short (tree_for m keeps p kind.ExportNamedSpecifier ts (now p kind.ExportNamedSpecifier ts)) ≡ texts o short (Tree kind.ExportNamedSpecifier ts)
  export_kept p o short (a ∷ local ∷ other ∷ []) h f below =
      let ts : List Node = a ∷ local ∷ other ∷ [] in
      let ps : ℕ → Place = places keeps p kind.ExportNamedSpecifier ts in
      let c : Option Ident = if_changed m (ps 1) (named local) in
      let t : Node = substituted m keeps (ps 2) other in
      ap (texts o short) (export_written c (substituted m keeps (ps 0) a) (substituted m keeps (ps 1) local) t)
      ∙ export_texts o short (substituted m keeps (ps 0) a) (substituted m keeps (ps 1) local) (other_for c t)
      ∙ joined _ _ _ _ _ _ (field_kept p o short kind.ExportNamedSpecifier ts 0 a _ h below.0 refl f.0) (field_kept p o short kind.ExportNamedSpecifier ts 1 local _ h below.1.0 refl f.1.0)
      (sides (ps 1) local t other c (role_plain p false role.Inherited) refl (stays_there m keeps other (ps 2)) (field_kept p o short kind.ExportNamedSpecifier ts 2 other _ h below.1.1.0 refl f.1.1.0))
      ∙ sym (export_texts o short a local other)
  export_kept p o short [] h f below = absurd f
  export_kept p o short (a ∷ []) h f below = absurd f.1
  export_kept p o short (a ∷ b ∷ []) h f below = absurd f.1.1
  export_kept p o short (a ∷ b ∷ c ∷ d ∷ ds) h f below = absurd f.1.1.1

  -- ---- patterns

  regroup : (x k v : List (List ℕ)) → (x ++ ((k ++ v) ++ [])) ++ [] ≡ x ++ ((k ++ (v ++ [])) ++ [])
  regroup x k v = simp (append_assoc, append-nil)

  pattern_by : (p : Place) (o short : Bool) (a key value : Node) (c : Option Ident) → Agrees p o short → FieldsFit (slots_of kind.AssignPatProp) (a ∷ key ∷ value ∷ []) → Each Keeps (a ∷ key ∷ value ∷ [])
      → if_changed m (places keeps p kind.AssignPatProp (a ∷ key ∷ value ∷ []) 1) (named key) ≡ c
      → texts o short (written_out_if kind.AssignPatProp c (now p kind.AssignPatProp (a ∷ key ∷ value ∷ []))) ≡ texts o short (Tree kind.AssignPatProp (a ∷ key ∷ value ∷ []))
  pattern_by p o short a key value None h f below e =
      let ts : List Node = a ∷ key ∷ value ∷ [] in
      same_texts p o short kind.AssignPatProp ts h f below (ap text_of (keeps_name_of m keeps key (places keeps p kind.AssignPatProp ts 1) (role_plain p false role.Inherited) e)) refl
  pattern_by p o short a key value (Some i) h f below e =
      let ts : List Node = a ∷ key ∷ value ∷ [] in
      let ps : ℕ → Place = places keeps p kind.AssignPatProp ts in
      let key' : Node = substituted m keeps (ps 1) key in
      let value' : Node = substituted m keeps (ps 2) value in
      let (x, span) = span_here a f.0 in
      let first : texts false false a ≡ [] = ap (texts false false) span ∙ texts-Span false false x in
      let second : texts o false key' ≡ texts o false key = field_kept p o short kind.AssignPatProp ts 1 key _ h below.1.0 refl f.1.0 in
      let third : texts false false value' ≡ texts false false value = field_kept p o short kind.AssignPatProp ts 2 value _ h below.1.1.0 refl f.1.1.0 in
      let name : named key ≡ Some i = (is_changed m (ps 1) (named key) i e).1 in
      texts_tree o short kind.KeyValuePatProp (key_of i ∷ with_default i key' value' ∷ [])
      ∙ ap (λ l. (l ++ (texts o false (with_default i key' value') ++ [])) ++ []) (key_texts false false i)
      ∙ ap (λ l. ((i.sym ∷ []) ++ (l ++ [])) ++ []) (default_texts o i key' value' ∙ (λ j. second j ++ third j))
      ∙ regroup (i.sym ∷ []) (texts o false key) (texts false false value)
      ∙ sym (texts_tree o short kind.AssignPatProp ts ∙ ap (λ n. text_of n ++ ((texts false false a ++ (texts o false key ++ (texts false false value ++ []))) ++ [])) name
      ∙ ap (λ l. (i.sym ∷ []) ++ ((l ++ (texts o false key ++ (texts false false value ++ []))) ++ [])) first)

  pattern_kept : (p : Place) (o short : Bool) (ts : List Node) → Agrees p o short → FieldsFit (slots_of kind.AssignPatProp) ts → Each Keeps ts
      → texts o short (tree_for m keeps p kind.AssignPatProp ts (now p kind.AssignPatProp ts)) ≡ texts o short (Tree kind.AssignPatProp ts)
  pattern_kept p o short (a ∷ key ∷ value ∷ []) h f below = pattern_by p o short a key value _ h f below refl
  pattern_kept p o short [] h f below = absurd f
  pattern_kept p o short (a ∷ []) h f below = absurd f.1
  pattern_kept p o short (a ∷ b ∷ []) h f below = absurd f.1.1
  pattern_kept p o short (a ∷ b ∷ c ∷ d ∷ ds) h f below = absurd f.1.1.1

  -- ---- classes

  class_kept : (p : Place) (o short : Bool) (ts : List Node) → Agrees p o short → FieldsFit (slots_of kind.ClassDecl) ts → Each Keeps ts
      → texts o short (tree_for m keeps p kind.ClassDecl ts (now p kind.ClassDecl ts)) ≡ texts o short (Tree kind.ClassDecl ts)
  class_kept p o short ts h f below =
      let same = same_texts p o short kind.ClassDecl ts h f below refl refl in
      either o short (keeps_name keeps p kind.ClassDecl) (kept_class (identifier_at ts 0) (now p kind.ClassDecl ts)) (written_out_if kind.ClassDecl (if_changed m (places keeps p kind.ClassDecl ts 1) (identifier_at ts 1)) (now p kind.ClassDecl ts)) _
      (kept_class_texts o short (identifier_at ts 0) (now p kind.ClassDecl ts) ∙ same) (ap (texts o short) (same_kind kind.ClassDecl _ (now p kind.ClassDecl ts) (λ i. refl)) ∙ same)

  -- ---- exported declarations

  -- the texts of a declaration do not go by its place
  placeless : (o short : Bool) (k : Kind) (ts : List Node) (ps : ℕ → Place) → IsTrue (belongs k class.Decl) → FieldsFit (slots_of k) ts
      → texts o short (Tree k (each_substituted m keeps ps ts)) ≡ texts false false (Tree k (each_substituted m keeps ps ts))
  placeless o short kind.ClassDecl (t ∷ u ∷ []) ps b f = texts_tree o short kind.ClassDecl _ ∙ sym (texts_tree false false kind.ClassDecl _)
  placeless o short kind.FnDecl (t ∷ u ∷ []) ps b f = texts_tree o short kind.FnDecl _ ∙ sym (texts_tree false false kind.FnDecl _)
  placeless o short kind.VarDecl (t ∷ u ∷ v ∷ []) ps b f = texts_tree o short kind.VarDecl _ ∙ sym (texts_tree false false kind.VarDecl _)
  placeless o short kind.UsingDecl (t ∷ u ∷ v ∷ []) ps b f = texts_tree o short kind.UsingDecl _ ∙ sym (texts_tree false false kind.UsingDecl _)
  placeless o short kind.ClassDecl [] ps b f = absurd f
  placeless o short kind.ClassDecl (t ∷ []) ps b f = absurd f.1
  placeless o short kind.ClassDecl (t ∷ u ∷ v ∷ vs) ps b f = absurd f.1.1
  placeless o short kind.FnDecl [] ps b f = absurd f
  placeless o short kind.FnDecl (t ∷ []) ps b f = absurd f.1
  placeless o short kind.FnDecl (t ∷ u ∷ v ∷ vs) ps b f = absurd f.1.1
  placeless o short kind.VarDecl [] ps b f = absurd f
  placeless o short kind.VarDecl (t ∷ []) ps b f = absurd f.1
  placeless o short kind.VarDecl (t ∷ u ∷ []) ps b f = absurd f.1.1
  placeless o short kind.VarDecl (t ∷ u ∷ v ∷ x ∷ xs) ps b f = absurd f.1.1.1
  placeless o short kind.UsingDecl [] ps b f = absurd f
  placeless o short kind.UsingDecl (t ∷ []) ps b f = absurd f.1
  placeless o short kind.UsingDecl (t ∷ u ∷ []) ps b f = absurd f.1.1
  placeless o short kind.UsingDecl (t ∷ u ∷ v ∷ x ∷ xs) ps b f = absurd f.1.1.1
  placeless o short kind.TsInterfaceDecl (t ∷ u ∷ v ∷ x ∷ y ∷ []) ps b f = texts_tree o short kind.TsInterfaceDecl _ ∙ sym (texts_tree false false kind.TsInterfaceDecl _)
  placeless o short kind.TsTypeAliasDecl (t ∷ u ∷ v ∷ x ∷ []) ps b f = texts_tree o short kind.TsTypeAliasDecl _ ∙ sym (texts_tree false false kind.TsTypeAliasDecl _)
  placeless o short kind.TsEnumDecl (t ∷ u ∷ v ∷ []) ps b f = texts_tree o short kind.TsEnumDecl _ ∙ sym (texts_tree false false kind.TsEnumDecl _)
  placeless o short kind.TsModuleDecl (t ∷ u ∷ v ∷ []) ps b f = texts_tree o short kind.TsModuleDecl _ ∙ sym (texts_tree false false kind.TsModuleDecl _)
  placeless o short kind.TsInterfaceDecl [] ps b f = absurd f
  placeless o short kind.TsInterfaceDecl (t ∷ []) ps b f = absurd f.1
  placeless o short kind.TsInterfaceDecl (t ∷ u ∷ []) ps b f = absurd f.1.1
  placeless o short kind.TsInterfaceDecl (t ∷ u ∷ v ∷ []) ps b f = absurd f.1.1.1
  placeless o short kind.TsInterfaceDecl (t ∷ u ∷ v ∷ x ∷ []) ps b f = absurd f.1.1.1.1
  placeless o short kind.TsInterfaceDecl (t ∷ u ∷ v ∷ x ∷ y ∷ z ∷ xs) ps b f = absurd f.1.1.1.1.1
  placeless o short kind.TsTypeAliasDecl [] ps b f = absurd f
  placeless o short kind.TsTypeAliasDecl (t ∷ []) ps b f = absurd f.1
  placeless o short kind.TsTypeAliasDecl (t ∷ u ∷ []) ps b f = absurd f.1.1
  placeless o short kind.TsTypeAliasDecl (t ∷ u ∷ v ∷ []) ps b f = absurd f.1.1.1
  placeless o short kind.TsTypeAliasDecl (t ∷ u ∷ v ∷ x ∷ y ∷ xs) ps b f = absurd f.1.1.1.1
  placeless o short kind.TsEnumDecl [] ps b f = absurd f
  placeless o short kind.TsEnumDecl (t ∷ []) ps b f = absurd f.1
  placeless o short kind.TsEnumDecl (t ∷ u ∷ []) ps b f = absurd f.1.1
  placeless o short kind.TsEnumDecl (t ∷ u ∷ v ∷ x ∷ xs) ps b f = absurd f.1.1.1
  placeless o short kind.TsModuleDecl [] ps b f = absurd f
  placeless o short kind.TsModuleDecl (t ∷ []) ps b f = absurd f.1
  placeless o short kind.TsModuleDecl (t ∷ u ∷ []) ps b f = absurd f.1.1
  placeless o short kind.TsModuleDecl (t ∷ u ∷ v ∷ x ∷ xs) ps b f = absurd f.1.1.1
  placeless o short k ts ps b f = impossible b

  moved : (o short : Bool) (t : Node) → Fits t (slot.One (content.Node class.Decl)) → texts o short (substituted m keeps place.Exported t) ≡ texts false false (substituted m keeps place.Exported t)
  moved o short t f =
      let (k, ts, e, b, fields) = declaration_here t f in
      let became : substituted m keeps place.Exported t ≡ Tree k (now place.Exported k ts)
      = ap (substituted m keeps place.Exported) e ∙ substituted_tree m keeps place.Exported k ts ∙ same_declaration m keeps k ts _ b in
      ap (texts o short) became ∙ placeless o short k ts (places keeps place.Exported k ts) b fields ∙ ap (texts false false) (sym became)

  abbrev names_of : List Id → List (List ℕ)
  names_of xs = map (λ x. x.0) xs

  exports : (a d : Node) → exported_ids (Tree kind.ExportDecl (a ∷ d ∷ [])) ≡ distinct (declared_ids d)
  exports a d = ap exported_in (outs-Tree kind.ExportDecl (a ∷ d ∷ []))

  whole : (o short : Bool) (a d : Node) → Fits a (slot.One content.Span) → texts o short (Tree kind.ExportDecl (a ∷ d ∷ [])) ≡ texts false false d ++ names_of (distinct (declared_ids d))
  whole o short a d f =
      let (x, span) = span_here a f in
      let names : List (List ℕ) = names_of (exported_ids (Tree kind.ExportDecl (a ∷ d ∷ []))) in
      texts_tree o short kind.ExportDecl (a ∷ d ∷ [])
      ∙ ap (λ l. (l ++ (texts false false d ++ [])) ++ names) (ap (texts false false) span ∙ texts-Span false false x)
      ∙ ap (λ l. l ++ names) (append-nil (texts false false d)) ∙ ap (λ xs. texts false false d ++ names_of xs) (exports a d)

  exported_by : (p : Place) (o short : Bool) (a d : Node) (b : Bool) → Agrees p o short → FieldsFit (slots_of kind.ExportDecl) (a ∷ d ∷ []) → Each Keeps (a ∷ d ∷ [])
      → list_any (λ x. is_some (m x)) (distinct (declared_ids d)) ≡ b
      → all_texts (λ i. o) short (with_exports (Tree kind.ExportDecl (now p kind.ExportDecl (a ∷ d ∷ []))) (if b then Some (export_list m (distinct (declared_ids d))) else None)) ≡ texts o short (Tree kind.ExportDecl (a ∷ d ∷ []))
  exported_by p o short a d true h f below e =
      let ts : List Node = a ∷ d ∷ [] in
      let us : List Node = now p kind.ExportDecl ts in
      let d' : Node = substituted m keeps place.Exported d in
      let xs : List Id = distinct (declared_ids d) in
      let kept : texts false false d' ≡ texts false false d = field_kept p o short kind.ExportDecl ts 1 d _ h below.1.0 refl f.1.0 in
      ap (λ t. texts o short t ++ (texts o short (export_list m xs) ++ [])) (ap (declaration_in (Tree kind.ExportDecl us)) (outs-Tree kind.ExportDecl us))
      ∙ ap (λ l. l ++ (texts o short (export_list m xs) ++ [])) (moved o short d f.1.0 ∙ kept)
      ∙ ap (λ l. texts false false d ++ l) (append-nil (texts o short (export_list m xs)) ∙ exports_texts o short m xs) ∙ sym (whole o short a d f.0)
  exported_by p o short a d false h f below e =
      let ts : List Node = a ∷ d ∷ [] in
      let us : List Node = now p kind.ExportDecl ts in
      append-nil (texts o short (Tree kind.ExportDecl us))
      ∙ same_texts p o short kind.ExportDecl ts h f below refl (ap names_of (ap exported_in (outs-Tree kind.ExportDecl us) ∙ exported_stay m keeps d f.1.0 e ∙ sym (exports a d)))

  exported_kept : (ts : List Node) → Each Keeps ts → FieldsFit (slots_of kind.ExportDecl) ts → (p : Place) (o short : Bool) → Agrees p o short
      → all_texts (λ i. o) short (items_for m (Tree kind.ExportDecl ts) (substituted m keeps p (Tree kind.ExportDecl ts))) ≡ texts o short (Tree kind.ExportDecl ts)
  exported_kept (a ∷ d ∷ []) below f p o short h =
      let ts : List Node = a ∷ d ∷ [] in
      let xs : List Id = distinct (declared_ids d) in
      ap (λ xs. all_texts (λ i. o) short (with_exports (substituted m keeps p (Tree kind.ExportDecl ts)) (exports_of m xs))) (exports a d)
      ∙ ap (λ u. all_texts (λ i. o) short (with_exports u (exports_of m xs))) (substituted_tree m keeps p kind.ExportDecl ts ∙ same_kind kind.ExportDecl _ (now p kind.ExportDecl ts) (λ i. refl))
      ∙ exported_by p o short a d _ h f below refl
  exported_kept [] below f p o short h = absurd f
  exported_kept (a ∷ []) below f p o short h = absurd f.1
  exported_kept (a ∷ b ∷ c ∷ cs) below f p o short h = absurd f.1.1

  -- ---- the whole

  tree_kept : (k : Kind) (ts : List Node) → Each Keeps ts → FieldsFit (slots_of k) ts → (p : Place) (o short : Bool) → Agrees p o short
      → all_texts (λ i. o) short (items_for m (Tree k ts) (substituted m keeps p (Tree k ts))) ≡ texts o short (Tree k ts)
  tree_kept kind.ExportDecl ts below f p o short h = exported_kept ts below f p o short h
  tree_kept kind.AssignPatProp ts below f p o short h =
      alone _ _ o short (ap is_exported_in (outs-Tree kind.AssignPatProp ts)) (ap (texts o short) (substituted_tree m keeps p kind.AssignPatProp ts) ∙ pattern_kept p o short ts h f below)
  tree_kept kind.ImportNamedSpecifier ts below f p o short h =
      alone _ _ o short (ap is_exported_in (outs-Tree kind.ImportNamedSpecifier ts)) (ap (texts o short) (substituted_tree m keeps p kind.ImportNamedSpecifier ts) ∙ import_kept p o short ts h f below)
  tree_kept kind.ExportNamedSpecifier ts below f p o short h =
      alone _ _ o short (ap is_exported_in (outs-Tree kind.ExportNamedSpecifier ts)) (ap (texts o short) (substituted_tree m keeps p kind.ExportNamedSpecifier ts) ∙ export_kept p o short ts h f below)
  tree_kept kind.ClassDecl ts below f p o short h =
      alone _ _ o short (ap is_exported_in (outs-Tree kind.ClassDecl ts)) (ap (texts o short) (substituted_tree m keeps p kind.ClassDecl ts) ∙ class_kept p o short ts h f below)
  tree_kept k ts below f p o short h =
      alone _ _ o short (ap is_exported_in (outs-Tree k ts))
      (ap (texts o short) (substituted_tree m keeps p k ts ∙ same_kind k _ (now p k ts) (λ i. refl)) ∙ same_texts p o short k ts h f below refl refl)

  pub texts_kept : (t : Node) → Keeps t
  texts_kept = by_children Keeps (
    leaf Absent (ap is_exported_in outs-Absent) (substituted-Absent m keeps),
    λ x. leaf (Flag x) (ap is_exported_in (outs-Flag x)) (λ p. substituted-Flag m keeps p x),
    λ w. leaf (Word w) (ap is_exported_in (outs-Word w)) (λ p. substituted-Word m keeps p w),
    λ x. leaf (Text x) (ap is_exported_in (outs-Text x)) (λ p. substituted-Text m keeps p x),
    λ x. leaf (Span x) (ap is_exported_in (outs-Span x)) (λ p. substituted-Span m keeps p x),
    identifier_kept,
  )
      list_kept
      (λ k ts below p o short s h f. tree_kept k ts below (tree_open k ts s f).4 p o short h)

  program_kept : (t : Node) (s : Slot) → takes_none (single s) ≡ true → Fits t s → outer_texts (substituted m keeps place.Other t) ≡ outer_texts t
  program_kept t s none f = single_kept t place.Other false false s (texts_kept t) none (λ h. absurd (cc)) f

pub outer_texts_stay : OuterTextsStay
outer_texts_stay m keeps t answer (inl f) s = ap outer_texts s ∙ program_kept m keeps t (slot.One (content.Node class.Module)) refl f
outer_texts_stay m keeps t answer (inr f) s = ap outer_texts s ∙ program_kept m keeps t (slot.One (content.Node class.Script)) refl f
