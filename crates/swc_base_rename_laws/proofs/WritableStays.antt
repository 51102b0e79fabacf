-- A tree that fits and can be written down still can when its names are given anew.
use Rattle.std.proofs.Common.{◌≡◌, Bool, true, false, not, ◌&&◌, ◌||◌, IsTrue, Option, Some, None, List, [], ◌∷◌, map, rules, refl, sym, ap, ◌∙◌, subst, inl, inr}
use Rattle.std.specs.Prelude.{if◌then◌else◌}
use Rattle.swc_tree_marks.specs.declared.ident.Ident.{Ident}
use Rattle.swc_tree_node.specs.declared.kind.Kind.{Kind}
use Rattle.swc_tree_node.specs.declared.kind.Kind.TheVariants as kind
use Rattle.swc_tree_node.specs.declared.kind.Class.TheVariants as class
use Rattle.swc_tree_node.specs.declared.slot.Content.TheVariants as content
use Rattle.swc_tree_node.specs.declared.slot.Slot.{Slot}
use Rattle.swc_tree_node.specs.declared.slot.Slot.TheVariants as slot
use Rattle.swc_tree_node.specs.declared.node.Node.{Node, Absent, Flag, Word, Text, Span, List as Many, Identifier, Tree, out-Node, the_lemmas}
use Rattle.swc_tree_node.specs.declared.node.Node.TheVariants.{outs-Identifier, outs-Tree}
use Rattle.swc_tree_node.specs.declared.node.Node.TheOpen.{Node-F}
use Rattle.swc_tree_node.specs.Table.{is_identifier, slots_of}
use Rattle.swc_tree_node.specs.Fits.{AllFit, FieldsFit, Fits, belongs, fits, list_fits}
use Rattle.swc_tree_node.proofs.Fit.{all_open, fields_open, fits-Absent, fits-Flag, fits-Word, fits-Text, fits-Span, fits-List, tree_opens}
use Rattle.swc_tree_scoping.specs.Shorthands.{computed_key, key_of, shorthand_key}
use Rattle.swc_tree_grammar.specs.Kinds.{has_kind_in, is_private_name}
use Rattle.swc_tree_grammar.specs.Writable.{Round, default_in as has_default, element, in_head_in, name_is, pattern, all_sound, binding, is_bindable, is_identifier_text, is_plain_pattern_in, is_writable, sound_in}
use Rattle.swc_tree_grammar.proofs.Asked.{head_tree, in_head, of, sound, sound_list, sound_name, sound_tree}
use Rattle.swc_tree_grammar.proofs.Induction.{Each, by_children}
use Rattle.swc_base_rename_substitution.specs.declared.place.Place.{Place}
use Rattle.swc_base_rename_substitution.specs.declared.place.Place.TheVariants as place
use Rattle.swc_base_rename_substitution.specs.Identifiers.{Changes, changed, default_in, identifier_to, kept_name, or_kept, with_default, written_out_if, writes_out}
use Rattle.swc_base_rename_substitution.specs.Places.{within}
use Rattle.swc_base_rename_substitution.specs.Substituted.{substituted}
use Rattle.swc_base_rename_substitution.specs.Walk.{items_substituted}
use Rattle.swc_base_rename_substitution.proofs.Equations.{substituted-Absent, substituted-Flag, substituted-Word, substituted-Text, substituted-Span, substituted_identifier, substituted_list}
use Rattle.swc_base_rename_substitution.proofs.Room.{identifier_open, left, right, tree_open}
use Rattle.swc_base_rename_laws.specs.Laws.{GivesNames, WritableStays}
use Rattle.swc_base_rename_laws.proofs.WritableStaysShape.{IsNew, changed_new, fields, old_name, plain_tree, tree_is, within_long}
use Rattle.swc_base_rename_laws.proofs.WritableStaysForms.{plain_same}
use Rattle.swc_base_rename_laws.proofs.WritableStaysNames.{bindable_text, both_true, by_round}
use Rattle.swc_base_rename_laws.proofs.WritableStaysLists.{Le, items_sound}
use Rattle.swc_base_rename_laws.proofs.WritableStaysPatterns.{same_le}
use Rattle.swc_base_rename_laws.proofs.WritableStaysParts.{bound_le}
use Rattle.swc_base_rename_laws.proofs.WritableStaysRows as rows
use Rattle.swc_base_rename_laws.proofs.WritableStaysRows.{AllKept, Kept, Row, other_le, safe_le}
use Rattle.swc_base_rename_laws.proofs.WritableStaysStatements as more
use Rattle.swc_base_rename_laws.proofs.Impossible.{impossible}

-- ---- names

-- what may be bound in strict code may be bound, and is an identifier
new_sound : (k : Kind) (j : Ident) (r : Round) → is_bindable true j.sym ≡ true → sound_in (Node-F.Identifier k j) r ≡ true
new_sound kind.BindingIdent j r h = by_round r.assigned r.strict
  where
    by_round : (a b : Bool) → (if a then is_identifier_text j.sym else is_bindable b j.sym) ≡ true
    by_round true b = bindable_text true j.sym h
    by_round false true = h
    by_round false false = both_true (bindable_text true j.sym h) refl
new_sound k j r h = bindable_text true j.sym h

text_sound : (k : Kind) (i : Ident) (r : Round) → sound_in (Node-F.Identifier k i) r ≡ true → is_identifier_text i.sym ≡ true
text_sound kind.BindingIdent i r h = by_round r.assigned r.strict i.sym h
text_sound k i r h = h

old_sound : (k : Kind) (i j : Ident) (r : Round) → j.sym ≡ i.sym → sound_in (Node-F.Identifier k j) r ≡ sound_in (Node-F.Identifier k i) r
old_sound kind.BindingIdent i j r e = ap (λ x. if r.assigned then is_identifier_text x else is_bindable r.strict x) e
old_sound k i j r e = ap is_identifier_text e

old_text : (k : Kind) (i : Ident) (r : Round) → sound (Identifier k i) r ≡ true → is_identifier_text i.sym ≡ true
old_text k i r h = text_sound k i r (sym (sound_name k i r) ∙ h)

renamed_sound : (k : Kind) (i j : Ident) (r : Round) → IsNew i j → Le (sound (Identifier k i) r) (sound (Identifier k j) r)
renamed_sound k i j r (inl e) h = sound_name k j r ∙ old_sound k i j r e ∙ sym (sound_name k i r) ∙ h
renamed_sound k i j r (inr e) h = sound_name k j r ∙ new_sound k j r (e (old_text k i r h))

-- a key, and a property with it
key_sound : (i : Ident) (r : Round) → sound (key_of i) r ≡ true
key_sound i r = search (rules, the_lemmas)

text_key_sound : (i : Ident) (r : Round) → sound (computed_key i) r ≡ true
text_key_sound i r = search (rules, the_lemmas)

plain_key : (i : Ident) → has_kind_in is_private_name (out-Node (key_of i)) ≡ false
plain_key i = ap (has_kind_in is_private_name) (outs-Tree kind.IdentName _)

plain_text_key : (i : Ident) → has_kind_in is_private_name (out-Node (computed_key i)) ≡ false
plain_text_key i = ap (has_kind_in is_private_name) (outs-Tree kind.ComputedPropName _)

key_if : (b : Bool) (i : Ident) (r : Round) → (not (has_kind_in is_private_name (out-Node (if b then computed_key i else key_of i))) && sound (if b then computed_key i else key_of i) r) ≡ true
key_if true i r = both_true (ap not (plain_text_key i)) (text_key_sound i r)
key_if false i r = both_true (ap not (plain_key i)) (key_sound i r)

property_sound : (k : Kind) (i j : Ident) (r : Round) → sound (Identifier k j) (binding r) ≡ true → sound (Tree kind.KeyValueProp (shorthand_key i ∷ Identifier k j ∷ [])) r ≡ true
property_sound k i j r h = sound_tree kind.KeyValueProp (shorthand_key i ∷ Identifier k j ∷ []) r
    ∙ both_true (key_if _ i (binding r)) (both_true (both_true (ap (λ y. not (has_kind_in is_private_name y)) (outs-Identifier k j)) h) refl)

-- ---- what is written out

or_right : (a : Bool) {b : Bool} → b ≡ true → (a || b) ≡ true
or_right true h = refl
or_right false h = h

or_left : {a : Bool} (b : Bool) → a ≡ true → (a || b) ≡ true
or_left {a = true} b h = refl
or_left {a = false} b h = absurd (cc)

plain_pattern : (t : Node) (r : Round) → is_plain_pattern_in (out-Node t) ≡ true → pattern t r ≡ true
plain_pattern t r h = or_left _ h

abbrev SoundElement : Round → Node → Type 0
SoundElement r t = (element t r ≡ true) × (sound t r ≡ true)

with_default_in : (y : Node-F Node) (i : Ident) (x v : Node) (r : Round) → is_plain_pattern_in (out-Node x) ≡ true → sound x r ≡ true → all_sound (of v ∷ []) (binding r) ≡ true → SoundElement r (default_in i x v y)
with_default_in Node-F.Absent i x v r h s d = (or_right _ (plain_pattern x r h), s)
with_default_in y i x v r h s d =
    let ts : List Node = Span i.span ∷ x ∷ v ∷ [] in
    (or_left _ (ap has_default (outs-Tree kind.AssignPat ts)), sound_tree kind.AssignPat ts r ∙ both_true (plain_pattern x r h) (both_true s d))

written_property : (o : Option Ident) (a x v : Node) (r : Round) → is_plain_pattern_in (out-Node x) ≡ true → sound x r ≡ true → all_sound (of v ∷ []) (binding r) ≡ true
    → sound (written_out_if kind.AssignPatProp o (a ∷ x ∷ v ∷ [])) r ≡ true
written_property None a x v r h s d = sound_tree kind.AssignPatProp (a ∷ x ∷ v ∷ []) r ∙ both_true s d
written_property (Some i) a x v r h s d =
    let w = with_default_in (out-Node v) i x v r h s d in
    sound_tree kind.KeyValuePatProp (key_of i ∷ with_default i x v ∷ []) r ∙ both_true w.0 (both_true (key_sound i (binding r)) w.1)

written_import : (o : Option Ident) (a x y : Node) (r : Round) → name_is r.strict (out-Node x) ≡ true → sound (written_out_if kind.ImportNamedSpecifier o (a ∷ x ∷ y ∷ [])) r ≡ true
written_import None a x y r h = sound_tree kind.ImportNamedSpecifier (a ∷ x ∷ y ∷ []) r ∙ h
written_import (Some i) a x y r h = sound_tree kind.ImportNamedSpecifier (a ∷ x ∷ or_kept i y ∷ []) r ∙ h

written_export : (o : Option Ident) (a x y : Node) (r : Round) → sound x r ≡ true → sound (written_out_if kind.ExportNamedSpecifier o (a ∷ x ∷ y ∷ [])) r ≡ true
written_export None a x y r h = sound_tree kind.ExportNamedSpecifier (a ∷ x ∷ y ∷ []) r ∙ h
written_export (Some i) a x y r h = sound_tree kind.ExportNamedSpecifier (a ∷ x ∷ or_kept i y ∷ []) r ∙ h

binding_kind : (k : Kind) (i : Ident) → IsTrue (belongs k class.BindingIdent) → is_plain_pattern_in (Node-F.Identifier k i) ≡ true
binding_kind kind.BindingIdent i h = refl
binding_kind k i h = impossible h

no_binding_tree : (k : Kind) → IsTrue (not (is_identifier k)) → IsTrue (belongs k class.BindingIdent) → ⊥
no_binding_tree kind.BindingIdent n h = impossible n
no_binding_tree k n h = impossible h

abbrev target : Slot
target = slot.One (content.Node class.BindingIdent)

-- what a property of a pattern binds is a plain pattern
plain_target : (t : Node) → Fits t target → is_plain_pattern_in (out-Node t) ≡ true
plain_target t = by_children (λ t. Fits t target → is_plain_pattern_in (out-Node t) ≡ true) (
  λ f. (let never : fits Absent target ≡ false = fits-Absent target in absurd (cc)),
  λ x f. (let never : fits (Flag x) target ≡ false = fits-Flag x target in absurd (cc)),
  λ w f. (let never : fits (Word w) target ≡ false = fits-Word w target in absurd (cc)),
  λ x f. (let never : fits (Text x) target ≡ false = fits-Text x target in absurd (cc)),
  λ s f. (let never : fits (Span s) target ≡ false = fits-Span s target in absurd (cc)),
  λ k i f. (
      let o = identifier_open k i target f in
      let same : o.0 ≡ class.BindingIdent = let q = o.1 in cc in
      ap is_plain_pattern_in (outs-Identifier k i) ∙ binding_kind k i (subst (λ c. IsTrue (belongs k c)) same o.3)
      ),
)
    (λ ts l f. (let never : fits (Many ts) target ≡ false = fits-List ts target in absurd (cc)))
    (λ k ts l f. (let w = tree_opens k ts class.BindingIdent f in absurd (no_binding_tree k w.0 w.1))) t

module _ (m : Changes) (g : GivesNames m) where
  -- ---- names in their places

  name_le : (p : Place) (k : Kind) (i : Ident) (o : Option Ident) → changed m p i ≡ o → (r : Round) → Le (sound (Identifier k i) r) (sound (identifier_to p k i o) r)
  name_le place.ClassName k i o e r h = renamed_sound k i (kept_name i) r (inl refl) h
  name_le place.Name k i None e r h = h
  name_le place.Shorthand k i None e r h = h
  name_le place.Exported k i None e r h = h
  name_le place.Other k i None e r h = h
  name_le place.Name k i (Some j) e r h = renamed_sound k i j r (inr (changed_new m g place.Name i j e)) h
  name_le place.Exported k i (Some j) e r h = renamed_sound k i j r (inr (changed_new m g place.Exported i j e)) h
  name_le place.Other k i (Some j) e r h = renamed_sound k i j r (inr (changed_new m g place.Other i j e)) h
  name_le place.Shorthand k i (Some j) e r h = property_sound k i j r (sound_name k j (binding r) ∙ new_sound k j (binding r) (changed_new m g place.Shorthand i j e (old_text k i r h)))

  no_head_name : (k : Kind) (i : Ident) (r : Round) → in_head (Identifier k i) r ≡ false
  no_head_name k i r = search (rules, the_lemmas)

  name_kept : (k : Kind) (i : Ident) → AllKept m (Identifier k i)
  name_kept k i p = record {
    sounds = λ r h. ap (λ u. sound u r) (substituted_identifier m false p k i) ∙ name_le p k i (changed m p i) refl r h;
    heads = λ r h. (let never : in_head (Identifier k i) r ≡ false = no_head_name k i r in absurd (cc));
  }

  -- ---- trees

  row_of : (k : Kind) → writes_out k ≡ false → Row m k
  row_of kind.SeqExpr w = rows.sequence_row m g
  row_of kind.AssignExpr w = rows.assignment_row m g
  row_of kind.UpdateExpr w = rows.update_row m g
  row_of kind.BinExpr w = rows.binary_row m g
  row_of kind.MemberExpr w = rows.member_row m g
  row_of kind.Tpl w = rows.template_row m g
  row_of kind.OptChainExpr w = rows.chain_row m g
  row_of kind.ArrayPat w = rows.array_row m g
  row_of kind.ObjectPat w = rows.object_row m g
  row_of kind.RestPat w = rows.rest_row m g
  row_of kind.KeyValuePatProp w = rows.key_value_row m g
  row_of kind.AssignPat w = rows.default_row m g
  row_of kind.ArrowExpr w = rows.arrow_row m g
  row_of kind.Function w = rows.function_row m g
  row_of kind.Constructor w = rows.constructor_row m g
  row_of kind.GetterProp w = rows.getter_row m g
  row_of kind.SetterProp w = rows.setter_row m g
  row_of kind.ClassMethod w = rows.method_row m g
  row_of kind.PrivateMethod w = rows.private_method_row m g
  row_of kind.PrivateProp w = rows.private_property_row m g
  row_of kind.Class w = rows.class_row m g
  row_of kind.FnExpr w = rows.function_expression_row m g
  row_of kind.ClassExpr w = rows.class_expression_row m g
  row_of kind.FnDecl w = more.function_declaration_row m g
  row_of kind.ClassDecl w = more.class_declaration_row m g
  row_of kind.VarDeclarator w = more.declarator_row m g
  row_of kind.VarDecl w = more.variables_row m g
  row_of kind.UsingDecl w = more.using_row m g
  row_of kind.ExprStmt w = more.expression_row m g
  row_of kind.CatchClause w = more.catch_row m g
  row_of kind.WithStmt w = more.with_row m g
  row_of kind.LabeledStmt w = more.labeled_row m g
  row_of kind.IfStmt w = more.if_row m g
  row_of kind.SwitchCase w = more.case_row m g
  row_of kind.WhileStmt w = more.while_row m g
  row_of kind.DoWhileStmt w = more.do_while_row m g
  row_of kind.ForStmt w = more.for_row m g
  row_of kind.ForInStmt w = more.for_in_row m g
  row_of kind.ForOfStmt w = more.for_of_row m g
  row_of kind.ImportDefaultSpecifier w = more.default_import_row m g
  row_of kind.ImportStarAsSpecifier w = more.star_import_row m g
  row_of kind.NamedExport w = more.named_export_row m g
  row_of kind.ExportNamespaceSpecifier w = more.namespace_export_row m g
  row_of kind.ExportDecl w = more.export_row m g
  row_of kind.Module w = more.module_row m g
  row_of kind.Script w = more.script_row m g
  row_of kind.AssignPatProp w = absurd (cc)
  row_of kind.ImportNamedSpecifier w = absurd (cc)
  row_of kind.ExportNamedSpecifier w = absurd (cc)
  row_of kind.TsInterfaceDecl w = λ p ts l f r h. absurd (cc)
  row_of kind.TsTypeAliasDecl w = λ p ts l f r h. absurd (cc)
  row_of kind.TsEnumDecl w = λ p ts l f r h. absurd (cc)
  row_of kind.TsModuleDecl w = λ p ts l f r h. absurd (cc)
  row_of k w = λ p ts l f r. other_le m g p k ts l r

  abbrev Stays : Kind → Type 0
  Stays k = (p : Place) (ts : List Node) → Each (AllKept m) ts → FieldsFit (slots_of k) ts → (r : Round) → Le (sound (Tree k ts) r) (sound (substituted m false p (Tree k ts)) r)

  plain_stays : (k : Kind) → writes_out k ≡ false → Stays k
  plain_stays k w p ts l f r h = ap (λ u. sound u r) (plain_tree m p k ts w) ∙ sound_tree k (fields m p k ts) r ∙ row_of k w p ts l f r (sym (sound_tree k ts r) ∙ h)

  written : (p : Place) (k : Kind) (ts : List Node) (r : Round) → sound (written_out_if k (old_name m p k ts) (fields m p k ts)) r ≡ true → sound (substituted m false p (Tree k ts)) r ≡ true
  written p k ts r h = ap (λ u. sound u r) (tree_is m p k ts) ∙ h

  property_stays : Stays kind.AssignPatProp
  property_stays p (a ∷ x ∷ v ∷ []) l f r h =
      let s = sym (sound_tree kind.AssignPatProp (a ∷ x ∷ v ∷ []) r) ∙ h in
      written p kind.AssignPatProp (a ∷ x ∷ v ∷ []) r
      (written_property (old_name m p kind.AssignPatProp (a ∷ x ∷ v ∷ [])) (substituted m false place.Other a) (substituted m false (within p) x) (substituted m false place.Name v) r
      (plain_same m g (within p) (within_long p) x ∙ plain_target x f.1.0) ((l.1.0 (within p)).sounds r (left _ _ s)) (safe_le m g place.Name v l.1.1.0 (binding r) (right _ _ s)))
  property_stays p [] l f r h = absurd f
  property_stays p (a ∷ []) l f r h = absurd f.1
  property_stays p (a ∷ b ∷ []) l f r h = absurd f.1.1
  property_stays p (a ∷ b ∷ c ∷ d ∷ ts) l f r h = absurd f.1.1.1

  import_stays : Stays kind.ImportNamedSpecifier
  import_stays p (a ∷ x ∷ y ∷ []) l f r h =
      written p kind.ImportNamedSpecifier (a ∷ x ∷ y ∷ []) r
      (written_import (old_name m p kind.ImportNamedSpecifier (a ∷ x ∷ y ∷ [])) (substituted m false place.Other a) (substituted m false place.Name x) (substituted m false place.Other y) r
      (bound_le m g r.strict x place.Name refl (sym (sound_tree kind.ImportNamedSpecifier (a ∷ x ∷ y ∷ []) r) ∙ h)))
  import_stays p [] l f r h = absurd f
  import_stays p (a ∷ []) l f r h = absurd f.1
  import_stays p (a ∷ b ∷ []) l f r h = absurd f.1.1
  import_stays p (a ∷ b ∷ c ∷ d ∷ ts) l f r h = absurd f.1.1.1

  export_stays : Stays kind.ExportNamedSpecifier
  export_stays p (a ∷ x ∷ y ∷ []) l f r h =
      written p kind.ExportNamedSpecifier (a ∷ x ∷ y ∷ []) r
      (written_export (old_name m p kind.ExportNamedSpecifier (a ∷ x ∷ y ∷ [])) (substituted m false place.Other a) (substituted m false (within p) x) (substituted m false place.Other y) r
      ((l.1.0 (within p)).sounds r (sym (sound_tree kind.ExportNamedSpecifier (a ∷ x ∷ y ∷ []) r) ∙ h)))
  export_stays p [] l f r h = absurd f
  export_stays p (a ∷ []) l f r h = absurd f.1
  export_stays p (a ∷ b ∷ []) l f r h = absurd f.1.1
  export_stays p (a ∷ b ∷ c ∷ d ∷ ts) l f r h = absurd f.1.1.1

  tree_stays : (k : Kind) → Stays k
  tree_stays kind.AssignPatProp = property_stays
  tree_stays kind.ImportNamedSpecifier = import_stays
  tree_stays kind.ExportNamedSpecifier = export_stays
  tree_stays k = plain_stays k refl

  abbrev HeadStays : Kind → Type 0
  HeadStays k = (p : Place) (ts : List Node) → Each (AllKept m) ts → FieldsFit (slots_of k) ts → (r : Round) → Le (in_head (Tree k ts) r) (in_head (substituted m false p (Tree k ts)) r)

  plain_head_stays : (k : Kind) → writes_out k ≡ false → HeadStays k
  plain_head_stays k w p ts l f r h = ap (λ u. in_head u r) (plain_tree m p k ts w) ∙ head_tree k (fields m p k ts) r ∙ more.head_row m g p k ts l f r (sym (head_tree k ts r) ∙ h)

  no_head : (k : Kind) (ts : List Node) (r : Round) (b : Bool) → in_head_in (Node-F.Tree k (map of ts)) r ≡ false → in_head (Tree k ts) r ≡ true → b ≡ true
  no_head k ts r b e h = let never : in_head (Tree k ts) r ≡ false = head_tree k ts r ∙ e in absurd (cc)

  head_stays : (k : Kind) → HeadStays k
  head_stays kind.AssignPatProp = λ p ts l f r h. no_head kind.AssignPatProp ts r _ refl h
  head_stays kind.ImportNamedSpecifier = λ p ts l f r h. no_head kind.ImportNamedSpecifier ts r _ refl h
  head_stays kind.ExportNamedSpecifier = λ p ts l f r h. no_head kind.ExportNamedSpecifier ts r _ refl h
  head_stays k = plain_head_stays k refl

  -- ---- the whole

  abbrev KeptWhereItFits : Node → Type 0
  KeptWhereItFits t = (s : Slot) → Fits t s → AllKept m t

  each_all : (s : Slot) (ts : List Node) → Each KeptWhereItFits ts → AllFit s ts → Each (AllKept m) ts
  each_all s [] l f = tt
  each_all s (t ∷ ts) l f = (l.0 s f.0, each_all s ts l.1 f.1)

  each_field : (ss : List Slot) (ts : List Node) → Each KeptWhereItFits ts → FieldsFit ss ts → Each (AllKept m) ts
  each_field [] [] l f = tt
  each_field [] (t ∷ ts) l f = absurd f
  each_field (s ∷ ss) [] l f = absurd f
  each_field (s ∷ ss) (t ∷ ts) l f = (l.0 s f.0, each_field ss ts l.1 f.1)

  each_item : (s : Slot) (ts : List Node) → Each KeptWhereItFits ts → IsTrue (list_fits (map fits ts) s) → Each (AllKept m) ts
  each_item (slot.List c) ts l f = each_all (slot.One c) ts l (all_open (slot.One c) ts f)
  each_item (slot.Holes c) ts l f = each_all (slot.Optional c) ts l (all_open (slot.Optional c) ts f)
  each_item (slot.OptionalList c) ts l f = each_all (slot.One c) ts l (all_open (slot.One c) ts f)
  each_item slot.Pairs ts l f = each_all slot.Pair ts l (all_open slot.Pair ts f)
  each_item slot.Pair ts l f = let texts : List Slot = slot.One content.Text ∷ slot.One content.Text ∷ [] in each_field texts ts l (fields_open texts ts f)
  each_item (slot.One c) ts l f = absurd (cc)
  each_item (slot.Optional c) ts l f = absurd (cc)

  each_sound : (p : Place) (ts : List Node) → Each (AllKept m) ts → Each (λ t. (r : Round) → Le (sound t r) (sound (substituted m false p t) r)) ts
  each_sound p [] l = tt
  each_sound p (t ∷ ts) l = ((l.0 p).sounds, each_sound p ts l.1)

  no_head_list : (ts : List Node) (r : Round) → in_head (Many ts) r ≡ false
  no_head_list ts r = search (rules, the_lemmas)

  list_kept : (ts : List Node) → Each KeptWhereItFits ts → KeptWhereItFits (Many ts)
  list_kept ts l s f p =
      let k = each_item s ts l (sym (fits-List ts s) ∙ f) in
      record {
        sounds = λ r h. ap (λ u. sound u r) (substituted_list m false p ts) ∙ sound_list (items_substituted m false p ts) r ∙ items_sound m g p ts r (each_sound p ts k) (sym (sound_list ts r) ∙ h);
        heads = λ r h. (let never : in_head (Many ts) r ≡ false = no_head_list ts r in absurd (cc));
      }

  tree_kept : (k : Kind) (ts : List Node) → Each KeptWhereItFits ts → KeptWhereItFits (Tree k ts)
  tree_kept k ts l s f p =
      let o = tree_open k ts s f in
      let e = each_field (slots_of k) ts l o.4 in
      record { sounds = tree_stays k p ts e o.4; heads = head_stays k p ts e o.4 }

  leaf_kept : (t : Node) → ((p : Place) → substituted m false p t ≡ t) → KeptWhereItFits t
  leaf_kept t e s f p = record { sounds = λ r. same_le (ap (λ u. sound u r) (e p)); heads = λ r. same_le (ap (λ u. in_head u r) (e p)) }

  kept : (t : Node) → KeptWhereItFits t
  kept t = by_children KeptWhereItFits (
    leaf_kept Absent (λ p. substituted-Absent m false p),
    λ x. leaf_kept (Flag x) (λ p. substituted-Flag m false p x),
    λ w. leaf_kept (Word w) (λ p. substituted-Word m false p w),
    λ x. leaf_kept (Text x) (λ p. substituted-Text m false p x),
    λ s. leaf_kept (Span s) (λ p. substituted-Span m false p s),
    λ k i s f. name_kept k i,
  )
      list_kept tree_kept t

pub writable_stays : WritableStays
writable_stays m s tree answer g f h e = ap is_writable e ∙ (kept m g tree s f place.Other).sounds _ h
