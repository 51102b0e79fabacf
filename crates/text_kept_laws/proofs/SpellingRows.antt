-- What is asked of leaves and of what stands right below a node, where names are given anew.
use Rattle.std.proofs.Common.{◌≡◌, ℕ, zero, suc, Bool, true, false, not, ◌&&◌, ◌||◌, ◌⊎◌, inl, inr, Option, Some, None, List, [], ◌∷◌, refl, sym, ap, ◌∙◌}
use Rattle.std.specs.List.{list_any}
use Rattle.swc_tree_marks.specs.declared.ident.Ident.{Ident}
use Rattle.swc_tree_node.specs.declared.kind.Kind.{Kind}
use Rattle.swc_tree_node.specs.declared.kind.Kind.TheVariants as kind
use Rattle.swc_tree_node.specs.declared.kind.Class.TheVariants as class
use Rattle.swc_tree_node.specs.declared.slot.Content.TheVariants as content
use Rattle.swc_tree_node.specs.declared.slot.Slot.TheVariants as slot
use Rattle.swc_tree_node.specs.declared.node.Node.{Node, Tree, out-Node}
use Rattle.swc_tree_node.specs.declared.node.Node.TheOpen.{Node-F}
use Rattle.swc_tree_node.specs.Parts.{text_of}
use Rattle.swc_tree_node.specs.Table.{slots_of}
use Rattle.swc_tree_node.specs.Fits.{FieldsFit, Fits}
use Rattle.swc_tree_grammar.specs.Shapes.{items_of}
use Rattle.swc_tree_grammar.specs.Levels.{is_absent}
use Rattle.swc_tree_grammar.proofs.Induction.{Each}
use Rattle.swc_base_rename_substitution.specs.declared.place.Place.{Place}
use Rattle.swc_base_rename_substitution.specs.Identifiers.{Changes, with_other}
use Rattle.swc_base_rename_substitution.specs.Substituted.{substituted}
use Rattle.swc_base_rename_substitution.specs.Walk.{each_substituted}
use Rattle.text_words.specs.Words.{is_big_integer, is_hashbang, is_name, is_number, is_reserved}
use Rattle.text_words.specs.Words as words
use Rattle.text_checks.specs.Spelled.{are_bad_flags, fails, fails_there, has_amiss, has_no_value, is_amiss, is_amiss_export, is_amiss_specifier, is_bad_leaf, is_bad_raw, is_bad_regex, is_bad_string, is_bad_template, is_reserved_name, is_valueless}
use Rattle.text_kept_laws.proofs.Fitting.{Fitting, fields_fitting, items_fitting, quiet, tree_fields}
use Rattle.text_kept_laws.proofs.Looks.{Blind, look}
use Rattle.text_kept_laws.proofs.RenamesSeen.{absent_same, items_are, text_same}
use Rattle.text_kept_laws.specs.Spelling.{GivesWords}
use Rattle.text_kept_laws.proofs.Calm.{Calm, both_false, neither, settled}

-- ---- leaves

module _ (m : Changes) (keeps : Bool) where
  abbrev at : Place → Node → Node
  at p t = substituted m keeps p t

  there_same : (p : Place) (q : List ℕ → Bool) (t : Node) → fails_there q (at p t) ≡ fails_there q t
  there_same p q t = ap (λ b. not b && fails q (text_of (at p t))) (absent_same m keeps p t) ∙ ap (λ o. not (is_absent t) && fails q o) (text_same m keeps p t)

  raw_same : (p : Place) (o : Option (List ℕ)) (t : Node) → is_bad_raw o (at p t) ≡ is_bad_raw o t
  raw_same p (Some x) t = there_same p (words.is_string x) t
  raw_same p None t = refl

  string_same : (p q : Place) (v r : Node) → is_bad_string (at p v) (at q r) ≡ is_bad_string v r
  string_same p q v r = ap (λ o. is_bad_raw o (at q r)) (text_same m keeps p v) ∙ raw_same q (text_of v) r

  flags_same : (p : Place) (o : Option (List ℕ)) (t : Node) → are_bad_flags o (at p t) ≡ are_bad_flags o t
  flags_same p (Some x) t = ap (fails (words.is_regex x)) (text_same m keeps p t)
  flags_same p None t = refl

  regex_same : (p q : Place) (x f : Node) → is_bad_regex (at p x) (at q f) ≡ is_bad_regex x f
  regex_same p q x f = ap (λ o. are_bad_flags o (at q f)) (text_same m keeps p x) ∙ flags_same q (text_of x) f

  template_same : (p q : Place) (c r : Node) → is_bad_template (at p c) (at q r) ≡ is_bad_template c r
  template_same p q c r = ap (λ o. fails (words.is_template o) (text_of (at q r))) (text_same m keeps p c) ∙ ap (fails (words.is_template (text_of c))) (text_same m keeps q r)

  pub leaf_row : (ps : ℕ → Place) (k : Kind) (ts : List Node) → is_bad_leaf (Node-F.Tree k (each_substituted m keeps ps ts)) ≡ is_bad_leaf (Node-F.Tree k ts)
  leaf_row ps kind.IdentName [] = refl
  leaf_row ps kind.IdentName (a ∷ []) = refl
  leaf_row ps kind.IdentName (a ∷ b ∷ []) = ap (fails is_name) (text_same m keeps (ps 1) b)
  leaf_row ps kind.IdentName (a ∷ b ∷ c ∷ ts) = refl
  leaf_row ps kind.PrivateName [] = refl
  leaf_row ps kind.PrivateName (a ∷ []) = refl
  leaf_row ps kind.PrivateName (a ∷ b ∷ []) = ap (fails is_name) (text_same m keeps (ps 1) b)
  leaf_row ps kind.PrivateName (a ∷ b ∷ c ∷ ts) = refl
  leaf_row ps kind.Number [] = refl
  leaf_row ps kind.Number (a ∷ []) = refl
  leaf_row ps kind.Number (a ∷ b ∷ []) = ap (fails is_number) (text_same m keeps (ps 1) b)
  leaf_row ps kind.Number (a ∷ b ∷ c ∷ ts) = refl
  leaf_row ps kind.BigInt [] = refl
  leaf_row ps kind.BigInt (a ∷ []) = refl
  leaf_row ps kind.BigInt (a ∷ b ∷ []) = ap (fails is_big_integer) (text_same m keeps (ps 1) b)
  leaf_row ps kind.BigInt (a ∷ b ∷ c ∷ ts) = refl
  leaf_row ps kind.Str [] = refl
  leaf_row ps kind.Str (a ∷ []) = refl
  leaf_row ps kind.Str (a ∷ b ∷ []) = refl
  leaf_row ps kind.Str (a ∷ b ∷ c ∷ []) = string_same (ps 1) (ps 2) b c
  leaf_row ps kind.Str (a ∷ b ∷ c ∷ d ∷ ts) = refl
  leaf_row ps kind.Regex [] = refl
  leaf_row ps kind.Regex (a ∷ []) = refl
  leaf_row ps kind.Regex (a ∷ b ∷ []) = refl
  leaf_row ps kind.Regex (a ∷ b ∷ c ∷ []) = regex_same (ps 1) (ps 2) b c
  leaf_row ps kind.Regex (a ∷ b ∷ c ∷ d ∷ ts) = refl
  leaf_row ps kind.TplElement [] = refl
  leaf_row ps kind.TplElement (a ∷ []) = refl
  leaf_row ps kind.TplElement (a ∷ b ∷ []) = refl
  leaf_row ps kind.TplElement (a ∷ b ∷ c ∷ []) = refl
  leaf_row ps kind.TplElement (a ∷ b ∷ c ∷ d ∷ []) = template_same (ps 2) (ps 3) c d
  leaf_row ps kind.TplElement (a ∷ b ∷ c ∷ d ∷ e ∷ ts) = refl
  leaf_row ps kind.Module [] = refl
  leaf_row ps kind.Module (a ∷ []) = refl
  leaf_row ps kind.Module (a ∷ b ∷ []) = refl
  leaf_row ps kind.Module (a ∷ b ∷ c ∷ []) = there_same (ps 2) is_hashbang c
  leaf_row ps kind.Module (a ∷ b ∷ c ∷ d ∷ ts) = refl
  leaf_row ps kind.Script [] = refl
  leaf_row ps kind.Script (a ∷ []) = refl
  leaf_row ps kind.Script (a ∷ b ∷ []) = refl
  leaf_row ps kind.Script (a ∷ b ∷ c ∷ []) = there_same (ps 2) is_hashbang c
  leaf_row ps kind.Script (a ∷ b ∷ c ∷ d ∷ ts) = refl
  leaf_row ps k ts = refl

-- ---- templates without a value

blind-value : Blind has_no_value false
blind-value = record { names = λ k i. refl; lists = λ us ts. refl; properties = λ us. refl; targets = λ us. refl; shorts = λ us. refl; classes = λ us. refl; declarations = λ us. refl; imports = λ us vs. refl; exports = λ us vs. refl }

module _ (m : Changes) (keeps : Bool) where
  value_row : (ps : ℕ → Place) (k : Kind) (ts : List Node) → has_no_value (Node-F.Tree k (each_substituted m keeps ps ts)) ≡ has_no_value (Node-F.Tree k ts)
  value_row ps kind.TplElement [] = refl
  value_row ps kind.TplElement (a ∷ []) = refl
  value_row ps kind.TplElement (a ∷ b ∷ []) = refl
  value_row ps kind.TplElement (a ∷ b ∷ c ∷ []) = refl
  value_row ps kind.TplElement (a ∷ b ∷ c ∷ d ∷ []) = absent_same m keeps (ps 2) c
  value_row ps kind.TplElement (a ∷ b ∷ c ∷ d ∷ e ∷ ts) = refl
  value_row ps k ts = refl

  pub value_same : (p : Place) (t : Node) → has_no_value (out-Node (substituted m keeps p t)) ≡ has_no_value (out-Node t)
  value_same p t = look has_no_value false blind-value m keeps p (λ k ts. value_row _ k ts) t

  values_same : (ps : ℕ → Place) (ts : List Node) → list_any (λ t. has_no_value (out-Node t)) (each_substituted m keeps ps ts) ≡ list_any (λ t. has_no_value (out-Node t)) ts
  values_same ps [] = refl
  values_same ps (t ∷ ts) = rw (value_same (ps zero) t, values_same (λ i. ps (suc i)) ts) refl

  valueless_row : (ps : ℕ → Place) (k : Kind) (ts : List Node) → FieldsFit (slots_of k) ts → is_valueless (Node-F.Tree k ts) ≡ false → is_valueless (Node-F.Tree k (each_substituted m keeps ps ts)) ≡ false
  valueless_row ps kind.Tpl (a ∷ b ∷ c ∷ []) f h =
      ap (list_any (λ t. has_no_value (out-Node t))) (items_are m keeps (ps 2) c (quiet c (slot.List (content.Node class.TplElement)) refl f.1.1.0))
      ∙ values_same (λ i. ps 2) (items_of c) ∙ h
  valueless_row ps kind.Tpl [] f h = refl
  valueless_row ps kind.Tpl (a ∷ []) f h = refl
  valueless_row ps kind.Tpl (a ∷ b ∷ []) f h = refl
  valueless_row ps kind.Tpl (a ∷ b ∷ c ∷ d ∷ ts) f h = refl
  valueless_row ps k ts f h = refl

calm-valueless : Calm is_valueless
calm-valueless = record { names = λ k i j n h. refl; lists = λ us. refl; properties = λ us. refl; targets = λ us. refl; classes = λ us. refl; declarations = λ us. refl; imports = λ i us h. refl; exports = λ i us h. refl }

-- ---- reserved words

new_unreserved : (k : Kind) (i j : Ident) → (j.sym ≡ i.sym) ⊎ ((is_name j.sym ≡ true) × (is_reserved j.sym ≡ false)) → is_reserved i.sym ≡ false → is_reserved j.sym ≡ false
new_unreserved k i j (inl e) h = ap is_reserved e ∙ h
new_unreserved k i j (inr w) h = w.1

calm-reserved : Calm is_reserved_name
calm-reserved = record { names = new_unreserved; lists = λ us. refl; properties = λ us. refl; targets = λ us. refl; classes = λ us. refl; declarations = λ us. refl; imports = λ i us h. refl; exports = λ i us h. refl }

module _ (m : Changes) (gives : GivesWords m) (keeps : Bool) where
  reserved_calm : (t : Node) (p : Place) → is_reserved_name (out-Node t) ≡ false → is_reserved_name (out-Node (substituted m keeps p t)) ≡ false
  reserved_calm t p h = settled m gives is_reserved_name calm-reserved keeps (λ t. Unit {0}) (λ ps k ts w h. refl) t p tt h

  valueless_calm : (t : Node) (p : Place) → Fitting t → is_valueless (out-Node t) ≡ false → is_valueless (out-Node (substituted m keeps p t)) ≡ false
  valueless_calm t p w h = settled m gives is_valueless calm-valueless keeps Fitting (λ ps k ts w h. valueless_row m keeps ps k ts (tree_fields k ts w) h) t p w h

  -- a child that may stand there still may
  pub calm : (p : Place) (t : Node) → Fitting t → is_amiss t ≡ false → is_amiss (substituted m keeps p t) ≡ false
  calm p t w h =
      let n = neither (is_reserved_name (out-Node t)) (is_valueless (out-Node t)) h in
      both_false (is_reserved_name (out-Node (substituted m keeps p t))) (is_valueless (out-Node (substituted m keeps p t))) (reserved_calm t p n.0) (valueless_calm t p w n.1)

  calm_each : (ps : ℕ → Place) (ts : List Node) → Each Fitting ts → list_any is_amiss ts ≡ false → list_any is_amiss (each_substituted m keeps ps ts) ≡ false
  calm_each ps [] w h = refl
  calm_each ps (t ∷ ts) w h =
      let n = neither (is_amiss t) (list_any is_amiss ts) h in
      both_false (is_amiss (substituted m keeps (ps zero) t)) (list_any is_amiss (each_substituted m keeps (λ i. ps (suc i)) ts)) (calm (ps zero) t w.0 n.0) (calm_each (λ i. ps (suc i)) ts w.1 n.1)

  -- ---- export lists

  specifier_row : (ps : ℕ → Place) (k : Kind) (ts : List Node) → FieldsFit (slots_of k) ts → is_amiss_specifier (Node-F.Tree k ts) ≡ false → is_amiss_specifier (Node-F.Tree k (each_substituted m keeps ps ts)) ≡ false
  specifier_row ps kind.ExportNamedSpecifier (a ∷ b ∷ c ∷ []) f h = calm (ps 1) b (slot.One (content.Node class.ModuleExportName), f.1.0) h
  specifier_row ps kind.ExportNamedSpecifier [] f h = refl
  specifier_row ps kind.ExportNamedSpecifier (a ∷ []) f h = refl
  specifier_row ps kind.ExportNamedSpecifier (a ∷ b ∷ []) f h = refl
  specifier_row ps kind.ExportNamedSpecifier (a ∷ b ∷ c ∷ d ∷ ts) f h = refl
  specifier_row ps k ts f h = refl

  other_calm : (i : Ident) (us : List Node) → is_amiss_specifier (Node-F.Tree kind.ExportNamedSpecifier us) ≡ false → is_amiss_specifier (Node-F.Tree kind.ExportNamedSpecifier (with_other i us)) ≡ false
  other_calm i [] h = h
  other_calm i (a ∷ []) h = h
  other_calm i (a ∷ b ∷ []) h = h
  other_calm i (a ∷ b ∷ c ∷ []) h = h
  other_calm i (a ∷ b ∷ c ∷ d ∷ us) h = h

  calm-specifier : Calm is_amiss_specifier
  calm-specifier = record { names = λ k i j n h. refl; lists = λ us. refl; properties = λ us. refl; targets = λ us. refl; classes = λ us. refl; declarations = λ us. refl; imports = λ i us h. refl; exports = other_calm }

  pub specifier_calm : (p : Place) (t : Node) → Fitting t → is_amiss_specifier (out-Node t) ≡ false → is_amiss_specifier (out-Node (substituted m keeps p t)) ≡ false
  specifier_calm p t w h = settled m gives is_amiss_specifier calm-specifier keeps Fitting (λ ps k ts w h. specifier_row ps k ts (tree_fields k ts w) h) t p w h

  specifiers_calm : (ps : ℕ → Place) (ts : List Node) → Each Fitting ts → list_any (λ t. is_amiss_specifier (out-Node t)) ts ≡ false → list_any (λ t. is_amiss_specifier (out-Node t)) (each_substituted m keeps ps ts) ≡ false
  specifiers_calm ps [] w h = refl
  specifiers_calm ps (t ∷ ts) w h =
      let n = neither (is_amiss_specifier (out-Node t)) (list_any (λ t. is_amiss_specifier (out-Node t)) ts) h in
      both_false (is_amiss_specifier (out-Node (substituted m keeps (ps zero) t))) (list_any (λ t. is_amiss_specifier (out-Node t)) (each_substituted m keeps (λ i. ps (suc i)) ts))
      (specifier_calm (ps zero) t w.0 n.0) (specifiers_calm (λ i. ps (suc i)) ts w.1 n.1)

  export_calm : (p q : Place) (b c : Node) → Fits b (slot.List (content.Node class.ExportSpecifier)) → is_amiss_export b c ≡ false → is_amiss_export (substituted m keeps p b) (substituted m keeps q c) ≡ false
  export_calm p q b c f h = ap (λ x. x && list_any (λ t. is_amiss_specifier (out-Node t)) (items_of (substituted m keeps p b))) (absent_same m keeps q c) ∙ by (is_absent c) h
    where
      by : (x : Bool) → (x && list_any (λ t. is_amiss_specifier (out-Node t)) (items_of b)) ≡ false → (x && list_any (λ t. is_amiss_specifier (out-Node t)) (items_of (substituted m keeps p b))) ≡ false
      by false h = refl
      by true h =
          ap (list_any (λ t. is_amiss_specifier (out-Node t))) (items_are m keeps p b (quiet b (slot.List (content.Node class.ExportSpecifier)) refl f))
          ∙ specifiers_calm (λ i. p) (items_of b) (items_fitting b (slot.List (content.Node class.ExportSpecifier)) f) h

  pub amiss_row : (ps : ℕ → Place) (k : Kind) (ts : List Node) → FieldsFit (slots_of k) ts → has_amiss (Node-F.Tree k ts) ≡ false → has_amiss (Node-F.Tree k (each_substituted m keeps ps ts)) ≡ false
  amiss_row ps kind.ImportNamedSpecifier (a ∷ b ∷ c ∷ []) f h = calm (ps 1) b (slot.One (content.Node class.Ident), f.1.0) h
  amiss_row ps kind.ImportNamedSpecifier [] f h = absurd f
  amiss_row ps kind.ImportNamedSpecifier (a ∷ []) f h = absurd f.1
  amiss_row ps kind.ImportNamedSpecifier (a ∷ b ∷ []) f h = absurd f.1.1
  amiss_row ps kind.ImportNamedSpecifier (a ∷ b ∷ c ∷ d ∷ ts) f h = absurd f.1.1.1
  amiss_row ps kind.ExportNamedSpecifier ts f h = refl
  amiss_row ps kind.ExportNamespaceSpecifier ts f h = refl
  amiss_row ps kind.NamedExport (a ∷ b ∷ c ∷ d ∷ []) f h = export_calm (ps 1) (ps 2) b c f.1.0 h
  amiss_row ps kind.NamedExport [] f h = absurd f
  amiss_row ps kind.NamedExport (a ∷ []) f h = absurd f.1
  amiss_row ps kind.NamedExport (a ∷ b ∷ []) f h = absurd f.1.1
  amiss_row ps kind.NamedExport (a ∷ b ∷ c ∷ []) f h = absurd f.1.1.1
  amiss_row ps kind.NamedExport (a ∷ b ∷ c ∷ d ∷ e ∷ ts) f h = absurd f.1.1.1.1
  amiss_row ps kind.TaggedTpl (a ∷ b ∷ c ∷ []) f h = calm (ps 1) b (slot.One (content.Node class.Expr), f.1.0) h
  amiss_row ps kind.TaggedTpl [] f h = absurd f
  amiss_row ps kind.TaggedTpl (a ∷ []) f h = absurd f.1
  amiss_row ps kind.TaggedTpl (a ∷ b ∷ []) f h = absurd f.1.1
  amiss_row ps kind.TaggedTpl (a ∷ b ∷ c ∷ d ∷ ts) f h = absurd f.1.1.1
  amiss_row ps k ts f h = calm_each ps ts (fields_fitting (slots_of k) ts f) h
