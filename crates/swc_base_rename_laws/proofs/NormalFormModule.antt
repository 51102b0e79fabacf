-- Modules stand beside what they become.
use Rattle.std.proofs.Common.{◌≡◌, ◌⊎◌, Bool, true, false, not, ◌&&◌, ◌||◌, IsTrue, Some, None, List, [], ◌∷◌, ◌++◌, nat_eq, refl, sym, ap, ◌∙◌, subst, inl, inr}
use Rattle.std.specs.Prelude.{if◌then◌else◌, is_some}
use Rattle.std.specs.Cmp.{unsigned_Decides}
use Rattle.std.specs.Cmp.Lexicographic.{pointwise, pointwise_decides}
use Rattle.std.specs.List.{list_all, list_any}
use Rattle.swc_tree_marks.specs.declared.ident.Ident.{Ident}
use Rattle.swc_tree_node.specs.declared.kind.Kind.{Kind}
use Rattle.swc_tree_node.specs.declared.kind.Kind.TheVariants as kind
use Rattle.swc_tree_node.specs.declared.kind.Class.{Class}
use Rattle.swc_tree_node.specs.declared.kind.Class.TheVariants as class
use Rattle.swc_tree_node.specs.declared.slot.Content.TheVariants as content
use Rattle.swc_tree_node.specs.declared.slot.Slot.{Slot}
use Rattle.swc_tree_node.specs.declared.slot.Slot.TheVariants as slot
use Rattle.swc_tree_node.specs.declared.node.Node.{Node, Absent, List as Many, Identifier, Tree, out-Node}
use Rattle.swc_tree_node.specs.declared.node.Node.TheVariants.{outs-Absent, outs-Tree}
use Rattle.swc_tree_node.specs.declared.node.Node.TheOpen.{Node-F}
use Rattle.swc_tree_node.specs.Table.{is_identifier, slots_of}
use Rattle.swc_tree_node.specs.Fits.{AllFit, belongs, FieldsFit, Fits}
use Rattle.swc_tree_node.proofs.Fit.{fits-Absent, fits-Flag, fits-Identifier, fits-List, fits-Span, fits-Text, fits-Word, both}
use Rattle.swc_tree_scoping.specs.BoundNames.{Id, declared_ids}
use Rattle.swc_tree_scoping.specs.Places.{absent_in}
use Rattle.swc_tree_grammar.proofs.Induction.{Each, by_children}
use Rattle.swc_tree_grammar.proofs.Items.{listed}
use Rattle.swc_tree_grammar.proofs.Places.{stands}
use Rattle.swc_base_rename_substitution.specs.declared.place.Place.{Place}
use Rattle.swc_base_rename_substitution.specs.declared.place.Place.TheVariants as place
use Rattle.swc_base_rename_substitution.specs.Names.{same_id as same_ids}
use Rattle.swc_base_rename_substitution.specs.Identifiers.{Changes, changed, identifier_at, identifier_in, written_out_if}
use Rattle.swc_base_rename_substitution.specs.Exports.{declaration_in, distinct, export_list, exported_ids, exported_in, exports_of, items_for, with_exports, without}
use Rattle.swc_base_rename_substitution.specs.Substituted.{if_changed, substituted}
use Rattle.swc_base_rename_substitution.specs.Walk.{items_substituted}
use Rattle.swc_base_rename_substitution.proofs.Equations.{substituted-Absent, substituted_identifier, substituted_list}
use Rattle.swc_base_rename_laws.proofs.NormalFormPairs.{All, Becomes, Fields, Items, Spot, Trees, part, spots, specifier}
use Rattle.swc_base_rename_laws.proofs.NormalFormTable.{allowed, fields, plain_tree, tree_is}
use Rattle.swc_base_fixer_laws.specs.Lower.swc_tree_grammar_laws.proofs.Every.{every_tree}
use Rattle.swc_base_fixer_laws.proofs.NoNamespaces.{is_free, is_other_in, quiet_fields_free, quiet_is_free, quiet_items_free}
use Rattle.swc_base_rename_laws.proofs.NormalFormFits.{Given, Named, One, Whole, absent_or, all_begin, begins, double_by, fields_at, first_of, given, item_alone, item_begins, name_there, plain_one, spaceless, span_at, to, tree_of}
use Rattle.swc_base_rename_laws.proofs.Impossible.{impossible}

-- ---- names that change, each once

same_name : (m : Changes) (x y : Id) → same_ids y x ≡ true → is_some (m y) ≡ is_some (m x)
same_name m x y e = ap (λ z. is_some (m z)) (ids_equal (both_left _ _ e) (both_right _ _ e))
  where
    both_left : (a b : Bool) → (a && b) ≡ true → a ≡ true
    both_left true b h = refl
    both_left false b h = h

    both_right : (a b : Bool) → (a && b) ≡ true → b ≡ true
    both_right true b h = h
    both_right false b h = absurd (cc)

    ids_equal : pointwise nat_eq y.0 x.0 ≡ true → pointwise nat_eq y.1 x.1 ≡ true → y ≡ x
    ids_equal e f = λ i. ((pointwise_decides unsigned_Decides y.0 x.0).0 e i, (pointwise_decides unsigned_Decides y.1 x.1).0 f i)

any_step : (m : Changes) (x y : Id) (ys : List Id) (b : Bool) → is_some (m x) ≡ false → same_ids y x ≡ b → list_any (λ z. is_some (m z)) (without x ys) ≡ list_any (λ z. is_some (m z)) ys
    → list_any (λ z. is_some (m z)) (if b then without x ys else y ∷ without x ys) ≡ (is_some (m y) || list_any (λ z. is_some (m z)) ys)
any_step m x y ys true n e h = h ∙ ap (λ b. b || list_any (λ z. is_some (m z)) ys) (sym (same_name m x y e ∙ n))
any_step m x y ys false n e h = ap (λ b. is_some (m y) || b) h

any_without : (m : Changes) (x : Id) (ys : List Id) → is_some (m x) ≡ false → list_any (λ z. is_some (m z)) (without x ys) ≡ list_any (λ z. is_some (m z)) ys
any_without m x [] n = refl
any_without m x (y ∷ ys) n = any_step m x y ys (same_ids y x) n refl (any_without m x ys n)

any_first : (m : Changes) (x : Id) (xs : List Id) (b : Bool) → is_some (m x) ≡ b → list_any (λ z. is_some (m z)) (distinct xs) ≡ list_any (λ z. is_some (m z)) xs
    → (b || list_any (λ z. is_some (m z)) (without x (distinct xs))) ≡ (b || list_any (λ z. is_some (m z)) xs)
any_first m x xs true n h = refl
any_first m x xs false n h = any_without m x (distinct xs) n ∙ h

pub any_distinct : (m : Changes) (xs : List Id) → list_any (λ z. is_some (m z)) (distinct xs) ≡ list_any (λ z. is_some (m z)) xs
any_distinct m [] = refl
any_distinct m (x ∷ xs) = any_first m x xs (is_some (m x)) refl (any_distinct m xs)

-- ---- trees, where a class takes no identifier

abbrev pub Treed : Node → Class → Type 0
Treed t c = (k : Kind) × (ts : List Node) × (t ≡ Tree k ts) × IsTrue (not (is_identifier k)) × IsTrue (belongs k c) × FieldsFit (slots_of k) ts

treed : (c : Class) (k : Kind) (ts : List Node) → Fits (Tree k ts) (slot.One (content.Node c)) → Treed (Tree k ts) c
treed c k ts h =
    let w = stands k ts (slot.One (content.Node c)) h in
    let same : c ≡ w.in_class = let p = w.place in cc in
    (k, ts, refl, w.no_identifier, subst (λ c. IsTrue (belongs k c)) (sym same) w.belonging, w.fields)

either_one : (c : Class) (t : Node) → Fits t (slot.One (content.Node c)) → Named t c ⊎ Treed t c
either_one c t = by_children (λ t. Fits t (slot.One (content.Node c)) → Named t c ⊎ Treed t c) (
  λ h. absurd (cc (sym (fits-Absent (slot.One (content.Node c))) ∙ h)),
  λ x h. absurd (cc (sym (fits-Flag x (slot.One (content.Node c))) ∙ h)),
  λ x h. absurd (cc (sym (fits-Word x (slot.One (content.Node c))) ∙ h)),
  λ x h. absurd (cc (sym (fits-Text x (slot.One (content.Node c))) ∙ h)),
  λ x h. absurd (cc (sym (fits-Span x (slot.One (content.Node c))) ∙ h)),
  λ k i h. inl (k, i, refl, (both (is_identifier k) (belongs k c) (rw (← fits-Identifier k i (slot.One (content.Node c))) h)).1),
)
    (λ ts l h. absurd (cc (sym (fits-List ts (slot.One (content.Node c))) ∙ h)))
    (λ k ts l h. inr (treed c k ts h)) t

-- an identifier's kind, of which the class takes none
no_names : (c : Class) → belongs kind.Ident c ≡ false → belongs kind.BindingIdent c ≡ false → (t : Node) (k : Kind) (i : Ident) → Fits (Identifier k i) (slot.One (content.Node c)) → ⊥
no_names c e f t k i h = let b = both (is_identifier k) (belongs k c) (rw (← fits-Identifier k i (slot.One (content.Node c))) h) in by k b.0 b.1
  where
    by : (k : Kind) → IsTrue (is_identifier k) → IsTrue (belongs k c) → ⊥
    by kind.Ident g h = impossible (sym e ∙ h)
    by kind.BindingIdent g h = impossible (sym f ∙ h)
    by k g h = impossible g

pub tree_only : (c : Class) → belongs kind.Ident c ≡ false → belongs kind.BindingIdent c ≡ false → (t : Node) → Fits t (slot.One (content.Node c)) → Treed t c
tree_only c e f t h = by (either_one c t h)
  where
    by : Named t c ⊎ Treed t c → Treed t c
    by (inl n) = absurd (no_names c e f t n.0 n.1 (subst (λ t. Fits t (slot.One (content.Node c))) n.2 h))
    by (inr x) = x

-- the name of an export is an identifier or a string
is_string : (k : Kind) → IsTrue (not (is_identifier k)) → IsTrue (belongs k class.ModuleExportName) → k ≡ kind.Str
is_string kind.Str h g = refl
is_string kind.Ident h g = impossible h
is_string k h g = impossible g

is_source : (k : Kind) → IsTrue (belongs k class.Str) → k ≡ kind.Str
is_source kind.Str h = refl
is_source k h = impossible h

abbrev Quoted : Node → Type 0
Quoted t = (xs : List Node) × (t ≡ Tree kind.Str xs) × FieldsFit (slots_of kind.Str) xs

quoted : (k : Kind) (xs : List Node) (t : Node) → k ≡ kind.Str → t ≡ Tree k xs → FieldsFit (slots_of k) xs → Quoted t
quoted k xs t e is f = (xs, is ∙ ap (λ k. Tree k xs) e, subst (λ k. FieldsFit (slots_of k) xs) e f)

export_name : (t : Node) → Fits t (slot.One (content.Node class.ModuleExportName)) → Named t class.ModuleExportName ⊎ Quoted t
export_name t h = by (either_one class.ModuleExportName t h)
  where
    by : Named t class.ModuleExportName ⊎ Treed t class.ModuleExportName → Named t class.ModuleExportName ⊎ Quoted t
    by (inl n) = inl n
    by (inr x) = inr (quoted x.0 x.1 t (is_string x.0 x.3 x.4) x.2 x.5)

source_name : (t : Node) → Fits t (slot.One (content.Node class.Str)) → Quoted t
source_name t h = let x = tree_only class.Str refl refl t h in quoted x.0 x.1 t (is_source x.0 x.4) x.2 x.5

-- ---- export lists

module _ (m : Changes) (declared : Node → List Id) where
  abbrev B : Bool → Spot → Node → Node → Type 0
  B = Becomes m declared

  every : (ts : List Node) → list_all is_free ts ≡ true → Each (Whole m declared) ts
  every [] v = tt
  every (t ∷ ts) v = let p = both (is_free t) (list_all is_free ts) v in (begins m declared t p.0, every ts p.1)

  firsts : (ts : List Node) → list_all is_free ts ≡ true → Each (One m declared) ts
  firsts ts v = first_of m declared ts (every ts v)

  free_span : (a : Node) → Fits a (slot.One content.Span) → is_free a ≡ true
  free_span a f = quiet_is_free a (slot.One content.Span) refl f

  span_stays : (a : Node) → Fits a (slot.One content.Span) → B true (part false) a (substituted m false place.Other a)
  span_stays a f = span_at m declared place.Other a refl refl (begins m declared a (free_span a f)).0.0 f

  string_fields : (p : Place) (xs : List Node) → FieldsFit (slots_of kind.Str) xs → Fields m declared (spots false kind.Str) xs (fields m p kind.Str xs)
  string_fields place.Name xs f = fields_at m declared place.Name true kind.Str xs refl refl refl refl f (every xs (quiet_fields_free (slots_of kind.Str) xs refl f))
  string_fields place.Shorthand xs f = fields_at m declared place.Shorthand true kind.Str xs refl refl refl refl f (every xs (quiet_fields_free (slots_of kind.Str) xs refl f))
  string_fields place.ClassName xs f = fields_at m declared place.ClassName true kind.Str xs refl refl refl refl f (every xs (quiet_fields_free (slots_of kind.Str) xs refl f))
  string_fields place.Exported xs f = fields_at m declared place.Exported false kind.Str xs refl refl refl refl f (every xs (quiet_fields_free (slots_of kind.Str) xs refl f))
  string_fields place.Other xs f = fields_at m declared place.Other false kind.Str xs refl refl refl refl f (every xs (quiet_fields_free (slots_of kind.Str) xs refl f))

  string_at : (s : Bool) (p : Place) (xs : List Node) → FieldsFit (slots_of kind.Str) xs → B true (part s) (Tree kind.Str xs) (substituted m false p (Tree kind.Str xs))
  string_at s p xs f = plain_one m declared true (part s) p kind.Str xs _ refl refl (Trees.even (part s) kind.Str xs _ refl (string_fields p xs f))

  other_at : (v : Node) → Fits v (slot.Optional (content.Node class.ModuleExportName)) → Given m declared false v (substituted m false place.Other v)
  other_at v f = given m declared place.Other false class.ModuleExportName v refl refl refl (begins m declared v (quiet_is_free v (slot.Optional (content.Node class.ModuleExportName)) refl f)).0.0 f

  named_export : (a : Node) (l : Kind) (i : Ident) (v : Node) → Fits a (slot.One content.Span) → Fits v (slot.Optional (content.Node class.ModuleExportName))
      → B true specifier (Tree kind.ExportNamedSpecifier (a ∷ Identifier l i ∷ v ∷ [])) (substituted m false place.Name (Tree kind.ExportNamedSpecifier (a ∷ Identifier l i ∷ v ∷ [])))
  named_export a l i v f g =
      to m declared true specifier _ _ _
      (tree_is m place.Name kind.ExportNamedSpecifier (a ∷ Identifier l i ∷ v ∷ [])
      ∙ (λ x. written_out_if kind.ExportNamedSpecifier (if_changed m place.Name (name_there m declared l i a (v ∷ []) x))
      (substituted m false place.Other a ∷ substituted_identifier m false place.Name l i x ∷ substituted m false place.Other v ∷ [])))
      (double_by m declared true specifier kind.ExportNamedSpecifier l a _ i v _ (changed m place.Name i) refl (λ j us. refl) refl (span_stays a f) (other_at v g))

  no_name : (xs : List Node) (a : Node) (ts : List Node) → identifier_at (a ∷ Tree kind.Str xs ∷ ts) 1 ≡ None
  no_name xs a ts = ap identifier_in (outs-Tree kind.Str xs)

  string_by : (a : Node) (xs : List Node) (v u : Node) → Fits a (slot.One content.Span) → FieldsFit (slots_of kind.Str) xs → Given m declared false v u
      → B true specifier (Tree kind.ExportNamedSpecifier (a ∷ Tree kind.Str xs ∷ v ∷ []))
      (Tree kind.ExportNamedSpecifier (substituted m false place.Other a ∷ substituted m false place.Name (Tree kind.Str xs) ∷ u ∷ []))
  string_by a xs v u f g (inl x) =
      subst (λ u. B true specifier (Tree kind.ExportNamedSpecifier (a ∷ Tree kind.Str xs ∷ v ∷ [])) (Tree kind.ExportNamedSpecifier (substituted m false place.Other a ∷ substituted m false place.Name (Tree kind.Str xs) ∷ u ∷ []))) (sym x.1)
      (subst (λ v. B true specifier (Tree kind.ExportNamedSpecifier (a ∷ Tree kind.Str xs ∷ v ∷ [])) (Tree kind.ExportNamedSpecifier (substituted m false place.Other a ∷ substituted m false place.Name (Tree kind.Str xs) ∷ Absent ∷ []))) (sym x.0)
      (Becomes.tree true specifier _ _ _ _ (Trees.one_stays specifier kind.ExportNamedSpecifier a _ _ _ refl (span_stays a f) (string_at true place.Name xs g) (string_at false place.Name xs g))))
  string_by a xs v u f g (inr x) =
      Becomes.tree true specifier _ _ _ _ (Trees.both_names specifier kind.ExportNamedSpecifier a _ _ _ v u refl (span_stays a f) (string_at true place.Name xs g) x)

  string_export : (a : Node) (xs : List Node) (v : Node) → Fits a (slot.One content.Span) → FieldsFit (slots_of kind.Str) xs → Fits v (slot.Optional (content.Node class.ModuleExportName))
      → B true specifier (Tree kind.ExportNamedSpecifier (a ∷ Tree kind.Str xs ∷ v ∷ [])) (substituted m false place.Name (Tree kind.ExportNamedSpecifier (a ∷ Tree kind.Str xs ∷ v ∷ [])))
  string_export a xs v f g h =
      to m declared true specifier _ _ _
      (tree_is m place.Name kind.ExportNamedSpecifier (a ∷ Tree kind.Str xs ∷ v ∷ [])
      ∙ ap (λ o. written_out_if kind.ExportNamedSpecifier (if_changed m place.Name o) (fields m place.Name kind.ExportNamedSpecifier (a ∷ Tree kind.Str xs ∷ v ∷ []))) (no_name xs a (v ∷ [])))
      (string_by a xs v _ f g (other_at v h))

  abbrev Specified : Node → Type 0
  Specified t = B true specifier t (substituted m false place.Name t)

  export_of : (a o v : Node) → Fits a (slot.One content.Span) → Fits v (slot.Optional (content.Node class.ModuleExportName)) → Named o class.ModuleExportName ⊎ Quoted o
      → Specified (Tree kind.ExportNamedSpecifier (a ∷ o ∷ v ∷ []))
  export_of a o v f g (inl n) = subst (λ o. Specified (Tree kind.ExportNamedSpecifier (a ∷ o ∷ v ∷ []))) (sym n.2) (named_export a n.0 n.1 v f g)
  export_of a o v f g (inr q) = subst (λ o. Specified (Tree kind.ExportNamedSpecifier (a ∷ o ∷ v ∷ []))) (sym q.1) (string_export a q.0 v f q.2 g)

  specifier_of : (k : Kind) (ts : List Node) → IsTrue (belongs k class.ExportSpecifier) → FieldsFit (slots_of k) ts → Specified (Tree k ts)
  specifier_of kind.ExportNamespaceSpecifier ts b f =
      plain_one m declared true specifier place.Name kind.ExportNamespaceSpecifier ts _ refl refl
      (Trees.even specifier kind.ExportNamespaceSpecifier ts _ refl (fields_at m declared place.Name true kind.ExportNamespaceSpecifier ts refl refl refl refl f (every ts (quiet_fields_free (slots_of kind.ExportNamespaceSpecifier) ts refl f))))
  specifier_of kind.ExportNamedSpecifier [] b f = absurd f
  specifier_of kind.ExportNamedSpecifier (x ∷ []) b f = absurd f.1
  specifier_of kind.ExportNamedSpecifier (x ∷ y ∷ []) b f = absurd f.1.1
  specifier_of kind.ExportNamedSpecifier (x ∷ y ∷ z ∷ t ∷ ts) b f = absurd f.1.1.1
  specifier_of kind.ExportNamedSpecifier (x ∷ y ∷ z ∷ []) b f = export_of x y z f.0 f.1.1.0 (export_name y f.1.0)
  specifier_of k ts b f = impossible b

  abbrev specs : Slot
  specs = slot.One (content.Node class.ExportSpecifier)

  specified : (t : Node) → Fits t specs → Specified t
  specified t f = let x = tree_only class.ExportSpecifier refl refl t f in subst Specified (sym x.2) (specifier_of x.0 x.1 x.4 x.5)

  all_specified : (ts : List Node) → AllFit specs ts → All m declared true specifier ts (items_substituted m false place.Name ts)
  all_specified [] f = All.none true specifier
  all_specified (t ∷ ts) f = item_begins m declared specs place.Name false true t ts _ specifier refl f.0 (specified t f.0) (all_specified ts f.1)

  abbrev Stays : Node → Type 0
  Stays t = B true (part false) t (substituted m false place.Other t)

  -- the place of the names of an export list
  abbrev names_at : Node → Place
  names_at src = if not (absent_in (out-Node src)) then place.Other else place.Name

  attributes : (d : Node) → Fits d slot.Pairs → B false (part false) d (substituted m false place.Other d)
  attributes d f = (begins m declared d (quiet_is_free d slot.Pairs refl f)).0.0 slot.Pairs place.Other false refl refl refl f

  exports_by : (a : Node) (ts : List Node) (src d : Node) → Fits a (slot.One content.Span) → AllFit specs ts → Fits d slot.Pairs → (src ≡ Absent) ⊎ Fits src (slot.One (content.Node class.Str))
      → Stays (Tree kind.NamedExport (a ∷ Many ts ∷ src ∷ d ∷ []))
  exports_by a ts src d f g h (inl e) =
      subst (λ src. Stays (Tree kind.NamedExport (a ∷ Many ts ∷ src ∷ d ∷ []))) (sym e)
      (to m declared true (part false) _ _ _
      (plain_tree m place.Other kind.NamedExport (a ∷ Many ts ∷ Absent ∷ d ∷ []) refl
      ∙ ap (λ y. Tree kind.NamedExport (substituted m false place.Other a ∷ substituted m false (if not (absent_in y) then place.Other else place.Name) (Many ts) ∷ substituted m false place.Other Absent ∷ substituted m false place.Other d ∷ [])) outs-Absent
      ∙ (λ i. Tree kind.NamedExport (substituted m false place.Other a ∷ substituted_list m false place.Name ts i ∷ substituted-Absent m false place.Other i ∷ substituted m false place.Other d ∷ [])))
      (Becomes.tree true (part false) _ _ _ _ (Trees.exports false a _ ts _ d _ (span_stays a f) (all_specified ts g) (attributes d h))))
  exports_by a ts src d f g h (inr s) =
      let (xs, e, k) = source_name src s in
      subst (λ src. Stays (Tree kind.NamedExport (a ∷ Many ts ∷ src ∷ d ∷ []))) (sym e)
      (to m declared true (part false) _ _ _
      (plain_tree m place.Other kind.NamedExport (a ∷ Many ts ∷ Tree kind.Str xs ∷ d ∷ []) refl
      ∙ ap (λ y. Tree kind.NamedExport (substituted m false place.Other a ∷ substituted m false (if not (absent_in y) then place.Other else place.Name) (Many ts) ∷ substituted m false place.Other (Tree kind.Str xs) ∷ substituted m false place.Other d ∷ [])) (outs-Tree kind.Str xs)
      ∙ (λ i. Tree kind.NamedExport (substituted m false place.Other a ∷ substituted_list m false place.Other ts i ∷ plain_tree m place.Other kind.Str xs refl i ∷ substituted m false place.Other d ∷ [])))
      (Becomes.tree true (part false) _ _ _ _
      (Trees.reexports false a _ ts _ xs _ d _ (span_stays a f) (all_begin m declared specs place.Other false ts refl refl refl (firsts ts (quiet_items_free specs ts refl g)) g) (string_fields place.Other xs k) (attributes d h))))

  exports_of_fields : (ts : List Node) → FieldsFit (slots_of kind.NamedExport) ts → Stays (Tree kind.NamedExport ts)
  exports_of_fields [] f = absurd f
  exports_of_fields (a ∷ []) f = absurd f.1
  exports_of_fields (a ∷ b ∷ []) f = absurd f.1.1
  exports_of_fields (a ∷ b ∷ c ∷ []) f = absurd f.1.1.1
  exports_of_fields (a ∷ b ∷ c ∷ d ∷ e ∷ ts) f = absurd f.1.1.1.1
  exports_of_fields (a ∷ b ∷ c ∷ d ∷ []) f =
      let l = listed b (content.Node class.ExportSpecifier) f.1.0 in
      subst (λ b. Stays (Tree kind.NamedExport (a ∷ b ∷ c ∷ d ∷ []))) (sym l.is) (exports_by a l.items c d f.0 l.fit f.1.1.1.0 (absent_or (content.Node class.Str) c f.1.1.0))

  -- ---- exported declarations

  abbrev changes : List Id → Bool
  changes xs = list_any (λ x. is_some (m x)) xs

  exported_by : (b : Bool) (a c d e : Node) (ts us : List Node) → changes (distinct (declared d)) ≡ b → B true (part false) a c → B true (part false) d e → Items m declared ts us
      → Items m declared (Tree kind.ExportDecl (a ∷ d ∷ []) ∷ ts)
      (with_exports (Tree kind.ExportDecl (c ∷ e ∷ [])) (if b then Some (export_list m (distinct (declared d))) else None) ++ us)
  exported_by true a c d e ts us n h k l =
      subst (λ t. Items m declared (Tree kind.ExportDecl (a ∷ d ∷ []) ∷ ts) (t ∷ export_list m (distinct (declared d)) ∷ us))
      (sym (ap (declaration_in (Tree kind.ExportDecl (c ∷ e ∷ []))) (outs-Tree kind.ExportDecl (c ∷ e ∷ [])))) (Items.split a d e ts us k l)
  exported_by false a c d e ts us n h k l = Items.whole a c d e ts us h k (sym (any_distinct m (declared d)) ∙ n) l

  exported_item : (a d : Node) (ts us : List Node) → is_free d ≡ true → Fits a (slot.One content.Span) → Fits d (slot.One (content.Node class.Decl)) → declared d ≡ declared_ids d → Items m declared ts us
      → Items m declared (Tree kind.ExportDecl (a ∷ d ∷ []) ∷ ts) (items_for m (Tree kind.ExportDecl (a ∷ d ∷ [])) (substituted m false place.Other (Tree kind.ExportDecl (a ∷ d ∷ []))) ++ us)
  exported_item a d ts us v f g same l =
      let t = Tree kind.ExportDecl (a ∷ d ∷ []) in
      let ids : exported_ids t ≡ distinct (declared d) = ap exported_in (outs-Tree kind.ExportDecl (a ∷ d ∷ [])) ∙ ap distinct (sym same) in
      subst (λ us. Items m declared (t ∷ ts) us) (sym (λ i. with_exports (plain_tree m place.Other kind.ExportDecl (a ∷ d ∷ []) refl i) (exports_of m (ids i)) ++ us))
      (exported_by (changes (distinct (declared d))) a _ d _ ts us refl
      (span_at m declared place.Exported a refl refl (begins m declared a (free_span a f)).0.0 f)
      ((begins m declared d v).0.0 (slot.One (content.Node class.Decl)) place.Exported false refl refl refl g) l)

  -- ---- modules

  abbrev is_export : Kind → Bool
  is_export kind.ExportDecl = true
  is_export kind.NamedExport = true
  is_export k = false

  item_allowed : (k : Kind) → IsTrue (belongs k class.ModuleItem) → is_export k ≡ false → allowed false k ≡ true
  item_allowed kind.ParenExpr b e = impossible b
  item_allowed kind.SeqExpr b e = impossible b
  item_allowed kind.ArrayPat b e = impossible b
  item_allowed kind.RestPat b e = impossible b
  item_allowed kind.ObjectPat b e = impossible b
  item_allowed kind.AssignPat b e = impossible b
  item_allowed kind.KeyValuePatProp b e = impossible b
  item_allowed kind.VarDeclarator b e = impossible b
  item_allowed kind.Module b e = impossible b
  item_allowed kind.ExportDecl b e = impossible (sym e)
  item_allowed kind.NamedExport b e = impossible (sym e)
  item_allowed k b e = refl

  free_parts : (k : Kind) (ts : List Node) → is_free (Tree k ts) ≡ true → (is_other_in (Node-F.Tree k ts) ≡ true) × (list_all is_free ts ≡ true)
  free_parts k ts v = both (is_other_in (Node-F.Tree k ts)) (list_all is_free ts) (sym (every_tree is_other_in k ts) ∙ v)

  -- what an exported declaration declares is what is written out
  abbrev pub Exported : Node → Type 0
  Exported t = (a d : Node) → t ≡ Tree kind.ExportDecl (a ∷ d ∷ []) → declared d ≡ declared_ids d

  abbrev With : Node → List Node → List Node → Type 0
  With t ts us = Items m declared (t ∷ ts) (items_for m t (substituted m false place.Other t) ++ us)

  unexported_tree : (k : Kind) (ts : List Node) → is_export k ≡ false → exported_in (Node-F.Tree k ts) ≡ []
  unexported_tree kind.ExportDecl ts e = impossible (sym e)
  unexported_tree k ts e = refl

  other_item : (k : Kind) (xs ts us : List Node) → exported_ids (Tree k xs) ≡ [] → Stays (Tree k xs) → Items m declared ts us → With (Tree k xs) ts us
  other_item k xs ts us e h l =
      subst (λ v. Items m declared (Tree k xs ∷ ts) (v ++ us)) (sym (item_alone m (Tree k xs) (substituted m false place.Other (Tree k xs)) e)) (Items.item (Tree k xs) _ ts us h l)

  item_of : (k : Kind) (xs ts us : List Node) → is_free (Tree k xs) ≡ true → IsTrue (belongs k class.ModuleItem) → FieldsFit (slots_of k) xs → Exported (Tree k xs) → Items m declared ts us → With (Tree k xs) ts us
  item_of kind.ExportDecl [] ts us v b f e l = absurd f
  item_of kind.ExportDecl (x ∷ []) ts us v b f e l = absurd f.1
  item_of kind.ExportDecl (x ∷ y ∷ z ∷ xs) ts us v b f e l = absurd f.1.1
  item_of kind.ExportDecl (x ∷ y ∷ []) ts us v b f e l = exported_item x y ts us (both (is_free y) true (both (is_free x) (is_free y && true) (free_parts kind.ExportDecl (x ∷ y ∷ []) v).1).1).0 f.0 f.1.0 (e x y refl) l
  item_of kind.NamedExport xs ts us v b f e l = other_item kind.NamedExport xs ts us (ap exported_in (outs-Tree kind.NamedExport xs)) (exports_of_fields xs f) l
  item_of k xs ts us v b f e l =
      other_item k xs ts us (ap exported_in (outs-Tree k xs)) (tree_of m declared true false place.Other k xs refl (item_allowed k b refl) (spaceless m declared k xs (free_parts k xs v).0) f (every xs (free_parts k xs v).1)) l

  pub all_items : (ts : List Node) → list_all is_free ts ≡ true → AllFit (slot.One (content.Node class.ModuleItem)) ts → Each Exported ts → Items m declared ts (items_substituted m false place.Other ts)
  all_items [] v f e = Items.nothing
  all_items (t ∷ ts) v f e =
      let p = both (is_free t) (list_all is_free ts) v in
      let x = tree_only class.ModuleItem refl refl t f.0 in
      subst (λ t. With t ts (items_substituted m false place.Other ts)) (sym x.2) (item_of x.0 x.1 ts _ (subst (λ t. is_free t ≡ true) x.2 p.0) x.4 x.5 (subst Exported x.2 e.0) (all_items ts p.1 f.1 e.1))

  pub module_becomes : (a : Node) (ts : List Node) (c : Node) → list_all is_free ts ≡ true → Fits a (slot.One content.Span) → AllFit (slot.One (content.Node class.ModuleItem)) ts → Fits c (slot.Optional content.Text) → Each Exported ts
      → Becomes m declared true (part false) (Tree kind.Module (a ∷ Many ts ∷ c ∷ [])) (substituted m false place.Other (Tree kind.Module (a ∷ Many ts ∷ c ∷ [])))
  module_becomes a ts c v f g h e =
      plain_one m declared true (part false) place.Other kind.Module (a ∷ Many ts ∷ c ∷ []) _ refl
      (ap (λ x. substituted m false place.Other a ∷ x ∷ substituted m false place.Other c ∷ []) (substituted_list m false place.Other ts))
      (Trees.program false a _ ts _ c _ (span_stays a f) (all_items ts v g e) ((begins m declared c (quiet_is_free c (slot.Optional content.Text) refl h)).0.0 (slot.Optional content.Text) place.Other false refl refl refl h))

  pub script_becomes : (t : Node) → is_free t ≡ true → Fits t (slot.One (content.Node class.Script)) → Becomes m declared true (part false) t (substituted m false place.Other t)
  script_becomes t v f = (begins m declared t v).0.0 (slot.One (content.Node class.Script)) place.Other false refl refl refl f
