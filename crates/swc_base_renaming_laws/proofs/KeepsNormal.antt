-- A program has the same normal form but for the names that it binds.
use Rattle.std.proofs.Common.{◌≡◌, ℕ, zero, suc, Bool, true, false, not, ◌&&◌, ◌||◌, IsTrue, Option, Some, None, List, [], ◌∷◌, map, nat_eq, refl, sym, ap, ◌∙◌, subst, inl, inr}
use Rattle.std.specs.Prelude.{is_some, option_map, slice_get, if◌then◌else◌}
use Rattle.std.specs.Cmp.Lexicographic.{pointwise}
use Rattle.std.specs.List.{list_all, list_any}
use Rattle.std.proofs.lemmas.Cmp.{nat_list_eq_equiv}
use Rattle.std.proofs.lemmas.Slice.Eq.{bytes_eq-Decides}
use Rattle.swc_tree_marks.specs.declared.ident.Ident.{Ident}
use Rattle.swc_tree_node.specs.declared.kind.Kind.{Kind}
use Rattle.swc_tree_node.specs.declared.kind.Kind.TheVariants as kind
use Rattle.swc_tree_node.specs.declared.kind.Class.TheVariants as class
use Rattle.swc_tree_node.specs.declared.slot.Content.TheVariants as content
use Rattle.swc_tree_node.specs.declared.slot.Slot.{Slot}
use Rattle.swc_tree_node.specs.declared.slot.Slot.TheVariants as slot
use Rattle.swc_tree_node.specs.declared.node.Node.{Node, List as Many, Tree, out-Node}
use Rattle.swc_tree_node.specs.declared.node.Node.TheVariants.{outs-Tree}
use Rattle.swc_tree_node.specs.Fits.{AllFit, FieldsFit, Fits, belongs}
use Rattle.swc_tree_node.specs.Table.{slots_of}
use Rattle.swc_tree_scoping.specs.BoundNames.{Id, declared_ids}
use Rattle.swc_tree_scoping.specs.Places.{program_place}
use Rattle.swc_tree_scoping.specs.Readings.{by_texts}
use Rattle.swc_tree_renaming.specs.Apart.{is_goal}
use Rattle.swc_tree_renaming.proofs.Global.{fits_module}
use Rattle.swc_tree_grammar.specs.Forms.{is_using}
use Rattle.swc_tree_grammar.specs.Normal.{made, normal_form, same_id, written_out}
use Rattle.swc_tree_grammar.specs.Same.{declared_names, same_tree}
use Rattle.swc_tree_grammar.specs.Stripped.{stripped}
use Rattle.swc_tree_grammar.specs.Writable.{Round, all_sound, is_bindable, is_writable}
use Rattle.swc_tree_grammar.proofs.Asked.{of, sound, sound_list, sound_tree}
use Rattle.swc_tree_grammar.proofs.Induction.{Each}
use Rattle.swc_tree_grammar.proofs.Items.{listed}
use Rattle.swc_tree_grammar.proofs.Places.{stands}
use Rattle.swc_tree_grammar_texts.proofs.Cleared.{bare}
use Rattle.swc_tree_grammar_texts.proofs.ClearedExports.{Agrees, AreApart, Exports, normal_texts, normals}
use Rattle.swc_tree_grammar_texts.proofs.ClearedSame.{same_blind}
use Rattle.swc_tree_grammar_texts.proofs.ClearedStripped.{stripped_texts}
use Rattle.swc_tree_grammar_texts.proofs.ClearedWritten.{written_same}
use Rattle.swc_tree_grammar_texts.proofs.Inner.{fits_inner, is_inner, stripped_inner}
use Rattle.swc_base_rename_substitution.specs.declared.place.Place.TheVariants as place
use Rattle.swc_base_rename_substitution.specs.Identifiers.{Changes, id_of}
use Rattle.swc_base_rename_substitution.specs.Names.{if_other_text, same_text}
use Rattle.swc_base_rename_substitution.specs.Substituted.{substituted}
use Rattle.swc_base_rename_substitution.specs.Walk.{items_substituted}
use Rattle.swc_base_rename_substitution.proofs.Equations.{substituted_list}
use Rattle.swc_base_rename_substitution.proofs.KeptFits.{substituted_fits}
use Rattle.swc_base_rename_analysis.specs.Named.{Named, Renaming}
use Rattle.swc_base_rename_analysis.specs.Order.{entry}
use Rattle.swc_base_rename_analysis.specs.Preserved.{IsPreserved}
use Rattle.swc_base_rename_analysis.proofs.Level.{each_in_order}
use Rattle.swc_base_rename_program.specs.Lower.swc_base_rename_naming_laws.specs.Rules.{counting}
use Rattle.swc_base_rename_program.specs.Renamed.{hygiene_renaming, new_id_by}
use Rattle.swc_base_rename_laws.specs.Laws.{IsProgram}
use Rattle.swc_base_rename_laws.proofs.Impossible.{impossible}
use Rattle.swc_base_rename_laws.proofs.NormalFormDeclared.{exported_declares}
use Rattle.swc_base_rename_laws.proofs.NormalFormModule.{tree_only}
use Rattle.swc_base_rename_laws.proofs.NormalFormStays as kept
use Rattle.swc_base_rename_laws.proofs.NormalFormStays.{before, items_become}
use Rattle.swc_base_rename_laws.proofs.NormalFormTable.{plain_tree}
use Rattle.swc_base_renaming_laws.specs.Hygiene.{HygieneKeepsNormalForm, RenamingKeepsNormalForm}
use Rattle.swc_base_renaming_laws.specs.Renamers.{KeepsTopApart, TopTextsDiffer}
use Rattle.swc_base_renaming_laws.proofs.Hygienic.{none_kept}
use Rattle.swc_base_renaming_laws.proofs.StaysWritable.{by_test, plain_names}
use Rattle.swc_base_renaming_laws.proofs.Apart.{AtTop, top_texts_differ}
use Rattle.swc_base_renaming_laws.proofs.BindableNames.{all_bindable, declared_bindable, strict}
use Rattle.swc_base_renaming_laws.proofs.HygieneDeclared.{declared_there}
use Rattle.swc_base_renaming_laws.proofs.ExportsApart.{ApartIfKept, exports_apart}
use Rattle.swc_base_renaming_laws.proofs.Found.{AllOf, Found}
use Rattle.swc_base_renaming_laws.proofs.TopDeclared.{decl_found, decl_place, no_own_block, top_found}

left : (a b : Bool) → (a && b) ≡ true → a ≡ true
left true b h = refl
left false b h = h

right : (a b : Bool) → (a && b) ≡ true → b ≡ true
right true b h = h
right false b h = absurd (cc)

pub both_true : {a b : Bool} → a ≡ true → b ≡ true → (a && b) ≡ true
both_true {a = true} h g = g
both_true {a = false} h g = absurd (cc)

neither : (a b : Bool) → (a || b) ≡ false → (a ≡ false) × (b ≡ false)
neither true b h = absurd (cc)
neither false b h = (refl, h)

pub each_from : (P : Node → Type 0) (ts : List Node) → ((i : ℕ) (t : Node) → slice_get ts i ≡ Some t → P t) → Each P ts
each_from P [] h = tt
each_from P (t ∷ ts) h = (h 0 t refl, each_from P ts (λ i u e. h (suc i) u e))

pub fit_at : (s : Slot) (ts : List Node) → AllFit s ts → (i : ℕ) (t : Node) → slice_get ts i ≡ Some t → Fits t s
fit_at s [] f i t e = absurd (cc)
fit_at s (u ∷ ts) f zero t e = let same : u ≡ t = cc in subst (λ t. Fits t s) same f.0
fit_at s (u ∷ ts) f (suc i) t e = fit_at s ts f.1 i t e

pub sound_at : (r : Round) (ts : List Node) → all_sound (map of ts) r ≡ true → (i : ℕ) (t : Node) → slice_get ts i ≡ Some t → sound t r ≡ true
sound_at r [] h i t e = absurd (cc)
sound_at r (u ∷ ts) h zero t e = let same : u ≡ t = cc in subst (λ t. sound t r ≡ true) same (right _ _ (left _ _ h))
sound_at r (u ∷ ts) h (suc i) t e = sound_at r ts (right _ _ h) i t e

-- the new id for what a map has
abbrev new_of : Id → Option (List ℕ) → Option Id
new_of x o = if_other_text x (option_map (λ text. (text, [])) o)

abbrev chosen : Bool → List ℕ → Option Id
chosen b l = if b then None else Some (l, [])

-- ---- what an exported declaration declares

module _ (r : Renaming) (a : Node) (ts : List Node) (c : Node) where
  abbrev fields : List Node
  fields = a ∷ Many ts ∷ c ∷ []

  abbrev whole : Node
  whole = Tree kind.Module fields

  module _ (kept_apart : TopTextsDiffer r whole) (new_texts : Id → Option (List ℕ)) (named : Named whole r (IsPreserved whole r.preserves) (counting whole r) new_texts) where
    abbrev m : Changes
    m = new_id_by new_texts

    abbrev changes : Id → Bool
    changes x = is_some (m x)

    abbrev Top : Id → Type 0
    Top x = AtTop whole x × (changes x ≡ false)

    -- what does not change keeps its text
    keeps : (x : Id) → changes x ≡ false → (l : List ℕ) → new_texts x ≡ Some l → l ≡ x.0
    keeps x n l e = by (same_text (l, []) x) refl (sym (ap (λ o. is_some (new_of x o)) e) ∙ n)
      where
        by : (b : Bool) → same_text (l, []) x ≡ b → is_some (chosen b l) ≡ false → l ≡ x.0
        by true h n = (bytes_eq-Decides l x.0).0 h
        by false h n = absurd (cc)

    top_entry : entry (out-Node whole) ≡ []
    top_entry = ap entry (outs-Tree kind.Module fields)

    differ : (x y : Id) → Top x → Top y → x.0 ≡ y.0 → pointwise nat_eq x.1 y.1 ≡ false → ⊥
    differ x y d e same other =
        top_texts_differ r whole top_entry (each_in_order whole) new_texts named kept_apart x y d.0 e.0
        (λ one. let never : pointwise nat_eq x.1 y.1 ≡ true = ap (λ (z : Id). pointwise nat_eq x.1 z.1) (sym one) ∙ nat_list_eq_equiv.refl x.1 in cc)
        (keeps x d.1) (keeps y e.1) same

    pair : (x y : Id) → Top x → Top y → same_id (bare (made x)) (bare (made y)) ≡ same_id (made x) (made y)
    pair x y d e = by_text (pointwise nat_eq x.0 y.0) refl
      where
        by_context : pointwise nat_eq x.0 y.0 ≡ true → (b : Bool) → pointwise nat_eq x.1 y.1 ≡ b → same_id (bare (made x)) (bare (made y)) ≡ same_id (made x) (made y)
        by_context h true g = ap (λ b. pointwise nat_eq x.0 y.0 && b) (sym g)
        by_context h false g = absurd (differ x y d e ((bytes_eq-Decides x.0 y.0).0 h) g)

        by_text : (b : Bool) → pointwise nat_eq x.0 y.0 ≡ b → same_id (bare (made x)) (bare (made y)) ≡ same_id (made x) (made y)
        by_text true h = by_context h (pointwise nat_eq x.1 y.1) refl
        by_text false h = ap (λ b. b && true) h ∙ sym (ap (λ b. b && pointwise nat_eq x.1 y.1) h)

    agrees : (x : Id) (ys : List Id) → Top x → AllOf Top ys → Agrees (made x) (map made ys)
    agrees x [] d l = tt
    agrees x (y ∷ ys) d l = (pair x y d l.0, agrees x ys d l.1)

    apart : (xs : List Id) → AllOf Top xs → AreApart (map made xs)
    apart [] l = tt
    apart (x ∷ xs) l = (agrees x xs l.0 l.1, apart xs l.1)

    tops : (n : ℕ) (b d : Node) → slice_get ts n ≡ Some (Tree kind.ExportDecl (b ∷ d ∷ [])) → (xs : List Id) → AllOf (Found (decl_place a ts c n b d) d) xs → all_bindable xs ≡ true → list_any changes xs ≡ false → AllOf Top xs
    tops n b d e [] l h k = tt
    tops n b d e (x ∷ xs) l h k =
        let p = neither (changes x) (list_any changes xs) k in
        ((top_found a ts c n b d e x (left _ _ h) l.0, p.0), tops n b d e xs l.1 (right (is_bindable true x.0) _ h) p.1)

    -- an exported declaration that keeps its names
    apart_if_kept : (n : ℕ) (b d : Node) → slice_get ts n ≡ Some (Tree kind.ExportDecl (b ∷ d ∷ [])) → Fits (Tree kind.ExportDecl (b ∷ d ∷ [])) (slot.One (content.Node class.ModuleItem))
        → sound (Tree kind.ExportDecl (b ∷ d ∷ [])) strict ≡ true → list_any changes (before d) ≡ false → AreApart (map made (before d))
    apart_if_kept n b d e f s k =
        let same : before d ≡ declared_ids d = exported_declares b d strict f s in
        let there = stands kind.ExportDecl (b ∷ d ∷ []) (slot.One (content.Node class.ModuleItem)) f in
        let x = tree_only class.Decl refl refl d there.fields.1.0 in
        let inside : sound d strict ≡ true = right (not (is_using d)) _ (sym (sound_tree kind.ExportDecl (b ∷ d ∷ []) strict) ∙ s) in
        let bindable : all_bindable (declared_ids d) ≡ true = ap (λ t. all_bindable (declared_ids t)) x.2 ∙ declared_bindable x.0 x.1 x.5 (ap (λ t. sound t strict) (sym x.2) ∙ inside) in
        let found : AllOf (Found (decl_place a ts c n b d) d) (declared_ids d) = subst (λ t. AllOf (Found (decl_place a ts c n b d) t) (declared_ids t)) (sym x.2) (decl_found x.0 x.1 x.4 (decl_place a ts c n b d) (no_own_block a ts c n b d)) in
        subst (λ ids. AreApart (map made ids)) (sym same) (apart (declared_ids d) (tops n b d e (declared_ids d) found bindable (sym (ap (list_any changes) same) ∙ k)))

    each_apart : AllFit (slot.One (content.Node class.ModuleItem)) ts → all_sound (map of ts) strict ≡ true → Each (ApartIfKept m) ts
    each_apart f s = each_from (ApartIfKept m) ts (λ n t e b d is k.
        apart_if_kept n b d (e ∙ ap (λ t. Some t) is)
        (subst (λ t. Fits t (slot.One (content.Node class.ModuleItem))) is (fit_at (slot.One (content.Node class.ModuleItem)) ts f n t e))
        (subst (λ t. sound t strict ≡ true) is (sound_at strict ts s n t e)) k)

    -- ---- the module with its names

    abbrev given : Node
    given = substituted m false place.Other whole

    abbrev items : List Node
    items = items_substituted m false place.Other ts

    abbrev new_fields : List Node
    new_fields = substituted m false place.Other a ∷ Many items ∷ substituted m false place.Other c ∷ []

    given_is : given ≡ Tree kind.Module new_fields
    given_is = plain_tree m place.Other kind.Module fields refl
        ∙ ap (λ x. Tree kind.Module (substituted m false place.Other a ∷ x ∷ substituted m false place.Other c ∷ [])) (substituted_list m false place.Other ts)

    module _ (fits : Fits whole (slot.One (content.Node class.Module))) (sounds : all_sound (map of ts) strict ≡ true) where
      there : FieldsFit (slots_of kind.Module) fields
      there = (stands kind.Module fields (slot.One (content.Node class.Module)) fits).fields

      still_fits : Fits (Tree kind.Module new_fields) (slot.One (content.Node class.Module))
      still_fits = subst (λ t. Fits t (slot.One (content.Node class.Module))) given_is (substituted_fits m false whole given refl (slot.One (content.Node class.Module)) refl fits)

      new_there : FieldsFit (slots_of kind.Module) new_fields
      new_there = (stands kind.Module new_fields (slot.One (content.Node class.Module)) still_fits).fields

      inner : IsTrue (list_all is_inner new_fields)
      inner = both_true (fits_inner _ (slot.One content.Span) refl new_there.0)
          (both_true (fits_inner _ (slot.List (content.Node class.ModuleItem)) refl new_there.1.0) (both_true (fits_inner _ (slot.Optional content.Text) refl new_there.1.1.0) refl))

      items_fit : AllFit (slot.One (content.Node class.ModuleItem)) ts → Each Exports (normals items)
      items_fit f = exports_apart m ts items (items_become m ts strict f sounds) (each_apart f sounds)

      pub normal_given : AllFit (slot.One (content.Node class.ModuleItem)) ts → normal_form (by_texts given) ≡ by_texts (normal_form given)
      normal_given f =
          ap (λ t. normal_form (by_texts t)) given_is ∙ normal_texts (substituted m false place.Other a) items (substituted m false place.Other c) inner (items_fit f)
          ∙ ap (λ t. by_texts (normal_form t)) (sym given_is)

-- ---- the law

pub items_sound : (a : Node) (ts : List Node) (c : Node) → sound (Tree kind.Module (a ∷ Many ts ∷ c ∷ [])) (record { strict = false; assigned = false }) ≡ true → all_sound (map of ts) strict ≡ true
items_sound a ts c h = sym (sound_list ts strict) ∙ sym (sound_tree kind.Module (a ∷ Many ts ∷ c ∷ []) (record { strict = false; assigned = false })) ∙ h

abbrev Texts : Renaming → Node → (Id → Option (List ℕ)) → Type 0
Texts r t new_texts = Named t r (IsPreserved t r.preserves) (counting t r) new_texts

-- the normal form of the module with its names does not rest on contexts
abbrev Goal : Renaming → Node → Type 0
Goal r t = TopTextsDiffer r t → (new_texts : Id → Option (List ℕ)) → Texts r t new_texts → Fits t (slot.One (content.Node class.Module)) → IsTrue (is_writable t)
    → normal_form (by_texts (substituted (new_id_by new_texts) false place.Other t)) ≡ by_texts (normal_form (substituted (new_id_by new_texts) false place.Other t))

of_kind : (r : Renaming) (k : Kind) (ts : List Node) → IsTrue (belongs k class.Module) → FieldsFit (slots_of k) ts → Goal r (Tree k ts)
of_kind r kind.Module [] b f = absurd f
of_kind r kind.Module (x ∷ []) b f = absurd f.1
of_kind r kind.Module (x ∷ y ∷ []) b f = absurd f.1.1
of_kind r kind.Module (x ∷ y ∷ z ∷ t ∷ ts) b f = absurd f.1.1.1
of_kind r kind.Module (x ∷ y ∷ z ∷ []) b f =
    let l = listed y (content.Node class.ModuleItem) f.1.0 in
    subst (λ y. Goal r (Tree kind.Module (x ∷ y ∷ z ∷ []))) (sym l.is)
    (λ apart new_texts named fits writable. normal_given r x l.items z apart new_texts named fits (items_sound x l.items z writable) l.fit)
of_kind r k ts b f = impossible b

module_goal : (r : Renaming) (t : Node) → Fits t (slot.One (content.Node class.Module)) → Goal r t
module_goal r t f = let x = tree_only class.Module refl refl t f in subst (Goal r) (sym x.2) (of_kind r x.0 x.1 x.4 x.5)

-- nor does that of a tree without a module in it
pub normal_inner : (t : Node) → IsTrue (is_inner t) → normal_form (by_texts t) ≡ by_texts (normal_form t)
normal_inner t h = ap written_out (stripped_texts t) ∙ written_same (stripped t) (stripped_inner t h)

pub is_program : (goal : Slot) (t : Node) → IsTrue (is_goal goal) → Fits t goal → IsProgram t
is_program (slot.One (content.Node class.Module)) t g f = inl f
is_program (slot.One (content.Node class.Script)) t g f = inr f
is_program _ t g f = impossible g

pub program_goal : (r : Renaming) (goal : Slot) (t : Node) → KeepsTopApart r t → (new_texts : Id → Option (List ℕ)) → IsTrue (is_goal goal) → Texts r t new_texts → Fits t goal → IsTrue (is_writable t)
    → normal_form (by_texts (substituted (new_id_by new_texts) false place.Other t)) ≡ by_texts (normal_form (substituted (new_id_by new_texts) false place.Other t))
program_goal r (slot.One (content.Node class.Module)) t apart new_texts g named f writable = module_goal r t f (apart (fits_module t f)) new_texts named f writable
program_goal r (slot.One (content.Node class.Script)) t apart new_texts g named f writable =
    let script = slot.One (content.Node class.Script) in
    normal_inner _ (fits_inner _ script refl (substituted_fits (new_id_by new_texts) false t _ refl script refl f))
program_goal r _ t apart new_texts g named f writable = impossible g

-- the names that change are declared
declared : (r : Renaming) (t : Node) (new_texts : Id → Option (List ℕ)) → Texts r t new_texts → (i : Ident) → IsTrue (is_some (new_id_by new_texts (id_of i))) → IsTrue (list_any (same_id i) (declared_names t))
declared r t new_texts named i h = by (new_texts (id_of i)) refl
  where
    by : (o : Option (List ℕ)) → new_texts (id_of i) ≡ o → IsTrue (list_any (same_id i) (declared_names t))
    by None e = let never : is_some (new_id_by new_texts (id_of i)) ≡ false = ap (λ o. is_some (new_of (id_of i) o)) e in absurd (cc)
    by (Some text) e = let (a, n) = named.no_other (id_of i) text e in declared_there i t a.1 n.declared.standing n.declared.stands n.declared.binds

pub renaming_keeps_normal_form : RenamingKeepsNormalForm
renaming_keeps_normal_form r table config goal before after apart g plain fits writable (given, renamed, cleared) =
    let names = plain_names r table config before given plain renamed in
    let m = new_id_by names.new_texts in
    let answer = substituted m false place.Other before in
    let same = same_tree (declared_names before) (normal_form before) in
    ap (λ t. same (normal_form t)) cleared
    ∙ by_test r _ before given names (λ t. same (normal_form (by_texts t))) (λ s.
    ap (λ t. same (normal_form (by_texts t))) s
    ∙ ap same (program_goal r goal before apart names.new_texts g names.named fits writable)
    ∙ same_blind (declared_names before) (normal_form before) program_place (normal_form answer)
    ∙ kept.normal_form_stays m (declared_names before) before answer (declared r before names.new_texts names.named) (is_program goal before g fits) writable refl)

pub hygiene_keeps_normal_form : HygieneKeepsNormalForm
hygiene_keeps_normal_form table config goal before after = renaming_keeps_normal_form hygiene_renaming table config goal before after (none_kept before)
