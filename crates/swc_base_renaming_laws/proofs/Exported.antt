-- A clean program that is resolved has its normal form without contexts: what an exported declaration declares has one mark.
use Rattle.std.proofs.Common.{◌≡◌, ◌≢◌, ℕ, true, false, ◌&&◌, IsTrue, inl, inr, Some, None, List, [], ◌∷◌, map, nat_eq, refl, sym, ap, ◌∙◌, subst}
use Rattle.std.specs.Prelude.{slice_get}
use Rattle.std.specs.Cmp.Lexicographic.{pointwise}
use Rattle.std.proofs.lemmas.Cmp.{nat_list_eq_equiv}
use Rattle.swc_tree_marks.specs.declared.ident.Ident.{Ident}
use Rattle.swc_tree_node.specs.declared.kind.Kind.{Kind}
use Rattle.swc_tree_node.specs.declared.kind.Kind.TheVariants as kind
use Rattle.swc_tree_node.specs.declared.kind.Class.TheVariants as class
use Rattle.swc_tree_node.specs.declared.slot.Content.TheVariants as content
use Rattle.swc_tree_node.specs.declared.slot.Slot.{Slot}
use Rattle.swc_tree_node.specs.declared.slot.Slot.TheVariants as slot
use Rattle.swc_tree_node.specs.declared.node.Node.{Node, List as Many, Identifier, Tree, out-Node}
use Rattle.swc_tree_node.specs.declared.node.Node.TheOpen.{Node-F}
use Rattle.swc_tree_node.specs.Table.{slots_of}
use Rattle.swc_tree_node.specs.Fits.{AllFit, FieldsFit, Fits}
use Rattle.swc_tree_scoping.specs.declared.places.Standing.{Standing}
use Rattle.swc_tree_scoping.specs.declared.places.Standing.TheVariants as standing
use Rattle.swc_tree_scoping.specs.declared.places.Place.{Place}
use Rattle.swc_tree_scoping.specs.Places.{Path, place_at, program_place}
use Rattle.swc_tree_scoping.specs.Scopes.{Round, is_binding, is_taken, rounds, scope_at}
use Rattle.swc_tree_scoping.specs.Declares.{First}
use Rattle.swc_tree_scoping.specs.BoundNames.{Id, declared_ids, name_in}
use Rattle.swc_tree_scoping.specs.Readings.{by_texts}
use Rattle.swc_tree_scoping.specs.Resolved.{Contexts, HasDeclarersMark, Resolved, remarked}
use Rattle.swc_tree_scoping.specs.WellScoped.{IsClean, is_module}
use Rattle.swc_tree_scoping.proofs.Remarked.{identifier_is}
use Rattle.swc_tree_renaming.specs.Apart.{SameScopes, is_goal, nameless}
use Rattle.swc_tree_renaming.proofs.Core.{declared_taker}
use Rattle.swc_tree_renaming.proofs.Global.{fits_module}
use Rattle.swc_tree_renaming.proofs.Shape.{nameless_remarked, same_scopes, some_same}
use Rattle.swc_tree_renaming.proofs.Strict.{no_sloppy_in_modules}
use Rattle.swc_tree_renaming.proofs.Whole.{identifier_same, module_layer, stands_there}
use Rattle.swc_base_resolver_laws.proofs.Same.{clean_stays, texts_stay}
use Rattle.swc_tree_sites_laws.proofs.LeftStripped.{on_modules}
use Rattle.swc_tree_sites_kept.specs.Scripts.{script_place}
use Rattle.swc_tree_grammar.specs.Normal.{made, normal_form, same_id}
use Rattle.swc_tree_grammar.specs.Writable.{Round as Code, all_sound, is_writable}
use Rattle.swc_tree_grammar.specs.Shapes.{items_of}
use Rattle.swc_tree_grammar.proofs.Asked.{of, sound}
use Rattle.swc_tree_grammar.proofs.Induction.{Each}
use Rattle.swc_tree_grammar.proofs.Items.{items_of_list, listed}
use Rattle.swc_tree_grammar.proofs.Places.{stands}
use Rattle.swc_tree_grammar_texts.proofs.Cleared.{bare}
use Rattle.swc_tree_grammar_texts.proofs.ClearedExports.{Agrees, AreApart, Exports, normal_texts, normals}
use Rattle.swc_tree_grammar_texts.proofs.Inner.{fits_inner}
use Rattle.swc_base_rename_substitution.specs.declared.place.Place.TheVariants as place
use Rattle.swc_base_rename_substitution.specs.Identifiers.{Changes}
use Rattle.swc_base_rename_substitution.specs.Walk.{items_substituted}
use Rattle.swc_base_rename_substitution.proofs.Equations.{substituted_list}
use Rattle.swc_base_rename_laws.proofs.NormalFormDeclared.{exported_declares}
use Rattle.swc_base_rename_laws.proofs.NormalFormModule.{tree_only}
use Rattle.swc_base_rename_laws.proofs.NormalFormStays.{before, items_become}
use Rattle.swc_base_rename_laws.proofs.Unchanged.{stays}
use Rattle.swc_base_renaming_laws.proofs.ExportsApart.{ApartIfKept, exports_apart}
use Rattle.swc_base_renaming_laws.proofs.Found.{AllOf, Found}
use Rattle.swc_base_renaming_laws.proofs.KeepsNormal.{both_true, each_from, fit_at, items_sound, normal_inner, sound_at}
use Rattle.swc_base_renaming_laws.proofs.TopDeclared.{TopBinding, decl_found, decl_place, no_own_block, top_binding}
use Rattle.swc_base_renaming_laws.proofs.Kept.{only_taker}
use Rattle.swc_base_renaming_laws.proofs.IdsPrograms.{by_goal}

-- ---- where the program is the only scope round a path

only_met : (Q : Round → Type 0) (ss : List Round) (m : Path) → ss ≡ ([], true) ∷ [] → First Q ss (Some m) → m ≡ []
only_met Q ss m e f = at (subst (λ ss. First Q ss (Some m)) e f)
  where
    at : First Q (([], true) ∷ []) (Some m) → m ≡ []
    at (inl h) = let is = h.1 in cc
    at (inr h) = let is = h.1 in absurd (cc)

is_name_at : (t : Node) (y : Node-F Node) (i : Ident) → out-Node t ≡ y → name_in y ≡ Some i → (k : Kind) × (t ≡ Identifier k i)
is_name_at t (Node-F.Identifier k j) i o e = let same : j ≡ i = cc in (k, identifier_is t k j o ∙ ap (Identifier k) same)
is_name_at t Node-F.Absent i o e = absurd (cc)
is_name_at t (Node-F.Flag x) i o e = absurd (cc)
is_name_at t (Node-F.Word x) i o e = absurd (cc)
is_name_at t (Node-F.Text x) i o e = absurd (cc)
is_name_at t (Node-F.Span x) i o e = absurd (cc)
is_name_at t (Node-F.List x) i o e = absurd (cc)
is_name_at t (Node-F.Tree k x) i o e = absurd (cc)

module _ (unresolved top : ℕ) (old new : List (ℕ × ℕ)) (answer u : Node) (clean : IsClean answer) (module_answer : IsTrue (is_module answer)) (r : Resolved unresolved top old new answer u) where
  same : SameScopes answer u
  same = same_scopes answer u (sym (ap nameless r.only_contexts ∙ nameless_remarked r.contexts answer))

  -- what is bound there has the program's mark
  declarer : (p : Path) (q : Standing) (x c : List ℕ) → rounds program_place answer p ≡ ([], true) ∷ [] → q ≢ standing.SloppyFunction → HasDeclarersMark r.marks answer p q x c → c ≡ r.marks [] ∷ []
  declarer p q x c inside settled (s, by, inl (m, caught, e)) = e ∙ ap (λ m. r.marks m ∷ []) (only_met _ (rounds program_place answer p) m inside caught.1)
  declarer p q x c inside settled (s, by, inr (none, e)) =
      e ∙ ap (λ s. r.marks s ∷ []) (only_taker (λ s. is_taken q (scope_at program_place answer s.0)) (rounds program_place answer p) s inside (declared_taker answer q p s x settled by))

  program_mark : (p : Path) (w : Place) (l : Kind) (j : Ident) → place_at program_place answer p ≡ Some (w, Identifier l j) → is_binding w.standing ≡ true → rounds program_place answer p ≡ ([], true) ∷ [] → r.contexts p ≡ top ∷ []
  program_mark p w l j h b inside =
      let (ts, o) = module_layer answer module_answer in
      declarer p w.standing j.sym (r.contexts p) inside (no_sloppy_in_modules answer ts o p w (Identifier l j) h) ((r.resolved p w l j h (clean p w l j h)).binding b)
      ∙ ap (λ m. m ∷ []) r.program

  top_mark : (x : Id) → TopBinding u x → x.1 ≡ top ∷ []
  top_mark x b =
      let (k, is) = is_name_at b.node (out-Node b.node) b.name refl b.named in
      let there : place_at program_place u b.path ≡ Some (b.place, Identifier k b.name) = b.there ∙ ap (λ n. Some (b.place, n)) is in
      let (l, j, e) = same.back b.path b.place k b.name there in
      let node : Identifier k b.name ≡ Identifier l (record j { ctxt = r.contexts b.path })
      = ap (λ (q : Place × Node). q.1) (some_same (b.place, Identifier k b.name) (b.place, Identifier l (record j { ctxt = r.contexts b.path })) (sym there ∙ stands_there answer u r.contexts r.only_contexts b.path b.place l j e)) in
      sym (ap (λ (x : Id). x.1) b.same) ∙ ap (λ (i : Ident). i.ctxt) (identifier_same k l b.name (record j { ctxt = r.contexts b.path }) node)
      ∙ program_mark b.path b.place l j e b.binding (same.rounds_same b.path ∙ b.inside)

-- ---- ids of one context are told apart by their texts

pair : (x y : Id) → x.1 ≡ y.1 → same_id (bare (made x)) (bare (made y)) ≡ same_id (made x) (made y)
pair x y e = ap (λ b. pointwise nat_eq x.0 y.0 && b) (sym (ap (pointwise nat_eq x.1) (sym e) ∙ nat_list_eq_equiv.refl x.1))

abbrev HasContext : List ℕ → Id → Type 0
HasContext c x = x.1 ≡ c

agrees : (c : List ℕ) (x : Id) (ys : List Id) → HasContext c x → AllOf (HasContext c) ys → Agrees (made x) (map made ys)
agrees c x [] h l = tt
agrees c x (y ∷ ys) h l = (pair x y (h ∙ sym l.0), agrees c x ys h l.1)

apart : (c : List ℕ) (xs : List Id) → AllOf (HasContext c) xs → AreApart (map made xs)
apart c [] l = tt
apart c (x ∷ xs) l = (agrees c x xs l.0 l.1, apart c xs l.1)

-- ---- modules

abbrev none : Changes
none x = None

abbrev strict : Code
strict = record { strict = true; assigned = false }

unchanged : (ts : List Node) → items_substituted none false place.Other ts ≡ ts
unchanged ts =
    sym (items_of_list (items_substituted none false place.Other ts)) ∙ ap items_of (sym (substituted_list none false place.Other ts) ∙ stays none (λ x. refl) (Many ts) place.Other refl) ∙ items_of_list ts

module _ (a : Node) (ts : List Node) (c : Node) (context : List ℕ) where
  abbrev whole : Node
  whole = Tree kind.Module (a ∷ Many ts ∷ c ∷ [])

  module _ (marked : (x : Id) → TopBinding whole x → x.1 ≡ context) where
    marks : (n : ℕ) (b d : Node) → slice_get ts n ≡ Some (Tree kind.ExportDecl (b ∷ d ∷ [])) → (xs : List Id) → AllOf (Found (decl_place a ts c n b d) d) xs → AllOf (HasContext context) xs
    marks n b d e [] l = tt
    marks n b d e (x ∷ xs) l = (marked x (top_binding a ts c n b d e x l.0), marks n b d e xs l.1)

    declared_apart : (n : ℕ) (b d : Node) → slice_get ts n ≡ Some (Tree kind.ExportDecl (b ∷ d ∷ [])) → Fits (Tree kind.ExportDecl (b ∷ d ∷ [])) (slot.One (content.Node class.ModuleItem)) → sound (Tree kind.ExportDecl (b ∷ d ∷ [])) strict ≡ true
        → AreApart (map made (before d))
    declared_apart n b d e f s =
        let there = stands kind.ExportDecl (b ∷ d ∷ []) (slot.One (content.Node class.ModuleItem)) f in
        let x = tree_only class.Decl refl refl d there.fields.1.0 in
        let found : AllOf (Found (decl_place a ts c n b d) d) (declared_ids d)
        = subst (λ t. AllOf (Found (decl_place a ts c n b d) t) (declared_ids t)) (sym x.2) (decl_found x.0 x.1 x.4 (decl_place a ts c n b d) (no_own_block a ts c n b d)) in
        subst (λ ids. AreApart (map made ids)) (sym (exported_declares b d strict f s)) (apart context (declared_ids d) (marks n b d e (declared_ids d) found))

    exports : AllFit (slot.One (content.Node class.ModuleItem)) ts → all_sound (map of ts) strict ≡ true → Each Exports (normals ts)
    exports f s = subst (λ us. Each Exports (normals us)) (unchanged ts) (exports_apart none ts (items_substituted none false place.Other ts) (items_become none ts strict f s) (each_from (ApartIfKept none) ts
        (λ n t e b d is k. declared_apart n b d (e ∙ ap (λ t. Some t) is)
        (subst (λ t. Fits t (slot.One (content.Node class.ModuleItem))) is (fit_at (slot.One (content.Node class.ModuleItem)) ts f n t e))
        (subst (λ t. sound t strict ≡ true) is (sound_at strict ts s n t e)))))

    texts_of : FieldsFit (slots_of kind.Module) (a ∷ Many ts ∷ c ∷ []) → AllFit (slot.One (content.Node class.ModuleItem)) ts → IsTrue (is_writable whole) → normal_form (by_texts whole) ≡ by_texts (normal_form whole)
    texts_of there f w = normal_texts a ts c
        (both_true (fits_inner _ (slot.One content.Span) refl there.0) (both_true (fits_inner _ (slot.List (content.Node class.ModuleItem)) refl there.1.0) (both_true (fits_inner _ (slot.Optional content.Text) refl there.1.1.0) refl)))
        (exports f (items_sound a ts c w))

abbrev Cleared : Node → Type 0
Cleared t = (context : List ℕ) → ((x : Id) → TopBinding t x → x.1 ≡ context) → IsTrue (is_writable t) → normal_form (by_texts t) ≡ by_texts (normal_form t)

cleared : (t : Node) → Fits t (slot.One (content.Node class.Module)) → Cleared t
cleared = on_modules Cleared (λ x y z f.
    let l = listed y (content.Node class.ModuleItem) f.1.0 in
    subst (λ y. FieldsFit (slots_of kind.Module) (x ∷ y ∷ z ∷ []) → Cleared (Tree kind.Module (x ∷ y ∷ z ∷ []))) (sym l.is)
    (λ f context marked w. texts_of x l.items z context marked f l.fit w) f)

pub texts_again : (answer u : Node) (c : Contexts) → u ≡ remarked c answer → IsClean answer → by_texts u ≡ answer
texts_again answer u c e clean = ap by_texts e ∙ texts_stay c answer ∙ clean_stays answer program_place clean

pub normal_cleared : (goal : Slot) → IsTrue (is_goal goal) → (unresolved top : ℕ) (old new : List (ℕ × ℕ)) (answer u : Node) → IsClean answer → Fits answer goal → Resolved unresolved top old new answer u → Fits u goal → IsTrue (is_writable u)
    → normal_form answer ≡ by_texts (normal_form u)
normal_cleared goal is unresolved top old new answer u clean f r g w =
    ap normal_form (sym (texts_again answer u r.contexts r.only_contexts clean))
    ∙ by_goal (λ goal. Fits answer goal → Fits u goal → normal_form (by_texts u) ≡ by_texts (normal_form u))
    (λ f g. cleared u g (top ∷ []) (top_mark unresolved top old new answer u clean (fits_module answer f) r) w)
    (λ f g. normal_inner u (fits_inner u script_place refl g)) goal is f g
