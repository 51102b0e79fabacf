-- The normal form of a program stays but for the names that are given anew.
use Rattle.std.proofs.Common.{◌≡◌, Bool, true, false, ◌&&◌, IsTrue, List, [], ◌∷◌, map, refl, sym, ◌∙◌, subst, inl, inr}
use Rattle.std.specs.List.{list_all}
use Rattle.swc_tree_node.specs.declared.kind.Kind.{Kind}
use Rattle.swc_tree_node.specs.declared.kind.Kind.TheVariants as kind
use Rattle.swc_tree_node.specs.declared.kind.Class.TheVariants as class
use Rattle.swc_tree_node.specs.declared.slot.Content.TheVariants as content
use Rattle.swc_tree_node.specs.declared.slot.Slot.TheVariants as slot
use Rattle.swc_tree_node.specs.declared.node.Node.{Node, List as Many, Tree}
use Rattle.swc_tree_node.specs.Table.{slots_of}
use Rattle.swc_tree_node.specs.Fits.{AllFit, belongs, FieldsFit, Fits}
use Rattle.swc_tree_scoping.specs.Places.{program_place}
use Rattle.swc_tree_scoping.specs.BoundNames.{Id, declared_ids}
use Rattle.swc_tree_grammar.specs.Normal.{normal_form, written_out}
use Rattle.swc_tree_grammar.specs.Stripped.{stripped}
use Rattle.swc_tree_grammar.specs.Writable.{Round, all_sound, is_writable, strictly}
use Rattle.swc_tree_grammar.proofs.Asked.{of, sound, sound_list, sound_tree}
use Rattle.swc_tree_grammar.proofs.Induction.{Each}
use Rattle.swc_tree_grammar.proofs.Items.{listed}
use Rattle.swc_base_rename_substitution.specs.declared.place.Place.TheVariants as place
use Rattle.swc_base_rename_substitution.specs.Identifiers.{Changes}
use Rattle.swc_base_rename_substitution.specs.Substituted.{Substituted, substituted}
use Rattle.swc_base_rename_substitution.specs.Walk.{items_substituted}
use Rattle.swc_base_rename_laws.specs.Laws.{IsProgram, NormalFormStays}
use Rattle.swc_base_rename_laws.proofs.NormalFormPairs.{Becomes, Items, Like, part}
use Rattle.swc_base_rename_laws.proofs.NormalFormSame.{same_like}
use Rattle.swc_base_rename_laws.proofs.NormalFormStripped.{strip_becomes}
use Rattle.swc_base_rename_laws.proofs.NormalFormWritten.{written_becomes}
use Rattle.swc_base_fixer_laws.specs.Lower.swc_tree_grammar_laws.proofs.Levelled.{also}
use Rattle.swc_base_fixer_laws.proofs.NoNamespaces.{is_free, sound_is_free}
use Rattle.swc_base_rename_laws.proofs.NormalFormModule.{Exported, all_items, module_becomes, script_becomes, tree_only}
use Rattle.swc_base_rename_laws.proofs.NormalFormDeclared.{exported_declares}
use Rattle.swc_base_rename_laws.proofs.Impossible.{impossible}

-- what a declaration declares, pairs taken off, and when all is written out
abbrev pub before : Node → List Id
before t = declared_ids (written_out (stripped t))

abbrev pub after : Node → List Id
after t = declared_ids (written_out t)

both_left : (a b : Bool) → (a && b) ≡ true → a ≡ true
both_left true b h = refl
both_left false b h = h

both_right : (a b : Bool) → (a && b) ≡ true → b ≡ true
both_right true b h = h
both_right false b h = absurd (cc)

module _ (m : Changes) where
  exported : (t : Node) (r : Round) → Fits t (slot.One (content.Node class.ModuleItem)) → sound t r ≡ true → Exported m before t
  exported t r f h a d e = exported_declares a d r (subst (λ t. Fits t (slot.One (content.Node class.ModuleItem))) e f) (subst (λ t. sound t r ≡ true) e h)

  all_exported : (ts : List Node) (r : Round) → AllFit (slot.One (content.Node class.ModuleItem)) ts → all_sound (map of ts) r ≡ true → Each (Exported m before) ts
  all_exported [] r f h = tt
  all_exported (t ∷ ts) r f h = (exported t r f.0 (both_right _ _ (both_left _ _ h)), all_exported ts r f.1 (both_right _ _ h))

  items_free : (ts : List Node) (r : Round) → AllFit (slot.One (content.Node class.ModuleItem)) ts → all_sound (map of ts) r ≡ true → list_all is_free ts ≡ true
  items_free [] r f h = refl
  items_free (t ∷ ts) r f h = also (sound_is_free t (slot.One (content.Node class.ModuleItem)) f.0 r (both_right _ _ (both_left _ _ h))) (items_free ts r f.1 (both_right _ _ h))

  -- the items of a module become those with their names
  pub items_become : (ts : List Node) (r : Round) → AllFit (slot.One (content.Node class.ModuleItem)) ts → all_sound (map of ts) r ≡ true → Items m before ts (items_substituted m false place.Other ts)
  items_become ts r f h = all_items m before ts (items_free ts r f h) f (all_exported ts r f h)

  pub like_normal : (t u : Node) → Becomes m before true (part false) t u → Like m false (normal_form t) (normal_form u)
  like_normal t u h = written_becomes m true (part false) _ _ (strip_becomes m before after (λ t. refl) true (part false) t u h)

  abbrev Stands : Node → Type 0
  Stands t = Becomes m before true (part false) t (substituted m false place.Other t)

  module_of : (a : Node) (ts : List Node) (c : Node) (r : Round) → Fits a (slot.One content.Span) → AllFit (slot.One (content.Node class.ModuleItem)) ts → Fits c (slot.Optional content.Text)
      → sound (Tree kind.Module (a ∷ Many ts ∷ c ∷ [])) r ≡ true → Stands (Tree kind.Module (a ∷ Many ts ∷ c ∷ []))
  module_of a ts c r f g h s =
      let items : all_sound (map of ts) (strictly true r) ≡ true = sym (sound_list ts (strictly true r)) ∙ sym (sound_tree kind.Module (a ∷ Many ts ∷ c ∷ []) r) ∙ s in
      module_becomes m before a ts c (items_free ts (strictly true r) g items) f g h (all_exported ts (strictly true r) g items)

  of_kind : (k : Kind) (ts : List Node) (r : Round) → IsTrue (belongs k class.Module) → FieldsFit (slots_of k) ts → sound (Tree k ts) r ≡ true → Stands (Tree k ts)
  of_kind kind.Module [] r b f s = absurd f
  of_kind kind.Module (x ∷ []) r b f s = absurd f.1
  of_kind kind.Module (x ∷ y ∷ []) r b f s = absurd f.1.1
  of_kind kind.Module (x ∷ y ∷ z ∷ t ∷ ts) r b f s = absurd f.1.1.1
  of_kind kind.Module (x ∷ y ∷ z ∷ []) r b f s =
      let l = listed y (content.Node class.ModuleItem) f.1.0 in
      subst (λ y. Stands (Tree kind.Module (x ∷ y ∷ z ∷ []))) (sym l.is) (module_of x l.items z r f.0 l.fit f.1.1.0 (subst (λ y. sound (Tree kind.Module (x ∷ y ∷ z ∷ [])) r ≡ true) l.is s))
  of_kind k ts r b f s = impossible b

  module_stands : (t : Node) (r : Round) → Fits t (slot.One (content.Node class.Module)) → sound t r ≡ true → Stands t
  module_stands t r f s =
      let x = tree_only class.Module refl refl t f in
      subst Stands (sym x.2) (of_kind x.0 x.1 r x.4 x.5 (subst (λ t. sound t r ≡ true) x.2 s))

  like : (t : Node) → Stands t → Like m false (normal_form t) (normal_form (substituted m false place.Other t))
  like t h = like_normal t (substituted m false place.Other t) h

pub normal_forms_like : (m : Changes) (tree answer : Node) → IsProgram tree → IsTrue (is_writable tree) → Substituted m false tree answer → Like m false (normal_form tree) (normal_form answer)
normal_forms_like m tree answer (inl f) w e = rw e (like m tree (module_stands m tree _ f w))
normal_forms_like m tree answer (inr f) w e = rw e (like m tree (script_becomes m before tree (sound_is_free tree (slot.One (content.Node class.Script)) f _ w) f))

pub normal_form_stays : NormalFormStays
normal_form_stays m changing tree answer named f w e = same_like m changing named false _ _ (normal_forms_like m tree answer f w e) program_place refl
