-- Of the items of a module with its names, the exported declarations declare ids that texts alone tell apart, where those
-- of the module do that declare no id that changes.
use Rattle.std.proofs.Common.{◌≡◌, Bool, true, false, List, [], ◌∷◌, map, refl, sym, ap, ◌∙◌, subst}
use Rattle.std.specs.Prelude.{is_some}
use Rattle.std.specs.List.{list_any}
use Rattle.swc_tree_node.specs.declared.kind.Kind.{Kind}
use Rattle.swc_tree_node.specs.declared.kind.Kind.TheVariants as kind
use Rattle.swc_tree_node.specs.declared.node.Node.{Node, Absent, List as Many, Tree, out-Node}
use Rattle.swc_tree_node.specs.declared.node.Node.TheVariants.{outs-Tree, rolls-Tree}
use Rattle.swc_tree_node.specs.declared.node.Node.TheOpen.{Node-F}
use Rattle.swc_tree_scoping.specs.BoundNames.{Id, declared_ids}
use Rattle.swc_tree_grammar.specs.Kinds.{has_kind, has_kind_in}
use Rattle.swc_tree_grammar.specs.Normal.{made, normal_form, split, split_in, written_out}
use Rattle.swc_tree_grammar.specs.Stripped.{stripped}
use Rattle.swc_tree_grammar.proofs.Induction.{Each}
use Rattle.swc_tree_grammar.proofs.Stripped.{stripped_other}
use Rattle.swc_tree_grammar_texts.proofs.ClearedExports.{AreApart, Exports, normals}
use Rattle.swc_tree_grammar_texts.proofs.ClearedWritten.{written_of_tree}
use Rattle.swc_base_rename_substitution.specs.Identifiers.{Changes}
use Rattle.swc_base_rename_substitution.specs.Exports.{distinct, export_list, nowhere, specifier}
use Rattle.swc_base_rename_laws.proofs.NormalFormLike.{declared_kept, split_alone}
use Rattle.swc_base_rename_laws.proofs.NormalFormPairs.{Becomes, Items, Like, part}
use Rattle.swc_base_rename_laws.proofs.NormalFormStays.{before, like_normal}
use Rattle.swc_base_rename_laws.proofs.NormalFormStripped.{strip_exports}

abbrev is_export : Kind → Bool
is_export kind.ExportDecl = true
is_export _ = false

abbrev is_one : List Node → Bool
is_one (t ∷ []) = true
is_one _ = false

abbrev second_in : Node-F Node → Node
second_in (Node-F.Tree k (a ∷ b ∷ [])) = b
second_in _ = Absent

normal_export : (b u : Node) → normal_form (Tree kind.ExportDecl (b ∷ u ∷ [])) ≡ Tree kind.ExportDecl (normal_form b ∷ normal_form u ∷ [])
normal_export b u =
    ap written_out (stripped_other kind.ExportDecl (b ∷ u ∷ []) refl) ∙ written_of_tree kind.ExportDecl (stripped b ∷ stripped u ∷ [])
    ∙ rolls-Tree kind.ExportDecl (normal_form b ∷ normal_form u ∷ [])

second_same : (a b c d : Node) → Tree kind.ExportDecl (a ∷ b ∷ []) ≡ Tree kind.ExportDecl (c ∷ d ∷ []) → b ≡ d
second_same a b c d e = sym (ap second_in (outs-Tree kind.ExportDecl (a ∷ b ∷ []))) ∙ ap (λ t. second_in (out-Node t)) e ∙ ap second_in (outs-Tree kind.ExportDecl (c ∷ d ∷ []))

module _ (m : Changes) where
  -- an exported declaration none of whose names changes declares ids that texts tell apart
  abbrev pub ApartIfKept : Node → Type 0
  ApartIfKept t = (a d : Node) → t ≡ Tree kind.ExportDecl (a ∷ d ∷ []) → list_any (λ x. is_some (m x)) (before d) ≡ false → AreApart (map made (before d))

  no_export : (t u : Node) → Like m false t u → Exports u
  no_export t u h s d e =
      let one : is_one (split u) ≡ true = ap is_one (split_alone m false t u h).1 in
      let two : is_one (split u) ≡ false = ap (λ u. is_one (split u)) e ∙ ap (λ y. is_one (split_in (Tree kind.ExportDecl (s ∷ d ∷ [])) y)) (outs-Tree kind.ExportDecl (s ∷ d ∷ [])) in
      absurd (cc)

  kept_export : (b t u : Node) → Becomes m before true (part false) t u → list_any (λ x. is_some (m x)) (before t) ≡ false → AreApart (map made (before t)) → Exports (normal_form (Tree kind.ExportDecl (b ∷ u ∷ [])))
  kept_export b t u h n l s d e =
      subst (λ d. AreApart (map made (declared_ids d))) (second_same (normal_form b) (normal_form u) s d (sym (normal_export b u) ∙ e))
      (subst (λ ids. AreApart (map made ids)) (sym (declared_kept m false (normal_form t) (normal_form u) (like_normal m t u h) n)) l)

  list_kind : (xs : List Id) → has_kind is_export (normal_form (export_list m xs)) ≡ false
  list_kind xs =
      ap (λ t. has_kind is_export (written_out t)) (strip_exports m xs)
      ∙ ap (has_kind is_export) (written_of_tree kind.NamedExport (nowhere ∷ Many (map (specifier m) xs) ∷ Absent ∷ Absent ∷ []))
      ∙ ap (has_kind_in is_export) (outs-Tree kind.NamedExport _)

  list_exports : (xs : List Id) → Exports (normal_form (export_list m xs))
  list_exports xs s d e =
      let is : has_kind is_export (normal_form (export_list m xs)) ≡ true = ap (has_kind is_export) e ∙ ap (has_kind_in is_export) (outs-Tree kind.ExportDecl (s ∷ d ∷ [])) in
      let not : has_kind is_export (normal_form (export_list m xs)) ≡ false = list_kind xs in
      absurd (cc)

  pub exports_apart : (ts us : List Node) → Items m before ts us → Each ApartIfKept ts → Each Exports (normals us)
  exports_apart ts us Items.nothing l = tt
  exports_apart ts us (Items.item t u ts0 us0 h i) l = (no_export (normal_form t) (normal_form u) (like_normal m t u h), exports_apart ts0 us0 i l.1)
  exports_apart ts us (Items.whole a b t u ts0 us0 g h n i) l = (kept_export b t u h n (l.0 a t refl n), exports_apart ts0 us0 i l.1)
  exports_apart ts us (Items.split a t u ts0 us0 h i) l = (no_export (normal_form t) (normal_form u) (like_normal m t u h), (list_exports (distinct (before t)), exports_apart ts0 us0 i l.1))
