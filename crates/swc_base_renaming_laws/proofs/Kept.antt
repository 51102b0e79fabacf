-- Preserved ids that are apart are so at the top of the program; and names that count by scopes are those that count all.
use Rattle.std.proofs.Common.{◌≡◌, ℕ, Bool, true, false, ◌||◌, IsTrue, Option, Some, None, List, [], ◌∷◌, refl, sym, ap, ◌∙◌, subst, cond, inl, arith}
use Rattle.std.specs.Prelude.{Contains}
use Rattle.swc_tree_marks.specs.declared.ident.Ident.{Ident}
use Rattle.swc_tree_node.specs.declared.node.Node.{Node}
use Rattle.swc_tree_node.specs.declared.slot.Slot.{Slot}
use Rattle.swc_tree_node.specs.Fits.{Fits}
use Rattle.swc_tree_scoping.specs.BoundNames.{Id}
use Rattle.swc_tree_scoping.specs.Places.{Path, program_place}
use Rattle.swc_tree_scoping.specs.Scopes.{Round, first_that, is_reference, is_taken, rounds, scope_at}
use Rattle.swc_tree_scoping.specs.Declares.{DeclaredBy}
use Rattle.swc_tree_scoping.specs.Readings.{by_ids, id_name}
use Rattle.swc_tree_scoping.specs.WellScoped.{Binds, OneScope, WellScoped}
use Rattle.swc_tree_renaming.specs.Apart.{DeclaredIn, HasNoSloppy, OccursIn}
use Rattle.swc_tree_renaming.proofs.Core.{declared_taker}
use Rattle.swc_tree_renaming.proofs.Global.{module_settled}
use Rattle.swc_base_rename_analysis.specs.Named.{Named, Renaming, all_count}
use Rattle.swc_base_rename_analysis.specs.Preserved.{IsPreserved}
use Rattle.swc_base_rename_program.specs.Lower.swc_base_rename_naming_laws.specs.Rules.{counting, counting_by}
use Rattle.swc_base_renaming_laws.specs.Renamers.{IsBoundAtTop, KeepsTopApart, TopTextsDiffer}
use Rattle.swc_base_rename_scoped_laws.specs.Laws.{ChainedIsFlat, KeepsApart}
use Rattle.swc_base_rename_scoped_laws.proofs.ByIds.{IsAt, from_id, id_of, one_id, rounds_by_ids, to_ids}
use Rattle.swc_base_rename_scoped_laws.proofs.Homes.{declared, settled}

-- where the program is the only scope round a path, no other takes
pub only_taker : (f : Round → Bool) (ss : List Round) (s : Path) → ss ≡ ([], true) ∷ [] → first_that f ss ≡ Some s → s ≡ []
only_taker f ss s e h = at (f ([], true)) (sym (ap (first_that f) e) ∙ h)
  where
    at : (b : Bool) → cond b (Some []) None ≡ Some s → s ≡ []
    at true h = cc
    at false h = absurd (cc)

module _ (t : Node) (none_sloppy : HasNoSloppy t) (scoped : WellScoped t) where
  abbrev A : Node
  A = by_ids t

  module _ (x : Id) (b : IsBoundAtTop t x) where
    abbrev Here : Type 0
    Here = (i : Ident) × IsAt t b.path b.standing i × (id_of i ≡ x)

    top_inside : rounds program_place A b.path ≡ ([], true) ∷ []
    top_inside = rounds_by_ids t b.path ∙ b.inside

    here : Here
    here = from_id t b.path b.standing x b.stands

    top_binds : (h : Here) → Binds A b.path b.standing (id_name h.0)
    top_binds h = record { at = to_ids t b.path b.standing h.0 h.1; binds = b.binds }

    occurs_top : (h : Here) → OccursIn A [] (id_name h.0)
    occurs_top h = record {
      path = b.path;
      standing = b.standing;
      at = to_ids t b.path b.standing h.0 h.1;
      names = ap (λ y. y || is_reference b.standing) b.binds;
      inside = (true, subst (λ l. Contains l ([], true)) (sym top_inside) (0, (omega arith), refl));
    }

    declared_top : (h : Here) → DeclaredIn A [] (id_name h.0)
    declared_top h =
        let one : OneScope A (id_name h.0) = scoped.each_in_one_scope (id_name h.0) (declared t b.path b.standing h.0 h.1 b.binds) in
        let by = one.bindings b.path b.standing (top_binds h) in
        let top : one.scope ≡ []
        = only_taker (λ s. is_taken b.standing (scope_at program_place A s.0)) (rounds program_place A b.path) one.scope top_inside
        (declared_taker A b.standing b.path one.scope (id_name h.0) (settled t none_sloppy b.path b.standing h.0 h.1) by) in
        record { path = b.path; standing = b.standing; binds = top_binds h; declared = subst (DeclaredBy A b.path b.standing (id_name h.0)) top by }

  top_texts_differ : (r : Renaming) → KeepsApart r t → TopTextsDiffer r t
  top_texts_differ r keeps x y d e kept_x kept_y same =
      let h = here x d in
      let g = here y e in
      let texts : h.0.sym ≡ g.0.sym = ap (λ (z : Id). z.0) h.2 ∙ same ∙ sym (ap (λ (z : Id). z.0) g.2) in
      sym h.2
      ∙ one_id h.0 g.0 (keeps.declared_apart [] [] [] h.0 g.0 (subst (λ z. IsTrue (r.preserves z)) (sym h.2) kept_x) (subst (λ z. IsTrue (r.preserves z)) (sym g.2) kept_y)
      (occurs_top x d h) (occurs_top y e g) (declared_top x d h) (declared_top y e g) (inl refl) (inl refl) texts)
      ∙ g.2

pub top_apart : (t : Node) → WellScoped t → (r : Renaming) → KeepsApart r t → KeepsTopApart r t
top_apart t scoped r keeps is = top_texts_differ t (module_settled t is) scoped r keeps

-- names that count by scopes are those that count all
pub all_named : ChainedIsFlat → (t : Node) (s : Slot) (r : Renaming) (new_texts : Id → Option (List ℕ)) → Fits t s → WellScoped t
    → Named t r (IsPreserved t r.preserves) (counting t r) new_texts → Named t r (IsPreserved t r.preserves) all_count new_texts
all_named flat t s r new_texts fits scoped = by r.mangles
  where
    by : (b : Bool) → Named t r (IsPreserved t r.preserves) (counting_by b t) new_texts → Named t r (IsPreserved t r.preserves) all_count new_texts
    by true named = (flat t s r new_texts fits scoped).1 named
    by false named = named
