-- A module with an import for each helper is as well-scoped as it was.
use Rattle.std.proofs.Common.{◌≡◌, ◌≢◌, ◌⊎◌, ◌==◌, ℕ, Bool, true, false, inl, inr, ⊎_elim, IsTrue, List, [], ◌∷◌, ◌++◌, Contains, drop, map, take, refl, sym, ap, ◌∙◌, subst}
use Rattle.std.specs.List.{prefix_len}
use Rattle.std.proofs.lemmas.Bool.{eqb-false, eqb-true}
use Rattle.swc_tree_marks.specs.declared.ident.Ident.{Ident}
use Rattle.swc_tree_node.specs.declared.kind.Kind.TheVariants as kind
use Rattle.swc_tree_node.specs.declared.node.Node.{Node, Absent}
use Rattle.swc_tree_scoping.specs.declared.places.Standing.{Standing}
use Rattle.swc_tree_scoping.specs.declared.places.Standing.TheVariants as standing
use Rattle.swc_tree_scoping.specs.Scopes.{is_binding, is_reference}
use Rattle.swc_tree_scoping.specs.Readings.{by_ids, id_name}
use Rattle.swc_tree_scoping.specs.WellScoped.{IsDeclared, IsFree, WellScoped}
use Rattle.swc_tree_renaming.proofs.Whole.{from_ids, id_name_apart, id_name_same}
use Rattle.swc_base_tables_injection.specs.Alone.{opening}
use Rattle.swc_base_tables_injection.specs.Bodies.{is_string, put_in}
use Rattle.swc_base_tables_injection.specs.Brought.{import_of, local_name, nowhere}
use Rattle.swc_base_tables_laws.specs.Laws.{EachOnce, ImportsKeepWellScoped, IsInjectable}
use Rattle.swc_base_tables_laws.proofs.Imported.{absent_plain, helper_ident, nowhere_plain, opening_plain}
use Rattle.swc_base_tables_laws.proofs.Imports.{V, contained_at, helper_stands, imports_scoped, is_helpers, no_eval, none_free, path_of, program_declares}
use Rattle.swc_base_tables_laws.proofs.Injected.{injected, scoped_of}
use Rattle.swc_base_tables_laws.proofs.Joined.{BoundApart, Offered, bound_is_name, reference_is_name}
use Rattle.swc_base_tables_laws.proofs.Joining.{joined}
use Rattle.swc_base_tables_laws.proofs.Parts.{parts_of, put_in_is, split_is}
use Rattle.swc_base_tables_laws.proofs.Programs.{HasNoNames, program_of}

impossible : {A : Type 0} → false ≡ true → A
impossible h = absurd (cc)

pub not_both : (r : Standing) → IsTrue (is_binding r) → IsTrue (is_reference r) → ⊥
not_both standing.Reference h g = impossible h
not_both standing.Body h g = impossible h
not_both _ h g = impossible g

one_same : (m n : ℕ) → ◌≡◌ {A = List ℕ} (m ∷ []) (n ∷ []) → m ≡ n
one_same m n e = cc

-- a context is that of the one mark, or another
pub only_or : (mark : ℕ) (c : List ℕ) → (c ≡ mark ∷ []) ⊎ (c ≢ mark ∷ [])
only_or mark [] = inr (λ e. absurd (cc))
only_or mark (m ∷ []) = at (m == mark) refl
  where
    at : (b : Bool) → (m == mark) ≡ b → ◌⊎◌ (◌≡◌ {A = List ℕ} (m ∷ []) (mark ∷ [])) (◌≢◌ {A = List ℕ} (m ∷ []) (mark ∷ []))
    at true e = inl (ap (λ m. m ∷ []) (eqb-true m mark e))
    at false e = inr (λ z. eqb-false m mark e (one_same m mark z))
only_or mark (m ∷ n ∷ c) = inr (λ e. absurd (cc))

module _ (helper global : ℕ) (names : List (List ℕ)) (once : EachOnce names) (a z : Node) (na : HasNoNames a) (nz : HasNoNames z) (front back : List Node)
    (h : IsInjectable helper global (Contains (map local_name names)) (program_of kind.Module a (front ++ back) z)) where
  abbrev T : Node
  T = program_of kind.Module a (front ++ back) z

  apart : BoundApart (by_ids T) (by_ids (V helper names))
  apart p q r s x b st nm =
      let (n, name) = is_helpers helper names q s x st nm in
      let (l, i, e, is) = from_ids T p b.at.place b.at.kind b.at.identifier b.at.stands in
      let same : id_name i ≡ id_name (helper_ident helper n) = sym (ap (λ (i : Ident). i.sym) is) ∙ b.at.named ∙ name in
      let binds : IsTrue (is_binding b.at.place.standing) = subst (λ r. IsTrue (is_binding r)) (sym b.at.stands_so) b.binds in
      not_both b.at.place.standing binds (h.helpers p b.at.place l i e (bound_is_name b.at.place.standing binds) (id_name_apart i (helper_ident helper n) same).1).0

  offered : Offered (by_ids T) (by_ids (V helper names))
  offered p q r s x b st nm = program_declares helper names p r x b

  frees : (i : Ident) → IsFree T i → ¬ IsDeclared (by_ids (V helper names)) (id_name i) → i.ctxt ≡ global ∷ []
  frees i f none = ⊎_elim
      (λ (is : i.ctxt ≡ helper ∷ []).
      let (r, there) = h.helpers f.path f.place f.kind i f.stands (reference_is_name f.place.standing f.refers) is in
      let (j, n, at, name) = contained_at local_name names i.sym there in
      let same : id_name (helper_ident helper n) ≡ id_name i = id_name_same (helper_ident helper n) i (name, sym is) in
      absurd (none (subst (IsDeclared (by_ids (V helper names))) same (path_of helper names j, standing.Import, record { at = helper_stands helper names j n at; binds = refl }))))
      (λ (other : i.ctxt ≢ helper ∷ []).
      (h.undeclared f.path i (f.place, f.kind, f.stands, reference_is_name f.place.standing f.refers) other).0 f.undeclared)
      (only_or helper i.ctxt)

  in_parts : WellScoped (program_of kind.Module a (front ++ (map (import_of helper) names ++ back)) z)
  in_parts =
      injected T (V helper names) (program_of kind.Module a (front ++ (map (import_of helper) names ++ back)) z)
      (joined kind.Module refl a z nowhere Absent (opening true) na nz nowhere_plain absent_plain (opening_plain true) front (map (import_of helper) names) back refl refl) (scoped_of T h.well_scoped) (imports_scoped helper names once)
      h.well_scoped.no_eval_or_arguments (no_eval helper names) apart offered global frees (λ i f. none_free helper names i f)

pub imports_keep_well_scoped : ImportsKeepWellScoped
imports_keep_well_scoped helper global names t once h =
    let parts = parts_of t h.fitting in
    let n = prefix_len is_string parts.body in
    subst WellScoped (sym (ap (put_in (map (import_of helper) names)) parts.is ∙ put_in_is kind.Module refl parts.span parts.last parts.body (map (import_of helper) names)))
    (in_parts helper global names once parts.span parts.last parts.span_plain parts.last_plain (take n parts.body) (drop n parts.body)
    (subst (IsInjectable helper global (Contains (map local_name names))) (split_is kind.Module t parts) h))
