-- A script with a `require` for each helper, whose references to helpers are members, is as well-scoped as it was.
use Rattle.std.proofs.Common.{◌≡◌, ◌≢◌, ⊎_elim, ℕ, Bool, true, false, IsTrue, List, [], ◌∷◌, ◌++◌, Contains, drop, map, option_map, take, refl, sym, ap, ◌∙◌, subst}
use Rattle.std.specs.List.{prefix_len}
use Rattle.std.proofs.lemmas.List.{take-append-drop}
use Rattle.swc_tree_marks.specs.declared.ident.Ident.{Ident}
use Rattle.swc_tree_node.specs.declared.kind.Kind.TheVariants as kind
use Rattle.swc_tree_node.specs.declared.kind.Class.TheVariants as class
use Rattle.swc_tree_node.specs.declared.kind.Word.TheVariants as word
use Rattle.swc_tree_node.specs.declared.slot.Content.TheVariants as content
use Rattle.swc_tree_node.specs.declared.slot.Slot.TheVariants as slot
use Rattle.swc_tree_node.specs.declared.node.Node.{Node, Absent, Word, List as Many}
use Rattle.swc_tree_node.specs.declared.node.Node.TheVariants.{outs-Tree}
use Rattle.swc_tree_node.specs.Fits.{Fits}
use Rattle.swc_tree_scoping.specs.declared.places.Standing.TheVariants as standing
use Rattle.swc_tree_scoping.specs.Places.{directive_or, has_use_strict, program_place, says, statement_in}
use Rattle.swc_tree_scoping.specs.Scopes.{is_binding}
use Rattle.swc_tree_scoping.specs.Readings.{by_ids, id_name}
use Rattle.swc_tree_scoping.specs.WellScoped.{IsDeclared, IsFree, WellScoped, is_module}
use Rattle.swc_tree_scoping.proofs.Remarked.{tree_is}
use Rattle.swc_tree_renaming.proofs.Global.{fits_script, no_module_is_script}
use Rattle.swc_tree_renaming.proofs.Whole.{from_ids, id_name_apart, id_name_same, script_layer}
use Rattle.swc_tree_spaces.specs.NoTypes.{NoNamespaces}
use Rattle.swc_base_tables_injection.specs.Alone.{opening}
use Rattle.swc_base_tables_injection.specs.Bodies.{is_string, put_in}
use Rattle.swc_base_tables_injection.specs.Brought.{declarator_of, local_name, nowhere, require_of}
use Rattle.swc_base_tables_injection.specs.declared.members.Seat.TheVariants as seat
use Rattle.swc_base_tables_injection.specs.Members.{with_members}
use Rattle.swc_base_tables_injection.proofs.MembersFit.{members_fit}
use Rattle.swc_base_tables_laws.specs.Laws.{IsInjectableScript, RequiresKeepWellScoped}
use Rattle.swc_base_tables_laws.proofs.Composed.{joined_before}
use Rattle.swc_base_tables_laws.proofs.Deeper.{There, deeper}
use Rattle.swc_base_tables_laws.proofs.Imported.{absent_plain, helper_ident, nowhere_plain, opening_plain}
use Rattle.swc_base_tables_laws.proofs.Imports.{contained_at}
use Rattle.swc_base_tables_laws.proofs.ImportsLaw.{not_both, only_or}
use Rattle.swc_base_tables_laws.proofs.Injected.{injected, scoped_of}
use Rattle.swc_base_tables_laws.proofs.Joined.{BoundApart, Joined, Offered, bound_is_name, reference_is_name}
use Rattle.swc_base_tables_laws.proofs.Joining.{joined}
use Rattle.swc_base_tables_laws.proofs.MembersInside.{members_covered, members_inside}
use Rattle.swc_base_tables_laws.proofs.Parts.{Parts, put_in_is, script_parts, split_is}
use Rattle.swc_base_tables_laws.proofs.Programs.{code_of, program_of}
use Rattle.swc_base_tables_laws.proofs.Required.{require_ident}
use Rattle.swc_base_tables_laws.proofs.Requires.{IsBound, IsRequired, V, helper_stands, ids, is_free, named_by_id, no_eval, path_of, program_declares, requires_scoped}
use Rattle.swc_base_tables_laws.proofs.Strictly.{code_alone, code_stays}

impossible : {A : Type 0} → false ≡ true → A
impossible h = absurd (cc)

-- none of them is a directive
requires_plain : (helper global : ℕ) (names : List (List ℕ)) → has_use_strict (map (require_of helper global) names) ≡ false
requires_plain helper global [] = refl
requires_plain helper global (n ∷ names) =
    ap (λ y. directive_or (option_map says (statement_in y)) (has_use_strict (map (require_of helper global) names))) (outs-Tree kind.VarDecl (nowhere ∷ Word word.Var ∷ Many (declarator_of helper global n ∷ []) ∷ []))

module _ (helper global : ℕ) (names : List (List ℕ)) (t : Node) (none : NoNamespaces t) (h : IsInjectableScript helper global (Contains (map local_name names)) t) where
  abbrev s : Node
  s = with_members helper t

  abbrev L : List Node
  L = map (require_of helper global) names

  fits : Fits s (slot.One (content.Node class.Script))
  fits =
      let (ts, o) = script_layer t (fits_script t h.fitting) in
      let is = tree_is t kind.Script ts o in
      subst (λ t. Fits (with_members helper t) (slot.One (content.Node class.Script))) (sym is) (members_fit helper kind.Script ts (slot.One (content.Node class.Script)) (subst (λ t. Fits t (slot.One (content.Node class.Script))) is h.fitting))

  abbrev parts : Parts kind.Script s
  parts = script_parts s fits

  abbrev strict : Bool
  strict = code_of kind.Script parts.body

  abbrev front : List Node
  front = take (prefix_len is_string parts.body) parts.body

  abbrev back : List Node
  back = drop (prefix_len is_string parts.body) parts.body

  abbrev whole : Node
  whole = program_of kind.Script parts.span (front ++ (L ++ back)) parts.last

  code : code_of kind.Script (front ++ back) ≡ code_of kind.Script (front ++ (L ++ back))
  code = code_stays kind.Script parts.body L (λ e. impossible (sym (requires_plain helper global names) ∙ e))

  code_too : code_of kind.Script (opening strict ∷ L) ≡ code_of kind.Script (front ++ (L ++ back))
  code_too = code_alone kind.Script parts.body L ∙ ap (code_of kind.Script) (sym (take-append-drop (prefix_len is_string parts.body) parts.body)) ∙ code

  abbrev W : Node
  W = V strict helper global names

  with_requires : Joined s W whole
  with_requires =
      subst (λ s. Joined s W whole) (sym (split_is kind.Script s parts))
      (joined kind.Script refl parts.span parts.last nowhere Absent (opening strict) parts.span_plain parts.last_plain nowhere_plain absent_plain (opening_plain strict) front L back code code_too)

  no_module : IsTrue (is_module s) → IsTrue (is_module t)
  no_module m = absurd (no_module_is_script s m (fits_script s fits))

  both : Joined t W whole
  both = joined_before t s W whole (deeper helper seat.Other t) (There program_place t) (members_inside helper t h.fitting none) (members_covered helper t h.fitting none) no_module with_requires

  -- a binding has neither the name of a helper nor that of the free `require`
  apart : BoundApart (by_ids t) (by_ids W)
  apart p q r z x b st nm =
      let (l, i, e, is) = from_ids t p b.at.place b.at.kind b.at.identifier b.at.stands in
      let name : id_name i ≡ x = sym (ap (λ (i : Ident). i.sym) is) ∙ b.at.named in
      let binds : IsTrue (is_binding b.at.place.standing) = subst (λ r. IsTrue (is_binding r)) (sym b.at.stands_so) b.binds in
      let nameable = bound_is_name b.at.place.standing binds in
      let no_helper : i.ctxt ≢ helper ∷ [] = λ c. not_both b.at.place.standing binds (h.helpers p b.at.place l i e nameable c).0 in
      ⊎_elim
      (λ (a : IsBound strict helper global names (ids strict helper global names) q z x). let (j, n, an, path, stands, same) = a in no_helper (id_name_apart i (helper_ident helper n) (name ∙ same)).1)
      (λ (a : IsRequired strict helper global names (ids strict helper global names) q z x).
      let (j, n, an, path, stands, same) = a in
      (h.undeclared p i (b.at.place, l, e, nameable) no_helper).1 (id_name_apart i (require_ident helper global n) (name ∙ same)).1 (subst (IsDeclared (by_ids t)) (sym name) (p, r, b)))
      (named_by_id strict helper global names q z x st)

  offered : Offered (by_ids t) (by_ids W)
  offered p q r z x b st nm = program_declares strict helper global names p r x b

  frees : (i : Ident) → IsFree t i → ¬ IsDeclared (by_ids W) (id_name i) → i.ctxt ≡ global ∷ []
  frees i f undeclared = ⊎_elim
      (λ (is : i.ctxt ≡ helper ∷ []).
      let (r, there) = h.helpers f.path f.place f.kind i f.stands (reference_is_name f.place.standing f.refers) is in
      let (j, n, at, name) = contained_at local_name names i.sym there in
      let same : id_name (helper_ident helper n) ≡ id_name i = id_name_same (helper_ident helper n) i (name, sym is) in
      absurd (undeclared (subst (IsDeclared (by_ids W)) same (path_of strict helper global names j, standing.Variable, record { at = helper_stands strict helper global names j n at; binds = refl }))))
      (λ (other : i.ctxt ≢ helper ∷ []).
      (h.undeclared f.path i (f.place, f.kind, f.stands, reference_is_name f.place.standing f.refers) other).0 f.undeclared)
      (only_or helper i.ctxt)

  pub requires_law : WellScoped (put_in L s)
  requires_law =
      subst WellScoped (sym (ap (put_in L) parts.is ∙ put_in_is kind.Script refl parts.span parts.last parts.body L))
      (injected t W whole both (scoped_of t h.well_scoped) (requires_scoped strict helper global names) h.well_scoped.no_eval_or_arguments (no_eval strict helper global names) apart offered global frees
      (λ i f. is_free strict helper global names i f))

pub requires_keep_well_scoped : RequiresKeepWellScoped
requires_keep_well_scoped helper global names t none h = requires_law helper global names t none h
