-- A program with the bodies of helpers in it, resolved, is as well-scoped as it was.
use Rattle.std.proofs.Common.{◌≡◌, ◌≢◌, ◌||◌, ◌⊎◌, ℕ, Bool, true, false, inl, inr, ⊎_elim, IsTrue, Option, Some, None, List, [], ◌∷◌, ◌++◌, Contains, drop, take, refl, sym, ap, ◌∙◌, subst}
use Rattle.std.specs.List.{prefix_len}
use Rattle.std.proofs.lemmas.List.{take-append-drop}
use Rattle.swc_tree_marks.specs.declared.ident.Ident.{Ident}
use Rattle.swc_tree_marks.specs.Globals.{Table, numbers}
use Rattle.swc_tree_node.specs.declared.kind.Kind.{Kind}
use Rattle.swc_tree_node.specs.declared.kind.Kind.TheVariants as kind
use Rattle.swc_tree_node.specs.declared.kind.Class.TheVariants as class
use Rattle.swc_tree_node.specs.declared.slot.Content.TheVariants as content
use Rattle.swc_tree_node.specs.declared.slot.Slot.{Slot}
use Rattle.swc_tree_node.specs.declared.slot.Slot.TheVariants as slot
use Rattle.swc_tree_node.specs.declared.node.Node.{Node, Absent}
use Rattle.swc_tree_node.specs.Fits.{Fits}
use Rattle.swc_tree_scoping.specs.declared.places.Standing.{Standing}
use Rattle.swc_tree_scoping.specs.Places.{Path, has_use_strict, program_place}
use Rattle.swc_tree_scoping.specs.Scopes.{IsScope, is_binding, is_name, is_reference, rounds}
use Rattle.swc_tree_scoping.specs.Declares.{Declares, DeclaresFor, Means}
use Rattle.swc_tree_scoping.specs.Readings.{by_ids, id_name}
use Rattle.swc_tree_scoping.specs.Resolved.{Resolved, mark_in}
use Rattle.swc_tree_scoping.specs.WellScoped.{IsClean, IsDeclared, IsFree, NoEarlyErrorOfNames, Stands, WellScoped}
use Rattle.swc_tree_renaming.specs.Apart.{IsPlainIfScript, NameAt, is_goal}
use Rattle.swc_tree_renaming.proofs.Core.{head_in, taker_declares}
use Rattle.swc_tree_renaming.proofs.Global.{fits_module, plain_if_module}
use Rattle.swc_tree_renaming.proofs.Whole.{from_ids}
use Rattle.swc_base_resolver_laws.proofs.ExportLists.{lists_are_items}
use Rattle.swc_base_resolver_laws.proofs.Declared.{bound_forth, declares_bound}
use Rattle.swc_base_resolver_laws.proofs.FreeIds.{free_context}
use Rattle.swc_base_resolver_laws.proofs.Lists.{found, row_of}
use Rattle.swc_base_resolver_laws.proofs.Names.{Resolving, binding_context, contexts, marks, name_apart, name_is, name_of, no_sloppy, reference_context, round_scope, stands_back, taker_is, takers_scope, text_at}
use Rattle.swc_base_resolver_laws.proofs.Whole.{clean_programs_become_well_scoped}
use Rattle.swc_tree_spaces.specs.NoTypes.{ListsAreItems, NoNamespaces, NoTypes}
use Rattle.swc_tree_spaces_laws.proofs.Agree.{resolved_alike}
use Rattle.swc_base_tables_injection.specs.Alone.{IsInjected, ResolvedAlone, all_bodies, alone, is_strict_program, opening}
use Rattle.swc_base_tables_injection.specs.Bodies.{is_string, put_in}
use Rattle.swc_base_tables_injection.specs.Brought.{nowhere}
use Rattle.swc_base_tables_laws.specs.Laws.{BodiesKeepScriptWellScoped, BodiesKeepWellScoped, IsInjectableAs, KnowsContexts, bodies_alone, bodies_in_script}
use Rattle.swc_base_tables_laws.proofs.Imported.{absent_plain, nowhere_plain, opening_plain}
use Rattle.swc_base_tables_laws.proofs.ImportsLaw.{not_both, only_or}
use Rattle.swc_base_tables_laws.proofs.Injected.{injected, scoped_of}
use Rattle.swc_base_tables_laws.proofs.Declarers.{binding_at, stands_of}
use Rattle.swc_base_tables_laws.proofs.Joined.{BoundApart, Offered, bound_is_name, reference_is_name}
use Rattle.swc_base_tables_laws.proofs.Joining.{joined}
use Rattle.swc_base_tables_laws.proofs.Parts.{Parts, parts_of, put_in_is, script_parts, split_is, strict_is}
use Rattle.swc_base_tables_laws.proofs.Programs.{HasNoNames, code_of, is_goal_kind, program_of}
use Rattle.swc_base_tables_laws.proofs.Resolved.{as_strict}
use Rattle.swc_base_tables_laws.proofs.Strictly.{code_alone, code_stays}

-- a name is bound or referred to
either : (b c : Bool) → IsTrue (b || c) → IsTrue b ⊎ IsTrue c
either true c h = inl refl
either false c h = inr h

module _ (k : Kind) (kinds : IsTrue (is_goal_kind k)) (goal : Slot) (program : IsTrue (is_goal goal)) (strict : Bool) (helper global : ℕ) (old new : Table) (W : Node) (statements : List Node) (fitting : Fits W goal) (plain : IsPlainIfScript W) (lists : ListsAreItems W)
    (clean : IsClean W) (fair : NoEarlyErrorOfNames W) (known : Contains (numbers old) global) (resolved : Resolved global helper old new W (alone k strict statements)) where
  abbrev V : Node
  V = alone k strict statements

  abbrev G : Resolving W V
  G = record { unresolved = global; top = helper; old = old; new = new; goal = goal; program = program; fitting = fitting; plain = plain; clean = clean; fair = fair; known = known; resolved = resolved }

  well_scoped_alone : WellScoped V
  well_scoped_alone = clean_programs_become_well_scoped goal W V global helper old new program fitting plain lists clean fair known resolved

  abbrev HasContextThere : Path → Type 0
  HasContextThere q = (contexts W V G q ≡ global ∷ []) ⊎ ((s : Path) × IsScope W s × (contexts W V G q ≡ marks W V G s ∷ []))

  -- a name has the global mark, or that of a scope
  context_there : (q : Path) (r : Standing) (x : List ℕ) → Stands (by_ids V) q r x → IsTrue (is_name r) → HasContextThere q
  context_there q r x st h = ⊎_elim bound referred (either (is_binding r) (is_reference r) h)
    where
      text : List ℕ
      text = text_at W V G q r x st

      before : Stands W q r text
      before = stands_back W V G q r x st

      bound : IsTrue (is_binding r) → HasContextThere q
      bound b = let (s, taken, e) = binding_context W V G q r text before b in inr (s, takers_scope W V G r q s taken, e)

      meant : (m : Option Path) → Means W q text m → contexts W V G q ≡ mark_in (marks W V G) global m ∷ [] → HasContextThere q
      meant None means e = inl e
      meant (Some s) means e = let (whole, there, d) = found (DeclaresFor W text) (rounds program_place W q) s means in inr (s, round_scope W V G q (s, whole) there, e)

      referred : IsTrue (is_reference r) → HasContextThere q
      referred g = let (m, means, e) = reference_context W V G q r text before g in meant m means e

  module _ (a z : Node) (na : HasNoNames a) (nz : HasNoNames z) (front back : List Node) (code : code_of k (front ++ back) ≡ code_of k (front ++ (statements ++ back))) (code_too : code_of k (opening strict ∷ statements) ≡ code_of k (front ++ (statements ++ back)))
      (knows : KnowsContexts old (program_of k a (front ++ back) z)) (h : IsInjectableAs goal helper global (Declares W []) (program_of k a (front ++ back) z)) where
    abbrev T : Node
    T = program_of k a (front ++ back) z

    -- no name of the module has the mark of a scope of the bodies, but for the program's
    of_program : (p : Path) (i : Ident) (s : Path) → NameAt T p i → IsScope W s → i.ctxt ≡ marks W V G s ∷ [] → s ≡ []
    of_program p i [] at scope e = refl
    of_program p i (j ∷ s) at scope e =
        let there : Contains i.ctxt (marks W V G (j ∷ s)) = subst (λ c. Contains c (marks W V G (j ∷ s))) (sym e) (head_in (marks W V G (j ∷ s)) []) in
        let (parent, row) = row_of old (marks W V G (j ∷ s)) (knows p i (marks W V G (j ∷ s)) at there) in
        absurd (resolved.fresh (j ∷ s) scope (λ n. absurd (cc)) parent row)

    helpers_mark : (c : List ℕ) (s : Path) → s ≡ [] → c ≡ marks W V G s ∷ [] → c ≡ helper ∷ []
    helpers_mark c s e is = is ∙ ap (λ s. marks W V G s ∷ []) e ∙ ap (λ m. m ∷ []) resolved.program

    apart : BoundApart (by_ids T) (by_ids V)
    apart p q r u x b st nm =
        let (l, i, e, is) = from_ids T p b.at.place b.at.kind b.at.identifier b.at.stands in
        let name : id_name i ≡ x = sym (ap (λ (i : Ident). i.sym) is) ∙ b.at.named in
        let context : i.ctxt ≡ contexts W V G q = (name_apart i.sym (text_at W V G q u x st) i.ctxt (contexts W V G q) (name ∙ name_is W V G q u x st)).1 in
        let binds : IsTrue (is_binding b.at.place.standing) = subst (λ r. IsTrue (is_binding r)) (sym b.at.stands_so) b.binds in
        let nameable = bound_is_name b.at.place.standing binds in
        let at : NameAt T p i = (b.at.place, l, e, nameable) in
        let no_helper : i.ctxt ≢ helper ∷ [] = λ c. not_both b.at.place.standing binds (h.helpers p b.at.place l i e nameable c).0 in
        ⊎_elim
        (λ (c : contexts W V G q ≡ global ∷ []). (h.undeclared p i at no_helper).1 (context ∙ c) (subst (IsDeclared (by_ids T)) (sym name) (p, r, b)))
        (λ (c : (s : Path) × IsScope W s × (contexts W V G q ≡ marks W V G s ∷ [])). no_helper (helpers_mark i.ctxt c.0 (of_program p i c.0 at c.1 (context ∙ c.2)) (context ∙ c.2)))
        (context_there q u x st nm)

    offered : Offered (by_ids T) (by_ids V)
    offered p q r u x b st nm =
        let (l, i, e, is) = from_ids T q st.place st.kind st.identifier st.stands in
        let text = text_at W V G p r x b.at in
        let before = stands_back W V G p r x b.at in
        let (s, taken, c) = binding_context W V G p r text before b.binds in
        let name : id_name i ≡ x = sym (ap (λ (i : Ident). i.sym) is) ∙ st.named in
        let context : i.ctxt ≡ contexts W V G p = (name_apart i.sym text i.ctxt (contexts W V G p) (name ∙ name_is W V G p r x b.at)).1 in
        let refers : IsTrue (is_reference st.place.standing) = subst (λ r. IsTrue (is_reference r)) (sym st.stands_so) nm in
        let top : s ≡ [] = of_program q i s (st.place, l, e, reference_is_name st.place.standing refers) (takers_scope W V G r p s taken) (context ∙ c) in
        record {
          path = p;
          standing = r;
          binds = b;
          declared = taker_declares (by_ids V) r p [] x (no_sloppy W V G p r text before) (taker_is W V G r p ∙ taken ∙ ap (λ s. Some s) top);
        }

    declared_there : (i : Ident) → i.ctxt ≡ helper ∷ [] → Declares W [] i.sym → IsDeclared (by_ids V) (id_name i)
    declared_there i is d =
        let (r, before) = declares_bound W V G i.sym ([], true) d in
        let b = bound_forth W V G [] r i.sym before in
        let name : name_of i.sym (marks W V G [] ∷ []) ≡ id_name i = ap (name_of i.sym) (ap (λ m. m ∷ []) resolved.program ∙ sym is) in
        subst (IsDeclared (by_ids V)) name (b.path, r, record { at = stands_of (by_ids V) [] r (name_of i.sym (marks W V G [] ∷ [])) b; binds = binding_at (by_ids V) r b.path [] b.taken })

    frees : (i : Ident) → IsFree T i → ¬ IsDeclared (by_ids V) (id_name i) → i.ctxt ≡ global ∷ []
    frees i f none = ⊎_elim
        (λ (is : i.ctxt ≡ helper ∷ []). absurd (none (declared_there i is (h.helpers f.path f.place f.kind i f.stands (reference_is_name f.place.standing f.refers) is).1)))
        (λ (other : i.ctxt ≢ helper ∷ []).
        (h.undeclared f.path i (f.place, f.kind, f.stands, reference_is_name f.place.standing f.refers) other).0 f.undeclared)
        (only_or helper i.ctxt)

    pub in_parts : WellScoped (program_of k a (front ++ (statements ++ back)) z)
    in_parts =
        injected T V (program_of k a (front ++ (statements ++ back)) z) (joined k kinds a z nowhere Absent (opening strict) na nz nowhere_plain absent_plain (opening_plain strict) front statements back code code_too)
        (scoped_of T h.well_scoped) (scoped_of V well_scoped_alone) h.well_scoped.no_eval_or_arguments well_scoped_alone.no_eval_or_arguments apart offered global frees (λ i f. free_context W V G i f)

module _ (k : Kind) (kinds : IsTrue (is_goal_kind k)) (goal : Slot) (program : IsTrue (is_goal goal)) (strict : Bool) (helper global : ℕ) (old new : Table) (bodies : List (List Node)) (t answer : Node) (parts : Parts k t) (same : strict ≡ code_of k parts.body) where
  abbrev W : Node
  W = alone k strict (all_bodies bodies)

  put_bodies : NoTypes W → Fits W goal → IsPlainIfScript W → ListsAreItems W → IsClean W → NoEarlyErrorOfNames W → (has_use_strict (all_bodies bodies) ≡ true → strict ≡ true) → Contains (numbers old) global
      → KnowsContexts old t → IsInjectableAs goal helper global (Declares W []) t → IsInjected (ResolvedAlone helper global old new k strict) bodies t answer → WellScoped answer
  put_bodies untyped fitting plain lists clean fair strictly known knows h done =
      let n = prefix_len is_string parts.body in
      let ss = done.statements in
      let resolved = (resolved_alike global helper old new W (alone k strict ss) untyped).1 done.became in
      let is = split_is k t parts in
      let code = code_stays k parts.body ss (λ e. sym same ∙ strictly (sym (as_strict k strict resolved.contexts (all_bodies bodies) ss resolved.only_contexts) ∙ e)) in
      let code_too = ap (λ b. code_of k (opening b ∷ ss)) same ∙ code_alone k parts.body ss ∙ ap (code_of k) (sym (take-append-drop n parts.body)) ∙ code in
      subst WellScoped (sym (done.put_there ∙ ap (put_in ss) parts.is ∙ put_in_is k kinds parts.span parts.last parts.body ss))
      (in_parts k kinds goal program strict helper global old new W ss fitting plain lists clean fair known resolved parts.span parts.last parts.span_plain parts.last_plain (take n parts.body) (drop n parts.body) code code_too
      (subst (KnowsContexts old) is knows) (subst (IsInjectableAs goal helper global (Declares W [])) is h))

pub bodies_keep_well_scoped : BodiesKeepWellScoped
bodies_keep_well_scoped helper global old new bodies t answer are known knows h done =
    put_bodies kind.Module refl (slot.One (content.Node class.Module)) refl true helper global old new bodies t answer (parts_of t h.fitting) refl are.no_types are.fitting (plain_if_module (bodies_alone bodies) (fits_module (bodies_alone bodies) are.fitting))
    are.lists are.clean are.fair (λ e. refl) known knows h done

no_namespaces : (t : Node) → NoTypes t → NoNamespaces t
no_namespaces t n p w ts e = let z : true ≡ false = n p w kind.TsModuleDecl ts e in absurd (cc)

pub bodies_keep_script_well_scoped : BodiesKeepScriptWellScoped
bodies_keep_script_well_scoped helper global old new bodies t answer are known knows h done =
    let W = bodies_in_script (is_strict_program t) bodies in
    let parts = script_parts t h.fitting in
    put_bodies kind.Script refl (slot.One (content.Node class.Script)) refl (is_strict_program t) helper global old new bodies t answer parts (strict_is kind.Script refl t parts) are.no_types are.fitting (λ script. are.plain)
    (lists_are_items (slot.One (content.Node class.Script)) W refl are.fitting (no_namespaces W are.no_types)) are.clean are.fair are.strictness known knows h done
