-- Preserved ids with the mark of the program alone keep apart in what a source is resolved to.
use Rattle.std.proofs.Common.{◌≡◌, Bool, true, false, ◌||◌, IsTrue, ℕ, Option, Some, None, List, [], ◌∷◌, refl, sym, ap, inl, ◌∙◌, subst}
use Rattle.std.specs.Prelude.{Contains}
use Rattle.swc_tree_marks.specs.declared.ident.Ident.{Ident}
use Rattle.swc_tree_node.specs.declared.node.Node.{Node}
use Rattle.swc_tree_scoping.specs.BoundNames.{Id}
use Rattle.swc_tree_scoping.specs.declared.places.Standing.{Standing}
use Rattle.swc_tree_scoping.specs.Places.{Path, program_place}
use Rattle.swc_tree_scoping.specs.Scopes.{is_binding, is_reference, rounds}
use Rattle.swc_tree_scoping.specs.Declares.{Declares, DeclaresFor, Means}
use Rattle.swc_tree_scoping.specs.Readings.{by_ids, id_name}
use Rattle.swc_tree_scoping.specs.Resolved.{mark_in}
use Rattle.swc_tree_scoping.specs.WellScoped.{IsDeclared, Stands}
use Rattle.swc_tree_renaming.specs.Apart.{DeclaredIn, OccursIn}
use Rattle.swc_tree_renaming.proofs.Whole.{id_name_same}
use Rattle.swc_base_rename_analysis.specs.Named.{Renaming}
use Rattle.swc_base_rename_scoped_laws.specs.Laws.{KeepsApart}
use Rattle.swc_base_renaming_laws.proofs.Kept.{top_apart}
use Rattle.swc_base_resolver_laws.proofs.Declared.{bound_mark, declares_bound, stands_of}
use Rattle.swc_base_resolver_laws.proofs.Lists.{found, found_none}
use Rattle.swc_base_resolver_laws.proofs.Names.{Resolving, binding_context, contexts, in_program, marks, name_apart, name_is, name_of, no_sloppy, one_mark, reference_context, round_scope, stands_back, stands_forth, taken_bound, takers_scope, text_at}
use Rattle.swc_base_resolver_laws.proofs.OneScope.{settled}
use Rattle.swc_ecma_transforms_base_laws.specs.Renamers.{PreservesTopNames, RenamersThatPreserveTopNamesSuit}
use Rattle.swc_ecma_transforms_base_laws.specs.Sources.{ResolvedSourcesAreReady}

module _ (t u : Node) (g : Resolving t u) (r : Renaming) (top_alone : PreservesTopNames g.top r) where
  module _ (i j : Ident) (kept : IsTrue (r.preserves (j.sym, j.ctxt))) (undeclared : ¬ IsDeclared (by_ids u) (id_name i)) (same : i.sym ≡ j.sym) where
    -- what means a scope is declared by it
    meant : (p : Path) (x : List ℕ) (s : Path) → id_name i ≡ name_of x (marks t u g s ∷ []) → Means t p x (Some s) → ⊥
    meant p x s name means =
        let (whole, there, declares) = found (DeclaresFor t x) (rounds program_place t p) s means in
        let (v, b) = declares_bound t u g x (s, whole) declares in
        let st = stands_forth t u g b.path v x (stands_of t s v x b) in
        let is : name_of x (contexts t u g b.path) ≡ id_name i = ap (name_of x) (bound_mark t u g s v x b) ∙ sym name in
        undeclared (b.path, v, record { at = subst (λ n. Stands (by_ids u) b.path v n) is st; binds = taken_bound t u g v b.path s b.taken })

    module _ (p : Path) (v : Standing) (at : Stands (by_ids u) p v (id_name i)) (refers : IsTrue (is_reference v)) (s : Path) (d : DeclaredIn (by_ids u) s (id_name j)) where
      abbrev text : List ℕ
      text = text_at t u g p v (id_name i) at

      here : Stands t p v text
      here = stands_back t u g p v (id_name i) at

      own : i.sym ≡ text
      own = (name_apart i.sym text i.ctxt (contexts t u g p) (name_is t u g p v (id_name i) at)).0

      round : Contains (rounds program_place t p) ([], true)
      round = in_program t u g p v text here refers

      -- the program of the source declares the text
      declares_text : Declares t [] text
      declares_text =
          let w = d.standing in
          let q = d.path in
          let x = text_at t u g q w (id_name j) d.binds.at in
          let st : Stands t q w x = stands_back t u g q w (id_name j) d.binds.at in
          let apart = name_apart j.sym x j.ctxt (contexts t u g q) (name_is t u g q w (id_name j) d.binds.at) in
          let (o, taken, mark) = binding_context t u g q w x st d.binds.binds in
          let top_mark : marks t u g o ∷ [] ≡ marks t u g [] ∷ [] = sym mark ∙ sym apart.1 ∙ top_alone (j.sym, j.ctxt) kept ∙ ap (λ m. m ∷ []) (sym g.resolved.program) in
          let is : o ≡ [] = one_mark t u g o [] (takers_scope t u g w q o taken) (round_scope t u g p ([], true) round) top_mark in
          inl (
            w,
            settled w (no_sloppy t u g q w x st),
            record {
              path = q;
              place = st.place;
              kind = st.kind;
              identifier = st.identifier;
              stands = st.stands;
              stands_so = st.stands_so;
              named = st.named ∙ sym apart.0 ∙ sym same ∙ own;
              unmarked = g.clean q st.place st.kind st.identifier st.stands;
              taken = taken ∙ ap Some is;
            },
          )

      referred : ⊥
      referred = let (m, means, its) = reference_context t u g p v text here refers in by m means its
        where
          by : (m : Option Path) → Means t p text m → contexts t u g p ≡ mark_in (marks t u g) g.unresolved m ∷ [] → ⊥
          by None means its = found_none (DeclaresFor t text) (rounds program_place t p) ([], true) means round declares_text
          by (Some o) means its = meant p text o (name_is t u g p v (id_name i) at ∙ ap (name_of text) its) means

    -- a free name that occurs where the other is declared is a reference
    occurs_not : (s : Path) → OccursIn (by_ids u) s (id_name i) → DeclaredIn (by_ids u) s (id_name j) → ⊥
    occurs_not s o d = by (is_binding o.standing) refl o.names
      where
        by : (b : Bool) → is_binding o.standing ≡ b → IsTrue (b || is_reference o.standing) → ⊥
        by true binds names = undeclared (o.path, o.standing, record { at = o.at; binds = binds })
        by false binds names = referred o.path o.standing o.at names s d

  pub top_names_apart : KeepsApart r u
  top_names_apart = record {
    declared_apart = λ s v w i j k l oi oj di dj above below same. id_name_same i j (same, top_alone (i.sym, i.ctxt) k ∙ sym (top_alone (j.sym, j.ctxt) l));
    free_apart = λ s i j l o undeclared d same. occurs_not i j l undeclared same s o d;
  }

pub top_names_suit : ResolvedSourcesAreReady → RenamersThatPreserveTopNamesSuit
top_names_suit ready r config goal t u unresolved top old new top_alone spares is fits source plain known resolved =
    let g : Resolving t u = record {
      unresolved = unresolved;
      top = top;
      old = old;
      new = new;
      goal = goal;
      program = is;
      fitting = fits;
      plain = plain;
      clean = source.clean;
      fair = source.fair;
      known = known;
      resolved = resolved;
    } in
    let apart : KeepsApart r u = top_names_apart t u g r top_alone in
    let scoped = (ready config goal t u unresolved top old new is fits source plain known resolved).well_scoped in
    record { top_apart = top_apart u scoped r apart; apart = λ _. apart; spares = spares }
