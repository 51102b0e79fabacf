-- Each id has one scope: that of its mark.
use Rattle.std.proofs.Common.{◌≡◌, ◌≢◌, ℕ, true, inl, IsTrue, Option, Some, None, List, [], ◌∷◌, Contains, refl, sym, ap, ◌∙◌, subst}
use Rattle.swc_tree_node.specs.declared.node.Node.{Node}
use Rattle.swc_tree_scoping.specs.declared.places.Standing.{Standing}
use Rattle.swc_tree_scoping.specs.declared.places.Standing.TheVariants as standing
use Rattle.swc_tree_scoping.specs.Places.{Path, program_place}
use Rattle.swc_tree_scoping.specs.Scopes.{is_reference, rounds, taker}
use Rattle.swc_tree_scoping.specs.Declares.{Bound, DeclaredBy, DeclaresFor, Means, is_settled}
use Rattle.swc_tree_scoping.specs.Readings.{by_ids}
use Rattle.swc_tree_scoping.specs.Resolved.{mark_in}
use Rattle.swc_tree_scoping.specs.WellScoped.{Binds, EachInOneScope, InRegion, Stands}
use Rattle.swc_tree_renaming.proofs.Core.{taker_declares}
use Rattle.swc_base_resolver_laws.proofs.Lists.{found, found_none}
use Rattle.swc_base_resolver_laws.proofs.Names.{Resolving, binding_context, contexts, in_program, marks, name_apart, name_is, name_of, no_sloppy, one_mark, others_resolved, reference_context, round_scope, rounds_is, stands_back, taker_is, takers_scope, text_at}
use Rattle.swc_base_resolver_laws.proofs.Declared.{declares_forth}

pub settled : (r : Standing) → r ≢ standing.SloppyFunction → IsTrue (is_settled r)
settled standing.SloppyFunction h = absurd (h refl)
settled _ h = refl

module _ (t u : Node) (g : Resolving t u) where
  -- names of one id have one text and one context
  pub same_id : (n : List ℕ) (p q : Path) (r v : Standing) (a : Stands (by_ids u) p r n) (b : Stands (by_ids u) q v n)
      → (text_at t u g p r n a ≡ text_at t u g q v n b) × (contexts t u g p ≡ contexts t u g q)
  same_id n p q r v a b =
      name_apart (text_at t u g p r n a) (text_at t u g q v n b) (contexts t u g p) (contexts t u g q) (sym (name_is t u g p r n a) ∙ name_is t u g q v n b)

  module _ (n : List ℕ) (p : Path) (r : Standing) (b : Binds (by_ids u) p r n) (s : Path) (taken : taker r t p ≡ Some s) (mark : contexts t u g p ≡ marks t u g s ∷ []) where
    bindings : (q : Path) (v : Standing) → Binds (by_ids u) q v n → DeclaredBy (by_ids u) q v n s
    bindings q v c =
        let st = stands_back t u g q v n c.at in
        let (z, there, its) = binding_context t u g q v (text_at t u g q v n c.at) st c.binds in
        let (text, context) = same_id n q p v r c.at b.at in
        let same : z ≡ s = one_mark t u g z s (takers_scope t u g v q z there) (takers_scope t u g r p s taken) (sym its ∙ context ∙ mark) in
        taker_declares (by_ids u) v q s n (no_sloppy t u g q v (text_at t u g q v n c.at) st) (taker_is t u g v q ∙ there ∙ ap (λ z. Some z) same)

    -- a name that the program binds is free nowhere
    not_free : (s : Path) → taker r t p ≡ Some s → contexts t u g p ≡ marks t u g s ∷ [] → (q : Path) (v : Standing) → IsTrue (is_reference v) → (c : Stands (by_ids u) q v n)
        → Means t q (text_at t u g q v n c) None → contexts t u g q ≡ g.unresolved ∷ [] → ⊥
    not_free (i ∷ s) taken mark q v refers c means its =
        let (text, context) = same_id n q p v r c b.at in
        others_resolved t u g i s (takers_scope t u g r p (i ∷ s) taken) (sym its ∙ context ∙ mark)
    not_free [] taken mark q v refers c means its =
        let (text, context) = same_id n p q r v b.at c in
        let st = stands_back t u g p r n b.at in
        let x = text_at t u g q v n c in
        let bound : Bound t [] r x = record {
          path = p;
          place = st.place;
          kind = st.kind;
          identifier = st.identifier;
          stands = st.stands;
          stands_so = st.stands_so;
          named = st.named ∙ text;
          unmarked = g.clean p st.place st.kind st.identifier st.stands;
          taken = taken;
        } in
        found_none (DeclaresFor t x) (rounds program_place t q) ([], true) means (in_program t u g q v x (stands_back t u g q v n c) refers)
        (inl (r, settled r (no_sloppy t u g p r (text_at t u g p r n b.at) st), bound))

    references : (q : Path) (v : Standing) → IsTrue (is_reference v) → Stands (by_ids u) q v n → InRegion (by_ids u) s n q
    references q v refers c =
        let (m, means, its) = reference_context t u g q v x (stands_back t u g q v n c) refers in
        at m means its
      where
        x : List ℕ
        x = text_at t u g q v n c

        at : (m : Option Path) → Means t q x m → contexts t u g q ≡ mark_in (marks t u g) g.unresolved m ∷ [] → InRegion (by_ids u) s n q
        at None means its = absurd (not_free s taken mark q v refers c means its)
        at (Some z) means its =
            let (whole, there, declares) = found (DeclaresFor t x) (rounds program_place t q) z means in
            let (text, context) = same_id n q p v r c b.at in
            let same : z ≡ s = one_mark t u g z s (round_scope t u g q (z, whole) there) (takers_scope t u g r p s taken) (sym its ∙ context ∙ mark) in
            let name : n ≡ name_of x (marks t u g z ∷ []) = name_is t u g q v n c ∙ ap (name_of x) its in
            subst (λ z. InRegion (by_ids u) z n q) same (
              whole,
              subst (λ l. Contains l (z, whole)) (sym (rounds_is t u g q)) there,
              subst (λ n. DeclaresFor (by_ids u) n (z, whole)) (sym name) (declares_forth t u g x (z, whole) declares),
            )

  pub each_in_one_scope : EachInOneScope (by_ids u)
  each_in_one_scope n (p, r, b) =
      let (s, taken, mark) = binding_context t u g p r (text_at t u g p r n b.at) (stands_back t u g p r n b.at) b.binds in
      record { scope = s; bindings = bindings n p r b s taken mark; references = references n p r b s taken mark }
