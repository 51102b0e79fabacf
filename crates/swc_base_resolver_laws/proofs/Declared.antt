-- What a scope declares before and after: a name becomes the id of its text and the scope's mark.
use Rattle.std.proofs.Common.{◌≡◌, ℕ, true, false, inl, inr, List, [], ◌∷◌, refl, sym, ap, ◌∙◌}
use Rattle.swc_tree_node.specs.declared.node.Node.{Node}
use Rattle.swc_tree_scoping.specs.declared.places.Standing.{Standing}
use Rattle.swc_tree_scoping.specs.declared.places.Standing.TheVariants as standing
use Rattle.swc_tree_scoping.specs.Places.{Path}
use Rattle.swc_tree_scoping.specs.Scopes.{Round}
use Rattle.swc_tree_scoping.specs.Declares.{Bound, DeclaresFor}
use Rattle.swc_tree_scoping.specs.Readings.{by_ids}
use Rattle.swc_tree_scoping.specs.WellScoped.{Stands}
use Rattle.swc_base_resolver_laws.proofs.Names.{Resolving, contexts, marks, name_apart, name_is, name_of, no_sloppy, origin, stands_forth, takers_mark, taker_is, text_at}

abbrev pub stands_of : (t : Node) (s : Path) (r : Standing) (x : List ℕ) (b : Bound t s r x) → Stands t b.path r x
stands_of t s r x b = record { place = b.place; kind = b.kind; identifier = b.identifier; stands = b.stands; stands_so = b.stands_so; named = b.named }

module _ (t u : Node) (g : Resolving t u) where
  abbrev pub id_of : List ℕ → Path → List ℕ
  id_of x s = name_of x (marks t u g s ∷ [])

  pub bound_mark : (s : Path) (r : Standing) (x : List ℕ) (b : Bound t s r x) → contexts t u g b.path ≡ marks t u g s ∷ []
  bound_mark s r x b = takers_mark t u g b.path r x s (stands_of t s r x b) b.taken

  pub bound_forth : (s : Path) (r : Standing) (x : List ℕ) → Bound t s r x → Bound (by_ids u) s r (id_of x s)
  bound_forth s r x b =
      let st = stands_forth t u g b.path r x (stands_of t s r x b) in
      record {
        path = b.path;
        place = st.place;
        kind = st.kind;
        identifier = st.identifier;
        stands = st.stands;
        stands_so = st.stands_so;
        named = st.named ∙ ap (name_of x) (bound_mark s r x b);
        unmarked = refl;
        taken = taker_is t u g r b.path ∙ b.taken;
      }

  pub bound_back : (s : Path) (r : Standing) (n x c : List ℕ) → n ≡ name_of x c → Bound (by_ids u) s r n → Bound t s r x
  bound_back s r n x c e b =
      let st = stands_of (by_ids u) s r n b in
      let (i, there, is) = origin t u g b.path r n st in
      record {
        path = b.path;
        place = b.place;
        kind = b.kind;
        identifier = (origin t u g b.path r n st).0;
        stands = (origin t u g b.path r n st).1;
        stands_so = b.stands_so;
        named = (name_apart (text_at t u g b.path r n st) x (contexts t u g b.path) c (sym (name_is t u g b.path r n st) ∙ e)).0;
        unmarked = g.clean b.path b.place b.kind (origin t u g b.path r n st).0 (origin t u g b.path r n st).1;
        taken = sym (taker_is t u g r b.path) ∙ b.taken;
      }

  none_sloppy : (s : Path) (x : List ℕ) → Bound t s standing.SloppyFunction x → ⊥
  none_sloppy s x b = no_sloppy t u g b.path standing.SloppyFunction x (stands_of t s standing.SloppyFunction x b) refl

  pub declares_forth : (x : List ℕ) (s : Round) → DeclaresFor t x s → DeclaresFor (by_ids u) (id_of x s.0) s
  declares_forth x (s, true) (inl (r, ways, b)) = inl (r, ways, bound_forth s r x b)
  declares_forth x (s, true) (inr (inl (b, h))) = absurd (none_sloppy s x b)
  declares_forth x (s, true) (inr (inr h)) = absurd (none_sloppy h.block x h.bound)
  declares_forth x (s, false) (r, ways, b) = (r, ways, bound_forth s r x b)

  pub declares_bound : (x : List ℕ) (s : Round) → DeclaresFor t x s → (r : Standing) × Bound t s.0 r x
  declares_bound x (s, true) (inl (r, ways, b)) = (r, b)
  declares_bound x (s, true) (inr (inl (b, h))) = (standing.SloppyFunction, b)
  declares_bound x (s, true) (inr (inr h)) = absurd (none_sloppy h.block x h.bound)
  declares_bound x (s, false) (r, ways, b) = (r, b)
