-- A tree that stands inside another: its paths become paths there, with the same names at them and the same scopes round them.
use Rattle.std.proofs.Common.{◌≡◌, ℕ, Bool, true, false, ◌⊎◌, inl, inr, ⊎_elim, IsTrue, Option, Some, None, List, [], ◌∷◌, Contains, map, refl, sym, ap, ◌∙◌, subst, cond}
use Rattle.std.specs.Option.{option_map}
use Rattle.swc_tree_marks.specs.declared.ident.Ident.{Ident}
use Rattle.swc_tree_node.specs.declared.kind.Kind.{Kind}
use Rattle.swc_tree_node.specs.declared.node.Node.{Node, Identifier}
use Rattle.swc_tree_scoping.specs.declared.places.Standing.{Standing}
use Rattle.swc_tree_scoping.specs.declared.places.Standing.TheVariants as standing
use Rattle.swc_tree_scoping.specs.declared.places.Place.{Place}
use Rattle.swc_tree_scoping.specs.Places.{Path, program_place, place_at}
use Rattle.swc_tree_scoping.specs.Scopes.{Round, rounds, scope_at, is_taken, taker, first_that, is_binding, is_reference}
use Rattle.swc_tree_scoping.specs.Declares.{Bound, DeclaredBy, DeclaresFor, Hoists, PassesNone, stops}
use Rattle.swc_tree_scoping.specs.WellScoped.{Stands, Binds, InExportList, InRegion, IsArrowOrMethod, IsClean}
use Rattle.swc_tree_renaming.proofs.Core.{binds_or_refers, cases_in, first_in, head_in, none_in, tail_in}
use Rattle.swc_base_tables_laws.proofs.Declarers.{binding_at, bound_by, some_same, stands_of}

abbrev pub moved : (Path → Path) → Round → Round
moved f s = (f s.0, s.1)

-- a name stands as it did, or refers as it did: an expression that is a function's body becomes part of one
abbrev pub Alike : Place → Place → Type 0
Alike w v = (w ≡ v) ⊎ (IsTrue (is_reference w.standing) × IsTrue (is_reference v.standing))

pub record Inside (t u : Node) (f : Path → Path) (In : Path → Type 0) : Type 0 where
  pub placed : (p : Path) (w : Place) (k : Kind) (i : Ident) → place_at program_place t p ≡ Some (w, Identifier k i) → In p
  pub kept : (p : Path) (w : Place) (k : Kind) (i : Ident) → place_at program_place t p ≡ Some (w, Identifier k i) → (v : Place) × (place_at program_place u (f p) ≡ Some (v, Identifier k i)) × Alike w v
  pub rounds_kept : (p : Path) → In p → rounds program_place u (f p) ≡ map (moved f) (rounds program_place t p)
  pub scopes_kept : (p : Path) → In p → scope_at program_place u (f p) ≡ scope_at program_place t p
  pub round_in : (p : Path) (s : Round) → In p → Contains (rounds program_place t p) s → In s.0
  pub one : (p q : Path) → In p → In q → f p ≡ f q → p ≡ q
  pub top : f [] ≡ []
  pub root : In []
  pub listed : (p : Path) (w : Place) (k : Kind) (i : Ident) → place_at program_place t p ≡ Some (w, Identifier k i) → InExportList u (f p) → InExportList t p × (place_at program_place u (f p) ≡ Some (w, Identifier k i))
  pub arrows : (p : Path) → In p → IsArrowOrMethod u (f p) → IsArrowOrMethod t p

-- a binding stands as it did
pub still_bound : (w v : Place) (r : Standing) → w.standing ≡ r → IsTrue (is_binding r) → Alike w v → w ≡ v
still_bound w v r e b (inl is) = is
still_bound w v r e b (inr (h, g)) = absurd (binds_or_refers w.standing (subst (λ r. IsTrue (is_binding r)) (sym e) b) h)

-- what is first in one list is first in the other
first_moved : (f : Path → Path) (F G : Round → Bool) (ss : List Round) → ((s : Round) → Contains ss s → F (moved f s) ≡ G s) → first_that F (map (moved f) ss) ≡ option_map f (first_that G ss)
first_moved f F G [] h = refl
first_moved f F G (s ∷ ss) h =
    ap (λ b. cond b (Some (f s.0)) (first_that F (map (moved f) ss))) (h s (head_in s ss))
    ∙ next (G s) (first_moved f F G ss (λ z there. h z (tail_in s z ss there)))
  where
    next : (b : Bool) → first_that F (map (moved f) ss) ≡ option_map f (first_that G ss) → cond b (Some (f s.0)) (first_that F (map (moved f) ss)) ≡ option_map f (cond b (Some s.0) (first_that G ss))
    next true e = refl
    next false e = e

pub moved_in : (f : Path → Path) (ss : List Round) (s : Round) → Contains ss s → Contains (map (moved f) ss) (moved f s)
moved_in f [] s h = absurd (none_in s h)
moved_in f (z ∷ zs) s h = ⊎_elim
    (λ (is : z ≡ s). subst (λ s. Contains (map (moved f) (z ∷ zs)) (moved f s)) is (head_in (moved f z) (map (moved f) zs)))
    (λ later. tail_in (moved f z) (moved f s) (map (moved f) zs) (moved_in f zs s later))
    (cases_in z s zs h)

-- all bindings of the name stand in the tree that is inside
abbrev pub AllInside : Node → Node → (Path → Path) → List ℕ → Type 0
AllInside t u f x = (p : Path) (r : Standing) → Binds u p r x → (q : Path) × (p ≡ f q) × Stands t q r x

module _ (t u : Node) (f : Path → Path) (In : Path → Type 0) (inside : Inside t u f In) (clean : IsClean t) (clean_too : IsClean u) where
  pub in_tree : (p : Path) (r : Standing) (x : List ℕ) → Stands t p r x → In p
  in_tree p r x s = inside.placed p s.place s.kind s.identifier s.stands

  pub taker_in : (p s : Path) (r : Standing) → In p → taker r t p ≡ Some s → In s
  taker_in p s r i e = let (whole, there, h) = first_in (λ s. is_taken r (scope_at program_place t s.0)) (rounds program_place t p) s e in inside.round_in p (s, whole) i there

  pub taker_moved : (r : Standing) (p : Path) → In p → taker r u (f p) ≡ option_map f (taker r t p)
  taker_moved r p i =
      ap (first_that (λ s. is_taken r (scope_at program_place u s.0))) (inside.rounds_kept p i)
      ∙ first_moved f (λ s. is_taken r (scope_at program_place u s.0)) (λ s. is_taken r (scope_at program_place t s.0)) (rounds program_place t p)
      (λ s there. ap (is_taken r) (inside.scopes_kept s.0 (inside.round_in p s i there)))

  pub taker_forth : (r : Standing) (p s : Path) → In p → taker r t p ≡ Some s → taker r u (f p) ≡ Some (f s)
  taker_forth r p s i e = taker_moved r p i ∙ ap (option_map f) e

  pub taker_back : (r : Standing) (p z : Path) → In p → taker r u (f p) ≡ Some z → (s : Path) × (taker r t p ≡ Some s) × (f s ≡ z)
  taker_back r p z i e = at (taker r t p) refl (sym (taker_moved r p i) ∙ e)
    where
      at : (o : Option Path) → taker r t p ≡ o → option_map f o ≡ Some z → (s : Path) × (taker r t p ≡ Some s) × (f s ≡ z)
      at None o h = absurd (cc)
      at (Some s) o h = (s, o, some_same (f s) z h)

  -- the same taker, for a scope of the tree
  pub taken_back : (r : Standing) (p s : Path) → In p → In s → taker r u (f p) ≡ Some (f s) → taker r t p ≡ Some s
  taken_back r p s i j e =
      let (z, there, is) = taker_back r p (f s) i e in
      there ∙ ap (λ z. Some z) (inside.one z s (taker_in p z r i there) j is)

  pub stands_forth : (p : Path) (r : Standing) (x : List ℕ) → IsTrue (is_binding r) → Stands t p r x → Stands u (f p) r x
  stands_forth p r x b s =
      let (v, there, alike) = inside.kept p s.place s.kind s.identifier s.stands in
      record {
        place = v;
        kind = s.kind;
        identifier = s.identifier;
        stands = there;
        stands_so = ap (λ (w : Place). w.standing) (sym (still_bound s.place v r s.stands_so b alike)) ∙ s.stands_so;
        named = s.named;
      }

  pub bound_forth : (s : Path) (r : Standing) (x : List ℕ) → Bound t s r x → Bound u (f s) r x
  bound_forth s r x b =
      let st = stands_of t s r x b in
      bound_by u clean_too (f b.path) (f s) r x (stands_forth b.path r x (binding_at t r b.path s b.taken) st) (taker_forth r b.path s (in_tree b.path r x st) b.taken)

  bound_in : (s : Path) (r : Standing) (x : List ℕ) → Bound t s r x → In s
  bound_in s r x b = taker_in b.path s r (in_tree b.path r x (stands_of t s r x b)) b.taken

  module _ (x : List ℕ) (here : AllInside t u f x) where
    pub bound_back : (s : Path) (r : Standing) → In s → Bound u (f s) r x → Bound t s r x
    bound_back s r j b =
        let (q, e, st) = here b.path r (record { at = stands_of u (f s) r x b; binds = binding_at u r b.path (f s) b.taken }) in
        bound_by t clean q s r x st (taken_back r q s (in_tree q r x st) j (ap (taker r u) (sym e) ∙ b.taken))

    passes_from : (ways : Standing → Bool) (ss : List Round) → ((s : Round) → Contains ss s → In s.0) → PassesNone ways t x ss → PassesNone ways u x (map (moved f) ss)
    passes_from ways [] i h = tt
    passes_from ways (s ∷ ss) i (inl taken) = inl (subst (λ o. IsTrue (is_taken standing.Variable o)) (sym (inside.scopes_kept s.0 (i s (head_in s ss)))) taken)
    passes_from ways (s ∷ ss) i (inr (none, h)) = inr (
      (λ (r, way, b). none (r, way, bound_back s.0 r (i s (head_in s ss)) b)),
      passes_from ways ss (λ z there. i z (tail_in s z ss there)) h,
    )

    pub passes : (ways : Standing → Bool) (p : Path) → In p → PassesNone ways t x (rounds program_place t p) → PassesNone ways u x (rounds program_place u (f p))
    passes ways p i h =
        subst (PassesNone ways u x) (sym (inside.rounds_kept p i)) (passes_from ways (rounds program_place t p) (λ s there. inside.round_in p s i there) h)

    passed_from : (ways : Standing → Bool) (ss : List Round) → ((s : Round) → Contains ss s → In s.0) → PassesNone ways u x (map (moved f) ss) → PassesNone ways t x ss
    passed_from ways [] i h = tt
    passed_from ways (s ∷ ss) i (inl taken) = inl (subst (λ o. IsTrue (is_taken standing.Variable o)) (inside.scopes_kept s.0 (i s (head_in s ss))) taken)
    passed_from ways (s ∷ ss) i (inr (none, h)) = inr ((λ (r, way, b). none (r, way, bound_forth s.0 r x b)), passed_from ways ss (λ z there. i z (tail_in s z ss there)) h)

    -- plain functions in blocks of sloppy code get out of them in the one exactly if they do in the other
    hoists_forth : (b : Path) → In b → Hoists t b x → Hoists u (f b) x
    hoists_forth b i (none, out, last) = (
      (λ (r, way, c). none (r, way, bound_back b r i c)),
      passes stops b i out,
      (λ z e (r, way, c). let (s, there, is) = taker_back standing.Variable b z i e in
          last s there (r, way, bound_back s r (taker_in b s standing.Variable i there) (subst (λ z. Bound u z r x) (sym is) c))),
    )

    hoists_back : (b : Path) → In b → Hoists u (f b) x → Hoists t b x
    hoists_back b i (none, out, last) = (
      (λ (r, way, c). none (r, way, bound_forth b r x c)),
      passed_from stops (rounds program_place t b) (λ s there. inside.round_in b s i there) (subst (PassesNone stops u x) (inside.rounds_kept b i) out),
      (λ s e (r, way, c). last (f s) (taker_forth standing.Variable b s i e) (r, way, bound_forth s r x c)),
    )

    pub declares_forth : (s : Round) → DeclaresFor t x s → DeclaresFor u x (moved f s)
    unfolding bound_forth
    declares_forth (s, true) (inl (r, ways, b)) = inl (r, ways, bound_forth s r x b)
    declares_forth (s, true) (inr (inl (b, h))) = inr (inl (bound_forth s standing.SloppyFunction x b, (λ g. h (hoists_back s (bound_in s standing.SloppyFunction x b) g))))
    declares_forth (s, true) (inr (inr h)) = inr (inr (record {
      block = f h.block;
      bound = bound_forth h.block standing.SloppyFunction x h.bound;
      hoists = hoists_forth h.block (bound_in h.block standing.SloppyFunction x h.bound) h.hoists;
      reaches = taker_forth standing.Variable h.bound.path s (in_tree h.bound.path standing.SloppyFunction x (stands_of t h.block standing.SloppyFunction x h.bound)) h.reaches;
    }))
    declares_forth (s, false) (r, ways, b) = (r, ways, bound_forth s r x b)

    pub region_forth : (s p : Path) (r : Standing) → Stands t p r x → InRegion t s x p → InRegion u (f s) x (f p)
    region_forth s p r st (whole, there, declares) = (
      whole,
      subst (λ l. Contains l (f s, whole)) (sym (inside.rounds_kept p (in_tree p r x st))) (moved_in f (rounds program_place t p) (s, whole) there),
      declares_forth (s, whole) declares,
    )

    -- one scope declares a binding in the one, and it the other
    pub declared_forth : (p s : Path) (r : Standing) → In p → DeclaredBy t p r x s → DeclaredBy u (f p) r x (f s)
    declared_forth p s standing.SloppyFunction i (b, taken, inl (h, reached)) =
        (f b, taker_forth standing.SloppyFunction p b i taken, inl (hoists_forth b (taker_in p b standing.SloppyFunction i taken) h, taker_forth standing.Variable p s i reached))
    declared_forth p s standing.SloppyFunction i (b, taken, inr (n, is)) =
        (f b, taker_forth standing.SloppyFunction p b i taken, inr ((λ g. n (hoists_back b (taker_in p b standing.SloppyFunction i taken) g)), ap f is))
    declared_forth p s r i d = taker_forth r p s i d

    pub declared_back : (p z : Path) (r : Standing) → In p → DeclaredBy u (f p) r x z → (s : Path) × DeclaredBy t p r x s × (f s ≡ z) × In s
    declared_back p z standing.SloppyFunction i (c, taken, inl (h, reached)) =
        let (b, there, is) = taker_back standing.SloppyFunction p c i taken in
        let (s, too, same) = taker_back standing.Variable p z i reached in
        let hoists = hoists_back b (taker_in p b standing.SloppyFunction i there) (subst (λ c. Hoists u c x) (sym is) h) in
        (s, (b, there, inl (hoists, too)), same, taker_in p s standing.Variable i too)
    declared_back p z standing.SloppyFunction i (c, taken, inr (n, same)) =
        let (b, there, is) = taker_back standing.SloppyFunction p c i taken in
        let within = taker_in p b standing.SloppyFunction i there in
        (b, (b, there, inr ((λ g. n (subst (λ c. Hoists u c x) is (hoists_forth b within g))), refl)), is ∙ same, within)
    declared_back p z r i d = let (s, there, is) = taker_back r p z i d in (s, there, is, taker_in p s r i there)
