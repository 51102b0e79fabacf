-- Where no name of a program is declared against the rules, none is in one of its goal that keeps its scopes.
use Rattle.std.proofs.Common.{◌≡◌, ◌≢◌, ℕ, Bool, true, false, IsTrue, ◌⊎◌, inl, inr, ⊎_elim, Some, List, [], ◌∷◌, ◌++◌, refl, sym, ap, ◌∙◌, subst, cond}
use Rattle.std.specs.List.{flat_map}
use Rattle.std.specs.Prelude.{nat_eq}
use Rattle.std.specs.Cmp.Lexicographic.{pointwise, same_text, other_text}
use Rattle.swc_tree_marks.specs.declared.ident.Ident.{Ident}
use Rattle.swc_tree_node.specs.declared.node.Node.{Node}
use Rattle.swc_tree_scoping.specs.declared.places.Place.{Place}
use Rattle.swc_tree_scoping.specs.declared.places.Standing.{Standing}
use Rattle.swc_tree_scoping.specs.declared.places.Standing.TheVariants as standing
use Rattle.swc_tree_scoping.specs.Places.{Path, program_place}
use Rattle.swc_tree_scoping.specs.Scopes.{Round, first_that, is_binding, is_name, is_taken, rounds, scope_at, taker}
use Rattle.swc_tree_scoping.specs.Declares.{Bound, BoundAs, PassesNone, is_lexical}
use Rattle.swc_tree_scoping.specs.WellScoped.{IsClean, IsLexical, NoRedeclaration, NoVariablePasses, NoneTwice, Stands}
use Rattle.swc_tree_renaming.specs.Apart.{IsPlainProgram, NoParameterRepeated}
use Rattle.swc_tree_renaming.proofs.Core.{as_declared, first_in}
use Rattle.swc_tree_sites.specs.Sites.{Binding, Entry, counted, entry, set_of}
use Rattle.swc_tree_sites.specs.Smaller.{In, IsPlain}
use Rattle.swc_tree_sites.proofs.Apart.{all_paths, leads_in, sets_are}
use Rattle.swc_tree_sites.proofs.Found.{env_at, finds}
use Rattle.swc_tree_sites.proofs.Loose.{S}
use Rattle.swc_tree_sites.proofs.Round.{entry_of, env_is, taken_by, taken_is}
use Rattle.swc_tree_sites.proofs.Transport.{bound_binds, bound_in, flat_from, flat_to, in_bound, not_sloppy}
use Rattle.swc_tree_sites.proofs.Whole.{as_taken}
use Rattle.swc_tree_sites_laws.proofs.LeftIds.{plain_clean}
use Rattle.swc_tree_sites_kept.specs.Errors.{AreOfOneGoal, IsFair, KeepsScopes, NoRedeclarationStays}
use Rattle.swc_tree_sites_kept.proofs.ErrorsModules.{none_repeated}
use Rattle.swc_tree_sites_kept.proofs.Twice.{Twice}
use Rattle.swc_tree_sites_kept.proofs.TwoBelow.{TwoBelow, taken_twice}

abbrev PP : Place
PP = program_place

some_path : (s u : Path) → Some s ≡ Some u → s ≡ u
some_path s u e = cc

-- whether two paths are one
decide : (p q : Path) → (p ≡ q) ⊎ (p ≢ q)
decide p q = at (pointwise nat_eq p q) refl
  where
    at : (z : Bool) → pointwise nat_eq p q ≡ z → (p ≡ q) ⊎ (p ≢ q)
    at true e = inl (same_text p q (sym e))
    at false e = inr (other_text p q (sym e))

-- what a scope takes is one of the sets, and each set is what a scope takes
set_in : (b : Binding) (bs : List Binding) → In b bs → In bs (set_of bs)
set_in b [] h = absurd h
set_in b (c ∷ bs) h = inl refl

of_set : (xs bs : List Binding) → In bs (set_of xs) → xs ≡ bs
of_set [] bs h = absurd h
of_set (x ∷ xs) bs (inl e) = e
of_set (x ∷ xs) bs (inr h) = absurd h

pub set_there : (t : Node) (s : Path) (b : Binding) → In b (taken_by PP t s) → In (taken_by PP t s) (S PP t).sets
set_there t s b h =
    subst (In (taken_by PP t s)) (sym (sets_are t PP)) (flat_to (λ s. set_of (taken_by PP t s)) (taken_by PP t s) s (all_paths t) (leads_in s PP t b h) (set_in b (taken_by PP t s) h))

pub scope_there : (t : Node) (bs : List Binding) → In bs (S PP t).sets → (f : Path) × (taken_by PP t f ≡ bs)
scope_there t bs h =
    let (f, i, g) = flat_from (λ s. set_of (taken_by PP t s)) bs (all_paths t) (subst (In bs) (sets_are t PP) h) in (f, of_set (taken_by PP t f) bs g)

counted_variable : (r : Standing) → counted r ≡ standing.Variable → r ≡ standing.Variable
counted_variable standing.Body h = absurd (cc)
counted_variable _ h = h

-- a variable's own binding is among what the scopes round it take: up to there none takes the name lexically
abbrev HasVariable : List Binding → Type 0
HasVariable bs = (i : Ident) × In (standing.Variable, i) bs

abbrev HasLexical : List ℕ → List Binding → Type 0
HasLexical x bs = (b : Binding) × In b bs × (b.1.sym ≡ x) × IsTrue (is_lexical b.0)

abbrev PassesIn : List ℕ → List Entry → Type 0
PassesIn x [] = Unit {0}
PassesIn x (e ∷ es) = HasVariable e.0 ⊎ ((HasLexical x e.0 → ⊥) × PassesIn x es)

abbrev takes_variables : Node → Round → Bool
takes_variables t s = is_taken standing.Variable (scope_at PP t s.0)

module _ (t : Node) (plain : IsPlain t) (x : List ℕ) where
  to_env : (i : Ident) (u : Path) → In (standing.Variable, i) (taken_by PP t u) → (ss : List Round) → first_that (takes_variables t) ss ≡ Some u → PassesNone is_lexical t x ss → PassesIn x (flat_map (entry_of PP t) ss)
  to_env i u own [] found passes = tt
  to_env i u own (s ∷ ss) found passes = at (takes_variables t s) refl found (to_env i u own ss)
    where
      here : (T : List Binding) → In (standing.Variable, i) T → PassesIn x (entry T s.1 ++ flat_map (entry_of PP t) ss)
      here [] h = absurd h
      here (b ∷ bs) h = inl (i, h)

      there : (T : List Binding) → taken_by PP t s.0 ≡ T → (¬ BoundAs is_lexical t s.0 x) → PassesIn x (flat_map (entry_of PP t) ss) → PassesIn x (entry T s.1 ++ flat_map (entry_of PP t) ss)
      there [] is none rest = rest
      there (b ∷ bs) is none rest = inr (
        (λ (h : HasLexical x (b ∷ bs)). none (h.0.0, h.3, subst (Bound t s.0 h.0.0) h.2 (in_bound t plain s.0 h.0 (subst (In h.0) (sym is) h.1)))),
        rest,
      )

      at : (z : Bool) → takes_variables t s ≡ z → cond z (Some s.0) (first_that (takes_variables t) ss) ≡ Some u
          → (first_that (takes_variables t) ss ≡ Some u → PassesNone is_lexical t x ss → PassesIn x (flat_map (entry_of PP t) ss)) → PassesIn x (flat_map (entry_of PP t) (s ∷ ss))
      at true e f later = here (taken_by PP t s.0) (subst (λ s. In (standing.Variable, i) (taken_by PP t s)) (sym (some_path s.0 u f)) own)
      at false e f later = ⊎_elim
          (λ h. absurd (cc))
          (λ (h : (¬ BoundAs is_lexical t s.0 x) × PassesNone is_lexical t x ss). there (taken_by PP t s.0) refl h.0 (later f h.1))
          passes

  from_env : (ss : List Round) → PassesIn x (flat_map (entry_of PP t) ss) → PassesNone is_lexical t x ss
  from_env [] h = tt
  from_env (s ∷ ss) h = at (takes_variables t s) refl (from_env ss)
    where
      takes_it : (i : Ident) → In (standing.Variable, i) (taken_by PP t s.0) → takes_variables t s ≡ true
      takes_it i j =
          let g = (taken_is s.0 PP t (standing.Variable, i)).0 j in
          let (whole, there, f) = first_in (takes_variables t) (rounds PP t g.path) s.0 g.taken in f

      none_in : (T : List Binding) → taken_by PP t s.0 ≡ T → (HasLexical x T → ⊥) → ¬ BoundAs is_lexical t s.0 x
      none_in T is none (r, way, b) = none ((r, b.identifier), subst (In (r, b.identifier)) is (bound_in t plain s.0 r x b (bound_binds t s.0 r x b)), b.named, way)

      open_up : (T : List Binding) → taken_by PP t s.0 ≡ T → takes_variables t s ≡ false → PassesIn x (entry T s.1 ++ flat_map (entry_of PP t) ss) → (PassesIn x (flat_map (entry_of PP t) ss) → PassesNone is_lexical t x ss)
          → (¬ BoundAs is_lexical t s.0 x) × PassesNone is_lexical t x ss
      open_up [] is e h later = (none_in [] is (λ g. g.1), later h)
      open_up (b ∷ bs) is e (inl g) later = let z = sym e ∙ takes_it g.0 (subst (In (standing.Variable, g.0)) (sym is) g.1) in absurd (cc)
      open_up (b ∷ bs) is e (inr g) later = (none_in (b ∷ bs) is g.0, later g.1)

      at : (z : Bool) → takes_variables t s ≡ z → (PassesIn x (flat_map (entry_of PP t) ss) → PassesNone is_lexical t x ss) → PassesNone is_lexical t x (s ∷ ss)
      at true e later = inl e
      at false e later = inr (open_up (taken_by PP t s.0) refl e h later)

module _ (t n : Node) (fair : IsFair t) (program_n : IsPlainProgram n) (goals : AreOfOneGoal t n) (clean_t : IsClean t) (clean_n : IsClean n) (keeps : KeepsScopes n t) (fine : NoRedeclaration t) where
  plain_t : IsPlain t
  plain_t = plain_clean t fair.0 clean_t

  plain_n : IsPlain n
  plain_n = plain_clean n program_n clean_n

  -- the scope of the other that takes the same; for the program the program
  scope_of : (s : Path) (b : Binding) → In b (taken_by PP n s) → (f : Path) × (taken_by PP t f ≡ taken_by PP n s) × (s ≡ [] → f ≡ [])
  scope_of [] b h = ([], sym keeps.program, λ e. e)
  scope_of (j ∷ s) b h = let (f, e) = scope_there t (taken_by PP n (j ∷ s)) (keeps.sets (taken_by PP n (j ∷ s)) (set_there n (j ∷ s) b h)) in (f, e, λ z. absurd (cc))

  -- two bindings of one scope are two of a scope of the other
  abbrev BothThere : Path → Binding → Binding → Type 0
  BothThere s b c = (f : Path) × TwoBelow PP t b c (Some f) × (s ≡ [] → f ≡ [])

  both_there : (s : Path) (b c : Binding) → TwoBelow PP n b c (Some s) → BothThere s b c
  both_there s b c two =
      let (f, e, top) = scope_of s b ((taken_is s PP n b).1 two.one) in
      (f, (taken_twice f PP t b c).0 (subst (Twice b c) (sym e) ((taken_twice s PP n b c).1 two)), top)

  two_at : (p q s : Path) (r u : Standing) (x : List ℕ) (b : Stands n p r x) (c : Stands n q u x) → IsTrue (is_binding r) → IsTrue (is_binding u) → taker r n p ≡ Some s → taker u n q ≡ Some s → p ≢ q
      → BothThere s (r, b.identifier) (u, c.identifier)
  two_at p q s r u x b c y z h g ne = both_there s (r, b.identifier) (u, c.identifier) (record {
    one = record { path = p; place = b.place; kind = b.kind; stands = b.stands; stands_so = b.stands_so; binds = y; taken = h };
    other = record { path = q; place = c.place; kind = c.kind; stands = c.stands; stands_so = c.stands_so; binds = z; taken = g };
    apart = ne;
  })

  none_twice : NoneTwice n
  none_twice x s p q r u b c d e lexical = ⊎_elim inl (λ ne. absurd (again ne)) (decide p q)
    where
      taken : taker r n p ≡ Some s
      taken = as_taken n r p s x (not_sloppy n plain_n p r x b.at) d

      again : p ≢ q → ⊥
      again ne = against (two_at p q s r u x b.at c.at b.binds c.binds taken (as_taken n u q s x (not_sloppy n plain_n q u x c.at) e) ne)
        where
          against : BothThere s (r, b.at.identifier) (u, c.at.identifier) → ⊥
          against (f, two, top) = ⊎_elim two.apart (λ g. not_sloppy t plain_t two.one.path r x first g.0) (fine.none_twice x f two.one.path two.other.path r u
              (record { at = first; binds = b.binds }) (record { at = second; binds = c.binds })
              (as_declared t r two.one.path f x (not_sloppy t plain_t two.one.path r x first) two.one.taken)
              (as_declared t u two.other.path f x (not_sloppy t plain_t two.other.path u x second) two.other.taken)
              (there lexical))
            where
              first : Stands t two.one.path r x
              first = record { place = two.one.place; kind = two.one.kind; identifier = b.at.identifier; stands = two.one.stands; stands_so = two.one.stands_so; named = b.at.named }

              second : Stands t two.other.path u x
              second = record { place = two.other.place; kind = two.other.kind; identifier = c.at.identifier; stands = two.other.stands; stands_so = two.other.stands_so; named = c.at.named }

              there : IsLexical n p r → IsLexical t two.one.path r
              there (inl l) = inl l
              there (inr l) =
                  let root : s ≡ [] = some_path s [] (sym taken ∙ ap (λ r. taker r n p) l.0 ∙ l.2) in
                  inr (l.0, subst (λ b. IsTrue b) (sym goals) l.1, ap (λ r. taker r t two.one.path) (sym l.0) ∙ two.one.taken ∙ ap (λ f. Some f) (top root))

  repeats_none : NoParameterRepeated n
  repeats_none x f p q b c d e = ⊎_elim (λ z. z) (λ ne. absurd (against (two_at p q f standing.Parameter standing.Parameter x b c refl refl d e ne))) (decide p q)
    where
      against : BothThere f (standing.Parameter, b.identifier) (standing.Parameter, c.identifier) → ⊥
      against (g, two, top) = two.apart (none_repeated t fair fine.no_parameter_twice x g two.one.path two.other.path
          (record { place = two.one.place; kind = two.one.kind; identifier = b.identifier; stands = two.one.stands; stands_so = two.one.stands_so; named = b.named })
          (record { place = two.other.place; kind = two.other.kind; identifier = c.identifier; stands = two.other.stands; stands_so = two.other.stands_so; named = c.named })
          two.one.taken two.other.taken)

  pub stays_fair : IsFair n
  stays_fair = (program_n, λ s. repeats_none)

  no_variable_passes : NoVariablePasses is_lexical n
  no_variable_passes p x b =
      let site = (finds n PP (standing.Variable, b.identifier, env_at PP n p)).1 (record { path = p; place = b.place; kind = b.kind; stands = b.stands; stands_so = ap counted b.stands_so; names = ap is_name b.stands_so; env = refl }) in
      let g = (finds t PP (standing.Variable, b.identifier, env_at PP n p)).0 (keeps.variables b.identifier (env_at PP n p) site) in
      let so : g.place.standing ≡ standing.Variable = counted_variable g.place.standing g.stands_so in
      let at : Stands t g.path standing.Variable x = record { place = g.place; kind = g.kind; identifier = b.identifier; stands = g.stands; stands_so = so; named = b.named } in
      let (u, taken) = plain_t.takes g.path standing.Variable x (record { at = at; binds = refl }) in
      let own = (taken_is u PP t (standing.Variable, b.identifier)).1 (record { path = g.path; place = g.place; kind = g.kind; stands = g.stands; stands_so = so; binds = refl; taken = taken }) in
      let passes = to_env t plain_t x b.identifier u own (rounds PP t g.path) taken (fine.no_variable_passes g.path x at) in
      from_env n plain_n x (rounds PP n p) (subst (PassesIn x) (sym (env_is g.path PP t) ∙ g.env ∙ env_is p PP n) passes)

  pub none_redeclared : NoRedeclaration n
  none_redeclared = record { none_twice = none_twice; no_variable_passes = no_variable_passes; no_parameter_twice = λ x f p q b c d e strict. repeats_none x f p q b c d e }

pub no_redeclaration_stays : NoRedeclarationStays
no_redeclaration_stays t n ft pn goals ct cn keeps fine = none_redeclared t n ft pn goals ct cn keeps fine
