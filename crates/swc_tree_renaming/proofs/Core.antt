-- A tree whose names have new texts: each is declared by the scope that declared it, and means what it meant.
use Rattle.std.proofs.Common.{◌≡◌, ◌≢◌, ℕ, Bool, true, false, ◌&&◌, ◌||◌, IsTrue, ◌⊎◌, inl, inr, ⊎_elim, Option, Some, None, List, [], ◌∷◌, Contains, refl, sym, ap, ◌∙◌, subst, arith, cond, ◌↔◌}
use Rattle.std.proofs.lemmas.List.Elements.{Contains-append_right, Contains-append_cases, Contains-push_cases}
use Rattle.std.specs.Cmp.Lexicographic.{pointwise, same_text, other_text}
use Rattle.std.specs.Prelude.{nat_eq}
use Rattle.std.specs.Option.{is_some}
use Rattle.swc_tree_node.specs.declared.node.Node.{Node}
use Rattle.swc_tree_scoping.specs.declared.places.Standing.{Standing}
use Rattle.swc_tree_scoping.specs.declared.places.Standing.TheVariants as standing
use Rattle.swc_tree_scoping.specs.declared.places.Scope.{Scope}
use Rattle.swc_tree_scoping.specs.declared.places.Scope.TheVariants as scope
use Rattle.swc_tree_scoping.specs.Places.{Path, program_place}
use Rattle.swc_tree_scoping.specs.Scopes.{IsScope, Round, scope_at, takes, rounds, is_taken, is_binding, is_reference, taker, first_that, is_name}
use Rattle.swc_tree_scoping.specs.Declares.{Bound, DeclaredBy, DeclaresFor, First, Means}
use Rattle.swc_tree_scoping.specs.Resolved.{HasContext, HasDeclarersMark, HasMeantMark, IsCaughtBy, is_global_value, is_script, mark_in, own_meaning}
use Rattle.swc_tree_scoping.specs.WellScoped.{Stands, IsDeclared, EachInOneScope, IsClean}
use Rattle.swc_tree_scoping.proofs.First.{Nested, rounds_nested}
use Rattle.swc_tree_renaming.specs.Apart.{Belongs, MeansNoGlobalValue, IsRound, IsAtOrAbove, OccursIn, DeclaredIn, IsFreeName, CapturesNone, HasTexts, HasNoSloppy, SameScopes}

-- lists
pub head_in : {X : Type 0} (x : X) (xs : List X) → Contains (x ∷ xs) x
head_in x xs = (0, omega arith, refl)

pub tail_in : {X : Type 0} (x y : X) (xs : List X) → Contains xs y → Contains (x ∷ xs) y
tail_in x y xs h = Contains-append_right (x ∷ []) xs y h

pub none_in : {X : Type 0} (x : X) → Contains [] x → ⊥
none_in x (k, l, e) = absurd (omega arith)

pub cases_in : {X : Type 0} (x y : X) (xs : List X) → Contains (x ∷ xs) y → (x ≡ y) ⊎ Contains xs y
cases_in x y xs h = ⊎_elim (λ a. ⊎_elim (λ n. absurd (none_in y n)) inl (Contains-push_cases [] x y a)) inr (Contains-append_cases (x ∷ []) xs y h)

-- the first that passes a test is one of the list and passes it
pub first_in : (f : Round → Bool) (ss : List Round) (s : Path) → first_that f ss ≡ Some s → (whole : Bool) × Contains ss (s, whole) × (f (s, whole) ≡ true)
first_in f [] s h = absurd (cc)
first_in f (u ∷ us) s h = next (f u) refl h (first_in f us s)
  where
    next : (b : Bool) → f u ≡ b → cond b (Some u.0) (first_that f us) ≡ Some s → (first_that f us ≡ Some s → (whole : Bool) × Contains us (s, whole) × (f (s, whole) ≡ true))
        → (whole : Bool) × Contains (u ∷ us) (s, whole) × (f (s, whole) ≡ true)
    next true e g rest =
        let same : u.0 ≡ s = cc in
        (u.1, subst (λ q. Contains (u ∷ us) (q, u.1)) same (head_in u us), subst (λ q. f (q, u.1) ≡ true) same e)
    next false e g rest = let (whole, there, e) = rest g in (whole, tail_in u (s, whole) us there, e)

some_same : {X : Type 0} (x y : X) → Some x ≡ Some y → x ≡ y
some_same x y e = cc

-- what a scope takes is a binding
taken_in : (r : Standing) (s : Scope) → takes r s ≡ true → IsTrue (is_binding r)
taken_in standing.Variable s h = refl
taken_in standing.Function s h = refl
taken_in standing.Lexical s h = refl
taken_in standing.BlockFunction s h = refl
taken_in standing.SloppyFunction s h = refl
taken_in standing.Parameter s h = refl
taken_in standing.CatchParameter s h = refl
taken_in standing.Import s h = refl
taken_in standing.FunctionName s h = refl
taken_in standing.ClassName s h = refl
taken_in _ scope.Program h = h
taken_in _ _ h = h

pub taken_binds : (r : Standing) (o : Option Scope) → is_taken r o ≡ true → IsTrue (is_binding r)
taken_binds r None h = absurd (cc)
taken_binds r (Some s) h = taken_in r s h

-- but for plain functions in blocks of sloppy code, the scope that declares a binding is the one that takes it
pub declared_taker : (t : Node) (r : Standing) (p s : Path) (x : List ℕ) → r ≢ standing.SloppyFunction → DeclaredBy t p r x s → taker r t p ≡ Some s
declared_taker t standing.SloppyFunction p s x n h = absurd (n refl)
declared_taker t standing.Variable p s x n h = h
declared_taker t _ p s x n h = h

-- ... and the other way round
pub taker_declares : (t : Node) (r : Standing) (p s : Path) (x : List ℕ) → r ≢ standing.SloppyFunction → taker r t p ≡ Some s → DeclaredBy t p r x s
taker_declares t standing.SloppyFunction p s x n h = absurd (n refl)
taker_declares t _ p s x n h = h

-- no binding is a reference
pub binds_or_refers : (r : Standing) → IsTrue (is_binding r) → IsTrue (is_reference r) → ⊥
binds_or_refers standing.Reference b h = absurd (cc)
binds_or_refers standing.Body b h = absurd (cc)
binds_or_refers _ b h = absurd (cc)

-- a name binds or refers
pub name_has : (r : Standing) {P : Type 0} → IsTrue (is_name r) → (IsTrue (is_binding r) → P) → (IsTrue (is_reference r) → P) → P
name_has r h f g = by (is_binding r) (is_reference r) h f g
  where
    by : (a b : Bool) {P : Type 0} → IsTrue (a || b) → (IsTrue a → P) → (IsTrue b → P) → P
    by true b h f g = f refl
    by false b h f g = g h

-- a binding has the mark of the scope that takes it
abbrev pub HasTakersMark : (Path → ℕ) → Node → Path → Standing → List ℕ → Type 0
HasTakersMark marks t p r c = (s : Path) × (taker r t p ≡ Some s) × (c ≡ marks s ∷ [])

or_left : (a b : Bool) → IsTrue a → IsTrue (a || b)
or_left true b h = refl
or_left false b h = absurd (cc)

or_right : (a b : Bool) → IsTrue b → IsTrue (a || b)
or_right true b h = refl
or_right false b h = h

bound_is_name : (r : Standing) → IsTrue (is_binding r) → IsTrue (is_name r)
bound_is_name r h = or_left (is_binding r) (is_reference r) h

reference_is_name : (r : Standing) → IsTrue (is_reference r) → IsTrue (is_name r)
reference_is_name r h = or_right (is_binding r) (is_reference r) h

-- where no reference to a global value means the program, a reference has the mark of the scope that it means
pub own_meaning_is : (R : Node) → MeansNoGlobalValue R → (p : Path) (r : Standing) (y : List ℕ) → Stands R p r y → IsTrue (is_reference r) → (o : Option Path) → Means R p y o → own_meaning R y o ≡ o
own_meaning_is R none p r y at refers None means = refl
own_meaning_is R none p r y at refers (Some (i ∷ s)) means = refl
own_meaning_is R none p r y at refers (Some []) means = by (is_script R) refl (is_global_value y) refl
  where
    by : (b : Bool) → is_script R ≡ b → (c : Bool) → is_global_value y ≡ c → own_meaning R y (Some []) ≡ Some []
    by false e c f = ap (λ b. cond (b && is_global_value y) None (Some [])) e
    by true e false f = ap (λ b. cond (b && is_global_value y) None (Some [])) e ∙ ap (λ c. cond c None (Some [])) f
    by true e true f = absurd (none p r y e at refers f means)

-- the scope that declares a binding is the one that takes it
pub as_declared : (t : Node) (r : Standing) (p s : Path) (x : List ℕ) → r ≢ standing.SloppyFunction → taker r t p ≡ Some s → DeclaredBy t p r x s
as_declared t standing.SloppyFunction p s x n h = absurd (n refl)
as_declared t _ p s x n h = h

-- where the scopes are the same, bindings are taken by the same
pub takers_same : (A R : Node) → SameScopes A R → (r : Standing) (p : Path) → taker r A p ≡ taker r R p
takers_same A R same r p =
    ap (first_that (λ s. is_taken r (scope_at program_place A s.0))) (same.rounds_same p)
    ∙ ap (λ (f : Path → Option Scope). first_that (λ s. is_taken r (f s.0)) (rounds program_place R p)) (λ i s. same.scopes_same s i)

module _ (A R : Node) (m : List ℕ → List ℕ) (same : SameScopes A R) (clear : IsClean A) (cleared : IsClean R) (texts : HasTexts A m R) (settled : HasNoSloppy A) where
  pub taken_same : (r : Standing) (p : Path) → taker r A p ≡ taker r R p
  taken_same = takers_same A R same

  -- what stands in one stands in the other
  stands_forth : (p : Path) (r : Standing) (x : List ℕ) → Stands A p r x → IsTrue (is_name r) → Stands R p r (m x)
  stands_forth p r x s n =
      let (l, j, e) = same.forth p s.place s.kind s.identifier s.stands in
      record {
        place = s.place;
        kind = l;
        identifier = j;
        stands = e;
        stands_so = s.stands_so;
        named = texts p s.place s.place s.kind l s.identifier j s.stands e (subst (λ r. IsTrue (is_name r)) (sym s.stands_so) n) ∙ ap m s.named;
      }

  pub stands_back : (p : Path) (r : Standing) (y : List ℕ) → Stands R p r y → IsTrue (is_name r) → (x : List ℕ) × Stands A p r x × (m x ≡ y)
  stands_back p r y s n =
      let (k, i, e) = same.back p s.place s.kind s.identifier s.stands in (
        i.sym,
        record { place = s.place; kind = k; identifier = i; stands = e; stands_so = s.stands_so; named = refl },
        sym (texts p s.place s.place k s.kind i s.identifier e s.stands (subst (λ r. IsTrue (is_name r)) (sym s.stands_so) n)) ∙ s.named,
      )

  binding_at : (r : Standing) (p s : Path) (t : Node) → taker r t p ≡ Some s → IsTrue (is_binding r)
  binding_at r p s t e = let (whole, there, f) = first_in (λ s. is_taken r (scope_at program_place t s.0)) (rounds program_place t p) s e in taken_binds r (scope_at program_place t s) f

  inside : (r : Standing) (p s : Path) (t : Node) → taker r t p ≡ Some s → IsRound t s p
  inside r p s t e = let (whole, there, f) = first_in (λ s. is_taken r (scope_at program_place t s.0)) (rounds program_place t p) s e in (whole, there)

  bound_forth : (s : Path) (r : Standing) (x : List ℕ) → Bound A s r x → Bound R s r (m x)
  bound_forth s r x b =
      let z = stands_forth b.path r x (record { place = b.place; kind = b.kind; identifier = b.identifier; stands = b.stands; stands_so = b.stands_so; named = b.named }) (bound_is_name r (binding_at r b.path s A b.taken)) in
      record {
        path = b.path;
        place = z.place;
        kind = z.kind;
        identifier = z.identifier;
        stands = z.stands;
        stands_so = z.stands_so;
        named = z.named;
        unmarked = cleared b.path z.place z.kind z.identifier z.stands;
        taken = sym (taken_same r b.path) ∙ b.taken;
      }

  pub bound_back : (s : Path) (r : Standing) (y : List ℕ) → Bound R s r y → (x : List ℕ) × Bound A s r x × (m x ≡ y)
  bound_back s r y b =
      let (x, z, e) = stands_back b.path r y (record { place = b.place; kind = b.kind; identifier = b.identifier; stands = b.stands; stands_so = b.stands_so; named = b.named }) (bound_is_name r (binding_at r b.path s R b.taken)) in (
        x,
        record {
          path = b.path;
          place = z.place;
          kind = z.kind;
          identifier = z.identifier;
          stands = z.stands;
          stands_so = z.stands_so;
          named = z.named;
          unmarked = clear b.path z.place z.kind z.identifier z.stands;
          taken = taken_same r b.path ∙ b.taken;
        },
        e,
      )

  none_sloppy : (s : Path) (x : List ℕ) → Bound A s standing.SloppyFunction x → ⊥
  none_sloppy s x b = settled b.path b.place b.kind b.identifier b.stands b.stands_so

  none_sloppy_there : (s : Path) (y : List ℕ) → Bound R s standing.SloppyFunction y → ⊥
  none_sloppy_there s y b = let (x, a, e) = bound_back s standing.SloppyFunction y b in none_sloppy s x a

  as_taken : (r : Standing) (p s : Path) (x : List ℕ) → r ≢ standing.SloppyFunction → DeclaredBy A p r x s → taker r A p ≡ Some s
  as_taken standing.SloppyFunction p s x n h = absurd (n refl)
  as_taken _ p s x n h = h

  no_sloppy : (p : Path) (r : Standing) (x : List ℕ) → Stands A p r x → r ≢ standing.SloppyFunction
  no_sloppy p r x s e = settled p s.place s.kind s.identifier s.stands (s.stands_so ∙ e)

  declared_taken : (s : Path) (x : List ℕ) (d : DeclaredIn A s x) → taker d.standing A d.path ≡ Some s
  declared_taken s x d = as_taken d.standing d.path s x (no_sloppy d.path d.standing x d.binds.at) d.declared

  pub bound_declared : (s : Path) (r : Standing) (x : List ℕ) → Bound A s r x → DeclaredIn A s x
  bound_declared s r x b =
      let st : Stands A b.path r x = record { place = b.place; kind = b.kind; identifier = b.identifier; stands = b.stands; stands_so = b.stands_so; named = b.named } in
      record { path = b.path; standing = r; binds = record { at = st; binds = binding_at r b.path s A b.taken }; declared = as_declared A r b.path s x (no_sloppy b.path r x st) b.taken }

  declares_forth : (x : List ℕ) (s : Round) → DeclaresFor A x s → DeclaresFor R (m x) s
  declares_forth x (s, true) (inl (r, ways, b)) = inl (r, ways, bound_forth s r x b)
  declares_forth x (s, true) (inr (inl (b, h))) = absurd (none_sloppy s x b)
  declares_forth x (s, true) (inr (inr h)) = absurd (none_sloppy h.block x h.bound)
  declares_forth x (s, false) (r, ways, b) = (r, ways, bound_forth s r x b)

  declares_back : (y : List ℕ) (s : Round) → DeclaresFor R y s → (x : List ℕ) × DeclaredIn A s.0 x × (m x ≡ y)
  declares_back y (s, true) (inl (r, ways, b)) = let (x, a, e) = bound_back s r y b in (x, bound_declared s r x a, e)
  declares_back y (s, true) (inr (inl (b, h))) = absurd (none_sloppy_there s y b)
  declares_back y (s, true) (inr (inr h)) = absurd (none_sloppy_there h.block y h.bound)
  declares_back y (s, false) (r, ways, b) = let (x, a, e) = bound_back s r y b in (x, bound_declared s r x a, e)

  some_taken : (r : Standing) (o : Option Scope) → is_taken r o ≡ true → IsTrue (is_some o)
  some_taken r None h = absurd (cc)
  some_taken r (Some s) h = refl

  pub is_scope : (s : Path) (x : List ℕ) → DeclaredIn A s x → IsScope R s
  is_scope s x d =
      let (whole, there, f) = first_in (λ s. is_taken d.standing (scope_at program_place A s.0)) (rounds program_place A d.path) s (declared_taken s x d) in
      subst (λ (o : Option Scope). IsTrue (is_some o)) (same.scopes_same s) (some_taken d.standing (scope_at program_place A s) f)

  pub occurs_where_declared : (s : Path) (x : List ℕ) → DeclaredIn A s x → OccursIn A s x
  occurs_where_declared s x d = record {
    path = d.path;
    standing = d.standing;
    at = d.binds.at;
    names = bound_is_name d.standing d.binds.binds;
    inside = inside d.standing d.path s A (declared_taken s x d);
  }

  module _ (one : EachInOneScope A) (apart : CapturesNone A m) where
    is_declared : (s : Path) (x : List ℕ) → DeclaredIn A s x → IsDeclared A x
    is_declared s x d = (d.path, d.standing, d.binds)

    one_scope : (s u : Path) (x : List ℕ) → DeclaredIn A s x → DeclaredIn A u x → s ≡ u
    one_scope s u x d e =
        let o = one x (is_declared s x d) in
        let first = as_taken d.standing d.path o.scope x (no_sloppy d.path d.standing x d.binds.at) (o.bindings d.path d.standing d.binds) in
        let second = as_taken e.standing e.path o.scope x (no_sloppy e.path e.standing x e.binds.at) (o.bindings e.path e.standing e.binds) in
        some_same s o.scope (sym (declared_taken s x d) ∙ first) ∙ sym (some_same u o.scope (sym (declared_taken u x e) ∙ second))

    -- a scope that has the text of a name that occurs in it, and is declared there or further out, is the name's own
    pub captured : (p : Path) (r : Standing) (x y : List ℕ) (s u : Path) → Stands A p r x → IsTrue (is_name r) → DeclaredIn A u x → IsRound A s p → IsAtOrAbove A u s → DeclaredIn A s y → m y ≡ m x → s ≡ u
    captured p r x y s u at names d round above e same =
        let is : y ≡ x = sym (apart.declared p r x y s u at names d round above e (sym same)) in
        one_scope s u x (subst (DeclaredIn A s) is e) d

    module _ (p : Path) (r : Standing) (x : List ℕ) (at : Stands A p r x) (names : IsTrue (is_name r)) where
      -- a name that is declared round its path means the scope that declares it
      meant : (u : Path) → DeclaredIn A u x → (ss : List Round) → Nested program_place A ss → ((s : Round) → Contains ss s → IsRound A s.0 p) → (whole : Bool) → Contains ss (u, whole)
          → DeclaresFor R (m x) (u, whole) → (o : Option Path) → First (DeclaresFor R (m x)) ss o → o ≡ Some u
      meant u d [] nested round whole there declares o f = absurd (none_in (u, whole) there)
      meant u d (s ∷ ss) nested round whole there declares o (inl (here, e)) =
          let (y, b, same) = declares_back (m x) s here in
          e ∙ ap (λ q. Some q) (⊎_elim
          (λ (is : s ≡ (u, whole)). ap (λ (q : Round). q.0) is)
          (λ later. captured p r x y s.0 u at names d (round s (head_in s ss)) (inr (whole, subst (λ l. Contains l (u, whole)) nested.0 later)) b same)
          (cases_in s (u, whole) ss there))
      meant u d (s ∷ ss) nested round whole there declares o (inr (none, f)) =
          ⊎_elim
          (λ (is : s ≡ (u, whole)). absurd (none (subst (DeclaresFor R (m x)) (sym is) declares)))
          (λ later. meant u d ss nested.1 (λ q h. round q (tail_in s q ss h)) whole later declares o f)
          (cases_in s (u, whole) ss there)

      -- a free name stays free
      free : ¬ IsDeclared A x → (ss : List Round) → ((s : Round) → Contains ss s → IsRound A s.0 p) → (o : Option Path) → First (DeclaresFor R (m x)) ss o → o ≡ None
      free undeclared [] round o f = f
      free undeclared (s ∷ ss) round o (inl (here, e)) =
          let (y, b, same) = declares_back (m x) s here in
          absurd (apart.free p r x y s.0 at names undeclared (round s (head_in s ss)) b (sym same))
      free undeclared (s ∷ ss) round o (inr (none, f)) = free undeclared ss (λ q h. round q (tail_in s q ss h)) o f

      -- the scope found has the name
      found : (ss : List Round) (s : Path) → First (DeclaresFor R (m x)) ss (Some s) → (y : List ℕ) × DeclaredIn A s y × (m y ≡ m x)
      found [] s f = absurd (cc)
      found (u ∷ ss) s (inl (here, e)) = let (y, b, same) = declares_back (m x) u here in let is : u.0 ≡ s = some_same u.0 s (sym e) in (y, subst (λ q. DeclaredIn A q y) is b, same)
      found (u ∷ ss) s (inr (none, f)) = found ss s f

    same_scope_apart : (s : Path) (x y : List ℕ) → DeclaredIn A s x → DeclaredIn A s y → m x ≡ m y → x ≡ y
    same_scope_apart s x y d e same =
        let o = occurs_where_declared s x d in
        apart.declared o.path o.standing x y s s o.at o.names d o.inside (inl refl) e same

    -- the scope that declares a name, or none where it is free
    abbrev pub Owner : List ℕ → Option Path → Type 0
    Owner x None = IsFreeName A x
    Owner x (Some s) = DeclaredIn A s x

    all_round : (p : Path) (s : Round) → Contains (rounds program_place A p) s → IsRound A s.0 p
    all_round p s h = (s.1, h)

    module _ (p : Path) (r : Standing) (x : List ℕ) (at : Stands A p r x) where
      -- a reference whose name is declared finds the scope that declares it
      finds : IsTrue (is_reference r) → (d : IsDeclared A x) → (o : Option Path) → First (DeclaresFor R (m x)) (rounds program_place A p) o → (u : Path) × DeclaredIn A u x × (o ≡ Some u)
      finds refers d o f =
          let scope_of = one x d in
          let owner : DeclaredIn A scope_of.scope x = record { path = d.0; standing = d.1; binds = d.2; declared = scope_of.bindings d.0 d.1 d.2 } in
          let (whole, there, declares) = scope_of.references p r refers at in (
            scope_of.scope,
            owner,
            meant p r x at (reference_is_name r refers) scope_of.scope owner (rounds program_place A p) (rounds_nested p program_place A) (all_round p) whole there (declares_forth x (scope_of.scope, whole) declares) o f,
          )

      never : IsTrue (is_reference r) → (s : Path) (y : List ℕ) → First (DeclaresFor R (m x)) (rounds program_place A p) (Some s) → DeclaredIn A s y → m y ≡ m x → x ≢ y → IsDeclared A x → ⊥
      never refers s y f owns same other d =
          let (u, e, is) = finds refers d (Some s) f in
          let same_scope : u ≡ s = some_same u s (sym is) in
          other (same_scope_apart s x y (subst (λ q. DeclaredIn A q x) same_scope e) owns (sym same))

      told : IsTrue (is_reference r) → (s : Path) (y : List ℕ) → First (DeclaresFor R (m x)) (rounds program_place A p) (Some s) → DeclaredIn A s y → m y ≡ m x → (b : Bool) → pointwise nat_eq x y ≡ b → DeclaredIn A s x
      told refers s y f owns same true e = subst (DeclaredIn A s) (sym (same_text x y (sym e))) owns
      told refers s y f owns same false e =
          let none : Some s ≡ None = free p r x at (reference_is_name r refers) (never refers s y f owns same (other_text x y (sym e))) (rounds program_place A p) (all_round p) (Some s) f in
          absurd (cc)

      -- a reference means the scope that declares its name, or none where nothing declares it
      reference : IsTrue (is_reference r) → (o : Option Path) → First (DeclaresFor R (m x)) (rounds program_place A p) o → Owner x o
      reference refers None f = record {
        path = p;
        standing = r;
        at = at;
        refers = refers;
        undeclared = λ d. let (u, e, none) = finds refers d None f in absurd (cc);
      }
      reference refers (Some s) f =
          let (y, owns, same) = found p r x at (reference_is_name r refers) (rounds program_place A p) s f in
          told refers s y f owns same (pointwise nat_eq x y) refl

    abbrev IsVariableScope : Round → Bool
    IsVariableScope s = is_taken standing.Variable (scope_at program_place R s.0)

    -- between a variable and the scope that declares it no catch clause has a parameter of its text
    meets : (p f n : Path) (x : List ℕ) → Stands A p standing.Variable x → DeclaredIn A f x → (ss : List Round) → Nested program_place A ss → ((s : Round) → Contains ss s → IsRound A s.0 p)
        → first_that IsVariableScope ss ≡ Some f → First (λ s. IsTrue (IsVariableScope s) ⊎ Bound R s.0 standing.CatchParameter (m x)) ss (Some n) → n ≡ f
    meets p f n x at d [] nested round e g = absurd (cc)
    meets p f n x at d (s ∷ ss) nested round e g = next (IsVariableScope s) refl e g (λ z. meets p f n x at d ss nested.1 (λ q h. round q (tail_in s q ss h)) z)
      where
        next : (b : Bool) → IsVariableScope s ≡ b → cond b (Some s.0) (first_that IsVariableScope ss) ≡ Some f
            → First (λ s. IsTrue (IsVariableScope s) ⊎ Bound R s.0 standing.CatchParameter (m x)) (s ∷ ss) (Some n)
            → (first_that IsVariableScope ss ≡ Some f → First (λ s. IsTrue (IsVariableScope s) ⊎ Bound R s.0 standing.CatchParameter (m x)) ss (Some n) → n ≡ f) → n ≡ f
        next true is e (inl (here, z)) later = some_same n s.0 z ∙ some_same s.0 f e
        next true is e (inr (none, z)) later = absurd (none (inl is))
        next false is e (inl (inl v, z)) later = absurd (cc)
        next false is e (inl (inr b, z)) later =
            let (y, a, same) = bound_back s.0 standing.CatchParameter (m x) b in
            let (whole, there, w) = first_in IsVariableScope ss f e in
            some_same n s.0 z
            ∙ captured p standing.Variable x y s.0 f at refl d (round s (head_in s ss)) (inr (whole, subst (λ l. Contains l (f, whole)) nested.0 there)) (bound_declared s.0 standing.CatchParameter y a) same
        next false is e (inr (none, z)) later = later e z

    -- a name belongs to the scope that declares it, or to none where it is free
    pub belongs_to_owner : (p : Path) (r : Standing) (x : List ℕ) (o : Option Path) → Stands A p r x → IsTrue (is_name r) → Belongs R p r (m x) o → Owner x o
    belongs_to_owner p r x o at n h = name_has r n binding (λ f. reference p r x at f o (subst (λ ss. First (DeclaresFor R (m x)) ss o) (sym (same.rounds_same p)) (h.reference f)))
      where
        binding : IsTrue (is_binding r) → Owner x o
        binding b =
            let (s, declared, e) = h.binding b in
            let there : taker r A p ≡ Some s = taken_same r p ∙ declared_taker R r p s (m x) (no_sloppy p r x at) declared in
            subst (Owner x) (sym e) (record { path = p; standing = r; binds = record { at = at; binds = b }; declared = as_declared A r p s x (no_sloppy p r x at) there })

    -- that scope is one, and tells names of one text apart
    pub one_owner : (x : List ℕ) (o n : Option Path) → Owner x o → Owner x n → o ≡ n
    one_owner x None None f g = refl
    one_owner x None (Some s) f d = absurd (f.undeclared (is_declared s x d))
    one_owner x (Some s) None d f = absurd (f.undeclared (is_declared s x d))
    one_owner x (Some s) (Some u) d e = ap (λ q. Some q) (one_scope s u x d e)

    pub owner_tells : (x y : List ℕ) (o : Option Path) → Owner x o → Owner y o → m x ≡ m y → x ≡ y
    owner_tells x y None f g e = apart.frees x y f g e
    owner_tells x y (Some s) d g e = same_scope_apart s x y d g e

    -- the name stands there in the answer by its new text
    stands_anew : (p : Path) (r : Standing) (x : List ℕ) → Stands A p r x → IsTrue (is_name r) → Stands R p r (m x)
    stands_anew p r x at n =
        let (l, j, e) = same.forth p at.place at.kind at.identifier at.stands in record {
          place = at.place;
          kind = l;
          identifier = j;
          stands = e;
          stands_so = at.stands_so;
          named = texts p at.place at.place at.kind l at.identifier j at.stands e (subst (λ r. IsTrue (is_name r)) (sym at.stands_so) n) ∙ ap m at.named;
        }

    module _ (marks : Path → ℕ) (unresolved : ℕ) (no_global : MeansNoGlobalValue R) where
      -- a context is the mark of the scope that declares the name, or the unresolved mark
      abbrev pub HasOwner : List ℕ → List ℕ → Type 0
      HasOwner x c = (o : Option Path) × Owner x o × (c ≡ mark_in marks unresolved o ∷ [])

      pub refers_to : (p : Path) (r : Standing) (x c : List ℕ) → Stands A p r x → IsTrue (is_reference r) → HasMeantMark marks unresolved R p (m x) c → HasOwner x c
      refers_to p r x c at refers (o, f, e) = (
        o,
        reference p r x at refers o (subst (λ ss. First (DeclaresFor R (m x)) ss o) (sym (same.rounds_same p)) f),
        e ∙ ap (λ o. mark_in marks unresolved o ∷ []) (own_meaning_is R no_global p r (m x) (stands_anew p r x at (reference_is_name r refers)) refers o f),
      )

      pub taken_by : (p : Path) (r : Standing) (x c : List ℕ) → Stands A p r x → HasTakersMark marks R p r c → HasOwner x c
      taken_by p r x c at (s, e, is) =
          let there : taker r A p ≡ Some s = taken_same r p ∙ e in (
            Some s,
            record { path = p; standing = r; binds = record { at = at; binds = binding_at r p s A there }; declared = as_declared A r p s x (no_sloppy p r x at) there },
            is,
          )

      -- a binding is declared by the scope that takes it, and no catch clause between has a parameter of its text
      declared_by : (p : Path) (r : Standing) (x c : List ℕ) → Stands A p r x → HasDeclarersMark marks R p r (m x) c → HasOwner x c
      declared_by p r x c at (s, declared, which) =
          let there : taker r A p ≡ Some s = taken_same r p ∙ declared_taker R r p s (m x) (no_sloppy p r x at) declared in
          let owner : DeclaredIn A s x = record { path = p; standing = r; binds = record { at = at; binds = binding_at r p s A there }; declared = as_declared A r p s x (no_sloppy p r x at) there } in
          (Some s, owner, ⊎_elim (λ a. a.2 ∙ ap (λ q. marks q ∷ []) (caught p r x at s owner there a.0 a.1)) (λ b. b.1) which)
        where
          caught : (p : Path) (r : Standing) (x : List ℕ) → Stands A p r x → (s : Path) → DeclaredIn A s x → taker r A p ≡ Some s → (n : Path) → IsCaughtBy R p r (m x) s n → n ≡ s
          caught p r x at s owner there n (is, g, other) =
              meets p s n x (subst (λ r. Stands A p r x) is at) owner (rounds program_place A p) (rounds_nested p program_place A) (all_round p)
              (ap (first_that IsVariableScope) (same.rounds_same p) ∙ sym (taken_same standing.Variable p) ∙ subst (λ r. taker r A p ≡ Some s) is there)
              (subst (λ ss. First (λ s. IsTrue (IsVariableScope s) ⊎ Bound R s.0 standing.CatchParameter (m x)) ss (Some n)) (sym (same.rounds_same p)) g)

      pub has_owner : (p : Path) (r : Standing) (x c : List ℕ) → Stands A p r x → IsTrue (is_name r) → HasContext marks unresolved R p (m x) r c → HasOwner x c
      has_owner p r x c at n h = name_has r n (λ b. declared_by p r x c at (h.binding b)) (λ b. refers_to p r x c at b (h.reference b))

      -- the marks of scopes are apart, and those of other scopes than the program are not the unresolved mark
      module _ (one_to_one : (s u : Path) (x y : List ℕ) → DeclaredIn A s x → DeclaredIn A u y → marks s ≡ marks u → s ≡ u) (others : (s : Path) (x : List ℕ) → DeclaredIn A s x → s ≢ [] → marks s ≢ unresolved)
          (in_program : (p : Path) (r : Standing) (x : List ℕ) → Stands A p r x → IsTrue (is_name r) → IsRound A [] p) where
        apart_from_free : (s : Path) (x y : List ℕ) → DeclaredIn A s x → IsFreeName A y → m x ≡ m y → marks s ≢ unresolved
        apart_from_free [] x y d f e h =
            apart.free f.path f.standing y x [] f.at (reference_is_name f.standing f.refers) f.undeclared (in_program f.path f.standing y f.at (reference_is_name f.standing f.refers)) d (sym e)
        apart_from_free (i ∷ s) x y d f e h = others (i ∷ s) x d (λ n. absurd (cc)) h

        one_mark : (a b : ℕ) → a ∷ [] ≡ b ∷ [] → a ≡ b
        one_mark a b e = cc

        forth : (x y : List ℕ) (o n : Option Path) → Owner x o → Owner y n → m x ≡ m y → mark_in marks unresolved o ≡ mark_in marks unresolved n → x ≡ y
        forth x y None None f g e h = apart.frees x y f g e
        forth x y None (Some s) f d e h = absurd (apart_from_free s y x d f (sym e) (sym h))
        forth x y (Some s) None d f e h = absurd (apart_from_free s x y d f e h)
        forth x y (Some s) (Some u) d g e h = same_scope_apart s x y d (subst (λ q. DeclaredIn A q y) (sym (one_to_one s u x y d g h)) g) e

        back : (x : List ℕ) (o n : Option Path) → Owner x o → Owner x n → mark_in marks unresolved o ≡ mark_in marks unresolved n
        back x None None f g = refl
        back x None (Some s) f d = absurd (f.undeclared (is_declared s x d))
        back x (Some s) None d f = absurd (f.undeclared (is_declared s x d))
        back x (Some s) (Some u) d e = ap marks (one_scope s u x d e)

        pub same_ids : (x y c d : List ℕ) → HasOwner x c → HasOwner y d → ((m x ≡ m y) × (c ≡ d)) ↔ (x ≡ y)
        same_ids x y c d (o, a, e) (n, b, f) = (
          (λ h. forth x y o n a b h.0 (one_mark (mark_in marks unresolved o) (mark_in marks unresolved n) (sym e ∙ h.1 ∙ f))),
          (λ h. (ap m h, e ∙ ap (λ z. z ∷ []) (back x o n a (subst (λ z. Owner z n) (sym h) b)) ∙ sym f)),
        )
