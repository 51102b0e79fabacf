-- What a resolver gives to a name is the mark of one scope, or of none, that the program alone tells.
use Rattle.std.proofs.Common.{◌≡◌, ◌≢◌, ℕ, Bool, true, false, ◌&&◌, IsTrue, ◌⊎◌, inl, inr, ⊎_elim, Option, Some, None, List, [], ◌∷◌, Contains, refl, sym, ap, ◌∙◌, subst, cond, ◌↔◌}
use Rattle.std.specs.Option.{is_some}
use Rattle.swc_tree_marks.specs.declared.ident.Ident.{Ident}
use Rattle.swc_tree_marks.specs.Globals.{Table}
use Rattle.swc_tree_node.specs.declared.node.Node.{Node}
use Rattle.swc_tree_scoping.specs.declared.places.Standing.{Standing}
use Rattle.swc_tree_scoping.specs.declared.places.Standing.TheVariants as standing
use Rattle.swc_tree_scoping.specs.declared.places.Scope.{Scope}
use Rattle.swc_tree_scoping.specs.Places.{Path, program_place}
use Rattle.swc_tree_scoping.specs.Scopes.{IsScope, Round, first_that, is_binding, is_name, is_reference, is_taken, rounds, scope_at, taker}
use Rattle.swc_tree_scoping.specs.Declares.{Bound, DeclaredBy, DeclaresFor, First, Hoists, Means, PassesNone}
use Rattle.swc_tree_scoping.specs.Resolved.{HasContext, IsCaughtBy, Resolved, is_global_value, is_script, mark_in, own_meaning}
use Rattle.swc_tree_scoping.specs.WellScoped.{IsClean, NoCaughtVariable, Stands, is_catch_parameter}
use Rattle.swc_tree_scoping.proofs.First.{Each, round_opens}
use Rattle.swc_tree_renaming.specs.Apart.{Knows, NameAt, SameId, nameless}
use Rattle.swc_tree_renaming.proofs.Core.{binds_or_refers, cases_in, first_in, head_in, name_has, none_in, tail_in}
use Rattle.swc_tree_renaming.proofs.Shape.{nameless_remarked, same_scopes}
use Rattle.swc_tree_renaming.proofs.Whole.{stands_there}
use Rattle.swc_base_alpha_laws.specs.Alpha.{StandForOne, StandsFor}
use Rattle.swc_base_alpha_laws.specs.Laws.{NamesStandForTheirIds, ResolversAgree}
use Rattle.swc_base_alpha_laws.proofs.Equivalence.{one_there}

same_some : {X : Type 0} (a b : X) → Some a ≡ Some b → a ≡ b
same_some a b e = cc

head_same : (m n : ℕ) → m ∷ [] ≡ n ∷ [] → m ≡ n
head_same m n e = cc

-- there is one first
first_one : (P : Round → Type 0) (ss : List Round) (m n : Option Path) → First P ss m → First P ss n → m ≡ n
first_one P [] m n f g = f ∙ sym g
first_one P (s ∷ ss) m n (inl (h, e)) (inl (k, z)) = e ∙ sym z
first_one P (s ∷ ss) m n (inl (h, e)) (inr (none, g)) = absurd (none h)
first_one P (s ∷ ss) m n (inr (none, f)) (inl (k, z)) = absurd (none k)
first_one P (s ∷ ss) m n (inr (none, f)) (inr (nor, g)) = first_one P ss m n f g

found : (P : Round → Type 0) (ss : List Round) (s : Path) → First P ss (Some s) → (whole : Bool) × Contains ss (s, whole)
found P [] s f = absurd (cc)
found P (u ∷ us) s (inl (here, e)) =
    let is : u.0 ≡ s = sym (same_some s u.0 e) in
    (u.1, subst (λ q. Contains (u ∷ us) (q, u.1)) is (head_in u us))
found P (u ∷ us) s (inr (none, f)) = let (whole, there) = found P us s f in (whole, tail_in u (s, whole) us there)

each_at : (P : Round → Type 0) (ss : List Round) (s : Round) → Each P ss → Contains ss s → P s
each_at P [] s h e = absurd (none_in s e)
each_at P (u ∷ us) s h e = ⊎_elim (λ (is : u ≡ s). subst P is h.0) (λ later. each_at P us s h.1 later) (cases_in u s us e)

taken_there : (r : Standing) (o : Option Scope) → is_taken r o ≡ true → IsTrue (is_some o)
taken_there r None h = absurd (cc)
taken_there r (Some s) h = refl

impossible : {A : Type 0} → false ≡ true → A
impossible h = absurd (cc)

module _ (t : Node) where
  -- the scope whose mark a name gets, or none: as what it stands for, but a variable that is caught
  pub record Given (p : Path) (r : Standing) (x : List ℕ) (o : Option Path) : Type 0 where
    pub binding : IsTrue (is_binding r) → (s : Path) × DeclaredBy t p r x s × (((m : Path) × IsCaughtBy t p r x s m × (o ≡ Some m)) ⊎ (((m : Path) → ¬ IsCaughtBy t p r x s m) × (o ≡ Some s)))
    pub reference : IsTrue (is_reference r) → (m : Option Path) × Means t p x m × (o ≡ own_meaning t x m)

  round_scope : (p : Path) (s : Path) (whole : Bool) → Contains (rounds program_place t p) (s, whole) → IsScope t s
  round_scope p s whole h = each_at (λ s. IsTrue (is_some (scope_at program_place t s.0))) (rounds program_place t p) (s, whole) (round_opens p program_place t) h

  takers_scope : (r : Standing) (p s : Path) → taker r t p ≡ Some s → IsScope t s
  takers_scope r p s e = let (whole, there, f) = first_in (λ s. is_taken r (scope_at program_place t s.0)) (rounds program_place t p) s e in taken_there r (scope_at program_place t s) f

  declarers_scope : (p : Path) (r : Standing) (x : List ℕ) (s : Path) → DeclaredBy t p r x s → IsScope t s
  declarers_scope p standing.SloppyFunction x s (b, taken, inl (hoists, reaches)) = takers_scope standing.Variable p s reaches
  declarers_scope p standing.SloppyFunction x s (b, taken, inr (none, is)) = subst (IsScope t) is (takers_scope standing.SloppyFunction p b taken)
  declarers_scope p standing.Variable x s h = takers_scope standing.Variable p s h
  declarers_scope p standing.Lexical x s h = takers_scope standing.Lexical p s h
  declarers_scope p standing.Function x s h = takers_scope standing.Function p s h
  declarers_scope p standing.BlockFunction x s h = takers_scope standing.BlockFunction p s h
  declarers_scope p standing.Parameter x s h = takers_scope standing.Parameter p s h
  declarers_scope p standing.CatchParameter x s h = takers_scope standing.CatchParameter p s h
  declarers_scope p standing.Import x s h = takers_scope standing.Import p s h
  declarers_scope p standing.FunctionName x s h = takers_scope standing.FunctionName p s h
  declarers_scope p standing.ClassName x s h = takers_scope standing.ClassName p s h
  declarers_scope p r x s h = takers_scope r p s h

  one_declarer : (p : Path) (r : Standing) (x : List ℕ) (s m : Path) → DeclaredBy t p r x s → DeclaredBy t p r x m → s ≡ m
  one_declarer p standing.SloppyFunction x s m (b, taken, inl (hoists, reaches)) (c, again, inl (hoisted, reached)) = same_some s m (sym reaches ∙ reached)
  one_declarer p standing.SloppyFunction x s m (b, taken, inl (hoists, reaches)) (c, again, inr (none, is)) = absurd (none (subst (λ b. Hoists t b x) (same_some b c (sym taken ∙ again)) hoists))
  one_declarer p standing.SloppyFunction x s m (b, taken, inr (none, is)) (c, again, inl (hoists, reaches)) = absurd (none (subst (λ b. Hoists t b x) (same_some c b (sym again ∙ taken)) hoists))
  one_declarer p standing.SloppyFunction x s m (b, taken, inr (none, is)) (c, again, inr (nor, so)) = sym is ∙ same_some b c (sym taken ∙ again) ∙ so
  one_declarer p r x s m h k = same_some s m (sym h ∙ k)

  caught_one : (p : Path) (r : Standing) (x : List ℕ) (s l m n : Path) → IsCaughtBy t p r x s m → IsCaughtBy t p r x l n → m ≡ n
  caught_one p r x s l m n h k =
      same_some m n (first_one (λ s. IsTrue (is_taken standing.Variable (scope_at program_place t s.0)) ⊎ Bound t s.0 standing.CatchParameter x) (rounds program_place t p) (Some m) (Some n) h.1 k.1)

  -- there is one
  given_one : (p : Path) (r : Standing) (x : List ℕ) (o n : Option Path) → IsTrue (is_name r) → Given p r x o → Given p r x n → o ≡ n
  given_one p r x o n names h k = name_has r names binding reference
    where
      binding : IsTrue (is_binding r) → o ≡ n
      binding b = both (h.binding b) (k.binding b)
        where
          both : (s : Path) × DeclaredBy t p r x s × (((m : Path) × IsCaughtBy t p r x s m × (o ≡ Some m)) ⊎ (((m : Path) → ¬ IsCaughtBy t p r x s m) × (o ≡ Some s)))
              → (s : Path) × DeclaredBy t p r x s × (((m : Path) × IsCaughtBy t p r x s m × (n ≡ Some m)) ⊎ (((m : Path) → ¬ IsCaughtBy t p r x s m) × (n ≡ Some s))) → o ≡ n
          both (s, d, inl (m, c, e)) (l, f, inl (v, g, z)) = e ∙ ap (λ s. Some s) (caught_one p r x s l m v c g) ∙ sym z
          both (s, d, inl (m, c, e)) (l, f, inr (none, z)) = absurd (none m (subst (λ s. IsCaughtBy t p r x s m) (one_declarer p r x s l d f) c))
          both (s, d, inr (none, e)) (l, f, inl (v, g, z)) = absurd (none v (subst (λ s. IsCaughtBy t p r x s v) (one_declarer p r x l s f d) g))
          both (s, d, inr (none, e)) (l, f, inr (nor, z)) = e ∙ ap (λ s. Some s) (one_declarer p r x s l d f) ∙ sym z

      reference : IsTrue (is_reference r) → o ≡ n
      reference f =
          let (m, means, e) = h.reference f in
          let (l, again, z) = k.reference f in
          e ∙ ap (own_meaning t x) (first_one (DeclaresFor t x) (rounds program_place t p) m l means again) ∙ sym z

  own_scope : (x : List ℕ) (m : Option Path) (s : Path) → Some s ≡ own_meaning t x m → m ≡ Some s
  own_scope x None s e = absurd (cc)
  own_scope x (Some []) s e = by (is_script t) (is_global_value x) e
    where
      by : (a b : Bool) → Some s ≡ cond (a && b) None (Some []) → Some [] ≡ Some s
      by true true e = absurd (cc)
      by true false e = sym e
      by false b e = sym e
  own_scope x (Some (i ∷ m)) s e = sym e

  given_scope : (p : Path) (r : Standing) (x : List ℕ) (s : Path) → IsTrue (is_name r) → Given p r x (Some s) → IsScope t s
  given_scope p r x s names h = name_has r names (λ b. binding (h.binding b)) reference
    where
      binding : (l : Path) × DeclaredBy t p r x l × (((m : Path) × IsCaughtBy t p r x l m × (Some s ≡ Some m)) ⊎ (((m : Path) → ¬ IsCaughtBy t p r x l m) × (Some s ≡ Some l))) → IsScope t s
      binding (l, d, inl (m, c, e)) =
          let (whole, there) = found (λ s. IsTrue (is_taken standing.Variable (scope_at program_place t s.0)) ⊎ Bound t s.0 standing.CatchParameter x) (rounds program_place t p) m c.1 in
          subst (IsScope t) (same_some m s (sym e)) (round_scope p m whole there)
      binding (l, d, inr (none, e)) = subst (IsScope t) (same_some l s (sym e)) (declarers_scope p r x l d)

      reference : IsTrue (is_reference r) → IsScope t s
      reference f =
          let (m, means, e) = h.reference f in
          let (whole, there) = found (DeclaresFor t x) (rounds program_place t p) s (subst (First (DeclaresFor t x) (rounds program_place t p)) (own_scope x m s e) means) in
          round_scope p s whole there

  -- where no variable is caught, it is what the name stands for
  pub meets_taker : (x : List ℕ) (ss : List Round) (m s : Path) → PassesNone is_catch_parameter t x ss
      → First (λ s. IsTrue (is_taken standing.Variable (scope_at program_place t s.0)) ⊎ Bound t s.0 standing.CatchParameter x) ss (Some m)
      → first_that (λ s. is_taken standing.Variable (scope_at program_place t s.0)) ss ≡ Some s → m ≡ s
  meets_taker x [] m s passes f e = absurd (cc)
  meets_taker x (z ∷ zs) m s passes f e = next (V z) refl passes f e (λ p g h. meets_taker x zs m s p g h)
    where
      V : Round → Bool
      V s = is_taken standing.Variable (scope_at program_place t s.0)

      next : (b : Bool) → V z ≡ b → PassesNone is_catch_parameter t x (z ∷ zs) → First (λ s. IsTrue (V s) ⊎ Bound t s.0 standing.CatchParameter x) (z ∷ zs) (Some m) → cond b (Some z.0) (first_that V zs) ≡ Some s
          → (PassesNone is_catch_parameter t x zs → First (λ s. IsTrue (V s) ⊎ Bound t s.0 standing.CatchParameter x) zs (Some m) → first_that V zs ≡ Some s → m ≡ s) → m ≡ s
      next true v passes (inl (here, is)) e later = same_some m z.0 is ∙ same_some z.0 s e
      next true v passes (inr (none, f)) e later = absurd (none (inl v))
      next false v (inl taken) f e later = impossible (sym v ∙ taken)
      next false v (inr (none, rest)) (inl (inl taken, is)) e later = impossible (sym v ∙ taken)
      next false v (inr (none, rest)) (inl (inr b, is)) e later = absurd (none (standing.CatchParameter, refl, b))
      next false v (inr (none, rest)) (inr (nor, f)) e later = later rest f e

  -- ... and a variable writes to its scope
  pub meets_first : (x : List ℕ) (ss : List Round) (o : Option Path) → PassesNone is_catch_parameter t x ss
      → First (λ s. IsTrue (is_taken standing.Variable (scope_at program_place t s.0)) ⊎ Bound t s.0 standing.CatchParameter x) ss o
      → o ≡ first_that (λ s. is_taken standing.Variable (scope_at program_place t s.0)) ss
  meets_first x [] o passes f = f
  meets_first x (z ∷ zs) o passes f = next (is_taken standing.Variable (scope_at program_place t z.0)) refl passes f (λ p g. meets_first x zs o p g)
    where
      V : Round → Bool
      V s = is_taken standing.Variable (scope_at program_place t s.0)

      next : (b : Bool) → is_taken standing.Variable (scope_at program_place t z.0) ≡ b → PassesNone is_catch_parameter t x (z ∷ zs)
          → First (λ s. IsTrue (is_taken standing.Variable (scope_at program_place t s.0)) ⊎ Bound t s.0 standing.CatchParameter x) (z ∷ zs) o
          → (PassesNone is_catch_parameter t x zs → First (λ s. IsTrue (is_taken standing.Variable (scope_at program_place t s.0)) ⊎ Bound t s.0 standing.CatchParameter x) zs o → o ≡ first_that (λ s. is_taken standing.Variable (scope_at program_place t s.0)) zs)
          → o ≡ cond b (Some z.0) (first_that (λ s. is_taken standing.Variable (scope_at program_place t s.0)) zs)
      next true v passes (inl (here, is)) later = is
      next true v passes (inr (none, f)) later = absurd (none (inl v))
      next false v (inl taken) f later = impossible (sym v ∙ taken)
      next false v (inr (none, rest)) (inl (inl taken, is)) later = impossible (sym v ∙ taken)
      next false v (inr (none, rest)) (inl (inr b, is)) later = absurd (none (standing.CatchParameter, refl, b))
      next false v (inr (none, rest)) (inr (nor, f)) later = later rest f

  pub first_meets : (x : List ℕ) (ss : List Round) (o : Option Path) → PassesNone is_catch_parameter t x ss
      → o ≡ first_that (λ s. is_taken standing.Variable (scope_at program_place t s.0)) ss
      → First (λ s. IsTrue (is_taken standing.Variable (scope_at program_place t s.0)) ⊎ Bound t s.0 standing.CatchParameter x) ss o
  first_meets x [] o passes e = e
  first_meets x (z ∷ zs) o passes e = next (is_taken standing.Variable (scope_at program_place t z.0)) refl passes e (λ p g. first_meets x zs o p g)
    where
      next : (b : Bool) → is_taken standing.Variable (scope_at program_place t z.0) ≡ b → PassesNone is_catch_parameter t x (z ∷ zs)
          → o ≡ cond b (Some z.0) (first_that (λ s. is_taken standing.Variable (scope_at program_place t s.0)) zs)
          → (PassesNone is_catch_parameter t x zs → o ≡ first_that (λ s. is_taken standing.Variable (scope_at program_place t s.0)) zs → First (λ s. IsTrue (is_taken standing.Variable (scope_at program_place t s.0)) ⊎ Bound t s.0 standing.CatchParameter x) zs o)
          → First (λ s. IsTrue (is_taken standing.Variable (scope_at program_place t s.0)) ⊎ Bound t s.0 standing.CatchParameter x) (z ∷ zs) o
      next true v passes e later = inl (inl v, e)
      next false v (inl taken) e later = impossible (sym v ∙ taken)
      next false v (inr (none, rest)) e later = inr (λ c. ⊎_elim (λ (taken : IsTrue (is_taken standing.Variable (scope_at program_place t z.0))). impossible (sym v ∙ taken)) (λ b. none (standing.CatchParameter, refl, b)) c, later rest e)

  pub stands_for : NoCaughtVariable t → (p : Path) (r : Standing) (x : List ℕ) (o : Option Path) → Stands t p r x → Given p r x o → StandsFor t p r x o
  stands_for uncaught p r x o at h = record { binding = λ b. binding (h.binding b); reference = h.reference }
    where
      binding : (l : Path) × DeclaredBy t p r x l × (((m : Path) × IsCaughtBy t p r x l m × (o ≡ Some m)) ⊎ (((m : Path) → ¬ IsCaughtBy t p r x l m) × (o ≡ Some l))) → (s : Path) × DeclaredBy t p r x s × (o ≡ Some s)
      binding (l, d, inl (m, (is, meets, otherwise), e)) =
          let same = meets_taker x (rounds program_place t p) m l (uncaught p x (subst (λ r. Stands t p r x) is at)) meets (subst (λ r. DeclaredBy t p r x l) is d) in
          (l, d, e ∙ ap (λ s. Some s) same)
      binding (l, d, inr (none, e)) = (l, d, e)

  -- there is one of those too
  pub one_stood_for : (p : Path) (r : Standing) (x : List ℕ) (o n : Option Path) → IsTrue (is_name r) → StandsFor t p r x o → StandsFor t p r x n → o ≡ n
  one_stood_for p r x o n names h k = name_has r names
      (λ b. let (s, d, e) = h.binding b in let (l, f, z) = k.binding b in e ∙ ap (λ s. Some s) (one_declarer p r x s l d f) ∙ sym z)
      (λ f. let (m, means, e) = h.reference f in let (l, again, z) = k.reference f in e ∙ ap (own_meaning t x) (first_one (DeclaresFor t x) (rounds program_place t p) m l means again) ∙ sym z)

-- a resolver that knows the mark of free names, which is not the program's
pub record Resolver (t u : Node) : Type 0 where
  pub unresolved : ℕ
  pub top : ℕ
  pub old : Table
  pub new : Table
  pub clean : IsClean t
  pub known : Knows old unresolved
  pub apart : unresolved ≢ top
  pub resolved : Resolved unresolved top old new t u

module _ (t u : Node) (g : Resolver t u) where
  abbrev pub mark : Option Path → List ℕ
  mark o = mark_in g.resolved.marks g.unresolved o ∷ []

  -- a name of the answer, and what it was given
  pub record Marked (p : Path) (r : Standing) (i a : Ident) : Type 0 where
    pub owner : Option Path
    pub given : Given t p r i.sym owner
    pub text : a.sym ≡ i.sym
    pub context : a.ctxt ≡ mark owner

  answered : (p : Path) (i a : Ident) (m : NameAt t p i) → NameAt u p a → a ≡ record i { ctxt = g.resolved.contexts p }
  answered p i a (w, k, h, n) (v, l, e, z) =
      sym (one_there u p w v k l (record i { ctxt = g.resolved.contexts p }) a (stands_there t u g.resolved.contexts g.resolved.only_contexts p w k i h) e).1

  pub marked : (p : Path) (i a : Ident) (m : NameAt t p i) → NameAt u p a → Marked p m.0.standing i a
  marked p i a m x = name_has m.0.standing m.3 binding reference
    where
      is : a ≡ record i { ctxt = g.resolved.contexts p }
      is = answered p i a m x

      here : HasContext g.resolved.marks g.unresolved t p i.sym m.0.standing (g.resolved.contexts p)
      here = g.resolved.resolved p m.0 m.1 i m.2 (g.clean p m.0 m.1 i m.2)

      binding : IsTrue (is_binding m.0.standing) → Marked p m.0.standing i a
      binding b = by (here.binding b)
        where
          by : (s : Path) × DeclaredBy t p m.0.standing i.sym s × (((l : Path) × IsCaughtBy t p m.0.standing i.sym s l × (g.resolved.contexts p ≡ g.resolved.marks l ∷ [])) ⊎ (((l : Path) → ¬ IsCaughtBy t p m.0.standing i.sym s l) × (g.resolved.contexts p ≡ g.resolved.marks s ∷ [])))
              → Marked p m.0.standing i a
          by (s, d, inl (l, c, e)) = record {
            owner = Some l;
            given = record { binding = λ z. (s, d, inl (l, c, refl)); reference = λ f. absurd (binds_or_refers m.0.standing b f) };
            text = ap (λ (i : Ident). i.sym) is;
            context = ap (λ (i : Ident). i.ctxt) is ∙ e;
          }
          by (s, d, inr (none, e)) = record {
            owner = Some s;
            given = record { binding = λ z. (s, d, inr (none, refl)); reference = λ f. absurd (binds_or_refers m.0.standing b f) };
            text = ap (λ (i : Ident). i.sym) is;
            context = ap (λ (i : Ident). i.ctxt) is ∙ e;
          }

      reference : IsTrue (is_reference m.0.standing) → Marked p m.0.standing i a
      reference f =
          let (l, means, e) = here.reference f in
          record {
            owner = own_meaning t i.sym l;
            given = record { binding = λ b. absurd (binds_or_refers m.0.standing b f); reference = λ h. (l, means, refl) };
            text = ap (λ (i : Ident). i.sym) is;
            context = ap (λ (i : Ident). i.ctxt) is ∙ e;
          }

  never : (s : Path) → IsScope t s → g.unresolved ≡ g.resolved.marks s → ⊥
  never [] h e = g.apart (e ∙ g.resolved.program)
  never (i ∷ s) h e =
      let (parent, there) = g.known in
      g.resolved.fresh (i ∷ s) h (λ n. absurd (cc)) parent (subst (λ m. Contains g.old (m, parent)) e there)

  pub one_mark : (o n : Option Path) → ((s : Path) → o ≡ Some s → IsScope t s) → ((s : Path) → n ≡ Some s → IsScope t s) → mark o ≡ mark n → o ≡ n
  one_mark None None a b e = refl
  one_mark None (Some s) a b e = absurd (never s (b s refl) (head_same g.unresolved (g.resolved.marks s) e))
  one_mark (Some s) None a b e = absurd (never s (a s refl) (sym (head_same (g.resolved.marks s) g.unresolved e)))
  one_mark (Some s) (Some m) a b e = ap (λ s. Some s) (g.resolved.one_to_one s m (a s refl) (b m refl) (head_same (g.resolved.marks s) (g.resolved.marks m) e))

  pub scope_of : (p : Path) (r : Standing) (x : List ℕ) (o : Option Path) → IsTrue (is_name r) → Given t p r x o → (s : Path) → o ≡ Some s → IsScope t s
  scope_of p r x o names h s e = given_scope t p r x s names (subst (Given t p r x) e h)

  -- one id: one text, and one scope or none was given
  pub tells : (p q : Path) (i j a b : Ident) (m : NameAt t p i) (n : NameAt t q j) → (x : Marked p m.0.standing i a) (y : Marked q n.0.standing j b) → SameId a b ↔ ((i.sym ≡ j.sym) × (x.owner ≡ y.owner))
  tells p q i j a b m n x y = (
    λ (text, context). (
      sym x.text ∙ text ∙ y.text,
      one_mark x.owner y.owner (scope_of p m.0.standing i.sym x.owner m.3 x.given) (scope_of q n.0.standing j.sym y.owner n.3 y.given) (sym x.context ∙ context ∙ y.context),
    ),
    λ (text, owner). (x.text ∙ text ∙ sym y.text, x.context ∙ ap mark owner ∙ sym y.context),
  )

  pub stand_for_ids : NoCaughtVariable t → (p q : Path) (i j a b : Ident) (m : NameAt t p i) (n : NameAt t q j) → NameAt u p a → NameAt u q b → StandForOne t p q i j m n ↔ SameId a b
  stand_for_ids uncaught p q i j a b m n x y = (forth, back)
    where
      first : Marked p m.0.standing i a
      first = marked p i a m x

      second : Marked q n.0.standing j b
      second = marked q j b n y

      at : (p : Path) (i : Ident) (m : NameAt t p i) → Stands t p m.0.standing i.sym
      at p i m = record { place = m.0; kind = m.1; identifier = i; stands = m.2; stands_so = refl; named = refl }

      here : StandsFor t p m.0.standing i.sym first.owner
      here = stands_for t uncaught p m.0.standing i.sym first.owner (at p i m) first.given

      there : StandsFor t q n.0.standing j.sym second.owner
      there = stands_for t uncaught q n.0.standing j.sym second.owner (at q j n) second.given

      forth : StandForOne t p q i j m n → SameId a b
      forth (text, (o, h, k)) =
          (tells p q i j a b m n first second).1 (text, one_stood_for t p m.0.standing i.sym first.owner o m.3 here h ∙ one_stood_for t q n.0.standing j.sym o second.owner n.3 k there)

      back : SameId a b → StandForOne t p q i j m n
      back h =
          let (text, owner) = (tells p q i j a b m n first second).0 h in
          (text, (first.owner, here, subst (StandsFor t q n.0.standing j.sym) (sym owner) there))

pub names_stand_for_their_ids : NamesStandForTheirIds
names_stand_for_their_ids t u unresolved top old new clean uncaught known apart resolved =
    stand_for_ids t u (record { unresolved = unresolved; top = top; old = old; new = new; clean = clean; known = known; apart = apart; resolved = resolved }) uncaught

pub resolvers_agree : ResolversAgree
resolvers_agree t u v unresolved top free whole old new before after clean known apart resolved seen parted again p q i j a b m n x y =
    let (k, z) = there p i m in
    let (l, w) = there q j n in
    let first = marked t u one p k i z m in
    let second = marked t u one q l j w n in
    let third = marked t v other p k a z x in
    let fourth = marked t v other q l b w y in
    let here = tells t u one p q k l i j z w first second in
    let that = tells t v other p q k l a b z w third fourth in
    let same : first.owner ≡ third.owner = given_one t p z.0.standing k.sym first.owner third.owner z.3 first.given third.given in
    let too : second.owner ≡ fourth.owner = given_one t q w.0.standing l.sym second.owner fourth.owner w.3 second.given fourth.given in (
      λ h. let (text, owner) = that.0 h in here.1 (text, same ∙ owner ∙ sym too),
      λ h. let (text, owner) = here.0 h in that.1 (text, sym same ∙ owner ∙ too),
    )
  where
    one : Resolver t u
    one = record { unresolved = unresolved; top = top; old = old; new = new; clean = clean; known = known; apart = apart; resolved = resolved }

    other : Resolver t v
    other = record { unresolved = free; top = whole; old = before; new = after; clean = clean; known = seen; apart = parted; resolved = again }

    there : (p : Path) (a : Ident) → NameAt u p a → (i : Ident) × NameAt t p i
    there p a (w, k, h, n) =
        let (l, i, e) = (same_scopes t u (sym (nameless_remarked resolved.contexts t) ∙ ap nameless (sym resolved.only_contexts))).back p w k a h in
        (i, (w, l, e, n))
