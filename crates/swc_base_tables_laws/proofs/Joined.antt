-- A program that two others make up: it is scoped as they are, where each binds its own names and the first refers only to
-- what the second's program declares.
use Rattle.std.proofs.Common.{◌≡◌, ℕ, Bool, true, false, ◌||◌, ◌⊎◌, inl, inr, ⊎_elim, IsTrue, Some, List, [], ◌∷◌, Contains, refl, sym, ap, ◌∙◌, subst}
use Rattle.swc_tree_marks.specs.declared.ident.Ident.{Ident}
use Rattle.swc_tree_node.specs.declared.kind.Kind.{Kind}
use Rattle.swc_tree_node.specs.declared.node.Node.{Node, Identifier}
use Rattle.swc_tree_scoping.specs.declared.places.Standing.{Standing}
use Rattle.swc_tree_scoping.specs.declared.places.Standing.TheVariants as standing
use Rattle.swc_tree_scoping.specs.declared.places.Place.{Place}
use Rattle.swc_tree_scoping.specs.Places.{Path, program_place, place_at}
use Rattle.swc_tree_scoping.specs.Scopes.{is_binding, is_name, is_reference, rounds}
use Rattle.swc_tree_scoping.specs.Declares.{Declares, is_lexical}
use Rattle.swc_tree_scoping.specs.WellScoped.{Binds, EachInOneScope, ExportsDeclared, InExportList, InRegion, IsClean, IsDeclared, NoCaughtVariable, NoRedeclaration, NoVariablePasses, OneScope, Stands, is_catch_parameter, is_module}
use Rattle.swc_tree_renaming.specs.Apart.{DeclaredIn}
use Rattle.swc_tree_renaming.proofs.Whole.{ProgramLayer, stands_round}
use Rattle.swc_base_tables_laws.proofs.Declarers.{declarer_declares, declares_declared, one_declarer, some_same}
use Rattle.swc_base_tables_laws.proofs.Inside.{Alike, AllInside, Inside, declares_forth, region_forth, still_bound}
use Rattle.swc_base_tables_laws.proofs.Sided.{no_parameter_twice, none_twice, one_scope, variable_passes}

or_left : (a b : Bool) → IsTrue a → IsTrue (a || b)
or_left true b h = refl
or_left false b h = absurd (cc)

or_right : (a b : Bool) → IsTrue b → IsTrue (a || b)
or_right true b h = refl
or_right false b h = h

pub bound_is_name : (r : Standing) → IsTrue (is_binding r) → IsTrue (is_name r)
bound_is_name r h = or_left (is_binding r) (is_reference r) h

pub reference_is_name : (r : Standing) → IsTrue (is_reference r) → IsTrue (is_name r)
reference_is_name r h = or_right (is_binding r) (is_reference r) h

impossible : {A : Type 0} → false ≡ true → A
impossible h = absurd (cc)

-- the program stands round all its references
in_program : (t : Node) → ProgramLayer t → (p : Path) (r : Standing) (x : List ℕ) → Stands t p r x → IsTrue (is_reference r) → Contains (rounds program_place t p) ([], true)
in_program t l [] r x s h =
    let root : program_place ≡ s.place = ap (λ (q : Place × Node). q.0) (some_same (program_place, t) (s.place, Identifier s.kind s.identifier) s.stands) in
    impossible (subst (λ r. IsTrue (is_reference r)) (sym s.stands_so ∙ ap (λ (w : Place). w.standing) (sym root)) h)
in_program t l (i ∷ p) r x s h = stands_round t l i p

-- what stands in the whole stands in one of the two
abbrev pub IsFrom : Node → (Path → Path) → Path → Place → Kind → Ident → Type 0
IsFrom t f p w k i = (q : Path) × (y : Place) × (p ≡ f q) × (place_at program_place t q ≡ Some (y, Identifier k i)) × Alike y w

abbrev pub Covered : Node → Node → Node → (Path → Path) → (Path → Path) → Type 0
Covered t v u f g = (p : Path) (w : Place) (k : Kind) (i : Ident) → place_at program_place u p ≡ Some (w, Identifier k i) → IsFrom t f p w k i ⊎ IsFrom v g p w k i

pub record Joined (t v u : Node) : Type 1 where
  pub f : Path → Path
  pub g : Path → Path
  pub Here : Path → Type 0
  pub There : Path → Type 0
  pub first : Inside t u f Here
  pub second : Inside v u g There
  pub covered : Covered t v u f g
  pub whole : ProgramLayer u
  pub first_goal : IsTrue (is_module u) → IsTrue (is_module t)
  pub second_goal : IsTrue (is_module u) → IsTrue (is_module v)

-- what the scoping of a tree is, of names alone
pub record NamesScoped (t : Node) : Type 0 where
  pub each_in_one_scope : EachInOneScope t
  pub exports_declared : ExportsDeclared t
  pub no_redeclaration : NoRedeclaration t
  pub no_caught_variable : NoCaughtVariable t

-- what is bound in the first is no name of the second
abbrev pub BoundApart : Node → Node → Type 0
BoundApart t v = (p q : Path) (r z : Standing) (x : List ℕ) → Binds t p r x → Stands v q z x → IsTrue (is_name z) → ⊥

-- what the first refers to and the second binds is declared by the second's program
abbrev pub Offered : Node → Node → Type 0
Offered t v = (p q : Path) (r z : Standing) (x : List ℕ) → Binds v p r x → Stands t q z x → IsTrue (is_reference z) → DeclaredIn v [] x

-- a binding stands in one of the two as it does in the whole
abbrev pub BoundIn : Node → (Path → Path) → Path → Standing → List ℕ → Type 0
BoundIn t f p r x = (q : Path) × (p ≡ f q) × Stands t q r x

bound_from : (t u : Node) (f : Path → Path) (p : Path) (r : Standing) (x : List ℕ) (s : Stands u p r x) → IsTrue (is_binding r) → IsFrom t f p s.place s.kind s.identifier → BoundIn t f p r x
bound_from t u f p r x s b (q, y, e, there, alike) = (
  q,
  e,
  record {
    place = y;
    kind = s.kind;
    identifier = s.identifier;
    stands = there;
    stands_so = by alike;
    named = s.named;
  },
)
  where
    by : Alike y s.place → y.standing ≡ r
    by (inl is) = ap (λ (w : Place). w.standing) is ∙ s.stands_so
    by (inr (h, g)) = ap (λ (w : Place). w.standing) (sym (still_bound s.place y r s.stands_so b (inr (g, h)))) ∙ s.stands_so

pub bound_at : (t v u : Node) (f g : Path → Path) → Covered t v u f g → (p : Path) (r : Standing) (x : List ℕ) → Binds u p r x → BoundIn t f p r x ⊎ BoundIn v g p r x
bound_at t v u f g covered p r x b = ⊎_elim
    (λ (a : IsFrom t f p b.at.place b.at.kind b.at.identifier). inl (bound_from t u f p r x b.at b.binds a))
    (λ (a : IsFrom v g p b.at.place b.at.kind b.at.identifier). inr (bound_from v u g p r x b.at b.binds a))
    (covered p b.at.place b.at.kind b.at.identifier b.at.stands)

-- and a reference refers there
abbrev RefersIn : Node → (Path → Path) → Path → List ℕ → Type 0
RefersIn t f p x = (q : Path) × (z : Standing) × (p ≡ f q) × Stands t q z x × IsTrue (is_reference z)

pub still_refers : (y w : Place) → Alike y w → IsTrue (is_reference w.standing) → IsTrue (is_reference y.standing)
still_refers y w (inl is) h = subst (λ (w : Place). IsTrue (is_reference w.standing)) (sym is) h
still_refers y w (inr (g, too)) h = g

refers_from : (t u : Node) (f : Path → Path) (p : Path) (r : Standing) (x : List ℕ) (s : Stands u p r x) → IsTrue (is_reference r) → IsFrom t f p s.place s.kind s.identifier → RefersIn t f p x
refers_from t u f p r x s h (q, y, e, there, alike) = (
  q,
  y.standing,
  e,
  record { place = y; kind = s.kind; identifier = s.identifier; stands = there; stands_so = refl; named = s.named },
  still_refers y s.place alike (subst (λ r. IsTrue (is_reference r)) (sym s.stands_so) h),
)

refers_at : (t v u : Node) (f g : Path → Path) → Covered t v u f g → (p : Path) (r : Standing) (x : List ℕ) → Stands u p r x → IsTrue (is_reference r) → RefersIn t f p x ⊎ RefersIn v g p x
refers_at t v u f g covered p r x s h = ⊎_elim
    (λ (a : IsFrom t f p s.place s.kind s.identifier). inl (refers_from t u f p r x s h a))
    (λ (a : IsFrom v g p s.place s.kind s.identifier). inr (refers_from v u g p r x s h a))
    (covered p s.place s.kind s.identifier s.stands)

-- what is listed stands where it stood
listed_from : (t u : Node) (f : Path → Path) (In : Path → Type 0) → Inside t u f In → (p : Path) (x : List ℕ) (s : Stands u p standing.Reference x) → InExportList u p → IsFrom t f p s.place s.kind s.identifier
    → (q : Path) × InExportList t q × Stands t q standing.Reference x
listed_from t u f In inside p x s listed (q, y, e, there, alike) =
    let (list, stays) = inside.listed q y s.kind s.identifier there (subst (InExportList u) e listed) in
    let same : y ≡ s.place = ap (λ (z : Place × Node). z.0) (some_same (y, Identifier s.kind s.identifier) (s.place, Identifier s.kind s.identifier) (sym stays ∙ ap (place_at program_place u) (sym e) ∙ s.stands)) in
    (q, list, record { place = y; kind = s.kind; identifier = s.identifier; stands = there; stands_so = ap (λ (w : Place). w.standing) same ∙ s.stands_so; named = s.named })

module _ (t v u : Node) (j : Joined t v u) (ct : IsClean t) (cv : IsClean v) (cu : IsClean u) (st : NamesScoped t) (sv : NamesScoped v) (apart : BoundApart t v) (offered : Offered t v) where
  here : (x : List ℕ) → IsDeclared t x → AllInside t u j.f x
  here x (q, z, c) p r b = ⊎_elim (λ a. a) (λ (a : BoundIn v j.g p r x). absurd (apart q a.0 z r x c a.2 (bound_is_name r b.binds))) (bound_at t v u j.f j.g j.covered p r x b)

  there : (x : List ℕ) → IsDeclared v x → AllInside v u j.g x
  there x (q, z, c) p r b =
      ⊎_elim (λ (a : BoundIn t j.f p r x). absurd (apart a.0 q r z x (record { at = a.2; binds = b.binds }) c.at (bound_is_name z c.binds))) (λ a. a) (bound_at t v u j.f j.g j.covered p r x b)

  -- a binding stands in the one or the other
  bound_in : (p : Path) (r : Standing) (x : List ℕ) → Binds u p r x → IsDeclared t x ⊎ IsDeclared v x
  bound_in p r x b = ⊎_elim
      (λ (a : BoundIn t j.f p r x). inl (a.0, r, record { at = a.2; binds = b.binds }))
      (λ (a : BoundIn v j.g p r x). inr (a.0, r, record { at = a.2; binds = b.binds }))
      (bound_at t v u j.f j.g j.covered p r x b)

  program_declares : (x : List ℕ) → DeclaredIn v [] x → Declares v [] x
  program_declares x d = declarer_declares v cv d.path [] d.standing x d.binds.at d.declared

  declares_too : (x : List ℕ) → Declares v [] x → Declares u [] x
  declares_too x d = subst (λ s. Declares u s x) j.second.top (declares_forth v u j.g j.There j.second cv cu x (there x (declares_declared v [] x d)) ([], true) d)

  -- references
  refer_first : (x : List ℕ) (d : IsDeclared t x) (o : OneScope t x) (p : Path) (r : Standing) → IsTrue (is_reference r) → Stands u p r x → InRegion u (j.f o.scope) x p
  refer_first x (q, z, c) o p r h s = ⊎_elim
      (λ (a : RefersIn t j.f p x).
      subst (InRegion u (j.f o.scope) x) (sym a.2) (region_forth t u j.f j.Here j.first ct cu x (here x (q, z, c)) o.scope a.0 a.1 a.3 (o.references a.0 a.1 a.4 a.3)))
      (λ (a : RefersIn v j.g p x). absurd (apart q a.0 z a.1 x c a.3 (reference_is_name a.1 a.4)))
      (refers_at t v u j.f j.g j.covered p r x s h)

  top_scope : (x : List ℕ) (o : OneScope v x) → DeclaredIn v [] x → o.scope ≡ []
  top_scope x o d = one_declarer v d.path o.scope [] d.standing x (o.bindings d.path d.standing d.binds) d.declared

  refer_second : (x : List ℕ) (d : IsDeclared v x) (o : OneScope v x) (p : Path) (r : Standing) → IsTrue (is_reference r) → Stands u p r x → InRegion u (j.g o.scope) x p
  refer_second x (q, z, c) o p r h s = ⊎_elim
      (λ (a : RefersIn t j.f p x).
      let d = offered q a.0 z a.1 x c a.3 a.4 in
      subst (λ m. InRegion u m x p) (sym (ap j.g (top_scope x o d) ∙ j.second.top)) (true, in_program u j.whole p r x s h, declares_too x (program_declares x d)))
      (λ (a : RefersIn v j.g p x).
      subst (InRegion u (j.g o.scope) x) (sym a.2) (region_forth v u j.g j.There j.second cv cu x (there x (q, z, c)) o.scope a.0 a.1 a.3 (o.references a.0 a.1 a.4 a.3)))
      (refers_at t v u j.f j.g j.covered p r x s h)

  each_one : EachInOneScope u
  each_one x (p, r, b) = ⊎_elim
      (λ (d : IsDeclared t x). let o = st.each_in_one_scope x d in one_scope t u j.f j.Here j.first ct cu j.first_goal x (here x d) o (refer_first x d o))
      (λ (d : IsDeclared v x). let o = sv.each_in_one_scope x d in one_scope v u j.g j.There j.second cv cu j.second_goal x (there x d) o (refer_second x d o))
      (bound_in p r x b)

  exports : ExportsDeclared u
  exports p x listed s = ⊎_elim
      (λ (a : IsFrom t j.f p s.place s.kind s.identifier).
      let (q, list, at) = listed_from t u j.f j.Here j.first p x s listed a in
      let d = st.exports_declared q x list at in
      subst (λ m. Declares u m x) j.first.top (declares_forth t u j.f j.Here j.first ct cu x (here x (declares_declared t [] x d)) ([], true) d))
      (λ (a : IsFrom v j.g p s.place s.kind s.identifier). let (q, list, at) = listed_from v u j.g j.There j.second p x s listed a in declares_too x (sv.exports_declared q x list at))
      (j.covered p s.place s.kind s.identifier s.stands)

  variables : (ways : Standing → Bool) → NoVariablePasses ways t → NoVariablePasses ways v → NoVariablePasses ways u
  variables ways a b p x s = ⊎_elim
      (λ (d : IsDeclared t x). variable_passes t u j.f j.Here j.first ct cu j.first_goal x (here x d) ways a p s)
      (λ (d : IsDeclared v x). variable_passes v u j.g j.There j.second cv cu j.second_goal x (there x d) ways b p s)
      (bound_in p standing.Variable x (record { at = s; binds = refl }))

  redeclared : NoRedeclaration u
  redeclared = record {
    none_twice = λ x s p q r z a b. ⊎_elim
        (λ (d : IsDeclared t x). none_twice t u j.f j.Here j.first ct cu j.first_goal x (here x d) st.no_redeclaration.none_twice s p q r z a b)
        (λ (d : IsDeclared v x). none_twice v u j.g j.There j.second cv cu j.second_goal x (there x d) sv.no_redeclaration.none_twice s p q r z a b)
        (bound_in p r x a);
    no_variable_passes = variables is_lexical st.no_redeclaration.no_variable_passes sv.no_redeclaration.no_variable_passes;
    no_parameter_twice = λ x m p q a b. ⊎_elim
        (λ (d : IsDeclared t x). no_parameter_twice t u j.f j.Here j.first ct cu j.first_goal x (here x d) st.no_redeclaration.no_parameter_twice m p q a b)
        (λ (d : IsDeclared v x). no_parameter_twice v u j.g j.There j.second cv cu j.second_goal x (there x d) sv.no_redeclaration.no_parameter_twice m p q a b)
        (bound_in p standing.Parameter x (record { at = a; binds = refl }));
  }

  pub names_scoped : NamesScoped u
  names_scoped = record {
    each_in_one_scope = each_one;
    exports_declared = exports;
    no_redeclaration = redeclared;
    no_caught_variable = variables is_catch_parameter st.no_caught_variable sv.no_caught_variable;
  }
