-- What is said of a name in a tree holds in the tree that it is inside, where all bindings of the name stand in the first.
use Rattle.std.proofs.Common.{◌≡◌, ℕ, Bool, inl, inr, ◌⊎◌, ⊎_elim, IsTrue, Some, List, [], refl, sym, ap, ◌∙◌, subst}
use Rattle.std.specs.Option.{option_map}
use Rattle.swc_tree_node.specs.declared.node.Node.{Node, Identifier}
use Rattle.swc_tree_scoping.specs.declared.places.Standing.{Standing}
use Rattle.swc_tree_scoping.specs.declared.places.Standing.TheVariants as standing
use Rattle.swc_tree_scoping.specs.declared.places.Place.{Place}
use Rattle.swc_tree_scoping.specs.Places.{Path, program_place, place_at}
use Rattle.swc_tree_scoping.specs.Scopes.{rounds, taker, is_reference}
use Rattle.swc_tree_scoping.specs.Declares.{DeclaredBy, PassesNone}
use Rattle.swc_tree_scoping.specs.WellScoped.{AreFunctionsOfOneBlock, Binds, InRegion, IsArrowOrMethod, IsClean, IsLexical, NoParameterTwice, NoVariablePasses, NoneTwice, OneScope, Stands, is_module}
use Rattle.swc_base_tables_laws.proofs.Declarers.{some_same}
use Rattle.swc_base_tables_laws.proofs.Inside.{AllInside, Inside, declared_back, declared_forth, in_tree, passes, still_bound, taker_back, taker_in, taker_moved}

module _ (t u : Node) (f : Path → Path) (In : Path → Type 0) (inside : Inside t u f In) (clean : IsClean t) (clean_too : IsClean u) (goal : IsTrue (is_module u) → IsTrue (is_module t)) (x : List ℕ) (here : AllInside t u f x) where
  within : (p : Path) (r : Standing) → Stands t p r x → In p
  within p r st = in_tree t u f In inside clean clean_too p r x st

  -- one scope declares it
  pub one_scope : (o : OneScope t x) → ((p : Path) (r : Standing) → IsTrue (is_reference r) → Stands u p r x → InRegion u (f o.scope) x p) → OneScope u x
  one_scope o references = record {
    scope = f o.scope;
    bindings = λ p r b.
        let (q, e, st) = here p r b in
        subst (λ p. DeclaredBy u p r x (f o.scope)) (sym e) (declared_forth t u f In inside clean clean_too x here q o.scope r (within q r st) (o.bindings q r (record { at = st; binds = b.binds })));
    references = references;
  }

  lexical_back : (p q : Path) (r : Standing) → p ≡ f q → Stands t q r x → IsLexical u p r → IsLexical t q r
  lexical_back p q r e st (inl h) = inl h
  lexical_back p q r e st (inr (is, one, tk)) =
      let i = within q r st in
      let (s, there, top) = taker_back t u f In inside clean clean_too standing.Function q [] i (ap (taker standing.Function u) (sym e) ∙ tk) in
      let same : s ≡ [] = inside.one s [] (taker_in t u f In inside clean clean_too q s standing.Function i there) inside.root (top ∙ sym inside.top) in
      inr (is, goal one, there ∙ ap (λ s. Some s) same)

  -- the scope of the tree that takes it
  taken_there : (p q s : Path) (r : Standing) → p ≡ f q → Stands t q r x → taker r u p ≡ Some s → (m : Path) × (taker r t q ≡ Some m) × (f m ≡ s) × In m
  taken_there p q s r e st tk =
      let i = within q r st in
      let (m, there, is) = taker_back t u f In inside clean clean_too r q s i (ap (taker r u) (sym e) ∙ tk) in
      (m, there, is, taker_in t u f In inside clean clean_too q m r i there)

  one_block : (p q a b : Path) (r z : Standing) → p ≡ f a → q ≡ f b → In a → In b → AreFunctionsOfOneBlock t a r b z → AreFunctionsOfOneBlock u p r q z
  one_block p q a b r z ea eb ia ib (is, too, one) = (
    is,
    too,
    ap (taker standing.SloppyFunction u) ea ∙ taker_moved t u f In inside clean clean_too standing.SloppyFunction a ia ∙ ap (option_map f) one
        ∙ sym (taker_moved t u f In inside clean clean_too standing.SloppyFunction b ib) ∙ ap (taker standing.SloppyFunction u) (sym eb),
  )

  pub none_twice : NoneTwice t → (s p q : Path) (r z : Standing) → Binds u p r x → Binds u q z x → DeclaredBy u p r x s → DeclaredBy u q z x s → IsLexical u p r → (p ≡ q) ⊎ AreFunctionsOfOneBlock u p r q z
  none_twice once s p q r z a b da db lexical =
      let (pa, ea, sa) = here p r a in
      let (qb, eb, sb) = here q z b in
      let ia = within pa r sa in
      let ib = within qb z sb in
      let (m, dm, fm, im) = declared_back t u f In inside clean clean_too x here pa s r ia (subst (λ p. DeclaredBy u p r x s) ea da) in
      let (n, dn, fn, jn) = declared_back t u f In inside clean clean_too x here qb s z ib (subst (λ q. DeclaredBy u q z x s) eb db) in
      let same : n ≡ m = inside.one n m jn im (fn ∙ sym fm) in
      ⊎_elim (λ (is : pa ≡ qb). inl (ea ∙ ap f is ∙ sym eb)) (λ (h : AreFunctionsOfOneBlock t pa r qb z). inr (one_block p q pa qb r z ea eb ia ib h))
      (once x m pa qb r z (record { at = sa; binds = a.binds }) (record { at = sb; binds = b.binds }) dm (subst (λ n. DeclaredBy t qb z x n) same dn) (lexical_back p pa r ea sa lexical))

  pub variable_passes : (ways : Standing → Bool) → NoVariablePasses ways t → (p : Path) → Stands u p standing.Variable x → PassesNone ways u x (rounds program_place u p)
  variable_passes ways none p st =
      let (q, e, sq) = here p standing.Variable (record { at = st; binds = refl }) in
      subst (λ p. PassesNone ways u x (rounds program_place u p)) (sym e) (passes t u f In inside clean clean_too x here ways q (within q standing.Variable sq) (none q x sq))

  strict_back : (p q : Path) (a : Stands u p standing.Parameter x) (b : Stands t q standing.Parameter x) → p ≡ f q → IsTrue a.place.strict → IsTrue b.place.strict
  strict_back p q a b e h =
      let (v, there, alike) = inside.kept q b.place b.kind b.identifier b.stands in
      let same : a.place ≡ v = ap (λ (z : Place × Node). z.0) (some_same (a.place, Identifier a.kind a.identifier) (v, Identifier b.kind b.identifier) (sym a.stands ∙ ap (place_at program_place u) e ∙ there)) in
      subst (λ (w : Place). IsTrue w.strict) (same ∙ sym (still_bound b.place v standing.Parameter b.stands_so refl alike)) h

  pub no_parameter_twice : NoParameterTwice t → (m p q : Path) (a : Stands u p standing.Parameter x) → Stands u q standing.Parameter x → taker standing.Parameter u p ≡ Some m → taker standing.Parameter u q ≡ Some m
      → IsTrue a.place.strict ⊎ IsArrowOrMethod u m → p ≡ q
  no_parameter_twice once m p q a b ta tb or =
      let (pa, ea, sa) = here p standing.Parameter (record { at = a; binds = refl }) in
      let (qb, eb, sb) = here q standing.Parameter (record { at = b; binds = refl }) in
      let (s, ts, fs, is) = taken_there p pa m standing.Parameter ea sa ta in
      let (z, tz, fz, iz) = taken_there q qb m standing.Parameter eb sb tb in
      let same : z ≡ s = inside.one z s iz is (fz ∙ sym fs) in
      ea ∙ ap f (once x s pa qb sa sb ts (tz ∙ ap (λ n. Some n) same) (⊎_elim (λ h. inl (strict_back p pa a sa ea h)) (λ h. inr (inside.arrows s is (subst (IsArrowOrMethod u) (sym fs) h))) or)) ∙ sym eb
