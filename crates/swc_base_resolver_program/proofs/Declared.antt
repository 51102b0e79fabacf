-- The tables of the first two walks say what the scopes declare.
use Rattle.std.proofs.Common.{◌≡◌, ℕ, Bool, true, false, not, ◌&&◌, ◌||◌, ◌==◌, IsTrue, ◌⊎◌, ◌↔◌, inl, inr, ⊎_elim, Option, Some, None, List, [], ◌∷◌, ◌++◌, map, refl, sym, ap, ◌∙◌, subst, arith, cond}
use Rattle.std.specs.List.{slice_get}
use Rattle.std.specs.Option.{is_some, option_and_then, option_map}
use Rattle.std.proofs.lemmas.Option.{get_or_from_slice_get, slice_get_read}
use Rattle.swc_tree_marks.specs.declared.ident.Ident.{Ident}
use Rattle.swc_tree_node.specs.declared.kind.Kind.{Kind}
use Rattle.swc_tree_node.specs.declared.kind.Kind.TheVariants as kind
use Rattle.swc_tree_node.specs.declared.fields.types.ts_enum_decl.TheConstants as ts_enum_decl
use Rattle.swc_tree_node.specs.declared.node.Node.{Node, Identifier, Tree}
use Rattle.swc_tree_node.specs.declared.node.Node.TheVariants.{outs-Tree}
use Rattle.swc_tree_scoping.specs.declared.places.Standing.{Standing}
use Rattle.swc_tree_scoping.specs.declared.places.Standing.TheVariants as standing
use Rattle.swc_tree_scoping.specs.declared.places.Place.{Place}
use Rattle.swc_tree_scoping.specs.declared.places.Scope.TheVariants as scope
use Rattle.swc_tree_scoping.specs.Places.{Path, items_of, opened, opened_in, place_at, program_place}
use Rattle.swc_tree_scoping.specs.Scopes.{Round, first_that, is_binding, is_taken, rounds, scope_at, taker, variable_scope}
use Rattle.swc_tree_spaces.specs.declared.space.Space.{Space}
use Rattle.swc_tree_spaces.specs.declared.space.Space.TheVariants as space
use Rattle.swc_tree_spaces.specs.Spaces.{DeclaresIn, HasMember, MeansIn, NamesType, as_value}
use Rattle.swc_tree_scoping.specs.Declares.{Bound, BoundAs, DeclaresOtherwise, Hoisted, Hoists, IsUncaught, Meets, PassesNone, is_no_variable, is_parameter, is_settled, stops, stops_in_block}
use Rattle.swc_tree_scoping.proofs.First.{Each, Nested, Opens, has_taker, round_opens, rounds_nested}
use Rattle.swc_base_resolver_program.specs.declared.names.Ways.{Ways}
use Rattle.swc_base_resolver_program.specs.declared.names.ScopeNames.{ScopeNames}
use Rattle.swc_base_resolver_program.specs.declared.collect.Stage.TheVariants as stage
use Rattle.swc_base_resolver_program.specs.declared.lookup.TakenNames.{TakenNames}
use Rattle.swc_base_resolver_program.specs.Names.{any_way, binding, enum_member, has_way, type_name, ways_in}
use Rattle.swc_base_resolver_program.specs.Lookup.{Open, Tables, declares_in, hoists_from, hoists_in, meets_in, names_in, otherwise_in, passes_in, same_number, taker_in}
use Rattle.swc_base_resolver_program.specs.Walks.{Reaches, Takes, has_at, open_round, space_meaning_in}
use Rattle.std.proofs.lemmas.Bool.Decides.{nat_tests}
use Rattle.std.proofs.lemmas.Bool.{eqb-true}
use Rattle.swc_base_resolver_program.proofs.Gathered.{no_taker}
use Rattle.swc_base_resolver_program.proofs.Named.{binds_of, lists_of, named_of, of_binds, of_lists, of_named}
use Rattle.swc_base_resolver_program.proofs.Numbers.{one_number}
use Rattle.swc_base_resolver_program.proofs.Rounds.{first_among, first_unique, found_first, found_holds, none_that, number_of, rounds_are, that_among, there}
use Rattle.swc_base_resolver_program.proofs.Ways.{and_both, both, bound_self, is_true, not_true, or_cases, or_left, or_right, true_not}

-- one of the ways in which a name is bound
abbrev AnyOf : (Standing → Bool) → Ways → Type 0
AnyOf f w = (r : Standing) × IsTrue (f r) × IsTrue (has_way w r)

one_of : (f : Standing → Bool) (w : Ways) (r : Standing) (rest : Bool) → IsTrue ((f r && has_way w r) || rest) → (IsTrue rest → AnyOf f w) → AnyOf f w
one_of f w r rest h later = ⊎_elim (λ a. let p = both (f r) (has_way w r) a in (r, p.0, p.1)) later (or_cases (f r && has_way w r) rest h)

last_of : (f : Standing → Bool) (w : Ways) (r : Standing) → IsTrue (f r && has_way w r) → AnyOf f w
last_of f w r h = let p = both (f r) (has_way w r) h in (r, p.0, p.1)

any_forth : (f : Standing → Bool) (w : Ways) → IsTrue (any_way f w) → AnyOf f w
any_forth f w h =
    one_of f w standing.Variable _ h
    (λ h. one_of f w standing.Lexical _ h
    (λ h. one_of f w standing.Function _ h
    (λ h. one_of f w standing.BlockFunction _ h
    (λ h. one_of f w standing.SloppyFunction _ h
    (λ h. one_of f w standing.Parameter _ h
    (λ h. one_of f w standing.CatchParameter _ h
    (λ h. one_of f w standing.Import _ h
    (λ h. one_of f w standing.FunctionName _ h
    (λ h. last_of f w standing.ClassName h)))))))))

after : (a b : Bool) → IsTrue b → IsTrue (a || b)
after = or_right

-- said once, outside of what else is known: a tactic goes over all of it each time
no_way : {X : Type 0} → false ≡ true → X
no_way h = absurd (cc)

itself : (k : ℕ) → (k == k) ≡ true
itself k = grind (arith, nat_tests)

any_back : (f : Standing → Bool) (w : Ways) (r : Standing) → IsTrue (f r) → IsTrue (has_way w r) → IsTrue (any_way f w)
any_back f w standing.Variable p q = or_left _ _ (and_both (f standing.Variable) _ p q)
any_back f w standing.Lexical p q = or_right (f standing.Variable && w.variable) _ (or_left _ _ (and_both (f standing.Lexical) _ p q))
any_back f w standing.Function p q = or_right (f standing.Variable && w.variable) _ (or_right (f standing.Lexical && w.lexical) _ (or_left _ _ (and_both (f standing.Function) _ p q)))
any_back f w standing.BlockFunction p q = or_right (f standing.Variable && w.variable) _ (or_right (f standing.Lexical && w.lexical) _ (or_right (f standing.Function && w.function) _ (or_left _ _ (and_both (f standing.BlockFunction) _ p q))))
any_back f w standing.SloppyFunction p q =
    or_right (f standing.Variable && w.variable) _ (or_right (f standing.Lexical && w.lexical) _ (or_right (f standing.Function && w.function) _ (or_right (f standing.BlockFunction && w.block_function) _
    (or_left _ _ (and_both (f standing.SloppyFunction) _ p q)))))
any_back f w standing.Parameter p q =
    or_right (f standing.Variable && w.variable) _ (or_right (f standing.Lexical && w.lexical) _ (or_right (f standing.Function && w.function) _ (or_right (f standing.BlockFunction && w.block_function) _
    (or_right (f standing.SloppyFunction && w.sloppy_function) _ (or_left _ _ (and_both (f standing.Parameter) _ p q))))))
any_back f w standing.CatchParameter p q =
    or_right (f standing.Variable && w.variable) _ (or_right (f standing.Lexical && w.lexical) _ (or_right (f standing.Function && w.function) _ (or_right (f standing.BlockFunction && w.block_function) _
    (or_right (f standing.SloppyFunction && w.sloppy_function) _ (or_right (f standing.Parameter && w.parameter) _ (or_left _ _ (and_both (f standing.CatchParameter) _ p q)))))))
any_back f w standing.Import p q =
    or_right (f standing.Variable && w.variable) _ (or_right (f standing.Lexical && w.lexical) _ (or_right (f standing.Function && w.function) _ (or_right (f standing.BlockFunction && w.block_function) _
    (or_right (f standing.SloppyFunction && w.sloppy_function) _ (or_right (f standing.Parameter && w.parameter) _ (or_right (f standing.CatchParameter && w.catch_parameter) _ (or_left _ _ (and_both (f standing.Import) _ p q))))))))
any_back f w standing.FunctionName p q =
    or_right (f standing.Variable && w.variable) _ (or_right (f standing.Lexical && w.lexical) _ (or_right (f standing.Function && w.function) _ (or_right (f standing.BlockFunction && w.block_function) _
    (or_right (f standing.SloppyFunction && w.sloppy_function) _ (or_right (f standing.Parameter && w.parameter) _ (or_right (f standing.CatchParameter && w.catch_parameter) _
    (or_right (f standing.Import && w.import) _ (or_left _ _ (and_both (f standing.FunctionName) _ p q)))))))))
any_back f w standing.ClassName p q =
    or_right (f standing.Variable && w.variable) _ (or_right (f standing.Lexical && w.lexical) _ (or_right (f standing.Function && w.function) _ (or_right (f standing.BlockFunction && w.block_function) _
    (or_right (f standing.SloppyFunction && w.sloppy_function) _ (or_right (f standing.Parameter && w.parameter) _ (or_right (f standing.CatchParameter && w.catch_parameter) _
    (or_right (f standing.Import && w.import) _ (or_right (f standing.FunctionName && w.function_name) _ (and_both (f standing.ClassName) _ p q)))))))))
any_back f w standing.Plain p q = no_way q
any_back f w standing.Reference p q = no_way q
any_back f w standing.Body p q = no_way q
any_back f w standing.Branch p q = no_way q
any_back f w standing.DefaultExport p q = no_way q
any_back f w standing.Label p q = no_way q
any_back f w standing.TypeName p q = no_way q
any_back f w standing.TypeReference p q = no_way q
any_back f w standing.Imported p q = no_way q
any_back f w standing.Exported p q = no_way q

some_is : (a b : ℕ) → Some a ≡ Some b → a ≡ b
some_is a b h = cc

-- what a number stands for
numbered : (w : Place) (t : Node) (o : Option Path) (k : ℕ) → option_map (number_of w t) o ≡ Some k → (u : Path) × (o ≡ Some u) × (number_of w t u ≡ k)
numbered w t None k h = absurd (cc)
numbered w t (Some u) k h = (u, refl, some_is _ k h)

module _ (t : Node) (opens : opened program_place t ≡ Some scope.Program) where
  abbrev pub nr : Path → ℕ
  nr = number_of program_place t

  abbrev pub O : Round → Open
  O = there program_place t

  abbrev IsOpen : Path → Type 0
  IsOpen s = Opens program_place t s

  same_scope : (s u : Path) → IsOpen s → IsOpen u → nr s ≡ nr u → s ≡ u
  same_scope s u o q e = one_number s u program_place t o q (omega (arith, e))

  env_is : (p : Path) → open_round [] 0 program_place t p ≡ map O (rounds program_place t p) ++ []
  env_is p = rounds_are p 0 program_place t []

  pub taker_is : (r : Standing) (p : Path) → taker_in r (map O (rounds program_place t p) ++ []) ≡ option_map nr (taker r t p)
  taker_is r p = found_first program_place t (λ o. is_taken r o.scope) (rounds program_place t p)

  pub taker_open : (r : Standing) (p u : Path) → taker r t p ≡ Some u → IsOpen u
  taker_open r p u h = (that_among (λ s. is_taken r (scope_at program_place t s.0)) (λ s. IsOpen s.0) (rounds program_place t p) u h (round_opens p program_place t)).1

  module _ (bound : List ScopeNames) (binds : Takes bound (Reaches stage.Bind [] 0 program_place t)) where
    -- what has a taker is bound
    taken_binds : (r : Standing) (p s : Path) → taker r t p ≡ Some s → is_binding r ≡ true
    taken_binds r p s h = at (is_binding r) refl
      where
        at : (b : Bool) → is_binding r ≡ b → is_binding r ≡ true
        at true e = e
        at false e = let z = sym (no_taker r (map O (rounds program_place t p) ++ []) e) ∙ taker_is r p ∙ ap (option_map nr) h in absurd (cc)

    -- the taker of a number
    taker_there : (r : Standing) (p s : Path) → IsOpen s → taker_in r (open_round [] 0 program_place t p) ≡ Some (nr s) → taker r t p ≡ Some s
    taker_there r p s o h =
        let (u, e, f) = numbered program_place t (taker r t p) (nr s) (sym (ap (taker_in r) (env_is p) ∙ taker_is r p) ∙ h) in
        e ∙ ap (λ u. Some u) (same_scope u s (taker_open r p u e) o f)

    pub bound_is : (s : Path) (r : Standing) (x : List ℕ) → IsOpen s → IsTrue (has_at bound (nr s) (binding r) x) ↔ Bound t s r x
    bound_is s r x o = (
      λ h.
          let b = binds_of stage.Bind [] 0 program_place t (nr s) x r ((binds (nr s) (binding r) x).0 h) in
          let to = sym (ap (λ q. taker_in q (open_round [] 0 program_place t b.path)) (bound_self r b.binds)) ∙ b.given_to in
          record { path = b.path; place = b.place; kind = b.kind; identifier = b.identifier; stands = b.stands; stands_so = b.stands_so; named = b.named; unmarked = b.unmarked; taken = taker_there r b.path s o to },
      λ b.
          let binds_it = taken_binds r b.path s b.taken in
          (binds (nr s) (binding r) x).1 (of_binds stage.Bind [] 0 program_place t (nr s) x r (record {
            path = b.path;
            place = b.place;
            kind = b.kind;
            identifier = b.identifier;
            stands = b.stands;
            stands_so = b.stands_so;
            named = b.named;
            unmarked = b.unmarked;
            given_to = ap (λ q. taker_in q (open_round [] 0 program_place t b.path)) (bound_self r binds_it) ∙ ap (taker_in r) (env_is b.path) ∙ taker_is r b.path ∙ ap (option_map nr) b.taken;
            binds = binds_it;
          })),
    )

    -- which scopes declare a name as a type
    pub type_is : (s : Path) (x : List ℕ) → IsOpen s → IsTrue (ways_in bound (nr s) x).as_type ↔ NamesType t s x
    type_is s x o = (
      λ h.
          let b = named_of stage.Bind [] 0 program_place t (nr s) x type_name (λ e. absurd (cc)) ((binds (nr s) type_name x).0 h) in
          record {
            path = b.path;
            place = b.place;
            kind = b.kind;
            identifier = b.identifier;
            stands = b.stands;
            names = b.takes.0;
            named = b.takes.1;
            unmarked = b.takes.2;
            taken = taker_there (as_value b.place.standing) b.path s o b.takes.3;
          },
      λ b.
          let r = as_value b.place.standing in
          (binds (nr s) type_name x).1 (of_named stage.Bind [] 0 program_place t (nr s) x type_name (record {
            path = b.path;
            place = b.place;
            kind = b.kind;
            identifier = b.identifier;
            stands = b.stands;
            takes = (b.names, b.named, b.unmarked, ap (taker_in r) (env_is b.path) ∙ taker_is r b.path ∙ ap (option_map nr) b.taken);
          })),
    )

    -- and which are enums with a member of the name
    enum_opens : (p : Path) (w : Place) (ts : List Node) → place_at program_place t p ≡ Some (w, Tree kind.TsEnumDecl ts) → IsOpen p
    enum_opens p w ts h =
        let at : scope_at program_place t p ≡ Some scope.Types = ap (λ o. option_and_then (λ (q : Place × Node). opened q.0 q.1) o) h ∙ ap (opened_in w) (outs-Tree kind.TsEnumDecl ts) in
        subst (λ o. IsTrue (is_some o)) (sym at) refl

    pub member_is : (s : Path) (x : List ℕ) → IsOpen s → IsTrue (ways_in bound (nr s) x).member ↔ HasMember t s x
    member_is s x o = (
      λ h.
          let b = lists_of [] 0 program_place t (nr s) x ((binds (nr s) enum_member x).0 h) in
          let (here, way, (i, c, l, got, named)) = b.has in
          let same = same_scope b.path s (enum_opens b.path b.place b.fields b.stands) o (sym here) in
          subst (λ s. HasMember t s x) same (record {
            place = b.place;
            fields = b.fields;
            member = c;
            stands = b.stands;
            has = (i, l, get_or_from_slice_get (items_of (slice_get b.fields ts_enum_decl.MEMBERS)) i c c got);
            named = named;
          }),
      λ b.
          let (i, l, is) = b.has in
          (binds (nr s) enum_member x).1 (of_lists [] 0 program_place t (nr s) x (record {
            path = s;
            place = b.place;
            fields = b.fields;
            stands = b.stands;
            has = (refl, refl, (i, b.member, l, slice_get_read (items_of (slice_get b.fields ts_enum_decl.MEMBERS)) _ i b.member refl l (sym is), b.named));
          })),
    )

    pub any_is : (f : Standing → Bool) (s : Path) (x : List ℕ) → IsOpen s → IsTrue (any_way f (ways_in bound (nr s) x)) ↔ BoundAs f t s x
    any_is f s x o = (
      λ h. let (r, p, q) = any_forth f (ways_in bound (nr s) x) h in (r, p, (bound_is s r x o).0 q),
      λ (r, p, b). any_back f (ways_in bound (nr s) x) r p ((bound_is s r x o).1 b),
    )

    -- on the way out of blocks
    passes_is : (x : List ℕ) (ss : List Round) → Each (λ s. IsOpen s.0) ss
        → IsTrue (passes_in (ways_in bound) x (map O ss ++ [])) ↔ (PassesNone stops t x ss × ((s : Path) → first_that (λ s. is_taken standing.Variable (scope_at program_place t s.0)) ss ≡ Some s → ¬ BoundAs stops t s x))
    passes_is x [] e = (λ h. (tt, λ s g. absurd (cc)), λ h. refl)
    passes_is x (s ∷ ss) e = next (any_is stops s.0 x e.0) (is_taken standing.Variable (scope_at program_place t s.0)) (passes_is x ss e.1)
      where
        next : IsTrue (any_way stops (ways_in bound (nr s.0) x)) ↔ BoundAs stops t s.0 x → (z : Bool)
            → IsTrue (passes_in (ways_in bound) x (map O ss ++ [])) ↔ (PassesNone stops t x ss × ((s : Path) → first_that (λ s. is_taken standing.Variable (scope_at program_place t s.0)) ss ≡ Some s → ¬ BoundAs stops t s x))
            → IsTrue (not (any_way stops (ways_in bound (nr s.0) x)) && (z || passes_in (ways_in bound) x (map O ss ++ [])))
            ↔ ((IsTrue z ⊎ (¬ BoundAs stops t s.0 x × PassesNone stops t x ss)) × ((u : Path) → cond z (Some s.0) (first_that (λ s. is_taken standing.Variable (scope_at program_place t s.0)) ss) ≡ Some u → ¬ BoundAs stops t u x))
        next here true rest = (
          λ h. (inl refl, λ u g b. let same : s.0 ≡ u = cc in not_true _ (both (not (any_way stops (ways_in bound (nr s.0) x))) _ h).0 (here.1 (subst (λ u. BoundAs stops t u x) (sym same) b))),
          λ h. and_both (not (any_way stops (ways_in bound (nr s.0) x))) _ (true_not _ (λ b. h.1 s.0 refl (here.0 b))) refl,
        )
        next here false rest = (
          λ h. let p = both (not (any_way stops (ways_in bound (nr s.0) x))) _ h in (inr (λ b. not_true _ p.0 (here.1 b), (rest.0 p.1).0), (rest.0 p.1).1),
          λ h. ⊎_elim (λ z. absurd (cc)) (λ q. and_both (not (any_way stops (ways_in bound (nr s.0) x))) _ (true_not _ (λ b. q.0 (here.0 b))) (rest.1 (q.1, h.1))) h.0,
        )

    pub hoists_from_is : (x : List ℕ) (s : Round) → IsOpen s.0 → IsTrue (hoists_from (ways_in bound) x (O s) (map O (rounds program_place t s.0) ++ [])) ↔ Hoists t s.0 x
    hoists_from_is x s o =
        let here = any_is stops_in_block s.0 x o in
        let rest = passes_is x (rounds program_place t s.0) (round_opens s.0 program_place t) in (
          λ h. let p = both (not (any_way stops_in_block (ways_in bound (nr s.0) x))) _ h in let r = rest.0 p.1 in (λ b. not_true _ p.0 (here.1 b), r.0, r.1),
          λ h. and_both (not (any_way stops_in_block (ways_in bound (nr s.0) x))) _ (true_not _ (λ b. h.0 (here.0 b))) (rest.1 (h.1, h.2)),
        )

    hoists_among : (x : List ℕ) (b : Path) (ss : List Round) → Each (λ s. IsOpen s.0) ss → Nested program_place t ss → first_that (λ s. is_taken standing.SloppyFunction (scope_at program_place t s.0)) ss ≡ Some b
        → IsTrue (hoists_in (ways_in bound) x (map O ss ++ [])) ↔ Hoists t b x
    hoists_among x b [] e n h = absurd (cc)
    hoists_among x b (s ∷ ss) e n h = next (is_taken standing.SloppyFunction (scope_at program_place t s.0)) h (hoists_among x b ss e.1 n.1)
      where
        next : (z : Bool) → cond z (Some s.0) (first_that (λ s. is_taken standing.SloppyFunction (scope_at program_place t s.0)) ss) ≡ Some b
            → (first_that (λ s. is_taken standing.SloppyFunction (scope_at program_place t s.0)) ss ≡ Some b → IsTrue (hoists_in (ways_in bound) x (map O ss ++ [])) ↔ Hoists t b x)
            → IsTrue (cond z (hoists_from (ways_in bound) x (O s) (map O ss ++ [])) (hoists_in (ways_in bound) x (map O ss ++ []))) ↔ Hoists t b x
        next true g rest =
            let same : s.0 ≡ b = cc in
            subst (λ b. IsTrue (hoists_from (ways_in bound) x (O s) (map O ss ++ [])) ↔ Hoists t b x) same
            (subst (λ l. IsTrue (hoists_from (ways_in bound) x (O s) (map O l ++ [])) ↔ Hoists t s.0 x) (sym n.0) (hoists_from_is x s e.0))
        next false g rest = rest g

    pub hoists_is : (x : List ℕ) (p b : Path) → taker standing.SloppyFunction t p ≡ Some b → IsTrue (hoists_in (ways_in bound) x (map O (rounds program_place t p) ++ [])) ↔ Hoists t b x
    hoists_is x p b h = hoists_among x b (rounds program_place t p) (round_opens p program_place t) (rounds_nested p program_place t) h

    -- what a variable meets
    MeetsAt : List ℕ → Round → Type 0
    MeetsAt x s = IsTrue (is_taken standing.Variable (scope_at program_place t s.0)) ⊎ Bound t s.0 standing.CatchParameter x

    pub meets_is : (x : List ℕ) (p : Path) → (m : Option Path) × Meets t p x m × (meets_in (ways_in bound) x (map O (rounds program_place t p) ++ []) ≡ option_map nr m)
    unfolding MeetsAt
    meets_is x p = found_holds program_place t (MeetsAt x) (λ o os. is_taken standing.Variable o.scope || has_way (ways_in bound o.number x) standing.CatchParameter)
        (λ s o. let b = bound_is s.0 standing.CatchParameter x o in (
          λ h. ⊎_elim inl (λ a. inr (b.0 a)) (or_cases (is_taken standing.Variable (scope_at program_place t s.0)) _ h),
          λ h. ⊎_elim (λ a. or_left (is_taken standing.Variable (scope_at program_place t s.0)) _ a) (λ a. or_right (is_taken standing.Variable (scope_at program_place t s.0)) _ (b.1 a)) h,
        )) (rounds program_place t p) (round_opens p program_place t) (rounds_nested p program_place t)

    pub meets_some : (x : List ℕ) (p f : Path) → variable_scope t p ≡ Some f → (m : Path) × Meets t p x (Some m) × IsOpen m × (meets_in (ways_in bound) x (map O (rounds program_place t p) ++ []) ≡ Some (nr m))
    unfolding MeetsAt
    meets_some x p f h = let (m, q, e) = meets_is x p in at m q e
      where
        at : (m : Option Path) → Meets t p x m → meets_in (ways_in bound) x (map O (rounds program_place t p) ++ []) ≡ option_map nr m
            → (m : Path) × Meets t p x (Some m) × IsOpen m × (meets_in (ways_in bound) x (map O (rounds program_place t p) ++ []) ≡ Some (nr m))
        at None q e = let none = none_that (MeetsAt x) (λ s. is_taken standing.Variable (scope_at program_place t s.0)) (λ s a. inl a) (rounds program_place t p) q in let z = sym none ∙ h in absurd (cc)
        at (Some m) q e = (m, q, (first_among (MeetsAt x) (λ s. IsOpen s.0) (rounds program_place t p) m q (round_opens p program_place t)).1, e)

    module _ (names : TakenNames) (same_names : names_in names ≡ ways_in bound) (reached : List ScopeNames)
        (reaches : Takes reached (Reaches (stage.Settle names) [] 0 program_place t)) where
      -- where the root stands nothing is bound
      standing_of : Option (Place × Node) → Standing → Standing
      standing_of None d = d
      standing_of (Some q) d = q.0.standing

      pub below_root : (p : Path) (v : Place) (k : Kind) (i : Ident) (r : Standing) → place_at program_place t p ≡ Some (v, Identifier k i) → v.standing ≡ r → is_binding r ≡ true → (s : Path) × (taker r t p ≡ Some s)
      unfolding standing_of
      below_root [] v k i r h e b = let z : standing.Plain ≡ v.standing = ap (λ o. standing_of o standing.Plain) h in let y : false ≡ true = ap is_binding (z ∙ e) ∙ b in absurd (cc)
      below_root (i ∷ p) v k d r h e b = has_taker t p i r opens b

      -- nor is anything named as a type
      pub type_below_root : (p : Path) (v : Place) (k : Kind) (i : Ident) → place_at program_place t p ≡ Some (v, Identifier k i) → v.standing ≡ standing.TypeName → (s : Path) × (taker standing.Lexical t p ≡ Some s)
      unfolding standing_of
      type_below_root [] v k i h e = let z : standing.Plain ≡ v.standing = ap (λ o. standing_of o standing.Plain) h in let y : standing.Plain ≡ standing.TypeName = z ∙ e in absurd (cc)
      type_below_root (i ∷ p) v k d h e = has_taker t p i standing.Lexical opens refl

      pub some_variable : (p : Path) (v : Place) (k : Kind) (i : Ident) (r : Standing) → place_at program_place t p ≡ Some (v, Identifier k i) → v.standing ≡ r → is_binding r ≡ true → (s : Path) × (variable_scope t p ≡ Some s)
      unfolding standing_of
      some_variable [] v k i r h e b = let z : standing.Plain ≡ v.standing = ap (λ o. standing_of o standing.Plain) h in let y : false ≡ true = ap is_binding (z ∙ e) ∙ b in absurd (cc)
      some_variable (i ∷ p) v k d r h e b = has_taker t p i standing.Variable opens refl

      if_some : (b : Bool) (o : Option ℕ) (k : ℕ) → cond b o None ≡ Some k → (b ≡ true) × (o ≡ Some k)
      if_some true o k h = (refl, h)
      if_some false o k h = absurd (cc)

      pub hoisted_is : (s : Path) (x : List ℕ) → IsOpen s → IsTrue (has_at reached (nr s) (binding standing.SloppyFunction) x) ↔ Hoisted t s x
      hoisted_is s x o = (
        λ h.
            let b = binds_of (stage.Settle names) [] 0 program_place t (nr s) x standing.SloppyFunction ((reaches (nr s) (binding standing.SloppyFunction) x).0 h) in
            let (block, taken) = below_root b.path b.place b.kind b.identifier standing.SloppyFunction b.stands b.stands_so refl in
            let (does, to) = if_some (hoists_in (names_in names) x (open_round [] 0 program_place t b.path)) (taker_in standing.Variable (open_round [] 0 program_place t b.path)) (nr s) b.given_to in
            let (u, e, f) = numbered program_place t (variable_scope t b.path) (nr s) (sym (ap (taker_in standing.Variable) (env_is b.path) ∙ taker_is standing.Variable b.path) ∙ to) in
            record {
              block = block;
              bound = record { path = b.path; place = b.place; kind = b.kind; identifier = b.identifier; stands = b.stands; stands_so = b.stands_so; named = b.named; unmarked = b.unmarked; taken = taken };
              hoists = (hoists_is x b.path block taken).0 (rw (sym (ap (λ n. hoists_in n x (open_round [] 0 program_place t b.path)) same_names ∙ ap (hoists_in (ways_in bound) x) (env_is b.path)) ∙ does) refl);
              reaches = e ∙ ap (λ u. Some u) (same_scope u s (taker_open standing.Variable b.path u e) o f);
            },
        λ h.
            let b = h.bound in
            let does : hoists_in (names_in names) x (open_round [] 0 program_place t b.path) ≡ true
            = ap (λ n. hoists_in n x (open_round [] 0 program_place t b.path)) same_names ∙ ap (hoists_in (ways_in bound) x) (env_is b.path) ∙ is_true _ ((hoists_is x b.path h.block b.taken).1 h.hoists) in
            (reaches (nr s) (binding standing.SloppyFunction) x).1 (of_binds (stage.Settle names) [] 0 program_place t (nr s) x standing.SloppyFunction (record {
              path = b.path;
              place = b.place;
              kind = b.kind;
              identifier = b.identifier;
              stands = b.stands;
              stands_so = b.stands_so;
              named = b.named;
              unmarked = b.unmarked;
              given_to = ap (λ z. cond z (taker_in standing.Variable (open_round [] 0 program_place t b.path)) None) does
                  ∙ ap (taker_in standing.Variable) (env_is b.path) ∙ taker_is standing.Variable b.path ∙ ap (option_map nr) h.reaches;
              binds = refl;
            })),
      )

      same_if : (a b k : ℕ) → same_number (Some a) (Some b) ≡ Some k → (a ≡ k) × (b ≡ a)
      same_if a b k h = next (b == a) refl
        where
          next : (z : Bool) → (b == a) ≡ z → (a ≡ k) × (b ≡ a)
          next true e = let g : Some a ≡ Some k = sym (ap (λ z. cond z (Some a) None) e) ∙ h in (some_is a k g, eqb-true b a e)
          next false e = let g : None ≡ Some k = sym (ap (λ z. cond z (Some a) None) e) ∙ h in absurd (cc)

      pub uncaught_is : (s : Path) (x : List ℕ) → IsOpen s → IsTrue (has_at reached (nr s) (binding standing.Variable) x) ↔ ((b : Bound t s standing.Variable x) × IsUncaught t b.path x)
      uncaught_is s x o = (
        λ h.
            let b = binds_of (stage.Settle names) [] 0 program_place t (nr s) x standing.Variable ((reaches (nr s) (binding standing.Variable) x).0 h) in
            let (f, taken) = below_root b.path b.place b.kind b.identifier standing.Variable b.stands b.stands_so refl in
            let (m, q, opened_there, e) = meets_some x b.path f taken in
            let both_are : same_number (Some (nr f)) (Some (nr m)) ≡ Some (nr s)
            = sym (ap (λ z. same_number z (meets_in (names_in names) x (open_round [] 0 program_place t b.path))) (ap (taker_in standing.Variable) (env_is b.path) ∙ taker_is standing.Variable b.path ∙ ap (option_map nr) taken)
            ∙ ap (same_number (Some (nr f))) (ap (λ n. meets_in n x (open_round [] 0 program_place t b.path)) same_names ∙ ap (meets_in (ways_in bound) x) (env_is b.path) ∙ e)) ∙ b.given_to in
            let (to, met) = same_if (nr f) (nr m) (nr s) both_are in
            let here = same_scope f s (taker_open standing.Variable b.path f taken) o to in
            let there_too = same_scope m f opened_there (taker_open standing.Variable b.path f taken) met in (
              record { path = b.path; place = b.place; kind = b.kind; identifier = b.identifier; stands = b.stands; stands_so = b.stands_so; named = b.named; unmarked = b.unmarked; taken = taken ∙ ap (λ u. Some u) here },
              subst (Meets t b.path x) (ap (λ u. Some u) there_too ∙ sym taken) q,
            ),
        λ (b, un).
            let (m, q, opened_there, e) = meets_some x b.path s b.taken in
            let one : Some m ≡ Some s = first_unique _ (rounds program_place t b.path) (Some m) (variable_scope t b.path) q un ∙ b.taken in
            let is : m ≡ s = cc in
            (reaches (nr s) (binding standing.Variable) x).1 (of_binds (stage.Settle names) [] 0 program_place t (nr s) x standing.Variable (record {
              path = b.path;
              place = b.place;
              kind = b.kind;
              identifier = b.identifier;
              stands = b.stands;
              stands_so = b.stands_so;
              named = b.named;
              unmarked = b.unmarked;
              given_to = ap (λ z. same_number z (meets_in (names_in names) x (open_round [] 0 program_place t b.path))) (ap (taker_in standing.Variable) (env_is b.path) ∙ taker_is standing.Variable b.path ∙ ap (option_map nr) b.taken)
                  ∙ ap (same_number (Some (nr s))) (ap (λ n. meets_in n x (open_round [] 0 program_place t b.path)) same_names ∙ ap (meets_in (ways_in bound) x) (env_is b.path) ∙ e ∙ ap (λ m. Some (nr m)) is)
                  ∙ same_self (nr s);
              binds = refl;
            })),
      )
        where
          same_self : (k : ℕ) → same_number (Some k) (Some k) ≡ Some k
          same_self k = rw (itself k) refl

      abbrev pub D : Tables
      D = record { bound = ways_in bound; reached = ways_in reached }

      pub declares_is : (x : List ℕ) (s : Round) → IsOpen s.0 → IsTrue (declares_in D x (O s) (map O (rounds program_place t s.0) ++ [])) ↔ DeclaresIn space.Values t x s
      declares_is x (s, false) o = any_is is_parameter s x o
      declares_is x (s, true) o =
          let fixed = any_is is_settled s x o in
          let member = member_is s x o in
          let hoisted = hoisted_is s x o in
          let sloppy = bound_is s standing.SloppyFunction x o in
          let goes = hoists_from_is x (s, true) o in (
            λ h. ⊎_elim (λ h. ⊎_elim (λ a. inl (inl (fixed.0 a))) (λ a. inr (member.0 a)) (or_cases (any_way is_settled (ways_in bound (nr s) x)) _ h))
                (λ h. inl (⊎_elim (λ a. inr (inr (hoisted.0 a))) (λ a. let p = both (has_way (ways_in bound (nr s) x) standing.SloppyFunction) _ a in inr (inl (sloppy.0 p.0, λ g. not_true _ p.1 (goes.1 g))))
                (or_cases (has_way (ways_in reached (nr s) x) standing.SloppyFunction) _ h))) (or_cases (any_way is_settled (ways_in bound (nr s) x) || (ways_in bound (nr s) x).member) _ h),
            λ h. ⊎_elim (λ h. ⊎_elim (λ a. or_left (any_way is_settled (ways_in bound (nr s) x) || (ways_in bound (nr s) x).member) _ (or_left (any_way is_settled (ways_in bound (nr s) x)) _ (fixed.1 a)))
                (λ h. or_right (any_way is_settled (ways_in bound (nr s) x) || (ways_in bound (nr s) x).member) _ (⊎_elim
                (λ a. or_right (has_way (ways_in reached (nr s) x) standing.SloppyFunction) _ (and_both (has_way (ways_in bound (nr s) x) standing.SloppyFunction) _ (sloppy.1 a.0) (true_not _ (λ g. a.1 (goes.0 g)))))
                (λ a. or_left (has_way (ways_in reached (nr s) x) standing.SloppyFunction) _ (hoisted.1 a)) h)) h)
                (λ a. or_left (any_way is_settled (ways_in bound (nr s) x) || (ways_in bound (nr s) x).member) _ (or_right (any_way is_settled (ways_in bound (nr s) x)) _ (member.1 a))) h,
          )

      types_are : (x : List ℕ) (s : Round) → IsOpen s.0 → IsTrue ((O s).whole && (ways_in bound (O s).number x).as_type) ↔ DeclaresIn space.Types t x s
      types_are x (s, true) o = type_is s x o
      types_are x (s, false) o = (λ h. no_way (is_true false h), λ h. absurd h)

      -- what a name means in a name space
      pub meaning_is : (y : Space) (x : List ℕ) (p : Path) → (m : Option Path) × MeansIn y t p x m × (space_meaning_in D y x (map O (rounds program_place t p) ++ []) ≡ option_map nr m)
      meaning_is space.Values x p = found_holds program_place t (DeclaresIn space.Values t x) (declares_in D x) (declares_is x) (rounds program_place t p) (round_opens p program_place t) (rounds_nested p program_place t)
      meaning_is space.Types x p = found_holds program_place t (DeclaresIn space.Types t x) (λ o os. o.whole && (ways_in bound o.number x).as_type) (types_are x) (rounds program_place t p) (round_opens p program_place t) (rounds_nested p program_place t)

      pub otherwise_is : (x : List ℕ) (s : Path) → IsOpen s → IsTrue (otherwise_in D x (nr s)) ↔ DeclaresOtherwise t s x
      otherwise_is x s o =
          let fixed = any_is is_no_variable s x o in
          let hoisted = hoisted_is s x o in
          let free = uncaught_is s x o in (
            λ h. ⊎_elim (λ a. inl (fixed.0 a)) (λ h. inr (⊎_elim (λ a. inl (hoisted.0 a)) (λ a. inr (free.0 a)) (or_cases (has_way (ways_in reached (nr s) x) standing.SloppyFunction) _ h)))
                (or_cases (any_way is_no_variable (ways_in bound (nr s) x)) _ h),
            λ h. ⊎_elim (λ a. or_left (any_way is_no_variable (ways_in bound (nr s) x)) _ (fixed.1 a))
                (λ h. or_right (any_way is_no_variable (ways_in bound (nr s) x)) _ (⊎_elim (λ a. or_left (has_way (ways_in reached (nr s) x) standing.SloppyFunction) _ (hoisted.1 a))
                (λ a. or_right (has_way (ways_in reached (nr s) x) standing.SloppyFunction) _ (free.1 a)) h)) h,
          )
