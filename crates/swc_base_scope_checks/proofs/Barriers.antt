-- Variables that a scope bars: what the walk finds is what the definitions say.
use Rattle.std.proofs.Common.{◌≡◌, ℕ, Bool, true, false, not, ◌&&◌, IsTrue, ◌⊎◌, ◌↔◌, inl, inr, ⊎_elim, Some, List, [], ◌∷◌, ◌++◌, map, refl, sym, ap, ◌∙◌, subst}
use Rattle.swc_tree_marks.specs.declared.ident.Ident.{Ident}
use Rattle.swc_tree_node.specs.declared.kind.Kind.{Kind}
use Rattle.swc_tree_node.specs.declared.node.Node.{Node, Identifier, out-Node}
use Rattle.swc_tree_node.specs.declared.node.Node.TheOpen.{Node-F}
use Rattle.swc_tree_node.specs.declared.node.Node.TheVariants.{outs-Identifier}
use Rattle.swc_tree_scoping.specs.declared.places.Place.{Place}
use Rattle.swc_tree_scoping.specs.declared.places.Standing.{Standing}
use Rattle.swc_tree_scoping.specs.declared.places.Standing.TheVariants as standing
use Rattle.swc_tree_scoping.specs.declared.places.Scope.TheVariants as scope
use Rattle.swc_tree_scoping.specs.Places.{Path, opened, program_place}
use Rattle.swc_tree_scoping.specs.Scopes.{Round, is_taken, rounds, scope_at}
use Rattle.swc_tree_scoping.specs.Declares.{PassesNone}
use Rattle.swc_tree_scoping.specs.WellScoped.{NoVariablePasses, Stands, is_catch_parameter}
use Rattle.swc_tree_scoping.proofs.First.{Each, Opens, round_opens}
use Rattle.swc_tree_scoping.proofs.Remarked.{identifier_is}
use Rattle.swc_base_resolver_program.specs.declared.names.ScopeNames.{ScopeNames}
use Rattle.swc_base_resolver_program.specs.declared.collect.Stage.TheVariants as stage
use Rattle.swc_base_resolver_program.specs.Names.{any_way, ways_in}
use Rattle.swc_base_resolver_program.specs.Lookup.{Open, names_in}
use Rattle.swc_base_resolver_program.specs.Walks.{Reaches, Takes, open_round}
use Rattle.swc_base_resolver_program.proofs.Declared.{O, any_is, nr}
use Rattle.swc_base_resolver_program.proofs.Rounds.{rounds_are}
use Rattle.swc_base_resolver_program.proofs.Ways.{and_both, both, is_true, not_true, or_cases, or_left, or_right, true_not}
use Rattle.swc_base_scope_checks.specs.declared.caught.Kept.{Kept}
use Rattle.swc_base_scope_checks.specs.Asked.{Passes, PassesHere, Test, in_list}
use Rattle.swc_base_scope_checks.specs.Barriers.{barred, gets_out}
use Rattle.swc_base_scope_checks.specs.Caught.{NoCaughtName, NonePasses, is_asked}
use Rattle.swc_base_scope_checks.specs.Kept.{is_kept}

-- a test that an identifier passes, which stands at a path
pub passes_at : (test : Test) (x : Bool) (env : List Open) (w : Place) (k : Kind) (i : Ident) → IsTrue (test w i x env) → PassesHere test x env w (out-Node (Identifier k i))
passes_at test x env w k i h = subst (λ y. PassesHere test x env w y) (sym (outs-Identifier k i)) h

-- what passes is an identifier
pub record Found (test : Test) (x : Bool) (env : List Open) (w : Place) (t : Node) : Type 0 where
  pub kind : Kind
  pub identifier : Ident
  pub is : t ≡ Identifier kind identifier
  pub passes : IsTrue (test w identifier x env)

pub found : (test : Test) (x : Bool) (env : List Open) (w : Place) (t : Node) → PassesHere test x env w (out-Node t) → Found test x env w t
found test x env w t h = at (out-Node t) refl h
  where
    at : (y : Node-F Node) → out-Node t ≡ y → PassesHere test x env w y → Found test x env w t
    at (Node-F.Identifier k i) o h = record { kind = k; identifier = i; is = identifier_is t k i o; passes = h }
    at _ o h = absurd h

module _ (t : Node) (opens : opened program_place t ≡ Some scope.Program) (tables : List ScopeNames) (binds : Takes tables (Reaches stage.Bind [] 0 program_place t)) where
  -- a name gets out of the scopes exactly if none of them bars it
  pub gets_out_is : (ways : Standing → Bool) (x : List ℕ) (ss : List Round) → Each (λ s. Opens program_place t s.0) ss
      → IsTrue (gets_out ways (ways_in tables) x (map (O t opens) ss ++ [])) ↔ PassesNone ways t x ss
  gets_out_is ways x [] e = (λ h. tt, λ h. refl)
  gets_out_is ways x (s ∷ ss) e =
      let here = any_is t opens tables binds ways s.0 x e.0 in
      let rest = gets_out_is ways x ss e.1 in
      let ends : Bool = is_taken standing.Variable (scope_at program_place t s.0) in
      let bars : Bool = any_way ways (ways_in tables (nr t opens s.0) x) in
      let later : Bool = gets_out ways (ways_in tables) x (map (O t opens) ss ++ []) in (
        λ h. ⊎_elim inl (λ a. let p = both (not bars) later a in inr (λ b. not_true bars p.0 (here.1 b), rest.0 p.1)) (or_cases ends (not bars && later) h),
        λ h. ⊎_elim (λ a. or_left ends (not bars && later) a) (λ a. or_right ends (not bars && later) (and_both (not bars) later (true_not bars (λ g. a.0 (here.0 g))) (rest.1 a.1))) h,
      )

  module _ (kept : Kept) (same : names_in kept.bound ≡ ways_in tables) where
    abbrev test : Test
    test w i x env = is_kept kept w i env

    out_is : (p : Path) (x : List ℕ) → IsTrue (gets_out (barred kept.barrier) (names_in kept.bound) x (open_round [] 0 program_place t p)) ↔ PassesNone (barred kept.barrier) t x (rounds program_place t p)
    out_is p x = subst (λ b. IsTrue b ↔ PassesNone (barred kept.barrier) t x (rounds program_place t p))
        (sym (ap (λ n. gets_out (barred kept.barrier) n x (open_round [] 0 program_place t p)) same ∙ ap (gets_out (barred kept.barrier) (ways_in tables) x) (rounds_are p 0 program_place t [])))
        (gets_out_is (barred kept.barrier) x (rounds program_place t p) (round_opens p program_place t))

    keeps : (p : Path) (r : Standing) (name : List ℕ) → IsTrue (is_asked kept.functions r) → Stands t p r name → ¬ PassesNone (barred kept.barrier) t name (rounds program_place t p) → Passes test false [] 0 program_place t
    keeps p r name asked s barred_out =
        let out : Bool = gets_out (barred kept.barrier) (names_in kept.bound) s.identifier.sym (open_round [] 0 program_place t p) in
        let stays : IsTrue (not out) = true_not out (λ h. barred_out (subst (λ x. PassesNone (barred kept.barrier) t x (rounds program_place t p)) s.named ((out_is p s.identifier.sym).0 h))) in
        record {
          path = p;
          place = s.place;
          node = Identifier s.kind s.identifier;
          stands = s.stands;
          passes = passes_at test (in_list false t p) (open_round [] 0 program_place t p) s.place s.kind s.identifier (and_both (is_asked kept.functions s.place.standing) (not out) (subst (λ r. IsTrue (is_asked kept.functions r)) (sym s.stands_so) asked) stays);
        }

    lets_out : NonePasses (is_asked kept.functions) (barred kept.barrier) t → Passes test false [] 0 program_place t → ⊥
    lets_out none h =
        let f = found test (in_list false t h.path) (open_round [] 0 program_place t h.path) h.place h.node h.passes in
        let out : Bool = gets_out (barred kept.barrier) (names_in kept.bound) f.identifier.sym (open_round [] 0 program_place t h.path) in
        let p = both (is_asked kept.functions h.place.standing) (not out) f.passes in
        not_true out p.1 ((out_is h.path f.identifier.sym).1 (none h.path h.place.standing f.identifier.sym p.0 (record {
          place = h.place;
          kind = f.kind;
          identifier = f.identifier;
          stands = h.stands ∙ ap (λ u. Some (h.place, u)) f.is;
          stands_so = refl;
          named = refl;
        })))

    decided : (b : Bool) (p : Path) (name : List ℕ) (e : Each (λ s. Opens program_place t s.0) (rounds program_place t p)) → gets_out (barred kept.barrier) (ways_in tables) name (map (O t opens) (rounds program_place t p) ++ []) ≡ b
        → ¬ ¬ PassesNone (barred kept.barrier) t name (rounds program_place t p) → PassesNone (barred kept.barrier) t name (rounds program_place t p)
    decided true p name e g stable = (gets_out_is (barred kept.barrier) name (rounds program_place t p) e).0 g
    decided false p name e g stable = absurd (stable (λ h. let z = (gets_out_is (barred kept.barrier) name (rounds program_place t p) e).1 h in let y : true ≡ false = sym (is_true _ z) ∙ g in absurd (cc)))

    pub none_kept : (result : Bool) → IsTrue result ↔ Passes test false [] 0 program_place t → IsTrue (not result) ↔ NonePasses (is_asked kept.functions) (barred kept.barrier) t
    none_kept result found = (
      λ h p r name asked s. decided _ p name (round_opens p program_place t) refl (λ out. not_true result h (found.1 (keeps p r name asked s out))),
      λ none. true_not result (λ h. lets_out none (found.0 h)),
    )

-- ---- of variables alone, and of both

asked_of : (functions : Bool) (t : Node) (ways : Standing → Bool) → NoVariablePasses ways t → (IsTrue functions → (p : Path) (name : List ℕ) → Stands t p standing.SloppyFunction name → PassesNone ways t name (rounds program_place t p))
    → (p : Path) (r : Standing) (name : List ℕ) → IsTrue (is_asked functions r) → Stands t p r name → PassesNone ways t name (rounds program_place t p)
asked_of functions t ways variables others p standing.Variable name asked s = variables p name s
asked_of functions t ways variables others p standing.SloppyFunction name asked s = others asked p name s
asked_of functions t ways variables others p _ name asked s = absurd (cc)

pub variables_alone : (ways : Standing → Bool) (t : Node) (b : Bool) → IsTrue b ↔ NonePasses (is_asked false) ways t → IsTrue b ↔ NoVariablePasses ways t
variables_alone ways t b is = (
  λ h p name s. is.0 h p standing.Variable name refl s,
  λ none. is.1 (asked_of false t ways none (λ h. absurd (cc))),
)

pub names_of_both : (t : Node) (b : Bool) → IsTrue b ↔ NonePasses (is_asked true) is_catch_parameter t → IsTrue b ↔ NoCaughtName t
names_of_both t b is = (
  λ h. (λ p name s. is.0 h p standing.Variable name refl s, λ p name s. is.0 h p standing.SloppyFunction name refl s),
  λ none. is.1 (asked_of true t is_catch_parameter none.0 (λ h. none.1)),
)
