-- Where no name of a program is declared against the rules, none is where each name has a new text that captures none.
use Rattle.std.proofs.Common.{◌≡◌, ℕ, Bool, true, false, IsTrue, ◌⊎◌, inl, inr, ⊎_elim, Some, List, [], ◌∷◌, Contains, refl, sym, ap, ◌∙◌, subst, cond}
use Rattle.swc_tree_node.specs.declared.node.Node.{Node}
use Rattle.swc_tree_scoping.specs.declared.places.Place.{Place}
use Rattle.swc_tree_scoping.specs.declared.places.Standing.{Standing}
use Rattle.swc_tree_scoping.specs.declared.places.Standing.TheVariants as standing
use Rattle.swc_tree_scoping.specs.Places.{Path, program_place}
use Rattle.swc_tree_scoping.specs.Scopes.{Round, first_that, is_name, is_taken, rounds, scope_at, taker}
use Rattle.swc_tree_scoping.specs.Declares.{Bound, BoundAs, PassesNone, is_lexical}
use Rattle.swc_tree_scoping.specs.WellScoped.{AreFunctionsOfOneBlock, Binds, IsClean, IsLexical, NoRedeclaration, NoVariablePasses, NoneTwice, Stands}
use Rattle.swc_tree_scoping.proofs.First.{Nested, rounds_nested}
use Rattle.swc_tree_renaming.specs.Apart.{CapturesNone, DeclaredIn, HasTexts, IsAtOrAbove, IsPlainProgram, IsRound, NoParameterRepeated, SameScopes}
use Rattle.swc_tree_renaming.proofs.Core.{as_declared, bound_back, bound_declared, first_in, head_in, stands_back, tail_in, taken_same}
use Rattle.swc_tree_sites.specs.Smaller.{IsPlain}
use Rattle.swc_tree_sites.proofs.Transport.{binding_names, not_sloppy}
use Rattle.swc_tree_sites.proofs.Whole.{as_taken}
use Rattle.swc_tree_sites_laws.proofs.LeftIds.{plain_clean}
use Rattle.swc_tree_sites_kept.specs.Errors.{AreOfOneGoal, IsFair, NewTextsRedeclareNone}
use Rattle.swc_tree_sites_kept.proofs.ErrorsModules.{none_repeated}

abbrev PP : Place
PP = program_place

some_path : (s u : Path) → Some s ≡ Some u → s ≡ u
some_path s u e = cc

abbrev takes_variables : Node → Round → Bool
takes_variables t s = is_taken standing.Variable (scope_at PP t s.0)

module _ (t n : Node) (text : List ℕ → List ℕ) (fair : IsFair t) (program_n : IsPlainProgram n) (goals : AreOfOneGoal t n) (clean_t : IsClean t) (clean_n : IsClean n) (same : SameScopes t n) (texts : HasTexts t text n) (none : CapturesNone t text)
    (fine : NoRedeclaration t) where
  plain_t : IsPlain t
  plain_t = plain_clean t fair.0 clean_t

  plain_n : IsPlain n
  plain_n = plain_clean n program_n clean_n

  -- what a name was called
  was : (p : Path) (r : Standing) (x : List ℕ) → Stands n p r x → IsTrue (is_name r) → (y : List ℕ) × Stands t p r y × (text y ≡ x)
  was = stands_back t n text same clean_t clean_n texts plain_t.settled

  takers : (r : Standing) (p : Path) → taker r t p ≡ taker r n p
  takers = taken_same t n text same clean_t clean_n texts plain_t.settled

  round : (r : Standing) (p s : Path) → taker r t p ≡ Some s → IsRound t s p
  round r p s h = let (whole, there, f) = first_in (λ s. is_taken r (scope_at PP t s.0)) (rounds PP t p) s h in (whole, there)

  declared : (p s : Path) (r : Standing) (y : List ℕ) → Binds t p r y → taker r t p ≡ Some s → DeclaredIn t s y
  declared p s r y b h = record { path = p; standing = r; binds = b; declared = as_declared t r p s y (not_sloppy t plain_t p r y b.at) h }

  -- two that one scope takes and that have one text have one id
  one_id : (p q s : Path) (r u : Standing) (y z : List ℕ) → Binds t p r y → Binds t q u z → taker r t p ≡ Some s → taker u t q ≡ Some s → text y ≡ text z → y ≡ z
  one_id p q s r u y z b c h g e = none.declared p r y z s s b.at (binding_names r b.binds) (declared p s r y b h) (round r p s h) (inl refl) (declared q s u z c g) e

  none_twice : NoneTwice n
  none_twice x s p q r u b c d e lexical = at (was p r x b.at (binding_names r b.binds)) (was q u x c.at (binding_names u c.binds))
    where
      first : taker r t p ≡ Some s
      first = takers r p ∙ as_taken n r p s x (not_sloppy n plain_n p r x b.at) d

      second : taker u t q ≡ Some s
      second = takers u q ∙ as_taken n u q s x (not_sloppy n plain_n q u x c.at) e

      there : IsLexical n p r → IsLexical t p r
      there (inl l) = inl l
      there (inr l) = inr (l.0, subst (λ b. IsTrue b) (sym goals) l.1, takers standing.Function p ∙ l.2)

      at : (y : List ℕ) × Stands t p r y × (text y ≡ x) → (z : List ℕ) × Stands t q u z × (text z ≡ x) → (p ≡ q) ⊎ AreFunctionsOfOneBlock n p r q u
      at (y, sy, ey) (z, sz, ez) =
          let by : Binds t p r y = record { at = sy; binds = b.binds } in
          let bz : Binds t q u z = record { at = sz; binds = c.binds } in
          let one : y ≡ z = one_id p q s r u y z by bz first second (ey ∙ sym ez) in
          let too : Binds t q u y = subst (Binds t q u) (sym one) bz in
          ⊎_elim inl (λ g. absurd (not_sloppy t plain_t p r y sy g.0))
          (fine.none_twice y s p q r u by too (as_declared t r p s y (not_sloppy t plain_t p r y sy) first) (as_declared t u q s y (not_sloppy t plain_t q u y too.at) second) (there lexical))

  repeats_none : NoParameterRepeated n
  repeats_none x f p q b c d e = at (was p standing.Parameter x b refl) (was q standing.Parameter x c refl)
    where
      at : (y : List ℕ) × Stands t p standing.Parameter y × (text y ≡ x) → (z : List ℕ) × Stands t q standing.Parameter z × (text z ≡ x) → p ≡ q
      at (y, sy, ey) (z, sz, ez) =
          let first : taker standing.Parameter t p ≡ Some f = takers standing.Parameter p ∙ d in
          let second : taker standing.Parameter t q ≡ Some f = takers standing.Parameter q ∙ e in
          let one : y ≡ z = one_id p q f standing.Parameter standing.Parameter y z (record { at = sy; binds = refl }) (record { at = sz; binds = refl }) first second (ey ∙ sym ez) in
          none_repeated t fair fine.no_parameter_twice y f p q sy (subst (Stands t q standing.Parameter) (sym one) sz) first second

  pub stays_fair : IsFair n
  stays_fair = (program_n, λ s. repeats_none)

  -- the scopes that a variable passes
  passes : (p u : Path) (x y : List ℕ) → Stands t p standing.Variable y → text y ≡ x → DeclaredIn t u y → (ss : List Round) → Nested PP t ss → ((s : Round) → Contains ss s → Contains (rounds PP t p) s)
      → first_that (takes_variables t) ss ≡ Some u → PassesNone is_lexical t y ss → PassesNone is_lexical n x ss
  passes p u x y b e d [] nested inside found h = tt
  passes p u x y b e d (s ∷ ss) nested inside found h = at (takes_variables t s) refl found h (passes p u x y b e d ss nested.1 (λ s i. inside s (tail_in _ s ss i)))
    where
      caught : first_that (takes_variables t) ss ≡ Some u → ¬ BoundAs is_lexical t s.0 y → ¬ BoundAs is_lexical n s.0 x
      caught f free (r, way, c) =
          let (z, bound, is) = bound_back t n text same clean_t clean_n texts plain_t.settled s.0 r x c in
          let (whole, there, takes_it) = first_in (takes_variables t) ss u f in
          let above : IsAtOrAbove t u s.0 = inr (whole, subst (λ l. Contains l (u, whole)) nested.0 there) in
          let one : y ≡ z = none.declared p standing.Variable y z s.0 u b refl d (s.1, inside s (head_in s ss)) above (bound_declared t n text same clean_t clean_n texts plain_t.settled s.0 r z bound) (e ∙ sym is) in
          free (r, way, subst (Bound t s.0 r) (sym one) bound)

      at : (z : Bool) → takes_variables t s ≡ z → cond z (Some s.0) (first_that (takes_variables t) ss) ≡ Some u → PassesNone is_lexical t y (s ∷ ss)
          → (first_that (takes_variables t) ss ≡ Some u → PassesNone is_lexical t y ss → PassesNone is_lexical n x ss) → PassesNone is_lexical n x (s ∷ ss)
      at true i f g later = inl (ap (is_taken standing.Variable) (sym (same.scopes_same s.0)) ∙ i)
      at false i f (inl g) later = absurd (cc)
      at false i f (inr g) later = inr (caught f g.0, later f g.1)

  no_variable_passes : NoVariablePasses is_lexical n
  no_variable_passes p x b = at (was p standing.Variable x b refl)
    where
      at : (y : List ℕ) × Stands t p standing.Variable y × (text y ≡ x) → PassesNone is_lexical n x (rounds PP n p)
      at (y, sy, e) =
          let (u, taken) = plain_t.takes p standing.Variable y (record { at = sy; binds = refl }) in
          subst (PassesNone is_lexical n x) (same.rounds_same p)
          (passes p u x y sy e (declared p u standing.Variable y (record { at = sy; binds = refl }) taken) (rounds PP t p) (rounds_nested p PP t) (λ s i. i) taken (fine.no_variable_passes p y sy))

  pub none_redeclared : NoRedeclaration n
  none_redeclared = record { none_twice = none_twice; no_variable_passes = no_variable_passes; no_parameter_twice = λ x f p q b c d e strict. repeats_none x f p q b c d e }

pub new_texts_redeclare_none : NewTextsRedeclareNone
new_texts_redeclare_none t n text ft pn goals ct cn same texts none fine = none_redeclared t n text ft pn goals ct cn same texts none fine
