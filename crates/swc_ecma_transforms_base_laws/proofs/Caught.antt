-- In what is left of a tree no variable is caught, if none is in the tree.
use Rattle.std.proofs.Common.{◌≡◌, ◌⊎◌, ℕ, true, inl, inr, ⊎_elim, IsTrue, Option, Some, None, List, refl, sym, ap, ◌∙◌, subst, [], ◌∷◌}
use Rattle.swc_tree_marks.specs.declared.ident.Ident.{Ident}
use Rattle.swc_tree_node.specs.declared.node.Node.{Node}
use Rattle.swc_tree_scoping.specs.declared.places.Standing.{Standing}
use Rattle.swc_tree_scoping.specs.declared.places.Standing.TheVariants as standing
use Rattle.swc_tree_scoping.specs.Places.{Path, program_place}
use Rattle.swc_tree_scoping.specs.Scopes.{Round, is_binding, is_taken, rounds, scope_at}
use Rattle.swc_tree_scoping.specs.Declares.{Bound, First, PassesNone, is_lexical}
use Rattle.swc_tree_scoping.specs.WellScoped.{IsClean, NoCaughtVariable, NoEarlyErrorOfNames, NoVariablePasses, Stands, is_catch_parameter}
use Rattle.swc_tree_renaming.specs.Apart.{HasTexts, SameScopes}
use Rattle.swc_tree_renaming.proofs.Shape.{same_scopes}
use Rattle.swc_tree_sites.specs.Sites.{Entry, Site, counted}
use Rattle.swc_tree_sites.specs.Smaller.{AreKept, In, IsPlain}
use Rattle.swc_tree_sites.proofs.Entries.{FirstIn, Matches, from_entries, to_entries}
use Rattle.swc_tree_sites.proofs.Found.{env_at, finds}
use Rattle.swc_tree_sites.proofs.Kept.{S}
use Rattle.swc_tree_sites.proofs.Marked.{VariableOrCatch, meets_so, meets_tells, takes_it}
use Rattle.swc_tree_sites.proofs.Round.{env_is, taken_by, taken_is}
use Rattle.swc_tree_sites.proofs.Transport.{binding_names, counted_refers, not_both}
use Rattle.swc_base_resolver_laws.proofs.Same.{clean_stays}
use Rattle.swc_base_alpha_laws.proofs.Equivalence.{one_there}
use Rattle.swc_base_alpha_laws.proofs.Ids.{first_meets}

one_path : (a b : Path) → Some a ≡ Some b → a ≡ b
one_path a b e = cc

catch_bound : (n : Node) (s : Path) (x : List ℕ) (r : Standing) → IsTrue (is_catch_parameter r) → Bound n s r x → Bound n s standing.CatchParameter x
catch_bound n s x standing.CatchParameter way b = b
catch_bound n s x _ way b = absurd (cc)

-- where the first scope that has a property, or is a catch clause with the parameter, takes variables, no scope before it is such a clause
pub passes_none : (n : Node) (x : List ℕ) (X : Round → Type 0) (s : Path) → is_taken standing.Variable (scope_at program_place n s) ≡ true → (ss : List Round)
    → First (λ z. X z ⊎ Bound n z.0 standing.CatchParameter x) ss (Some s) → PassesNone is_catch_parameter n x ss
passes_none n x X s takes [] f = tt
passes_none n x X s takes (z ∷ zs) (inl (here, e)) = inl (subst (λ q. is_taken standing.Variable (scope_at program_place n q) ≡ true) (one_path s z.0 e) takes)
passes_none n x X s takes (z ∷ zs) (inr (none, f)) = inr ((λ (r, way, b). none (inr (catch_bound n z.0 x r way b))), passes_none n x X s takes zs f)

variable_so : (r : Standing) → counted r ≡ standing.Variable → r ≡ standing.Variable
variable_so standing.Body e = absurd (cc)
variable_so _ e = e

module _ (t n : Node) (plain_t : IsPlain t) (plain_n : IsPlain n) (kept : AreKept (S program_place n).sites (S program_place t).sites) (uncaught : NoCaughtVariable t) where
  itself : (t : Node) → SameScopes t t
  itself t = same_scopes t t refl

  own_texts : (t : Node) → HasTexts t (λ x. x) t
  own_texts t p w v k l i j e g names = ap (λ (i : Ident). i.sym) (one_there t p v w l k j i g e).1

  -- a variable stands in the tree with the same scopes round it
  there : (p : Path) (x : List ℕ) → Stands n p standing.Variable x → (q : Path) × Stands t q standing.Variable x × (env_at program_place t q ≡ env_at program_place n p)
  there p x at = ⊎_elim
      (λ z.
      let g = (finds t program_place site).0 z in (
        g.path,
        record { place = g.place; kind = g.kind; identifier = at.identifier; stands = g.stands; stands_so = variable_so g.place.standing (g.stands_so ∙ ap counted at.stands_so); named = at.named },
        g.env,
      ))
      (λ z. absurd (not_both at.place.standing binds (counted_refers at.place.standing z.refers)))
      (kept site ((finds n program_place site).1 (record { path = p; place = at.place; kind = at.kind; stands = at.stands; stands_so = refl; names = binding_names at.place.standing binds; env = refl })))
    where
      site : Site
      site = (counted at.place.standing, at.identifier, env_at program_place n p)

      binds : is_binding at.place.standing ≡ true
      binds = ap is_binding at.stands_so

  abbrev Binds : Node → List ℕ → Round → Type 0
  Binds t x s = Bound t s.0 standing.Variable x ⊎ Bound t s.0 standing.CatchParameter x

  -- what binds its name first takes variables
  last : (p : Path) (x : List ℕ) (f : Path) (i : Ident) (a : Option Path) (e : Option Entry) → Matches t (Some f) e → Matches n a e → In (standing.Variable, i) (taken_by program_place t f)
      → First (Binds n x) (rounds program_place n p) a → PassesNone is_catch_parameter n x (rounds program_place n p)
  last p x f i a None its here mine d = absurd its
  last p x f i None (Some e) its here mine d = absurd here
  last p x f i (Some s) (Some e) its here mine d =
      passes_none n x (λ z. Bound n z.0 standing.Variable x) s (takes_it n s (standing.Variable, i) (subst (In (standing.Variable, i)) (its ∙ sym here) mine)) (rounds program_place n p) d

  pub none_caught : NoCaughtVariable n
  none_caught p x at =
      let (q, st, env) = there p x at in
      let (f, taken) = plain_t.takes q standing.Variable x (record { at = st; binds = refl }) in
      let bound : Bound t f standing.Variable x
      = record { path = q; place = st.place; kind = st.kind; identifier = st.identifier; stands = st.stands; stands_so = st.stands_so; named = st.named; unmarked = plain_t.unmarked q st.place st.kind st.identifier st.stands; taken = taken } in
      let first : First (Binds t x) (rounds program_place t q) (Some f)
      = meets_so t t plain_t (itself t) (own_texts t) x f f (rounds program_place t q) taken bound (first_meets t x (rounds program_place t q) (Some f) (uncaught q x st) (sym taken)) in
      let (e, there, its) = to_entries t (Binds t x) (VariableOrCatch x) (meets_tells t t plain_t (itself t) (own_texts t) x) (rounds program_place t q) (Some f) first in
      let (a, d, here) = from_entries n (Binds n x) (VariableOrCatch x) (meets_tells n n plain_n (itself n) (own_texts n) x) (rounds program_place n p) e
      (subst (λ l. FirstIn (VariableOrCatch x) l e) (sym (env_is q program_place t) ∙ env ∙ env_is p program_place n) there) in
      last p x f st.identifier a e its here ((taken_is f program_place t (standing.Variable, st.identifier)).1 (record { path = q; place = st.place; kind = st.kind; stands = st.stands; stands_so = st.stands_so; binds = refl; taken = taken })) d

-- ---- a clean program without early errors of names

catch_lexical : (r : Standing) → IsTrue (is_catch_parameter r) → IsTrue (is_lexical r)
catch_lexical standing.CatchParameter way = refl
catch_lexical _ way = absurd (cc)

-- what passes no lexical name passes no catch parameter
passes_fewer : (t : Node) (x : List ℕ) (ss : List Round) → PassesNone is_lexical t x ss → PassesNone is_catch_parameter t x ss
passes_fewer t x [] h = tt
passes_fewer t x (s ∷ ss) (inl takes) = inl takes
passes_fewer t x (s ∷ ss) (inr (none, rest)) = inr ((λ (r, way, b). none (r, catch_lexical r way, b)), passes_fewer t x ss rest)

pub fair_catches_none : (t : Node) → IsClean t → NoEarlyErrorOfNames t → NoCaughtVariable t
fair_catches_none t clean fair =
    let passes : NoVariablePasses is_lexical t = subst (NoVariablePasses is_lexical) (clean_stays t program_place clean) fair.no_redeclaration.no_variable_passes in
    λ p x at. passes_fewer t x (rounds program_place t p) (passes p x at)
