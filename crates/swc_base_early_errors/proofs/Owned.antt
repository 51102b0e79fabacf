-- The claims of a program are of the scopes that take what is bound.
use Rattle.std.proofs.Common.{◌≡◌, ℕ, ◌+◌, Bool, true, false, ◌&&◌, ◌==◌, IsTrue, ◌⊎◌, ◌↔◌, inl, inr, ⊎_elim, Option, Some, None, List, [], ◌++◌, map, refl, sym, ap, ◌∙◌, subst, arith, cond}
use Rattle.std.specs.Option.{is_some, option_map}
use Rattle.std.proofs.lemmas.Bool.Decides.{nat_tests}
use Rattle.swc_tree_marks.specs.declared.ident.Ident.{Ident}
use Rattle.swc_tree_node.specs.declared.kind.Kind.{Kind}
use Rattle.swc_tree_node.specs.declared.node.Node.{Node, Identifier, out-Node}
use Rattle.swc_tree_node.specs.declared.node.Node.TheOpen.{Node-F}
use Rattle.swc_tree_node.specs.declared.node.Node.TheVariants.{outs-Identifier}
use Rattle.swc_tree_scoping.specs.declared.places.Standing.{Standing}
use Rattle.swc_tree_scoping.specs.declared.places.Standing.TheVariants as standing
use Rattle.swc_tree_scoping.specs.declared.places.Scope.{Scope}
use Rattle.swc_tree_scoping.specs.declared.places.Scope.TheVariants as scope
use Rattle.swc_tree_scoping.specs.declared.places.Place.{Place}
use Rattle.swc_tree_scoping.specs.Places.{Path, opened, program_place}
use Rattle.swc_tree_scoping.specs.Scopes.{is_binding, rounds, taker}
use Rattle.swc_tree_scoping.specs.WellScoped.{IsLexical, Stands, is_module}
use Rattle.swc_tree_scoping.specs.Declares.{is_lexical}
use Rattle.swc_tree_scoping.proofs.First.{Opens}
use Rattle.swc_tree_scoping.proofs.Remarked.{identifier_is}
use Rattle.swc_base_resolver_program.specs.Lookup.{Open, taker_in}
use Rattle.swc_base_resolver_program.specs.Walks.{open_round}
use Rattle.swc_base_resolver_program.proofs.Declared.{O, nr, taker_is, taker_open}
use Rattle.swc_base_resolver_program.proofs.Gathered.{no_taker}
use Rattle.swc_base_resolver_program.proofs.Numbers.{one_number}
use Rattle.swc_base_resolver_program.proofs.Rounds.{rounds_are}
use Rattle.swc_base_resolver_program.proofs.Ways.{and_both, both, is_true, or_cases, or_left, or_right}
use Rattle.swc_base_early_errors.specs.declared.claims.Claim.{Claim}
use Rattle.swc_base_early_errors.specs.declared.claims.Rule.{Rule}
use Rattle.swc_base_early_errors.specs.declared.claims.Rule.TheVariants as rule
use Rattle.swc_base_early_errors.specs.Claims.{ClaimsAt, ClaimsHere, claim_in, is_alone, is_function, is_of}

-- a claim is of an identifier
pub record ByIdentifier (q : Rule) (env : List Open) (w : Place) (t : Node) (c : Claim) (x : List ℕ) : Type 0 where
  pub kind : Kind
  pub identifier : Ident
  pub is : t ≡ Identifier kind identifier
  pub claims : claim_in q w env ≡ Some c
  pub named : identifier.sym ≡ x

by_identifier : (q : Rule) (env : List Open) (w : Place) (t : Node) (c : Claim) (x : List ℕ) → ClaimsHere q env w (out-Node t) c x → ByIdentifier q env w t c x
by_identifier q env w t c x h = at (out-Node t) refl h
  where
    at : (y : Node-F Node) → out-Node t ≡ y → ClaimsHere q env w y c x → ByIdentifier q env w t c x
    at (Node-F.Identifier k i) o h = record { kind = k; identifier = i; is = identifier_is t k i o; claims = h.0; named = h.1 }
    at _ o h = absurd h

-- what a claim is of: the number of a scope, and whether it stands alone
pub record OfNumber (q : Rule) (r : Standing) (o : Option ℕ) (c : Claim) : Type 0 where
  pub counts : IsTrue (is_of q r)
  pub number : o ≡ Some c.scope
  pub alone : is_alone q r c.scope ≡ c.alone

abbrev pub made : Rule → Standing → ℕ → Claim
made q r k = record { scope = k; alone = is_alone q r k }

pub of_number : (q : Rule) (r : Standing) (o : Option ℕ) (c : Claim) → cond (is_of q r) (option_map {U = Claim} (λ k. record { scope = k; alone = is_alone q r k }) o) None ≡ Some c → OfNumber q r o c
of_number q r o c = at (is_of q r) refl o
  where
    at : (b : Bool) → is_of q r ≡ b → (o : Option ℕ) → cond b (option_map {U = Claim} (λ k. record { scope = k; alone = is_alone q r k }) o) None ≡ Some c → OfNumber q r o c
    at true e None h = absurd (cc)
    at true e (Some k) h =
        let same : record { scope = k; alone = is_alone q r k } ≡ c = cc in
        record { counts = e; number = ap (λ (z : Claim). Some z.scope) same; alone = ap (λ k. is_alone q r k) (sym (ap (λ (z : Claim). z.scope) same)) ∙ ap (λ (z : Claim). z.alone) same }
    at false e o h = absurd (cc)

pub from_number : (q : Rule) (r : Standing) (o : Option ℕ) (k : ℕ) → IsTrue (is_of q r) → o ≡ Some k → cond (is_of q r) (option_map {U = Claim} (λ k. record { scope = k; alone = is_alone q r k }) o) None ≡ Some (record { scope = k; alone = is_alone q r k })
from_number q r o k counts e = ap (λ b. cond b (option_map {U = Claim} (λ k. record { scope = k; alone = is_alone q r k }) o) None) (is_true (is_of q r) counts) ∙ ap (option_map {U = Claim} (λ k. record { scope = k; alone = is_alone q r k })) e

numbered : (f : Path → ℕ) (o : Option Path) (k : ℕ) → option_map f o ≡ Some k → (u : Path) × (o ≡ Some u) × (f u ≡ k)
numbered f None k h = absurd (cc)
numbered f (Some u) k h = let same : f u ≡ k = cc in (u, refl, same)

function_is : (r : Standing) → IsTrue (is_function r) → r ≡ standing.Function
function_is standing.Function h = refl
function_is _ h = absurd (cc)

zero_is : (k : ℕ) → IsTrue (k == 0) → k ≡ 0
zero_is k h = grind (arith, nat_tests, h)

is_zero : (k : ℕ) → k ≡ 0 → IsTrue (k == 0)
is_zero k h = grind (arith, nat_tests, h)

module _ (t : Node) (opens : opened program_place t ≡ Some scope.Program) where
  pub root_open : Opens program_place t []
  root_open = subst (λ (o : Option Scope). IsTrue (is_some o)) (sym opens) refl

  pub same_scope : (s u : Path) → Opens program_place t s → Opens program_place t u → nr t opens s ≡ nr t opens u → s ≡ u
  same_scope s u o q e = one_number s u program_place t o q (omega (arith, e))

  pub taken_in : (r : Standing) (p : Path) → taker_in r (open_round [] 0 program_place t p) ≡ option_map (nr t opens) (taker r t p)
  taken_in r p = ap (taker_in r) (rounds_are p 0 program_place t []) ∙ taker_is t opens r p

  -- a claim of the program, by the scope that takes it
  pub record Owned (q : Rule) (p : Path) (c : Claim) (x : List ℕ) : Type 0 where
    pub standing : Standing
    pub at : Stands t p standing x
    pub counts : IsTrue (is_of q standing)
    pub scope : Path
    pub taken : taker standing t p ≡ Some scope
    pub number : nr t opens scope ≡ c.scope
    pub alone : is_alone q standing c.scope ≡ c.alone

  pub owned : (q : Rule) (p : Path) (c : Claim) (x : List ℕ) → ClaimsAt q [] 0 program_place t p c x → Owned q p c x
  owned q p c x h =
      let i = by_identifier q (open_round [] 0 program_place t p) h.place h.node c x h.claims in
      let n = of_number q h.place.standing (taker_in h.place.standing (open_round [] 0 program_place t p)) c i.claims in
      let (u, taken, number) = numbered (nr t opens) (taker h.place.standing t p) c.scope (sym (taken_in h.place.standing p) ∙ n.number) in
      record {
        standing = h.place.standing;
        at = record { place = h.place; kind = i.kind; identifier = i.identifier; stands = h.stands ∙ ap (λ d. Some (h.place, d)) i.is; stands_so = refl; named = i.named };
        counts = n.counts;
        scope = u;
        taken = taken;
        number = number;
        alone = n.alone;
      }

  pub claims_it : (q : Rule) (p : Path) (x : List ℕ) (r : Standing) (s : Path) → Stands t p r x → IsTrue (is_of q r) → taker r t p ≡ Some s
      → ClaimsAt q [] 0 program_place t p (record { scope = nr t opens s; alone = is_alone q r (nr t opens s) }) x
  claims_it q p x r s at counts taken =
      let claimed : claim_in q at.place (open_round [] 0 program_place t p) ≡ Some (record { scope = nr t opens s; alone = is_alone q r (nr t opens s) })
      = ap (λ r. cond (is_of q r) (option_map {U = Claim} (λ k. record { scope = k; alone = is_alone q r k }) (taker_in r (open_round [] 0 program_place t p))) None) at.stands_so
      ∙ from_number q r (taker_in r (open_round [] 0 program_place t p)) (nr t opens s) counts (taken_in r p ∙ ap (option_map (nr t opens)) taken) in
      record {
        place = at.place;
        node = Identifier at.kind at.identifier;
        stands = at.stands;
        claims = subst (λ y. ClaimsHere q (open_round [] 0 program_place t p) at.place y (record { scope = nr t opens s; alone = is_alone q r (nr t opens s) }) x) (sym (outs-Identifier at.kind at.identifier)) (claimed, at.named);
      }

  -- what has a taker is bound
  pub taken_binds : (r : Standing) (p s : Path) → taker r t p ≡ Some s → is_binding r ≡ true
  taken_binds r p s h = at (is_binding r) refl
    where
      at : (b : Bool) → is_binding r ≡ b → is_binding r ≡ true
      at true e = e
      at false e = let z = sym (no_taker r (map (O t opens) (rounds program_place t p) ++ []) e) ∙ taker_is t opens r p ∙ ap (option_map (nr t opens)) h in absurd (cc)

  -- a lexical name stands alone, and a function of a module's program
  pub alone_is : (r : Standing) (p s : Path) → taker r t p ≡ Some s → IsTrue (is_alone (rule.Lexical (is_module t)) r (nr t opens s)) ↔ IsLexical t p r
  alone_is r p s taken = (
    λ h. ⊎_elim inl (λ a. inr (as_function a)) (or_cases (is_lexical r) (is_module t && (is_function r && (nr t opens s == 0))) h),
    λ h. ⊎_elim (λ a. or_left (is_lexical r) (is_module t && (is_function r && (nr t opens s == 0))) a) (λ a. or_right (is_lexical r) (is_module t && (is_function r && (nr t opens s == 0))) (from_function a)) h,
  )
    where
      as_function : IsTrue (is_module t && (is_function r && (nr t opens s == 0))) → (r ≡ standing.Function) × IsTrue (is_module t) × (taker standing.Function t p ≡ Some [])
      as_function h =
          let a = both (is_module t) (is_function r && (nr t opens s == 0)) h in
          let b = both (is_function r) (nr t opens s == 0) a.1 in
          let is = function_is r b.0 in
          let root : s ≡ [] = same_scope s [] (taker_open t opens r p s taken) root_open (zero_is (nr t opens s) b.1) in
          (is, a.0, ap (λ r. taker r t p) (sym is) ∙ taken ∙ ap (λ s. Some s) root)

      from_function : (r ≡ standing.Function) × IsTrue (is_module t) × (taker standing.Function t p ≡ Some []) → IsTrue (is_module t && (is_function r && (nr t opens s == 0)))
      from_function (is, m, root) =
          let some : Some s ≡ Some [] = sym taken ∙ ap (λ r. taker r t p) is ∙ root in
          let same : s ≡ [] = cc in
          and_both (is_module t) (is_function r && (nr t opens s == 0)) m (and_both (is_function r) (nr t opens s == 0) (ap is_function is) (is_zero (nr t opens s) (ap (nr t opens) same)))
