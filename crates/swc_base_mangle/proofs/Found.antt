-- What is found of strays is what the definitions say.
use Rattle.std.proofs.Common.{◌≡◌, Bool, true, false, not, ◌||◌, IsTrue, ◌⊎◌, ◌↔◌, inl, inr, ⊎_elim, Some, List, [], refl, sym, ap, ◌∙◌}
use Rattle.swc_tree_node.specs.declared.node.Node.{Node}
use Rattle.swc_tree_scoping.specs.declared.places.Place.{Place}
use Rattle.swc_tree_scoping.specs.declared.places.Scope.TheVariants as scope
use Rattle.swc_tree_scoping.specs.Places.{opened, opened_in, program_place}
use Rattle.swc_tree_scoping.specs.Resolved.{is_script}
use Rattle.swc_tree_renaming.specs.Apart.{DeclaresNoGlobalValue, HasNoSloppy}
use Rattle.swc_tree_renaming.proofs.Whole.{script_layer}
use Rattle.swc_base_resolver_program.specs.declared.names.ScopeNames.{ScopeNames}
use Rattle.swc_base_resolver_program.proofs.Ways.{or_cases, or_left, or_right}
use Rattle.swc_base_early_errors.specs.Lower.swc_base_scope_checks.specs.Asked.{Passes, Test}
use Rattle.swc_base_early_errors.specs.declared.sought.Sought.TheVariants as sought
use Rattle.swc_base_early_errors.proofs.Found.{IsThere, Sees, no_global_is, no_sloppy_is, there_is}
use Rattle.swc_base_mangle.specs.Mangled.{HasStrays}
use Rattle.swc_base_mangle.specs.Strays.{is_stray}

script_opens : (t : Node) → IsTrue (is_script t) → opened program_place t ≡ Some scope.Program
script_opens t s = let (ts, o) = script_layer t s in ap (opened_in program_place) o

-- what passes one of two tests
module _ (one two : Test) (t : Node) where
  abbrev either : Test
  either w i listed env = one w i listed env || two w i listed env

  either_is : IsThere either t → IsThere one t ⊎ IsThere two t
  either_is (p, w, k, i, at, h) = ⊎_elim (λ a. inl (p, w, k, i, at, a)) (λ a. inr (p, w, k, i, at, a)) (or_cases _ _ h)

  first_is : IsThere one t → IsThere either t
  first_is (p, w, k, i, at, h) = (p, w, k, i, at, or_left _ _ h)

  second_is : IsThere two t → IsThere either t
  second_is (p, w, k, i, at, h) = (p, w, k, i, at, or_right _ _ h)

-- what no test finds
none_found : (A : Type 0) → (A → ⊥) → IsTrue false ↔ A
none_found A none = (λ f. absurd (cc), λ a. absurd (none a))

one_found : (A : Type 0) → A → IsTrue true ↔ A
one_found A a = (λ _. a, λ _. refl)

pub strays_are : (t : Node) → IsTrue (is_script t) → (b : Bool) → IsTrue b ↔ Passes (λ w i listed env. is_stray w i env) false [] 0 program_place t → IsTrue b ↔ HasStrays t
strays_are t script b is = (λ h. (script, λ neither. strays (is.0 h) neither), λ h. by b refl h.1)
  where
    -- whatever the tables, neither test asks them
    tables : List ScopeNames
    tables = []

    S : Test
    S = Sees tables t sought.SloppyFunction

    G : Test
    G = Sees tables t sought.GlobalValue

    strays : Passes (λ w i listed env. is_stray w i env) false [] 0 program_place t → HasNoSloppy t × DeclaresNoGlobalValue t → ⊥
    strays passes neither = ⊎_elim
        (λ a. let z = (no_sloppy_is tables t true (one_found _ ((there_is S t).1 a))).1 neither.0 in absurd (cc))
        (λ a. let z = (no_global_is tables t (script_opens t script) true script (one_found _ ((there_is G t).1 a))).1 neither.1 in absurd (cc))
        (either_is S G t ((there_is (either S G t) t).0 passes))

    by : (d : Bool) → b ≡ d → ¬ (HasNoSloppy t × DeclaresNoGlobalValue t) → IsTrue b
    by true e none = e
    by false e none = absurd (none (
      (no_sloppy_is tables t false (none_found _ (λ a. nothing e (first_is S G t ((there_is S t).0 a))))).0 refl,
      (no_global_is tables t (script_opens t script) false script (none_found _ (λ a. nothing e (second_is S G t ((there_is G t).0 a))))).0 refl,
    ))
      where
        nothing : b ≡ false → IsThere (either S G t) t → ⊥
        nothing e there = let z = sym (is.1 ((there_is (either S G t) t).1 there)) ∙ e in absurd (cc)
