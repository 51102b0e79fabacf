-- Tables that take no name.
use Rattle.std.proofs.Common.{◌≡◌, ℕ, zero, suc, List, [], ◌∷◌, ◌++◌, refl, ap, ◌∙◌}
use Rattle.swc_base_resolver_program.specs.declared.names.ScopeNames.{ScopeNames}
use Rattle.swc_base_resolver_program.specs.Names.{no_ways, ways_in, ways_of}
use Rattle.swc_base_resolver_program.specs.Walks.{TakeAlike}

alike_at : (ss : List ScopeNames) (s : ScopeNames) → ((x : List ℕ) → ways_of s x ≡ no_ways) → TakeAlike ss (ss ++ s ∷ [])
alike_at [] s h zero x = h x
alike_at [] s h (suc k) x = refl
alike_at (t ∷ ss) s h zero x = refl
alike_at (t ∷ ss) s h (suc k) x = alike_at ss s h k x

pub one_more_empty : (old new : List ScopeNames) (s : ScopeNames) → new ≡ old ++ s ∷ [] → ((x : List ℕ) → ways_of s x ≡ no_ways) → TakeAlike old new
one_more_empty old new s is h = λ k x. ap (λ l. ways_in l k x) is ∙ alike_at old s h k x
