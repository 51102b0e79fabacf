use Rattle.std.proofs.Common.{false, length, take}
use Rattle.swc_tree_scoping.specs.Folds.{each_in}
use Rattle.swc_tree_scoping.specs.Below.{places_of, view_of}
use Rattle.swc_tree_scoping.specs.Scopes.{scope_count, total}
use Rattle.swc_base_resolver_program.specs.Walks.{sees}
use Rattle.swc_base_early_errors.specs.Claims.{ClaimsBelow, Walked}
use Rattle.swc_base_early_errors.proofs.walk.+claim.Given as goal

-- nothing clashes in the children before, and their claims are noted
abbrev pub invariant-claim_below-loop-i : goal.invariant-claim_below-loop-i
invariant-claim_below-loop-i l = record {
  walked : Walked false l.initial.tables.items l.tables.items (total (each_in scope_count (places_of l.places l.nodes) (take l.i l.nodes)))
      (ClaimsBelow l.rule (λ i. sees l.views (view_of l.places i)) (length l.initial.tables.items) (places_of l.places l.nodes) l.nodes l.i);
}
