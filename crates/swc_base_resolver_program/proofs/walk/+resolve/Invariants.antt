use Rattle.std.proofs.Common.{◌≡◌, ◌+◌, ◌++◌, take, drop, length}
use Rattle.swc_tree_scoping.specs.Folds.{each_in}
use Rattle.swc_tree_scoping.specs.Below.{places_of, view_of}
use Rattle.swc_tree_scoping.specs.Scopes.{scope_count, total}
use Rattle.swc_base_resolver_program.specs.Walks.{exports_at, marking_in, sees, walked}
use Rattle.swc_base_resolver_program.proofs.walk.+resolve.Given as goal

abbrev pub invariant-resolve_children-loop-i : goal.invariant-resolve_children-loop-i
invariant-resolve_children-loop-i l = record {
  size : length l.nodes ≡ length l.initial.nodes;
  done : l.nodes ≡ walked (marking_in l.answers) (λ i. exports_at l.exports i) (λ i. sees l.views (view_of l.places i)) l.initial.next (places_of l.places l.initial.nodes) (take l.i l.initial.nodes) ++ drop l.i l.initial.nodes;
  count : l.next ≡ l.initial.next + total (each_in scope_count (places_of l.places l.initial.nodes) (take l.i l.initial.nodes));
}
