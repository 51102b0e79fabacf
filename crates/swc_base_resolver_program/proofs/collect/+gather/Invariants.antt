use Rattle.std.proofs.Common.{◌≡◌, ◌+◌, length, take}
use Rattle.swc_tree_scoping.specs.Folds.{each_in}
use Rattle.swc_tree_scoping.specs.Below.{places_of, view_of}
use Rattle.swc_tree_scoping.specs.Scopes.{scope_count, total}
use Rattle.swc_base_resolver_program.specs.Walks.{Gains, ReachesBelow, sees}
use Rattle.swc_base_resolver_program.proofs.collect.+gather.Given as goal

abbrev pub invariant-gather_children-loop-i : goal.invariant-gather_children-loop-i
invariant-gather_children-loop-i l = record {
  size : length l.tables.items ≡ length l.initial.tables.items + total (each_in scope_count (places_of l.places l.nodes) (take l.i l.nodes));
  tables : Gains l.initial.tables.items l.tables.items (ReachesBelow l.stage (λ i. sees l.views (view_of l.places i)) (length l.initial.tables.items) (places_of l.places l.nodes) l.nodes l.i);
}
