use Rattle.std.proofs.Common.{◌≡◌, ◌+◌, take}
use Rattle.swc_tree_scoping.specs.Folds.{each_in}
use Rattle.swc_tree_scoping.specs.Below.{places_of, view_of}
use Rattle.swc_tree_scoping.specs.Scopes.{scope_count, total}
use Rattle.swc_base_resolver_program.specs.Walks.{sees}
use Rattle.swc_base_scope_checks.specs.Asked.{PassesBelow, listed_at}
use Rattle.swc_base_scope_checks.proofs.walk.+seek.Given as goal

-- none of those before is one that is looked for
abbrev pub invariant-seek_below-loop-i : goal.invariant-seek_below-loop-i
invariant-seek_below-loop-i g l = record {
  next : l.next ≡ l.initial.next + total (each_in scope_count (places_of l.places l.nodes) (take l.i l.nodes));
  none : PassesBelow (g.Q.Question.is_sought l.question) (λ i. listed_at l.lists i) (λ i. sees l.views (view_of l.places i)) l.initial.next (places_of l.places l.nodes) l.nodes l.i → ⊥;
}
