use Rattle.std.proofs.Common.{◌≡◌, ◌∷◌}
use Rattle.swc_base_tables_injection.specs.Alone.{all_bodies}
use Rattle.swc_base_tables_injection.proofs.alone.with_bodies.Given as goal

abbrev pub invariant-loop-body : goal.invariant-loop-body
invariant-loop-body l = l.stmts ≡ l.fn.first ∷ all_bodies l.yielded
