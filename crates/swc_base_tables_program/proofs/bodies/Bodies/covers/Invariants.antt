use Rattle.std.proofs.Common.{filter, take, IsSome}
use Rattle.std.specs.List.{All}
use Rattle.swc_base_tables_program.specs.Given.{body_of, is_in}
use Rattle.swc_base_tables_program.proofs.bodies.Bodies.covers.Given as goal

abbrev pub invariant-loop-helper : goal.invariant-loop-helper
invariant-loop-helper l = All (λ helper. IsSome (body_of l.self helper)) (filter (is_in l.helpers.enabled) (take l.helper-index l.helper-items))
