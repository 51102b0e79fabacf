use Rattle.std.proofs.Common.{◌≡◌, map, take}
use Rattle.swc_base_tables_program.specs.Given.{body_of, body_or_none}
use Rattle.swc_base_tables_program.proofs.Steps.{HaveYet}
use Rattle.swc_base_tables_program.proofs.inject.bodies_of.Given as goal

abbrev pub invariant-loop-helper : goal.invariant-loop-helper
invariant-loop-helper l = record {
  done : l.list ≡ map (body_or_none l.fn.bodies) (take l.helper-index l.helper-items);
  rest : HaveYet (body_of l.bodies) (body_of l.fn.bodies) l.helper-items l.helper-index;
}
