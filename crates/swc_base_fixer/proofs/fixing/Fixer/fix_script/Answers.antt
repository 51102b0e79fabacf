use Rattle.std.proofs.Common.{arith}
use Rattle.swc_base_fixer.proofs.Fixed.{script_answer, script_moves_for}
use Rattle.swc_base_fixer.proofs.Open.{statements_open}
use Rattle.swc_base_fixer.proofs.Programs.{script_bare}
use Rattle.swc_base_fixer.proofs.Promised.{script_promised}
use Rattle.swc_base_fixer.proofs.fixing.Fixer.fix_script.Goals as goal

pub returns-clause-promises : goal.returns-clause-promises
returns-clause-promises g c =
    script_promised c.replace-body.result c.args.program.now c.into_node.result c.in_ok-body.body c.from_node.result
    c.replace-body.ensures.value c.into_node.ensures.same c.into_node.ensures.fits c.from_node.ensures c.in_ok-body.ensures.answer

pub returns-clause-done : goal.returns-clause-done
returns-clause-done g c = record {
  answer = grind (arith, statements_open, script_answer, script_bare, script_moves_for);
  assignable = grind (arith, statements_open, script_answer, script_bare, script_moves_for);
  comments = grind (arith, statements_open, script_answer, script_bare, script_moves_for);
  table = grind (arith, statements_open, script_answer, script_bare, script_moves_for);
  promises =
      script_promised c.replace-body.result c.args.program.now c.into_node.result c.in_ok-body.body c.from_node.result
      c.replace-body.ensures.value c.into_node.ensures.same c.into_node.ensures.fits c.from_node.ensures c.in_ok-body.ensures.answer;
}
