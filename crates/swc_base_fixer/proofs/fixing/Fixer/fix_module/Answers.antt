use Rattle.std.proofs.Common.{arith}
use Rattle.swc_base_fixer.proofs.Fixed.{module_answer, module_moves_for}
use Rattle.swc_base_fixer.proofs.Open.{items_open}
use Rattle.swc_base_fixer.proofs.Programs.{module_bare}
use Rattle.swc_base_fixer.proofs.Promised.{module_promised}
use Rattle.swc_base_fixer.proofs.fixing.Fixer.fix_module.Goals as goal

pub returns-clause-promises : goal.returns-clause-promises
returns-clause-promises g c =
    module_promised c.replace-body.result c.args.program.now c.into_node.result c.in_ok-body.body c.from_node.result
    c.replace-body.ensures.value c.into_node.ensures.same c.into_node.ensures.fits c.from_node.ensures c.in_ok-body.ensures.answer

pub returns-clause-done : goal.returns-clause-done
returns-clause-done g c = record {
  answer = grind (arith, items_open, module_answer, module_bare, module_moves_for);
  assignable = grind (arith, items_open, module_answer, module_bare, module_moves_for);
  comments = grind (arith, items_open, module_answer, module_bare, module_moves_for);
  table = grind (arith, items_open, module_answer, module_bare, module_moves_for);
  promises =
      module_promised c.replace-body.result c.args.program.now c.into_node.result c.in_ok-body.body c.from_node.result
      c.replace-body.ensures.value c.into_node.ensures.same c.into_node.ensures.fits c.from_node.ensures c.in_ok-body.ensures.answer;
}
