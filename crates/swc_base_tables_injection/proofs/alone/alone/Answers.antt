use Rattle.swc_base_tables_injection.specs.Alone.{all_bodies}
use Rattle.swc_base_tables_injection.proofs.Strictness.{of_strictness}
use Rattle.swc_base_tables_injection.proofs.alone.alone.Goals as goal

pub returns-clause-strictness : goal.returns-clause-strictness
returns-clause-strictness c =
    of_strictness c.args.kind c.args.strict (all_bodies c.args.bodies) c.tree.result (rw (c.in_ok-stmts.ensures, c.in_ok-first.ensures) at c.tree.ensures)
