use Rattle.text_checks.proofs.Node.{is_derived_so, is_worded_so, is_writable_so}
use Rattle.text_checks.proofs.keeps.keeps_all_rules.Goals as goal

pub returns-clause-derived : goal.returns-clause-derived
returns-clause-derived c held = is_derived_so c.of_program.result c.args.tree.now c.of_program.ensures (c.is_as_asked.ensures held)

pub returns-clause-worded : goal.returns-clause-worded
returns-clause-worded c held = is_worded_so c.of_program.result c.args.tree.now c.of_program.ensures (c.is_as_asked.ensures held)

pub returns-clause-writable : goal.returns-clause-writable
returns-clause-writable c held = is_writable_so c.of_program.result c.args.tree.now c.of_program.ensures (c.is_as_asked.ensures held)
