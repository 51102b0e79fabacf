use Rattle.jsbase_writer.proofs.Verdicts.{difference_written}
use Rattle.jsbase_writer.proofs.verdict.write_difference_object.Goals as goal

pub returns-clause-written : goal.returns-clause-written
returns-clause-written c =
    difference_written c.args.out.now.tokens _ _ _ _ _ _ _ _ _ _ c.args.after.now c.args.before.now c.args.why.now c.in_ok-begin_object.ensures.ok c.in_ok-key.ensures.ok c.in_ok-string.ensures.ok
    c.in_ok-key-2.ensures.ok c.in_ok-string-2.ensures.ok c.in_ok-key-3.ensures.ok c.in_ok-boolean.ensures.ok c.in_ok-key-4.ensures.ok c.in_ok-string-3.ensures.ok c.in_ok-end_object.ensures.ok
