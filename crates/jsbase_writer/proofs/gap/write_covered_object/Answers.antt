use Rattle.jsbase_writer.proofs.Gaps.{covered_written}
use Rattle.jsbase_writer.proofs.gap.write_covered_object.Goals as goal

pub returns-clause-written : goal.returns-clause-written
returns-clause-written c = covered_written c.args.out.now.tokens _ _ _ _ c.in_ok-begin_object.ensures.ok c.in_ok-key.ensures.ok c.in_ok-boolean.ensures.ok c.in_ok-end_object.ensures.ok
