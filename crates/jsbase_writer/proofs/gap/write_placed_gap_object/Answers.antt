use Rattle.jsbase_writer.proofs.Gaps.{placed_gap_written}
use Rattle.jsbase_writer.proofs.gap.write_placed_gap_object.Goals as goal

pub returns-clause-written : goal.returns-clause-written
returns-clause-written c =
    placed_gap_written c.args.out.now.tokens _ _ _ _ _ _ _ _ c.args.word.now c.args.path.now c.in_ok-begin_object.ensures.ok c.in_ok-key.ensures.ok c.in_ok-boolean.ensures.ok c.in_ok-key-2.ensures.ok c.in_ok-string.ensures.ok
    c.in_ok-key-3.ensures.ok c.in_ok-string-2.ensures.ok c.in_ok-end_object.ensures.ok
