use Rattle.jsbase_writer.proofs.Tokens.{pair_written}
use Rattle.jsbase_writer.proofs.numbers.write_pair.Goals as goal

pub returns-clause-written : goal.returns-clause-written
returns-clause-written c =
    pair_written c.args.out.now.tokens _ _ _ _ c.args.first _ c.args.second _ c.in_ok-begin_array.ensures.ok c.in_ok-u64.ensures.ok c.from.ensures c.in_ok-u64-2.ensures.ok c.from-2.ensures
    c.in_ok-end_array.ensures.ok
