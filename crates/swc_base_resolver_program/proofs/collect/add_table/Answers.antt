use Rattle.swc_base_resolver_program.proofs.Empties.{one_more_empty}
use Rattle.swc_base_resolver_program.proofs.collect.add_table.Goals as goal

pub returns-clause-alike : goal.returns-clause-alike
returns-clause-alike c = one_more_empty c.args.tables.now.items _ c.new.result c.in_ok-push.ensures.items c.new.ensures
