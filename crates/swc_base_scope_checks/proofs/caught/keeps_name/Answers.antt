use Rattle.swc_base_scope_checks.proofs.Barriers.{none_kept}
use Rattle.swc_base_scope_checks.proofs.caught.keeps_name.Goals as goal

pub returns : goal.returns
returns c = λ opens. none_kept c.args.program.now opens c.args.tables.now c.requires.names (record { functions = c.args.functions; barrier = c.args.barrier; bound = c.new.result }) c.new.ensures c.has_identifier.result c.has_identifier.ensures
