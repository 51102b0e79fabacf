use Rattle.swc_base_fixer_due.specs.Record.{place_in}
use Rattle.swc_base_fixer_due.proofs.Rows.{sequence_odd}
use Rattle.swc_base_fixer_due.proofs.levels.sequence.Goals as goal

pub returns : goal.returns
returns c = sequence_odd (place_in c.args.recorded.now) c.args.fields _ c.set.new.self c.replace-exprs.result _ c.requires c.replace-exprs.ensures.taken c.replace-exprs.ensures.list c.in_ok-exprs.ensures c.set.ensures
