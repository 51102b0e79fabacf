use Rattle.swc_base_fixer_due.specs.Record.{place_in}
use Rattle.swc_base_fixer_due.proofs.Rows.{statement_odd}
use Rattle.swc_base_fixer_due.proofs.levels.statement.Goals as goal

pub returns : goal.returns
returns c = λ b. statement_odd (place_in c.args.recorded.now) b c.args.kind c.args.fields.now _ c.set.new.self c.replace-expr.result _ c.requires c.replace-expr.ensures.taken c.replace-expr.ensures.list c.in_ok-expr.ensures c.set.ensures
