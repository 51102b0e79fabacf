use Rattle.swc_base_fixer_due.proofs.Settled.{keyed}
use Rattle.swc_base_fixer_due.specs.Record.{place_in}
use Rattle.swc_base_fixer_due.proofs.settle.computed_key.Goals as goal

pub returns : goal.returns
returns c = keyed (place_in c.args.recorded.now) c.args.fields _ c.set.new.self c.replace-expr.result _ c.requires c.replace-expr.ensures.taken c.replace-expr.ensures.list c.in_ok-expr.ensures c.set.ensures
