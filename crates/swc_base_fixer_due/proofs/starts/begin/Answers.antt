use Rattle.swc_base_fixer_due.specs.Record.{place_in}
use Rattle.swc_base_fixer_due.proofs.Beginnings.{begun_back}
use Rattle.swc_base_fixer_due.proofs.starts.begin.Goals as goal

pub returns-in_ok-expr : goal.returns-in_ok-expr
returns-in_ok-expr c =
    begun_back (place_in c.args.recorded.now) c.args.kind c.args.fields.now c.as_slice.result.now _ c.set.new.self c.in-Some.index c.in-Some.beginning c.replace-expr.result _
    c.as_slice.ensures c.in-Some.ensures.place c.replace-expr.ensures.taken c.replace-expr.ensures.list c.in_ok-expr.ensures c.set.ensures
