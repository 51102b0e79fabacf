use Rattle.std.proofs.Common.{◌∙◌}
use Rattle.std.proofs.lemmas.Result.{IfOk-weaker}
use Rattle.swc_base_fixer_due.specs.Record.{place_in}
use Rattle.swc_base_fixer_due.proofs.Begin.{leading, leading_by_none, leading_item, leading_other}
use Rattle.swc_base_fixer_due.proofs.starts.+first_paired.Goals as goal

pub returns-in_default : goal.returns-in_default
returns-in_default t c =
    IfOk-weaker c.pair-in_default.result _ _ (λ u h. h ∙ leading_other (place_in c.args.recorded.now) c.args.expr c.in_default.not-Tree c.in_default.not-List) c.pair-in_default.ensures

pub returns-in_ok-first-in-List : goal.returns-in_ok-first-in-List
returns-in_ok-first-in-List t c =
    leading_item (place_in c.args.recorded.now) c.args.expr c.in-List.exprs _ c.set.new.self c.replace-first.result _
    c.in-List.is c.replace-first.ensures.taken c.replace-first.ensures.list c.in_ok-first-in-List.ensures c.set.ensures

pub returns-in_ok-first-in-Some : goal.returns-in_ok-first-in-Some
returns-in_ok-first-in-Some t c =
    let p = place_in c.args.recorded.now in
    leading p c.args.expr c.in-Tree.kind c.in-Tree.fields c.as_slice.result.now _ c.set-in-Some.new.self c.in-Some.index c.replace-first-in-Some.result _
    c.in-Tree.is c.as_slice.ensures (c.in-Some.ensures.field p) c.replace-first-in-Some.ensures.taken c.replace-first-in-Some.ensures.list c.in_ok-first-in-Some.ensures c.set-in-Some.ensures

pub returns-in-None : goal.returns-in-None
returns-in-None t c =
    let p = place_in c.args.recorded.now in
    IfOk-weaker c.pair-in-None.result _ _ (leading_by_none p c.args.expr c.in-Tree.kind c.in-Tree.fields c.as_slice.result.now c.in-Tree.is c.as_slice.ensures (c.in-None.ensures.field p)) c.pair-in-None.ensures
