use Rattle.std.proofs.Common.{◌∙◌}
use Rattle.std.proofs.lemmas.Result.{IfOk-weaker}
use Rattle.swc_base_fixer_due.specs.Record.{place_in}
use Rattle.swc_base_fixer_due.proofs.Settled.{called, called_by_none, called_other}
use Rattle.swc_base_fixer_due.proofs.settle.+call_paired.Goals as goal

pub returns-in_ok-called-in-Some : goal.returns-in_ok-called-in-Some
returns-in_ok-called-in-Some t c =
    called (place_in c.args.recorded.now) c.args.node c.in-Tree.kind c.in-Tree.fields c.as_slice.result.now _ c.set.new.self c.in-Some.index c.replace-called.result _
    c.in-Tree.is c.as_slice.ensures c.in-Some.ensures.field c.replace-called.ensures.taken c.replace-called.ensures.list c.in_ok-called-in-Some.ensures c.set.ensures

pub returns-in-None : goal.returns-in-None
returns-in-None t c =
    IfOk-weaker c.pair.result _ _ (called_by_none (place_in c.args.recorded.now) c.args.node c.in-Tree.kind c.in-Tree.fields c.as_slice.result.now c.in-Tree.is c.as_slice.ensures c.in-None.ensures.field) c.pair.ensures

pub returns-in_default : goal.returns-in_default
returns-in_default t c =
    IfOk-weaker c.pair-in_default.result _ _ (λ u h. h ∙ called_other (place_in c.args.recorded.now) c.args.node c.in_default.not-Tree) c.pair-in_default.ensures
