use Rattle.std.proofs.Common.{inl, inr, subst, sym}
use Rattle.std.proofs.lemmas.Result.{MatchResult-weaker}
use Rattle.mucwathi_commands.specs.Faults.{IsRunFault}
use Rattle.mucwathi_looks.specs.Changes.{HasChanges}
use Rattle.mucwathi_looks.specs.Unshown.{chain_order}
use Rattle.mucwathi_looks.proofs.show.show_text.Goals as goal

pub returns-in-Ok : goal.returns-in-Ok
returns-in-Ok c =
    let told = subst (λ order. HasChanges order c.args.text.now c.in-Ok.changes.items) c.chain_of-order.ensures c.in-Ok.ensures in
    MatchResult-weaker c.show.result c.show.ensures
    (λ out h. record { changes = c.as_slice.result.now; renamed = subst (HasChanges (chain_order c.args.goal c.args.depth) c.args.text.now) (sym c.as_slice.ensures.value) told; shown = h }) (λ f h. inr h)

pub returns-in-Err : goal.returns-in-Err
returns-in-Err c = inl (subst (λ order. IsRunFault order c.args.text.now c.in-Err.fault) c.chain_of-order.ensures c.in-Err.ensures)
