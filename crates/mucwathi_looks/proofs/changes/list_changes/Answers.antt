use Rattle.std.proofs.Common.{subst, sym}
use Rattle.mucwathi_commands.specs.Faults.{IsRunFault}
use Rattle.mucwathi_commands.proofs.Rewritten.{unread}
use Rattle.mucwathi_looks.proofs.changes.list_changes.Goals as goal

pub changes_in-requires-clause-read : goal.changes_in-requires-clause-read
changes_in-requires-clause-read c = (c.in-Ok.ensures.tree, c.in-Ok.ensures.formed, c.in-Ok.ensures.pinned, c.in-Ok.ensures.clean)

pub changes_in-requires-clause-stands : goal.changes_in-requires-clause-stands
changes_in-requires-clause-stands c = c.in-Ok.ensures.spans

pub returns-in-Err : goal.returns-in-Err
returns-in-Err c = subst (IsRunFault c.args.order.now c.args.text.now) (sym c.of_text.ensures) (unread c.args.order.now c.args.text.now c.in-Err.fault c.in-Err.ensures.refusal)
