use Rattle.std.proofs.Common.{subst, sym}
use Rattle.mucwathi_looks.specs.Refused.{IsUnread}
use Rattle.mucwathi_looks.proofs.Unread.{unread}
use Rattle.mucwathi_looks.proofs.given.read.Goals as goal

pub returns-in-Ok : goal.returns-in-Ok
returns-in-Ok c = (c.in-Ok.ensures.tree, c.in-Ok.ensures.formed, c.in-Ok.ensures.pinned, c.in-Ok.ensures.clean)

pub returns-in-Err : goal.returns-in-Err
returns-in-Err c = subst (IsUnread c.args.text.now) (sym c.of_text.ensures) (unread c.args.text.now c.in-Err.fault c.in-Err.ensures.refusal)
