use Rattle.std.proofs.Common.{subst, sym}
use Rattle.mucwathi_commands.specs.Faults.{IsRunFault}
use Rattle.mucwathi_commands.proofs.Rewritten.{unread}
use Rattle.mucwathi_commands.proofs.rewrite.rewrite_with_comments.Goals as goal

pub rewrite_source-requires : goal.rewrite_source-requires
rewrite_source-requires c = record { read = (c.in-Ok.ensures.tree, c.in-Ok.ensures.formed, c.in-Ok.ensures.pinned, c.in-Ok.ensures.clean) }

pub returns-in-Err : goal.returns-in-Err
returns-in-Err c = subst (IsRunFault c.args.order.now c.args.text.now) (sym c.of_text.ensures) (unread c.args.order.now c.args.text.now c.in-Err.fault c.in-Err.ensures.refusal)
