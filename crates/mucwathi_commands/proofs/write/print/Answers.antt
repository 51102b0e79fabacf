use Rattle.std.proofs.Common.{false, subst}
use Rattle.text_follow.specs.Follows.{Follows}
use Rattle.text_pieces.specs.Pieces.{pieces}
use Rattle.mucwathi_commands.proofs.write.print.Goals as goal

pub returns-in-Ok-clause-written : goal.returns-in-Ok-clause-written
returns-in-Ok-clause-written c = subst (λ comments. Follows comments false (pieces c.args.answer.now) c.in-Ok.text.items) c.comments_of.ensures c.in-Ok.ensures
