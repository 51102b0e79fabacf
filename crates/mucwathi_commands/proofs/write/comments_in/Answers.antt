use Rattle.std.proofs.Common.{subst}
use Rattle.text_comments.specs.Comments.{HasComments}
use Rattle.text_pieces.specs.Pieces.{pieces}
use Rattle.mucwathi_commands.proofs.write.comments_in.Goals as goal

pub returns-in-Ok : goal.returns-in-Ok
returns-in-Ok c = subst (λ comments. HasComments comments (pieces c.args.source.now) c.args.text.now c.in-Ok.found.items) c.comments_of.ensures c.in-Ok.ensures
