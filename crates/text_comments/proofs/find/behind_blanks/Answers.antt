use Rattle.std.proofs.Common.{ap}
use Rattle.text_comments.specs.Comments.{next_of}
use Rattle.text_comments.proofs.find.behind_blanks.Goals as goal

pub returns-in-Some : goal.returns-in-Some
returns-in-Some c = ap (next_of c.args.text.now) c.in-Some.ensures.value

pub returns-in-None : goal.returns-in-None
returns-in-None c = ap (next_of c.args.text.now) c.in-None.ensures.value
