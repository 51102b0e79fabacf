use Rattle.text_commented.proofs.Chosen.{none_nearest}
use Rattle.text_commented.proofs.choose.nearest.Goals as goal

pub returns-in-Some-Some : goal.returns-in-Some-Some
returns-in-Some-Some c = λ all are. c.nearer.ensures all (c.in-Some-Some.ensures all are) (c.in-Some-Some.ensures' all are)

pub returns-in-Some-None : goal.returns-in-Some-None
returns-in-Some-None c = λ all are. (c.in-Some-None.ensures all are, λ m begins. absurd (c.in-Some-None.ensures' all are m begins))

pub returns-in-None-Some : goal.returns-in-None-Some
returns-in-None-Some c = λ all are. (c.in-None-Some.ensures all are, λ m stops. absurd (c.in-None-Some.ensures-1 all are m stops))

pub returns-in-None-None : goal.returns-in-None-None
returns-in-None-None c = λ all are. none_nearest all c.args.comment (c.in-None-None.ensures-1 all are) (c.in-None-None.ensures all are)
