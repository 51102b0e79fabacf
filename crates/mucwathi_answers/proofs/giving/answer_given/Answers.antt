use Rattle.std.proofs.Common.{IfOk, subst, sym}
use Rattle.mucwathi_answers.specs.Given.{IsAnswerOf, IsOf, IsUnanswered}
use Rattle.mucwathi_answers.proofs.Given.{of_text}
use Rattle.mucwathi_answers.proofs.giving.answer_given.Goals as goal

pub returns-in-Tree : goal.returns-in-Tree
returns-in-Tree c = subst (λ s. IfOk c.answer_tree_given.result (IsAnswerOf (IsOf s c.args.task.now c.args.of) (IsUnanswered s c.args.task.now c.args.of))) (sym c.in-Tree.is) c.answer_tree_given.ensures

pub returns-in_default : goal.returns-in_default
returns-in_default c = of_text c.args.task.now.form.source c.args.task.now c.args.of c.answer_text_given.result c.in_default.not-Tree c.answer_text_given.ensures
