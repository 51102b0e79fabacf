use Rattle.std.proofs.Common.{inr}
use Rattle.mucwathi_arguments.specs.declared.task.Source.TheVariants as source
use Rattle.mucwathi_answers.specs.Given.{IsOfTree, IsUnanswered}
use Rattle.mucwathi_answers.proofs.Given.{answer_fault, answer_well}
use Rattle.mucwathi_answers.proofs.giving.answer_program.Goals as goal

pub returns-in-Ok : goal.returns-in-Ok
returns-in-Ok c =
    answer_well (IsOfTree c.args.task.now c.args.of) (IsUnanswered source.Tree c.args.task.now c.args.of) c.of.result c.in-Ok.out.items (cc) c.of.ensures.status (record { program = c.args.program; read = c.requires.read; made = c.in-Ok.ensures })

pub returns-in-Err : goal.returns-in-Err
returns-in-Err c = answer_fault (IsOfTree c.args.task.now c.args.of) (IsUnanswered source.Tree c.args.task.now c.args.of) c.args.of c.in-Err.fault c.fault.result (λ a is. inr (c.in-Err.fault, (c.args.program, c.requires.read, c.in-Err.ensures), is)) c.fault.ensures
