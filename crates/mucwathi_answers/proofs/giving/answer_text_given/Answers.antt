use Rattle.mucwathi_answers.specs.Given.{HasFault, IsOfText, IsTextFault}
use Rattle.mucwathi_answers.proofs.Given.{answer_fault, answer_well}
use Rattle.mucwathi_answers.proofs.giving.answer_text_given.Goals as goal

pub returns-in-Ok : goal.returns-in-Ok
returns-in-Ok c = answer_well (IsOfText c.args.task.now c.args.of) (HasFault (IsTextFault c.args.task.now c.args.of) c.args.of) c.of.result c.in-Ok.out.items (cc) c.of.ensures.status c.in-Ok.ensures

pub returns-in-Err : goal.returns-in-Err
returns-in-Err c = answer_fault (IsOfText c.args.task.now c.args.of) (HasFault (IsTextFault c.args.task.now c.args.of) c.args.of) c.args.of c.in-Err.fault c.fault.result (λ a is. (c.in-Err.fault, c.in-Err.ensures, is)) c.fault.ensures
