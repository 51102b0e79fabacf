use Rattle.mucwathi_answers.proofs.Looked.{fault_looked, shown_well}
use Rattle.mucwathi_answers.proofs.looking.answer_looking.Goals as goal

pub returns-in-Ok : goal.returns-in-Ok
returns-in-Ok c = shown_well c.args.view c.args.goal c.args.of c.of.result c.in-Ok.out.items (cc) c.of.ensures.status c.in-Ok.ensures

pub returns-in-Err : goal.returns-in-Err
returns-in-Err c = fault_looked c.args.view c.args.goal c.args.of c.in-Err.fault c.fault.result c.in-Err.ensures c.fault.ensures
