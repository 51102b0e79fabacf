use Rattle.mucwathi_answers.specs.Given.{IsOfTree}
use Rattle.mucwathi_answers.proofs.Given.{answer_none}
use Rattle.mucwathi_answers.proofs.giving.answer_tree_given.Goals as goal

pub answer_program-requires-clause-ready : goal.answer_program-requires-clause-ready
answer_program-requires-clause-ready c = c.in-Ok.ensures.ready

pub answer_program-requires-clause-read : goal.answer_program-requires-clause-read
answer_program-requires-clause-read c = c.in-Ok.ensures.read

pub tell_unread-requires : goal.tell_unread-requires
tell_unread-requires c = c.in-Err.ensures.fault

pub returns-in-Err : goal.returns-in-Err
returns-in-Err c = answer_none (IsOfTree c.args.task.now c.args.of) c.args.task.now c.args.of c.tell_unread.result c.tell_unread.ensures
