use Rattle.std.proofs.Common.{refl}
use Rattle.mucwathi_looks.proofs.Ready.{given_ready}
use Rattle.mucwathi_answers.proofs.giving.marked_program.Goals as goal

pub returns-clause-program : goal.returns-clause-program
returns-clause-program c = (c.in_ok-marked.marked, c.in_ok-marked.ensures, refl)

pub returns-clause-ready : goal.returns-clause-ready
returns-clause-ready c = given_ready c.args.goal c.args.text.now c.in_ok-marked.marked c.in_ok-marked.ensures
