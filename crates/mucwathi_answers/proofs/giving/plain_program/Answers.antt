use Rattle.std.proofs.lemmas.Result.{IfOk-weaker}
use Rattle.mucwathi_given.specs.Given.{IsReady}
use Rattle.mucwathi_looks.specs.Given.{IsUnmarked}
use Rattle.mucwathi_looks.specs.Refused.{IsUnread}
use Rattle.mucwathi_looks.proofs.Ready.{unmarked_ready}
use Rattle.mucwathi_answers.proofs.Given.{other_end, well_end}
use Rattle.mucwathi_answers.proofs.giving.plain_program.Goals as goal

pub returns-clause-program : goal.returns-clause-program
returns-clause-program c = well_end (IsUnmarked c.args.goal c.args.text.now) (IsUnread c.args.text.now) c.give_text.result c.give_text.ensures

pub returns-clause-ready : goal.returns-clause-ready
returns-clause-ready c = IfOk-weaker c.give_text.result (IsUnmarked c.args.goal c.args.text.now) IsReady (λ e h. unmarked_ready c.args.goal c.args.text.now e h) (returns-clause-program c)

pub returns-clause-fault : goal.returns-clause-fault
returns-clause-fault c = other_end (IsUnmarked c.args.goal c.args.text.now) (IsUnread c.args.text.now) c.give_text.result c.give_text.ensures
