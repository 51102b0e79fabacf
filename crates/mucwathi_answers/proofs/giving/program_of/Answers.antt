use Rattle.std.proofs.Common.{IfErr, IfOk, subst, sym}
use Rattle.mucwathi_answers.specs.Given.{IsNoProgram, IsProgramOf}
use Rattle.mucwathi_answers.proofs.Given.{no_program, not_marked}
use Rattle.mucwathi_answers.proofs.giving.program_of.Goals as goal

pub returns-in-Marked-clause-program : goal.returns-in-Marked-clause-program
returns-in-Marked-clause-program c = subst (λ s. IfOk c.marked_program.result (IsProgramOf s c.args.goal c.args.text.now)) (sym c.in-Marked.is) c.marked_program.ensures.program

pub returns-in_default-clause-program : goal.returns-in_default-clause-program
returns-in_default-clause-program c = not_marked c.args.source c.args.goal c.args.text.now c.plain_program.result c.in_default.not-Marked c.plain_program.ensures.program

pub returns-in-Marked-clause-fault : goal.returns-in-Marked-clause-fault
returns-in-Marked-clause-fault c = subst (λ s. IfErr c.marked_program.result (IsNoProgram s c.args.text.now)) (sym c.in-Marked.is) c.marked_program.ensures.fault

pub returns-in_default-clause-fault : goal.returns-in_default-clause-fault
returns-in_default-clause-fault c = no_program c.args.source c.args.text.now c.plain_program.result c.in_default.not-Marked c.plain_program.ensures.fault
