use Rattle.std.proofs.Common.{MatchResult, subst}
use Rattle.std.proofs.lemmas.Result.{MatchResult-weaker}
use Rattle.mucwathi_commands.specs.Faults.{IsWriteFault}
use Rattle.mucwathi_looks.specs.Answered.{IsPrinted}
use Rattle.mucwathi_answers.proofs.Given.{no_text}
use Rattle.mucwathi_answers.proofs.giving.text_of_tree.Goals as goal

pub returns-in-Ok : goal.returns-in-Ok
returns-in-Ok c =
    let tree = c.in-Ok.made.tree in
    MatchResult-weaker c.print_given.result (subst (λ g. MatchResult c.print_given.result (λ out. IsPrinted g tree out.items) IsWriteFault) c.goal_of_program-goal.ensures c.print_given.ensures)
    (λ out h. record { made = c.in-Ok.made; is_made = c.in-Ok.ensures; printed = h }) (no_text c.args.task.now c.args.program c.in-Ok.made c.in-Ok.ensures)
