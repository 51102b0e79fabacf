use Rattle.std.proofs.Common.{Some, sym, subst}
use Rattle.swc_base_early_errors.specs.Errors.{TellsOfNames}
use Rattle.swc_base_covers.specs.declared.gap.Cause.{Cause}
use Rattle.swc_base_covers.specs.Causes.{DecidesNames}
use Rattle.swc_base_covers.proofs.Decided.{name_told, none_told}
use Rattle.swc_base_covers.proofs.causes.error_cause.Goals as goal

pub returns-in-Some : goal.returns-in-Some
returns-in-Some c = λ opens clean plain.
    subst (λ (x : Cause). DecidesNames c.args.program.now (Some x)) (sym c.cause_of_names.ensures)
    (name_told c.args.program.now c.in-Some.error plain (subst (TellsOfNames c.args.program.now) c.in-Some.is (c.in_ok-found.ensures opens clean plain)))

pub returns-in-None : goal.returns-in-None
returns-in-None c = λ opens clean plain. none_told c.args.program.now plain (subst (TellsOfNames c.args.program.now) c.in-None.is (c.in_ok-found.ensures opens clean plain))
