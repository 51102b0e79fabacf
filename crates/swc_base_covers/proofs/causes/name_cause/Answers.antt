use Rattle.std.proofs.Common.{Some, sym, subst}
use Rattle.swc_base_early_errors.specs.Errors.{TellsOfScripts}
use Rattle.swc_base_covers.specs.declared.gap.Cause.{Cause}
use Rattle.swc_base_covers.specs.Causes.{DecidesNames}
use Rattle.swc_base_covers.proofs.Decided.{script_told}
use Rattle.swc_base_covers.proofs.causes.name_cause.Goals as goal

pub returns-in-Some : goal.returns-in-Some
returns-in-Some c = λ opens clean.
    subst (λ (x : Cause). DecidesNames c.args.program.now (Some x)) (sym c.cause_of_scripts.ensures)
    (script_told c.args.program.now c.in-Some.fault (subst (TellsOfScripts c.args.program.now) c.in-Some.is (c.in_ok-found.ensures opens clean)))

pub returns-in-None : goal.returns-in-None
returns-in-None c = λ opens clean. c.error_cause.ensures opens clean (subst (TellsOfScripts c.args.program.now) c.in-None.is (c.in_ok-found.ensures opens clean))
