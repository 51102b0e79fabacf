use Rattle.std.proofs.Common.{sym, subst}
use Rattle.swc_base_early_errors.specs.Errors.{IsFirst}
use Rattle.swc_base_covers.specs.Causes.{Decides}
use Rattle.swc_base_covers.specs.Covered.{Asks, causes}
use Rattle.swc_base_covers.proofs.Decided.{told_covered, uncovered}
use Rattle.swc_base_covers.proofs.covering.covers.Goals as goal

pub returns-in-None-clause-told : goal.returns-in-None-clause-told
returns-in-None-clause-told c = λ place is fits.
    told_covered c.args.config.now c.args.program.now (subst (Decides (Asks c.args.config.now c.args.program.now) causes) c.in-None.is (c.in_ok-found.ensures place is fits))

pub returns-in_ok-gap_of-in-Some-clause-told : goal.returns-in_ok-gap_of-in-Some-clause-told
returns-in_ok-gap_of-in-Some-clause-told c = λ place is fits.
    let first : IsFirst (Asks c.args.config.now c.args.program.now) causes c.in-Some.cause
    = subst (Decides (Asks c.args.config.now c.args.program.now) causes) c.in-Some.is (c.in_ok-found.ensures place is fits) in
    (uncovered c.args.config.now c.args.program.now c.in-Some.cause first, subst (IsFirst (Asks c.args.config.now c.args.program.now) causes) (sym c.in_ok-gap_of-in-Some.ensures.cause) first)
