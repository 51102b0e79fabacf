use Rattle.swc_base_tables.proofs.Fit.{held_as}
use Rattle.swc_base_tables.proofs.inject.given.Goals as goal

-- src/inject.rt
pub returns-in_err-answer-clause-marks : goal.returns-in_err-answer-clause-marks
returns-in_err-answer-clause-marks c =
    let gained = c.inject_helpers.ensures.table in
    held_as c.args.globals.now c.inject_helpers.new.globals c.from_data-helpers.result.mark gained.0 gained.2

pub returns-clause-marks : goal.returns-clause-marks
returns-clause-marks c =
    let gained = c.inject_helpers.ensures.table in
    held_as c.args.globals.now c.inject_helpers.new.globals c.from_data-helpers.result.mark gained.0 gained.2
