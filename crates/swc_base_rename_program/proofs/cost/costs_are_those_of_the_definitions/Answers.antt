use Rattle.swc_base_rename_program.proofs.Costs.{costs_are}
use Rattle.swc_base_rename_program.proofs.cost.costs_are_those_of_the_definitions.Goals as goal

pub returns : goal.returns
returns c = costs_are
