use Rattle.std.proofs.Common.{codes}
use Rattle.mucwathi_arguments.proofs.Found.{value_found}
use Rattle.mucwathi_arguments.proofs.command_line.looking.Goals as goal

pub returns : goal.returns
returns c = record { goal = c.goal_of.ensures; file = value_found c.args.given.now (codes "file") c.get_str.result c.get_str.ensures }
