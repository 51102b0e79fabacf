use Rattle.std.proofs.Common.{◌∙◌}
use Rattle.mucwathi_arguments.proofs.Found.{said_none, said_some}
use Rattle.mucwathi_arguments.proofs.command_line.is_said.Goals as goal

pub returns-in-Some : goal.returns-in-Some
returns-in-Some c = c.eq.ensures ∙ said_some c.args.given.now c.args.name.now c.get_str.result c.get_str.ensures c.in-Some.word c.in-Some.is

pub returns-in-None : goal.returns-in-None
returns-in-None c = said_none c.args.given.now c.args.name.now c.get_str.result c.get_str.ensures c.in-None.is
