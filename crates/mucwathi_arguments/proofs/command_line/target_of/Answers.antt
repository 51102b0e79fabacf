use Rattle.std.proofs.Common.{◌∙◌, codes, sym, None, Some}
use Rattle.mucwathi_arguments.proofs.Found.{is_value}
use Rattle.mucwathi_arguments.proofs.command_line.target_of.Goals as goal

pub returns-in-Some : goal.returns-in-Some
returns-in-Some c = (sym c.is_said.ensures ∙ c.if-is_said.false, is_value c.args.given.now (codes "out") c.get_str.result c.get_str.ensures (Some c.in-Some.folder) c.in-Some.is)

pub returns-in-None : goal.returns-in-None
returns-in-None c = (sym c.is_said.ensures ∙ c.if-is_said.false, is_value c.args.given.now (codes "out") c.get_str.result c.get_str.ensures None c.in-None.is)
