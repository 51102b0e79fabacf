use Rattle.std.proofs.Common.{ap, codes, not, refl}
use Rattle.mucwathi_arguments.proofs.Found.{found_or}
use Rattle.mucwathi_arguments.proofs.command_line.judging.Goals as goal

pub returns : goal.returns
returns c = record {
  goal = c.goal_of.ensures;
  keep_top = c.is_said-keep_top.ensures;
  spelling = ap not c.is_said-any.ensures;
  before = found_or c.args.given.now (codes "before") c.get_str.result _ c.unwrap_or-before.result c.get_str.ensures refl c.unwrap_or-before.ensures;
  after = found_or c.args.given.now (codes "after") c.get_str-2.result _ c.unwrap_or-after.result c.get_str-2.ensures refl c.unwrap_or-after.ensures;
}
