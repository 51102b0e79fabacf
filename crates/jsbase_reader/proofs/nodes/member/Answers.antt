use Rattle.std.proofs.Common.{◌∙◌}
use Rattle.json.specs.Value.{value_view}
use Rattle.jsbase_reader.proofs.Members.{got}
use Rattle.jsbase_reader.proofs.nodes.member.Goals as goal

pub returns : goal.returns
returns c = c.get.ensures ∙ got c.args.key.now (value_view c.args.object.now)
