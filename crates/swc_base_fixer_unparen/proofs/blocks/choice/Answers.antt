use Rattle.swc_base_fixer_unparen.proofs.Fields.{branched}
use Rattle.swc_base_fixer_unparen.proofs.blocks.choice.Goals as goal

pub returns : goal.returns
returns c = branched c.args.fields.now _ c.set.new.self c.replace-statement.result _ c.requires c.replace-statement.ensures.taken c.replace-statement.ensures.list c.in_ok-statement.ensures c.set.ensures
