use Rattle.swc_base_fixer_unparen.proofs.Fields.{assigned}
use Rattle.swc_base_fixer_unparen.proofs.stripping.assignment.Goals as goal

pub returns : goal.returns
returns c = assigned c.args.fields _ c.set.new.self c.replace-left.result _ c.requires c.replace-left.ensures.taken c.replace-left.ensures.list c.target.ensures c.set.ensures
