use Rattle.std.proofs.lemmas.Result.{IfOk-weaker}
use Rattle.swc_base_rename_substitution.proofs.Parts.{pattern_done}
use Rattle.swc_base_rename_substitution.proofs.written_out.pattern_property.Goals as goal

pub returns : goal.returns
returns c =
    IfOk-weaker c.tree.result _ _ (pattern_done c.args.old c.args.fields c.replace-target.new.self c.replace-value.new.self c.set.new.self _ _ c.replace-target.result c.replace-value.result c.in_ok-target.target c.replace-target-2.result c.in_ok-key.key
    c.requires c.replace-target.ensures.taken c.replace-target.ensures.list c.replace-value.ensures.taken c.replace-value.ensures.list c.in_ok-target.ensures c.set.ensures c.replace-target-2.ensures.taken c.in_ok-key.ensures) c.tree.ensures
