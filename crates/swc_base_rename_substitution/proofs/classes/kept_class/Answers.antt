use Rattle.std.proofs.Common.{arith}
use Rattle.std.proofs.lemmas.Result.{IfOk-weaker}
use Rattle.swc_base_rename_substitution.proofs.Parts.{class_kept}
use Rattle.swc_base_rename_substitution.proofs.classes.kept_class.Goals as goal

pub returns-in-Some : goal.returns-in-Some
returns-in-Some c =
    IfOk-weaker c.let_if.result _ _ (class_kept c.args.old c.in-Some.old c.args.fields c.replace-name.new.self _ c.replace-name.result c.replace-class.result
    c.in-Some.is (omega arith) c.replace-name.ensures.taken c.replace-name.ensures.list c.replace-class.ensures.taken) c.let_if.ensures
