use Rattle.std.proofs.Common.{None, Some, subst}
use Rattle.std.proofs.lemmas.Result.{IfOk-weaker}
use Rattle.swc_base_covers.specs.Causes.{Decides, tree_causes}
use Rattle.swc_base_covers.specs.Covered.{Asks}
use Rattle.swc_base_covers.proofs.Decided.{opens, tree_first, tree_then}
use Rattle.swc_base_covers.proofs.causes.first_cause.Goals as goal

pub returns-in-Some : goal.returns-in-Some
returns-in-Some c = λ goal is fits.
    tree_first c.args.config.now c.args.program.now c.in-Some.cause (subst (Decides (Asks c.args.config.now c.args.program.now) tree_causes) c.in-Some.is (c.tree_cause.ensures goal fits))

pub returns-in-None : goal.returns-in-None
returns-in-None c = λ goal is fits.
    let asked = subst (Decides (Asks c.args.config.now c.args.program.now) tree_causes) c.in-None.is (c.tree_cause.ensures goal fits) in
    IfOk-weaker c.name_cause.result _ _ (λ o. tree_then c.args.config.now c.args.program.now o asked) (c.name_cause.ensures (opens goal c.args.program.now is fits) asked.1.0)
