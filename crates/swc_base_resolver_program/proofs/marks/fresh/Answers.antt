use Rattle.std.proofs.Common.{◌≡◌, ap, Err}
use Rattle.swc_tree_marks.specs.declared.error.PassError.TheVariants as pass
use Rattle.swc_tree_marks.proofs.Tables.{Contains-le-greatest}
use Rattle.swc_base_resolver_program.proofs.Fresh.{spent_is}
use Rattle.swc_base_resolver_program.proofs.marks.fresh.Goals as goal

pub returns-in-Err-clause-spent : goal.returns-in-Err-clause-spent
returns-in-Err-clause-spent c = λ h.
    let same : c.from_fresh.result ≡ pass.MarksSpent = cc in
    Contains-le-greatest c.args.globals.now 4294967295 (c.in-Err.ensures.spent.0 (ap (λ e. Err e) (spent_is c.in-Err.error c.from_fresh.result c.in-Err.ensures.refusal c.from_fresh.ensures same)))
