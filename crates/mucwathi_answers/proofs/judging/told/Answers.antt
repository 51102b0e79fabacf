use Rattle.std.proofs.Common.{IfOk, subst, sym}
use Rattle.mucwathi_answers.specs.Answers.{SaysVerdict}
use Rattle.mucwathi_answers.proofs.judging.told.Goals as goal

pub returns-in-None : goal.returns-in-None
returns-in-None c = subst (λ s. IfOk c.same.result (SaysVerdict c.args.before c.args.after s)) (sym c.in-None.is) c.same.ensures

pub returns-in-Some : goal.returns-in-Some
returns-in-Some c = subst (λ s. IfOk c.differing.result (SaysVerdict c.args.before c.args.after s)) (sym c.in-Some.is) c.differing.ensures
