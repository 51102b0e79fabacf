use Rattle.std.proofs.Common.{sym, subst}
use Rattle.mucwathi_looks.specs.Reports.{IsJudgeFaultReport}
use Rattle.mucwathi_answers.proofs.judging.unjudged.Goals as goal

pub returns : goal.returns
returns c = record { status = cc; out = cc; told = subst (λ v. IsJudgeFaultReport c.args.before c.args.after c.args.fault.now v.items) (sym c.told.ensures.told) c.in_ok-told.ensures }
