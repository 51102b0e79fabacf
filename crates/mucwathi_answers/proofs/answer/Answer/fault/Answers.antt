use Rattle.std.proofs.Common.{sym, subst}
use Rattle.mucwathi_looks.specs.Reports.{IsFaultReport}
use Rattle.mucwathi_answers.proofs.answer.Answer.fault.Goals as goal

pub returns : goal.returns
returns c = record { status = cc; out = cc; told = subst (λ v. IsFaultReport c.args.of.name.now c.args.of.text.now c.args.fault.now v.items) (sym c.told.ensures.told) c.in_ok-told.ensures }
