use Rattle.std.proofs.lemmas.Result.{IfOk-weaker}
use Rattle.std.proofs.Common.{subst}
use Rattle.mucwathi_order.specs.declared.fault.RunFault.TheVariants as running
use Rattle.mucwathi_looks.specs.Reports.{IsFaultReport, IsReport}
use Rattle.mucwathi_looks.proofs.reports.tell_text_fault.Goals as goal

pub returns : goal.returns
returns c =
    let name = c.args.of.name.now in
    let text = c.args.of.text.now in
    let sentence = c.as_str.result.now in
    IfOk-weaker c.report.result (λ out. IsReport name text c.at-at.result sentence out.items) (λ out. IsFaultReport name text (running.Text c.args.fault.now) out.items)
    (λ out h. (sentence, subst (λ at. IsReport name text at sentence out.items) c.at-at.ensures h)) c.report.ensures
