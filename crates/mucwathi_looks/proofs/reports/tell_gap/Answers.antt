use Rattle.std.proofs.Common.{◌≡◌, ◌++◌, Some, ap, ◌∙◌, subst}
use Rattle.std.specs.Prelude.{codes}
use Rattle.std.proofs.lemmas.Result.{IfOk-weaker}
use Rattle.mucwathi_looks.specs.Reports.{IsCoverReport, IsReport, cause_text}
use Rattle.mucwathi_looks.proofs.reports.tell_gap.Goals as goal

pub returns : goal.returns
returns c =
    let name = c.args.of.name.now in
    let text = c.args.of.text.now in
    let gap = c.args.gap in
    let same : c.as_str.result.now ≡ codes "the promise does not cover it: " ++ cause_text gap.cause =
    c.as_str.ensures.value ∙ c.in_ok-sentence.ensures.ok ∙ ap (λ l. codes "the promise does not cover it: " ++ l) c.cause_sentence-cause.ensures in
    IfOk-weaker c.report.result (λ out. IsReport name text gap.at c.as_str.result.now out.items) (λ out. IsCoverReport name text (Some gap) out.items) (λ out h. subst (λ s. IsReport name text gap.at s out.items) same h) c.report.ensures
