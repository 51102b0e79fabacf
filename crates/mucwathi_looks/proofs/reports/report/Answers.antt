use Rattle.std.proofs.Common.{◌∙◌}
use Rattle.mucwathi_looks.proofs.ReportedTold.{reported}
use Rattle.mucwathi_looks.proofs.reports.report.Goals as goal

pub returns : goal.returns
returns c =
    reported c.args.of.name.now c.args.of.text.now c.args.at c.args.sentence.now c.as_str.result.now c.in_ok-out.out.items c.show.new.out.items (c.as_str.ensures.value ∙ c.in_ok-place.ensures) c.in_ok-out.ensures c.in_ok-show.ensures
