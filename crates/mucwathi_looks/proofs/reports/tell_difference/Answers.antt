use Rattle.std.proofs.Common.{◌++◌, Some, ap, subst, ◌∙◌}
use Rattle.mucwathi_looks.specs.Reports.{IsReport}
use Rattle.mucwathi_looks.proofs.reports.tell_difference.Goals as goal

pub returns : goal.returns
returns c = record {
  first = c.in_ok-out.out.items;
  second = c.in_ok-here.here.items;
  there = subst (λ l. IsReport c.args.after.name.now c.args.after.text.now (Some c.args.difference.now.after) l c.in_ok-out.out.items) c.why_sentence-sentence.ensures c.in_ok-out.ensures;
  here = c.in_ok-here.ensures;
  whole = c.in_ok-extend_from_slice.ensures.items ∙ ap (λ l. c.in_ok-out.out.items ++ l) c.as_slice.ensures.value;
}
