use Rattle.std.proofs.Common.{subst}
use Rattle.std.specs.List.Sorted.{IsPermutation}
use Rattle.text_commented.proofs.sites.Sites.ordered.Goals as goal

pub returns : goal.returns
returns c = λ all begun stopped. record {
  begun = subst (λ l. IsPermutation l c.in_ok-begun.begun.items) begun c.in_ok-begun.ensures.same;
  stopped = subst (λ l. IsPermutation l c.in_ok-stopped.stopped.items) stopped c.in_ok-stopped.ensures.same;
  begun_rise = c.in_ok-begun.ensures.rise;
  stopped_rise = c.in_ok-stopped.ensures.rise;
}
