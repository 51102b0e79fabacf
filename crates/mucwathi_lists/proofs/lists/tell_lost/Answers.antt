use Rattle.std.proofs.Common.{get_or, refl, ap, ◌∙◌, arith}
use Rattle.std.proofs.lemmas.List.{take_all}
use Rattle.mucwathi_lists.specs.Listed.{lost_listed}
use Rattle.mucwathi_lists.proofs.Listing.{lost_step}
use Rattle.mucwathi_lists.proofs.lists.tell_lost.Goals as goal

pub loop-at-preserved : goal.loop-at-preserved
loop-at-preserved c = (
  c.in_ok-add_lost.ensures.kept,
  lost_step c.args.name.now c.args.text.now c.args.lost.now c.loop-at.at-index 0 (get_or c.args.lost.now c.loop-at.at-index 0) c.loop-at.out.items c.add_lost.new.out.items c.loop-at-test.true refl c.in_ok-add_lost.ensures.added c.loop-at.invariant.1,
)

pub returns : goal.returns
returns c = c.loop-at.invariant.1 ∙ ap (lost_listed c.args.name.now c.args.text.now) (take_all c.loop-at.at-index c.args.lost.now (omega arith))
