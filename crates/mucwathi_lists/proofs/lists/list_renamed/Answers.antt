use Rattle.std.proofs.Common.{ap, ◌∙◌, arith}
use Rattle.std.proofs.lemmas.List.{take_all}
use Rattle.mucwathi_lists.specs.Listed.{changes_listed}
use Rattle.mucwathi_lists.proofs.Listing.{changes_step}
use Rattle.mucwathi_lists.proofs.lists.list_renamed.Goals as goal

pub loop-change-preserved : goal.loop-change-preserved
loop-change-preserved c = (
  c.in_ok-add_change.ensures.kept,
  changes_step c.args.prefix.now c.args.text.now c.args.changes.now c.loop-change.change-index c.change-item.result c.loop-change.out.items c.add_change.new.out.items c.loop-change-test.true c.change-item.is c.in_ok-add_change.ensures.added
      c.loop-change.invariant.1,
)

pub returns : goal.returns
returns c = c.loop-change.invariant.1 ∙ ap (changes_listed c.args.prefix.now c.args.text.now) (take_all c.loop-change.change-index c.args.changes.now (omega arith))
