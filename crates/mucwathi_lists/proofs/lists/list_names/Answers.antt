use Rattle.std.proofs.Common.{ap, ◌∙◌, arith}
use Rattle.std.proofs.lemmas.List.{take_all}
use Rattle.mucwathi_lists.specs.Listed.{names_listed}
use Rattle.mucwathi_lists.proofs.Listing.{names_step}
use Rattle.mucwathi_lists.proofs.lists.list_names.Goals as goal

pub loop-name-preserved : goal.loop-name-preserved
loop-name-preserved c = (
  c.in_ok-add_name.ensures.kept,
  names_step c.args.text.now c.args.names.now c.loop-name.name-index c.name-item.result c.loop-name.out.items c.add_name.new.out.items c.loop-name-test.true c.name-item.is c.in_ok-add_name.ensures.added c.loop-name.invariant.1,
)

pub returns : goal.returns
returns c = c.loop-name.invariant.1 ∙ ap (names_listed c.args.text.now) (take_all c.loop-name.name-index c.args.names.now (omega arith))
