use Rattle.std.proofs.Common.{get_or, map, refl, ap, ◌∙◌, arith}
use Rattle.std.proofs.lemmas.List.{take_all}
use Rattle.mucwathi_lists.specs.Changed.{all_changed, seen, told}
use Rattle.mucwathi_lists.proofs.Changing.{no_occurrence}
use Rattle.mucwathi_lists.proofs.Listing.{told_step}
use Rattle.mucwathi_lists.proofs.changes.changes_between.Goals as goal

pub loop-name-preserved : goal.loop-name-preserved
loop-name-preserved c =
    told_step (map seen c.args.olds.now) c.args.news.now c.loop-name.name-index no_occurrence (get_or c.args.news.now c.loop-name.name-index no_occurrence) (map told c.loop-name.changes.items) (map told c.add.new.changes.items) c.loop-name-test.true
    refl c.in_ok-add.ensures c.loop-name.invariant

pub returns : goal.returns
returns c = c.loop-name.invariant ∙ ap (λ l. all_changed (map seen c.args.olds.now) (map seen l)) (take_all c.loop-name.name-index c.args.news.now (omega arith))
