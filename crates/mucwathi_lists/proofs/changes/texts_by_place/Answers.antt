use Rattle.std.proofs.Common.{get_or, refl, arith}
use Rattle.mucwathi_lists.proofs.Changing.{no_occurrence, texts_end, texts_none, texts_step}
use Rattle.mucwathi_lists.proofs.changes.texts_by_place.Goals as goal

pub loop-old-init : goal.loop-old-init
loop-old-init c = texts_none c.new-texts.result c.new-texts.ensures.empty

pub loop-old-preserved : goal.loop-old-preserved
loop-old-preserved c =
    texts_step c.args.olds.now c.loop-old.old-index no_occurrence (get_or c.args.olds.now c.loop-old.old-index no_occurrence) c.loop-old.texts c.insert.new.self c.loop-old-test.true refl c.loop-old.invariant c.in_ok-insert.ensures.updates

pub returns : goal.returns
returns c = texts_end c.args.olds.now c.loop-old.old-index c.loop-old.texts (omega arith) c.loop-old.invariant
