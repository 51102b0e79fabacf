use Rattle.std.proofs.Common.{false, [], ◌∷◌, subst}
use Rattle.text_pieces.specs.Forms.{pairs}
use Rattle.text_walk.specs.Sinks.{Gains}
use Rattle.text_walk.proofs.Gained.{pairs_more}
use Rattle.text_walk.proofs.form.add_pairs.Goals as goal

pub loop-i-preserved : goal.loop-i-preserved
loop-i-preserved c =
    pairs_more c.args.pairs.now c.loop-i.i c.index-pairs-i.result c.loop-i.some c.args.found.now c.loop-i.found c.push_if.new.found c.push.new.found (pairs false c.args.pairs.now)
    c.loop-i-test.true c.index-pairs-i.is c.loop-i.invariant c.in_ok-push_if.ensures
    (subst (λ p. Gains c.push_if.new.found (p ∷ []) c.push.new.found) c.attribute.ensures c.in_ok-push.ensures)
