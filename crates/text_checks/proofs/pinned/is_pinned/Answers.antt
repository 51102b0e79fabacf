use Rattle.text_checks.proofs.Steps.{bent, straight_by}
use Rattle.text_checks.proofs.pinned.is_pinned.Goals as goal

pub returns-then-has_astray : goal.returns-then-has_astray
returns-then-has_astray c s fits = bent c.args.tree.now c.has_astray.result c.has_astray.ensures c.if-has_astray.true

pub returns : goal.returns
returns c = c.is_pinned_if_straight.ensures (straight_by c.args.tree.now c.has_astray.result c.has_astray.ensures c.if-has_astray.false)
