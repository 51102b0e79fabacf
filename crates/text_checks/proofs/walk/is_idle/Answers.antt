use Rattle.std.proofs.Common.{sym, ◌∙◌}
use Rattle.text_checks.proofs.Bare.{idle_met}
use Rattle.text_checks.proofs.walk.is_idle.Goals as goal

pub returns : goal.returns
returns c told =
    idle_met c.args.rules.now c.args.index c.args.node.now (sym c.is_leaf.ensures ∙ c.if-not-is_leaf.false) (c.asks_no_sound.ensures c.if-not-asks_no_sound.false) (c.asks_no_derivation.ensures told)
