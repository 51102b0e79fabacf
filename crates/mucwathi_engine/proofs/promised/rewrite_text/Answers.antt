use Rattle.mucwathi_engine.proofs.Keeping.{promised}
use Rattle.mucwathi_engine.proofs.promised.rewrite_text.Goals as goal

pub returns : goal.returns
returns c = promised c.promises_are_kept.ensures c.targets_are_spared.ensures c.texts_are_kept.ensures c.tokens_are_kept.ensures c.args.order.now c.args.text.now c.rewrite_text.result c.rewrite_text.ensures
