use Rattle.mucwathi_engine.proofs.Keeping.{promised_too}
use Rattle.mucwathi_engine.proofs.promised.rewrite_with_comments.Goals as goal

pub returns : goal.returns
returns c =
    promised_too c.promises_are_kept.ensures c.targets_are_spared.ensures c.texts_are_kept.ensures c.tokens_are_kept.ensures c.args.order.now c.args.text.now c.rewrite_with_comments.result c.rewrite_with_comments.ensures
