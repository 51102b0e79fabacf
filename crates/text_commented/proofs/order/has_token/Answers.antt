use Rattle.std.proofs.Common.{sym, ◌∙◌, arith}
use Rattle.text_commented.proofs.InOrder.{none_is_left, one_is_none, one_is_token}
use Rattle.text_commented.proofs.order.has_token.Goals as goal

pub returns-then-is_token : goal.returns-then-is_token
returns-then-is_token c = sym (one_is_token c.args.pieces.now c.pieces.i _ (omega arith) (sym c.is_token.ensures ∙ c.if-is_token.true)) ∙ c.pieces.invariant

pub pieces-preserved : goal.pieces-preserved
pieces-preserved c = sym (one_is_none c.args.pieces.now c.pieces.i _ (omega arith) (sym c.is_token.ensures ∙ c.if-is_token.false)) ∙ c.pieces.invariant

pub returns : goal.returns
returns c = sym (none_is_left c.args.pieces.now c.pieces.i (omega arith)) ∙ c.pieces.invariant
