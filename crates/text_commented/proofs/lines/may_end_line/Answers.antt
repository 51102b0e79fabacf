use Rattle.std.proofs.Common.{sym, ◌∙◌, arith}
use Rattle.text_commented.proofs.Ends.{goes_past, none_ends, one_ends}
use Rattle.text_commented.proofs.lines.may_end_line.Goals as goal

pub returns-then-is_here : goal.returns-then-is_here
returns-then-is_here c = sym (none_ends c.args.pieces.now c.pieces.i _ (omega arith) (sym c.is_here.ensures ∙ c.if-is_here.true)) ∙ c.pieces.invariant

pub returns-then-is_token : goal.returns-then-is_token
returns-then-is_token c =
    sym (one_ends c.args.pieces.now c.pieces.i _ (omega arith) (sym c.is_here.ensures ∙ c.if-is_here.false) (sym c.is_token.ensures ∙ c.if-is_token.true)) ∙ c.pieces.invariant

pub pieces-preserved : goal.pieces-preserved
pieces-preserved c =
    sym (goes_past c.args.pieces.now c.pieces.i _ (omega arith) (sym c.is_here.ensures ∙ c.if-is_here.false) (sym c.is_token.ensures ∙ c.if-is_token.false)) ∙ c.pieces.invariant
