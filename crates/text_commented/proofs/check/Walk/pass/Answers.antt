use Rattle.std.proofs.Common.{refl}
use Rattle.text_pieces.specs.Tokens.{piece_view}
use Rattle.text_commented.proofs.Sets.{passed}
use Rattle.text_commented.proofs.check.Walk.pass.Goals as goal

pub returns : goal.returns
returns c = λ rs.
    passed c.args.source.comments c.args.source.whole.now rs c.args.self.now
    (record { rest = c.in-Some.rest; fresh = c.fresh_behind-self.result; ending = c.ending_behind-self.result; due = c.settle.new.self.due })
    (piece_view c.args.piece) c.in-Some.rest.now c.in-Some.ensures (c.in_ok-is_met.ensures c.if-not-is_met.false)
    refl c.fresh_behind-self.ensures c.ending_behind-self.ensures c.settle.ensures.due
