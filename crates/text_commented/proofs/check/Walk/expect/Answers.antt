use Rattle.std.proofs.Common.{refl}
use Rattle.text_commented.proofs.Sets.{expected}
use Rattle.text_commented.proofs.check.Walk.expect.Goals as goal

pub returns : goal.returns
returns c = λ comments whole.
    let s = c.args.self.now in
    expected comments whole c.args.remarks.now s (record { rest = s.rest; fresh = s.fresh; ending = s.ending; due = c.add_due.new.due }) c.args.number c.in-Some.remark c.in-Some.ensures refl refl refl
    c.in_ok-add_due.ensures
