use Rattle.std.proofs.Common.{◌≤◌, arith}
use Rattle.text_commented.proofs.Listed.{last_stops, none_stops, stops_nowhere}
use Rattle.text_commented.proofs.sites.Sites.last_stop.Goals as goal

pub returns-in_default : goal.returns-in_default
returns-in_default c = λ all are.
    let none = rw c.deref.ensures.value at c.in_default.ensures in
    none_stops c.args.self.now all c.args.limit are none

pub returns-then-place-eq0 : goal.returns-then-place-eq0
returns-then-place-eq0 c = λ all are.
    let last = rw c.deref.ensures.value at c.in-Some.ensures in
    stops_nowhere c.args.self.now all c.args.limit c.in-Some.place are last (omega arith)

pub returns-then-place : goal.returns-then-place
returns-then-place c = λ all are.
    let last = rw c.deref.ensures.value at c.in-Some.ensures in
    let low : c.in-Some.place ≤ c.args.limit = (last are.stopped_rise).0 in
    absurd (omega arith)

pub returns : goal.returns
returns c = λ all are.
    let last = rw c.deref.ensures.value at c.in-Some.ensures in
    last_stops c.args.self.now all c.args.limit c.in-Some.place are last (omega arith)
