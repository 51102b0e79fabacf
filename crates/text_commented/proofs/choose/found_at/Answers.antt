use Rattle.std.proofs.Common.{refl}
use Rattle.text_commented.specs.Chosen.{BeginsBehind, StopsBefore, before, behind}
use Rattle.text_commented.proofs.Chosen.{between_found, refuted}
use Rattle.text_commented.proofs.choose.found_at.Goals as goal

pub returns-in-true-true : goal.returns-in-true-true
returns-in-true-true c = λ all are.
    between_found c.args.text.now all c.args.comment c.found_between.result ((c.stops_before.ensures all are).0 (cc)) ((c.begins_behind.ensures all are).0 (cc)) c.found_between.ensures

pub returns-in-true-false : goal.returns-in-true-false
returns-in-true-false c = λ all are.
    let k = c.args.comment in
    behind ((c.stops_before.ensures all are).0 (cc)) (λ both. refuted c.begins_behind.result (BeginsBehind all k) (c.begins_behind.ensures all are) (cc) both.0) refl

pub returns-in-false-true : goal.returns-in-false-true
returns-in-false-true c = λ all are.
    let k = c.args.comment in
    before ((c.begins_behind.ensures all are).0 (cc)) (λ stops. absurd (refuted c.stops_before.result (StopsBefore all k) (c.stops_before.ensures all are) (cc) stops)) refl

pub returns-in-false-false : goal.returns-in-false-false
returns-in-false-false c = λ all are.
    let k = c.args.comment in
    c.found_apart.ensures c.args.text.now all are
    (refuted c.stops_before.result (StopsBefore all k) (c.stops_before.ensures all are) (cc), refuted c.begins_behind.result (BeginsBehind all k) (c.begins_behind.ensures all are) (cc))
