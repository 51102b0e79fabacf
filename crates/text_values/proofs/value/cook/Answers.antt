use Rattle.std.proofs.Common.{◌≡◌, ◌∙◌, ◌-◌, ◌+◌, ◌++◌, ◌==◌, ap, suc, length, sym, Some, None, Ok, Err, true, false, is_some, [], arith}
use Rattle.std.proofs.lemmas.Grind.{common_steps}
use Rattle.text_values.specs.Values.{units_in}
use Rattle.text_values.specs.Steps.{next_bytes}
use Rattle.text_values.proofs.Values.{finish, finish_start, finish_empty, finish_end, finish_more, good_more, finish_half, read_if, flawed_if, bad_cooked}
use Rattle.text_values.proofs.value.cook.Goals as goal

pub returns-then-not-has_good_escapes-clause-flawed : goal.returns-then-not-has_good_escapes-clause-flawed
returns-then-not-has_good_escapes-clause-flawed c flaw is =
    let none : is_some (units_in (length c.args.text.now) c.args.reading c.args.text.now) ≡ false = grind (arith, common_steps) in
    let bad = bad_cooked (units_in (length c.args.text.now) c.args.reading c.args.text.now) none in
    cc

pub units-init : goal.units-init
units-init c =
    let whole : length c.args.text.now - 0 ≡ length c.args.text.now = omega arith in
    record {
      same =
          rw c.new-value.ensures.items (ap (λ n. finish [] 0 (units_in n c.args.reading c.args.text.now)) whole ∙ finish_start (units_in (length c.args.text.now) c.args.reading c.args.text.now));
      good = grind (arith, common_steps);
    }

pub units-preserved : goal.units-preserved
units-preserved c =
    let l = c.units in
    let more : length c.args.text.now - l.turn ≡ suc (length c.args.text.now - (l.turn + 1)) = omega arith in
    let some : (length l.rest.now == 0) ≡ false = grind (arith, common_steps) in
    let next : next_bytes c.args.reading l.half l.rest.now ≡ Some (c.in-Some.bytes.now, (c.in-Some.now_half, c.in-Some.behind.now)) = grind (arith, common_steps, c.in-Some.ensures) in
    let step = sym (finish_more _ _ l.half c.args.reading l.rest.now l.value.items _ _ _ more some next) ∙ l.invariant.same in
    let good = sym (good_more _ _ l.half c.args.reading l.rest.now _ _ _ more some next) ∙ l.invariant.good in
    record { same = grind (arith, common_steps); good = good }

pub returns-in-None-clause-flawed : goal.returns-in-None-clause-flawed
returns-in-None-clause-flawed c flaw is =
    let l = c.units in
    let more : length c.args.text.now - l.turn ≡ suc (length c.args.text.now - (l.turn + 1)) = omega arith in
    let some : (length l.rest.now == 0) ≡ false = grind (arith, common_steps) in
    let next : next_bytes c.args.reading l.half l.rest.now ≡ None = grind (arith, common_steps, c.in-None.ensures) in
    let step = sym l.invariant.same ∙ finish_half _ _ l.half c.args.reading l.rest.now l.value.items more some next l.invariant.good in
    cc

pub returns-then-is_empty-clause-read : goal.returns-then-is_empty-clause-read
returns-then-is_empty-clause-read c =
    let l = c.units in
    let more : length c.args.text.now - l.turn ≡ suc (length c.args.text.now - (l.turn + 1)) = omega arith in
    let empty : (length l.rest.now == 0) ≡ true = grind (arith, common_steps) in
    let step = sym l.invariant.same ∙ finish_empty _ _ l.half c.args.reading l.rest.now l.value.items more empty in
    read_if c.finished-read.result (λ v. v.items) (l.half == 0) _ _ _ c.finished-read.ensures step

pub returns-then-is_empty-clause-flawed : goal.returns-then-is_empty-clause-flawed
returns-then-is_empty-clause-flawed c flaw is =
    let l = c.units in
    let more : length c.args.text.now - l.turn ≡ suc (length c.args.text.now - (l.turn + 1)) = omega arith in
    let empty : (length l.rest.now == 0) ≡ true = grind (arith, common_steps) in
    let step = sym l.invariant.same ∙ finish_empty _ _ l.half c.args.reading l.rest.now l.value.items more empty in
    flawed_if c.finished-read.result (l.half == 0) _ _ _ flaw c.finished-read.ensures step is

pub returns-clause-read : goal.returns-clause-read
returns-clause-read c =
    let l = c.units in
    let none : length c.args.text.now - l.turn ≡ 0 = omega arith in
    let step = sym l.invariant.same ∙ finish_end _ l.half c.args.reading l.rest.now l.value.items none in
    read_if c.finished-whole.result (λ v. v.items) (l.half == 0) _ _ _ c.finished-whole.ensures step

pub returns-clause-flawed : goal.returns-clause-flawed
returns-clause-flawed c flaw is =
    let l = c.units in
    let none : length c.args.text.now - l.turn ≡ 0 = omega arith in
    let step = sym l.invariant.same ∙ finish_end _ l.half c.args.reading l.rest.now l.value.items none in
    flawed_if c.finished-whole.result (l.half == 0) _ _ _ flaw c.finished-whole.ensures step is
