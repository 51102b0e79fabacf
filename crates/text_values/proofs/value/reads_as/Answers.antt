use Rattle.std.proofs.Common.{◌≡◌, ◌∙◌, ◌-◌, ◌+◌, ◌==◌, suc, length, sym, Some, None, true, false, arith}
use Rattle.std.proofs.lemmas.Grind.{common_steps}
use Rattle.text_values.specs.Values.{units_in}
use Rattle.text_values.specs.Steps.{past_unit}
use Rattle.text_values.proofs.Values.{matches, value_matches, matches_empty, matches_end, matches_more, matches_stop}
use Rattle.text_values.proofs.value.reads_as.Goals as goal

pub units-preserved : goal.units-preserved
units-preserved c =
    let l = c.units in
    let more : length c.args.text.now - l.turn ≡ suc (length c.args.text.now - (l.turn + 1)) = omega arith in
    let some : (length l.rest.now == 0) ≡ false = grind (arith, common_steps) in
    let past : past_unit c.args.reading l.half l.rest.now l.left.now ≡ Some (c.in-Some.now_half, (c.in-Some.behind.now, c.in-Some.now_left.now)) = grind (arith, common_steps, c.in-Some.ensures) in
    sym (matches_more _ _ l.half c.args.reading l.rest.now l.left.now _ _ _ more some past) ∙ l.invariant

pub returns-then-is_empty : goal.returns-then-is_empty
returns-then-is_empty c =
    let l = c.units in
    let more : length c.args.text.now - l.turn ≡ suc (length c.args.text.now - (l.turn + 1)) = omega arith in
    let empty : (length l.rest.now == 0) ≡ true = grind (arith, common_steps) in
    c.is_done.ensures ∙ sym (matches_empty _ _ l.half c.args.reading l.rest.now l.left.now more empty) ∙ l.invariant ∙ sym (value_matches (units_in (length c.args.text.now) c.args.reading c.args.text.now) c.args.value.now)

pub returns-in-None : goal.returns-in-None
returns-in-None c =
    let l = c.units in
    let more : length c.args.text.now - l.turn ≡ suc (length c.args.text.now - (l.turn + 1)) = omega arith in
    let some : (length l.rest.now == 0) ≡ false = grind (arith, common_steps) in
    let past : past_unit c.args.reading l.half l.rest.now l.left.now ≡ None = grind (arith, common_steps, c.in-None.ensures) in
    sym (matches_stop _ _ l.half c.args.reading l.rest.now l.left.now more some past) ∙ l.invariant ∙ sym (value_matches (units_in (length c.args.text.now) c.args.reading c.args.text.now) c.args.value.now)

pub returns : goal.returns
returns c =
    let l = c.units in
    let none : length c.args.text.now - l.turn ≡ 0 = omega arith in
    let end = sym (matches_end _ l.half c.args.reading l.rest.now l.left.now none) ∙ l.invariant ∙ sym (value_matches (units_in (length c.args.text.now) c.args.reading c.args.text.now) c.args.value.now) in
    grind (arith, common_steps)
