use Rattle.std.proofs.Common.{◌≡◌, ◌∙◌, ◌-◌, ◌+◌, ◌==◌, suc, length, sym, None, true, false, arith}
use Rattle.std.proofs.lemmas.Grind.{common_steps}
use Rattle.text_strings.specs.Escapes.{next_unit}
use Rattle.text_values.proofs.Units.{good_empty, good_stop, good_end}
use Rattle.text_values.proofs.value.has_good_escapes.Goals as goal

pub returns-then-is_empty : goal.returns-then-is_empty
returns-then-is_empty c =
    let l = c.units in
    let more : length c.args.text.now - l.turn ≡ suc (length c.args.text.now - (l.turn + 1)) = omega arith in
    let empty : (length l.rest.now == 0) ≡ true = grind (arith, common_steps) in
    sym (good_empty _ _ c.args.reading l.rest.now more empty) ∙ l.invariant.same

pub returns-in-None : goal.returns-in-None
returns-in-None c =
    let l = c.units in
    let more : length c.args.text.now - l.turn ≡ suc (length c.args.text.now - (l.turn + 1)) = omega arith in
    let some : (length l.rest.now == 0) ≡ false = grind (arith, common_steps) in
    let next : next_unit c.args.reading l.rest.now ≡ None = grind (arith, common_steps, c.in-None.ensures.value) in
    sym (good_stop _ _ c.args.reading l.rest.now more some next) ∙ l.invariant.same

pub returns : goal.returns
returns c =
    let l = c.units in
    let none : length c.args.text.now - l.turn ≡ 0 = omega arith in
    sym (good_end _ c.args.reading l.rest.now none) ∙ l.invariant.same
