use Rattle.std.proofs.Common.{◌≡◌, ◌∙◌, ◌-◌, ◌+◌, ◌==◌, ◌||◌, suc, true, false, length, sym, Some, None, arith}
use Rattle.std.proofs.lemmas.Grind.{common_steps}
use Rattle.text_characters.specs.Characters.{first}
use Rattle.text_strings.specs.declared.escape.Reading.TheVariants.{Quoted}
use Rattle.text_strings.specs.Escapes.{next_unit}
use Rattle.text_lexer.proofs.Walks.{string_rest_empty, string_rest_closed, string_rest_broken, string_rest_more, string_rest_bad, string_rest_end}
use Rattle.text_lexer.proofs.literal.string_rest.Goals as goal

pub returns-then-is_empty-clause-value : goal.returns-then-is_empty-clause-value
returns-then-is_empty-clause-value c =
    let l = c.units in
    let more : length c.args.text.now - l.turn ≡ suc (length c.args.text.now - (l.turn + 1)) = omega arith in
    let empty : (length l.rest.now == 0) ≡ true = grind (arith, common_steps) in
    sym (string_rest_empty _ _ c.args.quote l.rest.now more empty) ∙ l.invariant.same

pub returns-then-closes-clause-value : goal.returns-then-closes-clause-value
returns-then-closes-clause-value c =
    let l = c.units in
    let more : length c.args.text.now - l.turn ≡ suc (length c.args.text.now - (l.turn + 1)) = omega arith in
    let some : (length l.rest.now == 0) ≡ false = grind (arith, common_steps) in
    let closed : (first l.rest.now == c.args.quote) ≡ true = grind (arith, common_steps) in
    rw c.past_byte.ensures.value (sym (string_rest_closed _ _ c.args.quote l.rest.now more some closed) ∙ l.invariant.same)

pub returns-then-breaks-clause-value : goal.returns-then-breaks-clause-value
returns-then-breaks-clause-value c =
    let l = c.units in
    let more : length c.args.text.now - l.turn ≡ suc (length c.args.text.now - (l.turn + 1)) = omega arith in
    let some : (length l.rest.now == 0) ≡ false = grind (arith, common_steps) in
    let other : (first l.rest.now == c.args.quote) ≡ false = grind (arith, common_steps) in
    let broken : (first l.rest.now == 10 || first l.rest.now == 13) ≡ true = grind (arith, common_steps) in
    sym (string_rest_broken _ _ c.args.quote l.rest.now more some other broken) ∙ l.invariant.same

pub returns-in-None-clause-value : goal.returns-in-None-clause-value
returns-in-None-clause-value c =
    let l = c.units in
    let more : length c.args.text.now - l.turn ≡ suc (length c.args.text.now - (l.turn + 1)) = omega arith in
    let some : (length l.rest.now == 0) ≡ false = grind (arith, common_steps) in
    let other : (first l.rest.now == c.args.quote) ≡ false = grind (arith, common_steps) in
    let whole : (first l.rest.now == 10 || first l.rest.now == 13) ≡ false = grind (arith, common_steps) in
    let next : next_unit Quoted l.rest.now ≡ None = grind (arith, common_steps, c.in-None.ensures.value) in
    sym (string_rest_bad _ _ c.args.quote l.rest.now more some other whole next) ∙ l.invariant.same

pub units-preserved : goal.units-preserved
units-preserved c =
    let l = c.units in
    let more : length c.args.text.now - l.turn ≡ suc (length c.args.text.now - (l.turn + 1)) = omega arith in
    let some : (length l.rest.now == 0) ≡ false = grind (arith, common_steps) in
    let other : (first l.rest.now == c.args.quote) ≡ false = grind (arith, common_steps) in
    let whole : (first l.rest.now == 10 || first l.rest.now == 13) ≡ false = grind (arith, common_steps) in
    let next : next_unit Quoted l.rest.now ≡ Some (c.in-Some.found.0, c.in-Some.found.1.now) = grind (arith, common_steps, c.in-Some.ensures.value) in
    record {
      same = sym (string_rest_more _ _ c.args.quote l.rest.now (c.in-Some.found.0, c.in-Some.found.1.now) more some other whole next) ∙ l.invariant.same;
      within = omega (arith, c.in-Some.ensures.shorter, l.invariant.within);
    }

pub returns-clause-value : goal.returns-clause-value
returns-clause-value c =
    let l = c.units in
    let none : length c.args.text.now - l.turn ≡ 0 = omega arith in
    sym (string_rest_end _ c.args.quote l.rest.now none) ∙ l.invariant.same
