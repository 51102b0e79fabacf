use Rattle.std.proofs.Common.{◌≡◌, ◌∙◌, ◌-◌, ◌+◌, suc, true, false, length, sym, arith}
use Rattle.std.proofs.lemmas.Grind.{common_steps}
use Rattle.text_characters.specs.Characters.{point, is_name_part}
use Rattle.text_lexer.proofs.Walks.{flags_rest_more, flags_rest_stop, flags_rest_end}
use Rattle.text_words.proofs.regex.after_flags.Goals as goal

pub flags-preserved : goal.flags-preserved
flags-preserved c =
    let l = c.flags in
    let more : length c.args.text.now - l.turn ≡ suc (length c.args.text.now - (l.turn + 1)) = omega arith in
    let part : is_name_part (point l.rest.now) ≡ true = grind (arith, common_steps) in
    record {
      same = rw c.behind-rest.ensures.value (sym (flags_rest_more _ _ l.rest.now more part) ∙ l.invariant.same);
      within = omega (arith, c.behind-rest.ensures.within, l.invariant.within);
    }

pub returns-then-not-is_name_part-clause-value : goal.returns-then-not-is_name_part-clause-value
returns-then-not-is_name_part-clause-value c =
    let l = c.flags in
    let more : length c.args.text.now - l.turn ≡ suc (length c.args.text.now - (l.turn + 1)) = omega arith in
    let part : is_name_part (point l.rest.now) ≡ false = grind (arith, common_steps) in
    sym (flags_rest_stop _ _ l.rest.now more part) ∙ l.invariant.same

pub returns-clause-value : goal.returns-clause-value
returns-clause-value c =
    let l = c.flags in
    let none : length c.args.text.now - l.turn ≡ 0 = omega arith in
    sym (flags_rest_end _ l.rest.now none) ∙ l.invariant.same
