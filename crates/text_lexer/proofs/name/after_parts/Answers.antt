use Rattle.std.proofs.Common.{◌≡◌, ◌∙◌, ◌-◌, ◌+◌, suc, length, sym, false, None, arith}
use Rattle.std.proofs.lemmas.Grind.{common_steps}
use Rattle.text_lexer.specs.Names.{name_character}
use Rattle.text_lexer.proofs.Walks.{name_rest_stop, name_rest_end}
use Rattle.text_lexer.proofs.name.after_parts.Goals as goal

pub returns-in-None-clause-value : goal.returns-in-None-clause-value
returns-in-None-clause-value c =
    let l = c.characters in
    let more : length c.args.text.now - l.turn ≡ suc (length c.args.text.now - (l.turn + 1)) = omega arith in
    let next : name_character false l.rest.now ≡ None = grind (arith, common_steps, c.in-None.ensures.value) in
    sym (name_rest_stop _ _ l.rest.now more next) ∙ l.invariant.same

pub returns-clause-value : goal.returns-clause-value
returns-clause-value c =
    let l = c.characters in
    let none : length c.args.text.now - l.turn ≡ 0 = omega arith in
    sym (name_rest_end _ l.rest.now none) ∙ l.invariant.same
