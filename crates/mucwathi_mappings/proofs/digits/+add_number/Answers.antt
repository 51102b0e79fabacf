use Rattle.std.proofs.Common.{ℕ, ◌++◌, ◌∷◌, [], ap, ◌∙◌}
use Rattle.std.proofs.lemmas.Result.{on_ok_weaker}
use Rattle.mucwathi_mappings.proofs.Telling.{number_last, number_more}
use Rattle.mucwathi_mappings.proofs.digits.+add_number.Goals as goal

pub returns-then-number-lt32 : goal.returns-then-number-lt32
returns-then-number-lt32 t c =
    number_last c.args.number c.args.out.now.items c.push.new.self.items c.if-number-lt32.true (c.in_ok-push.ensures.items ∙ ap (λ (d : ℕ). c.args.out.now.items ++ d ∷ []) c.digit.ensures)

pub returns : goal.returns
returns t c =
    on_ok_weaker c.add_number.result
    (number_more c.args.number c.args.out.now.items c.push-2.new.self.items c.add_number.new.out.items c.if-number-lt32.false (c.in_ok-push-2.ensures.items ∙ ap (λ (d : ℕ). c.args.out.now.items ++ d ∷ []) c.digit-2.ensures))
    c.add_number.ensures
