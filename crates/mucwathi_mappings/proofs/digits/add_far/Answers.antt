use Rattle.std.proofs.Common.{ℕ, ◌++◌, ◌∷◌, [], refl, ap, ◌∙◌}
use Rattle.std.proofs.lemmas.Result.{on_ok_weaker}
use Rattle.mucwathi_mappings.proofs.Telling.{far_last, far_more}
use Rattle.mucwathi_mappings.proofs.digits.add_far.Goals as goal

pub returns-then-far-lt16 : goal.returns-then-far-lt16
returns-then-far-lt16 c =
    far_last c.args.far c.args.back _ c.args.out.now.items c.push.new.self.items c.if-far-lt16.true c.requires refl (c.in_ok-push.ensures.items ∙ ap (λ (d : ℕ). c.args.out.now.items ++ d ∷ []) c.digit.ensures)

pub returns : goal.returns
returns c =
    on_ok_weaker c.add_number.result
    (far_more c.args.far c.args.back _ c.args.out.now.items c.push-2.new.self.items c.add_number.new.out.items c.if-far-lt16.false c.requires refl (c.in_ok-push-2.ensures.items ∙ ap (λ (d : ℕ). c.args.out.now.items ++ d ∷ []) c.digit-2.ensures))
    c.add_number.ensures
