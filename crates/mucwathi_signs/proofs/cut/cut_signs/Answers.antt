use Rattle.std.proofs.Common.{arith, ℕ, List, ◌++◌, ap, ◌∙◌, subst, sym}
use Rattle.std.proofs.lemmas.List.{take_rest}
use Rattle.mucwathi_signs.specs.Signed.{IsMarked}
use Rattle.mucwathi_signs.proofs.Cutting.{cut_all, cut_none}
use Rattle.mucwathi_signs.proofs.cut.cut_signs.Goals as goal

pub loop-sign-init : goal.loop-sign-init
loop-sign-init c = record { within = omega arith; marked = cut_none c.args.text.now c.new-left.result.items c.new-signs.result.items c.new-left.ensures.items c.new-signs.ensures.items }

pub returns : goal.returns
returns c =
    subst (λ l. IsMarked 0 c.loop-sign.cut.signs.items l c.args.text.now)
    (sym (c.in_ok-extend_from_slice.ensures.items ∙ ap (λ (l : List ℕ). c.loop-sign.cut.text.items ++ l) (take_rest c.args.text.now c.loop-sign.from)))
    (cut_all c.args.text.now c.loop-sign.from c.loop-sign.cut.signs.items c.loop-sign.cut.text.items c.loop-sign.invariant.marked)
