use Rattle.std.proofs.Common.{ℕ, List, ◌++◌, arith, sym, ap, ◌∙◌, subst}
use Rattle.std.proofs.lemmas.List.{take_rest}
use Rattle.mucwathi_signs.specs.Signed.{IsSigned}
use Rattle.mucwathi_signs.proofs.Signing.{begins_all, begins_more}
use Rattle.mucwathi_signs.proofs.put.put_signs.Goals as goal

pub loop-sign-preserved : goal.loop-sign-preserved
loop-sign-preserved c = record {
  within = c.in_ok-from.ensures.within;
  begins = begins_more c.args.signs.now c.args.text.now c.loop-sign.sign-index c.loop-sign.from c.in_ok-from.from c.sign-item.result c.loop-sign.out.items c.put_sign.new.out.items c.loop-sign-test.true c.sign-item.is
      c.loop-sign.invariant.within c.in_ok-from.ensures c.loop-sign.invariant.begins;
}

pub returns : goal.returns
returns c =
    subst (IsSigned 0 c.args.signs.now c.args.text.now) (sym (c.in_ok-extend_from_slice.ensures.items ∙ ap (λ (l : List ℕ). c.loop-sign.out.items ++ l) (take_rest c.args.text.now c.loop-sign.from)))
    (begins_all c.args.signs.now c.args.text.now c.loop-sign.out.items c.loop-sign.sign-index c.loop-sign.from (omega arith) c.loop-sign.invariant.begins)
