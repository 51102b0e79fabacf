use Rattle.std.proofs.Common.{arith, refl, sym, ◌∙◌, ◌≡◌, true, false}
use Rattle.swc_base_fixer_program.proofs.Sets.{one_kept, one_dropped, all_asked}
use Rattle.swc_base_fixer_program.proofs.moves.not_set_again.Goals as goal
use Rattle.swc_base_fixer_program.proofs.moves.not_set_again.Goals.{then-not-has+in_ok-push, else-not-has}

pub loop-pair-preserved : goal.loop-pair-preserved
loop-pair-preserved c = elim c.if-not-has.branch [
  | then-not-has+in_ok-push w ↦
      let unset : c.has.result ≡ false = cc in
      one_kept c.in_ok-set-2.set c.args.pairs.now c.loop-pair.left c.if-not-has.left _ _ c.loop-pair.pair-index (omega arith) refl c.loop-pair.invariant (sym c.has.ensures ∙ unset) (w.left-is ∙ w.in_ok-push.ensures.ok)
  | else-not-has w ↦
      let set : c.has.result ≡ true = cc in
      one_dropped c.in_ok-set-2.set c.args.pairs.now c.loop-pair.left c.if-not-has.left _ _ c.loop-pair.pair-index (omega arith) refl c.loop-pair.invariant (sym c.has.ensures ∙ set) w.left-is
]

pub returns : goal.returns
returns c = all_asked c.in_ok-set-2.set c.args.answer.now c.as_slice.result.now c.args.pairs.now c.loop-pair.left c.loop-pair.pair-index c.loop-pair-test.false c.in_ok-set-2.ensures (c.as_slice.ensures ∙ c.in_ok-set.ensures) c.loop-pair.invariant
