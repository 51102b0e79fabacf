use Rattle.std.proofs.Common.{◌+◌, ◌-◌, ◌≤◌, length, subst, sym, ◌∙◌, arith}
use Rattle.std.proofs.lemmas.Result.{err_from_is_err_and}
use Rattle.swc_tree_marks.specs.declared.error.PassError.{PassError}
use Rattle.swc_base_rename_naming.specs.Counters.{IsRefusal, IsSpent}
use Rattle.swc_base_rename_naming.proofs.Tries.{DifferBelow, tries}
use Rattle.swc_base_rename_naming.proofs.free.free_text.Goals as goal

-- the counters up to the one that is found have texts that are taken
pub returns-then-not-is_taken-clause-tries : goal.returns-then-not-is_taken-clause-tries
returns-then-not-is_taken-clause-tries g c = λ texts covers.
    let text = g.N.NewTexts.text c.args.texts.now c.args.id.now in
    let count = c.loop-text.n - c.args.n.now in
    let counted = c.in_ok-text.ensures.counted in
    let differ : DifferBelow text (c.args.n.now + count) = λ m n p q same. g.met.N.NewTexts.differ c.args.texts.now c.args.id.now m n (omega arith) (omega arith) same in
    let bound : count ≤ length texts = tries text _ c.args.n.now count texts differ (λ k from below. c.loop-text.invariant.taken k from (omega arith)) covers in
    omega arith

-- the counters up to the greatest have texts that are taken
pub returns-in_err-text-clause-crowded : goal.returns-in_err-text-clause-crowded
returns-in_err-text-clause-crowded g c =
    let refused = err_from_is_err_and c.from_residual.result c.from_residual.ensures.1 in
    let Refusal : PassError → Type 0 = λ e. IsRefusal e c.loop-text.n c.new_text.new.n in
    rw refused.1 (λ spent texts covers.
    let at_end : IsSpent c.loop-text.n c.new_text.new.n = subst Refusal (sym refused.2 ∙ spent) c.in_err-text.ensures.refused in
    let text = g.N.NewTexts.text c.args.texts.now c.args.id.now in
    let count = c.loop-text.n - c.args.n.now in
    let differ : DifferBelow text (c.args.n.now + count) = λ m n p q same. g.met.N.NewTexts.differ c.args.texts.now c.args.id.now m n (omega arith) (omega arith) same in
    let bound : count ≤ length texts = tries text _ c.args.n.now count texts differ (λ k from below. c.loop-text.invariant.taken k from (omega arith)) covers in
    omega arith)
