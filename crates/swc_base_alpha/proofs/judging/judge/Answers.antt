use Rattle.std.proofs.Common.{Some, ap, subst, sym, ◌∙◌}
use Rattle.swc_base_alpha.specs.Verdict.{TellsWhy, word_in}
use Rattle.swc_base_alpha.proofs.Judged.{copies_told}
use Rattle.swc_base_alpha.proofs.judging.judge.Goals as goal

pub returns-in-None-clause-verdict : goal.returns-in-None-clause-verdict
returns-in-None-clause-verdict c = λ here there.
    subst (TellsWhy c.args.keep_top c.args.before.now c.args.after.now) (ap word_in c.in-None.is)
    (copies_told c.args.keep_top c.args.before.now c.args.after.now c.in_ok-first.first c.in_ok-second.second (word_in c.in_ok-found.found) c.in_ok-first.ensures.cases c.in_ok-second.ensures.cases
    (sym c.have_types.ensures ∙ c.if-have_types.false) c.in_ok-found.ensures.decides here there)

pub returns-in_ok-difference-in-Some-clause-verdict : goal.returns-in_ok-difference-in-Some-clause-verdict
returns-in_ok-difference-in-Some-clause-verdict c = λ here there.
    subst (TellsWhy c.args.keep_top c.args.before.now c.args.after.now) (ap word_in c.in-Some.is ∙ ap (λ w. Some w) (sym c.in_ok-difference-in-Some.ensures.why))
    (copies_told c.args.keep_top c.args.before.now c.args.after.now c.in_ok-first.first c.in_ok-second.second (word_in c.in_ok-found.found) c.in_ok-first.ensures.cases c.in_ok-second.ensures.cases
    (sym c.have_types.ensures ∙ c.if-have_types.false) c.in_ok-found.ensures.decides here there)
