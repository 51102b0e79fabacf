use Rattle.std.proofs.Common.{Some, ap, subst, sym, ◌∙◌}
use Rattle.swc_base_alpha.specs.Verdict.{TellsWhy, word_in}
use Rattle.swc_tree_scoping.specs.WellScoped.{IsClean}
use Rattle.swc_base_judge.proofs.Copies.{copies_told}
use Rattle.swc_base_judge.proofs.judging.judge_programs.Goals as goal

pub returns-in-None-clause-verdict : goal.returns-in-None-clause-verdict
returns-in-None-clause-verdict g c = λ here there.
    subst (TellsWhy c.args.keep_top (g.P.Judged.node c.args.before.now) (g.P.Judged.node c.args.after.now)) (ap word_in c.in-None.is)
    (copies_told c.args.keep_top (g.P.Judged.node c.args.before.now) (g.P.Judged.node c.args.after.now) c.in_ok-first.first c.in_ok-second.second (word_in c.in_ok-why_different.field-0) c.in_ok-first.ensures.value c.in_ok-second.ensures.value
    (c.in_ok-why_different.ensures.why (c.in_ok-first.ensures.program (subst IsClean (sym c.in_ok-first.ensures.value) here)) (c.in_ok-second.ensures.program (subst IsClean (sym c.in_ok-second.ensures.value) there))))

pub returns-in_ok-place-in-Some-clause-verdict : goal.returns-in_ok-place-in-Some-clause-verdict
returns-in_ok-place-in-Some-clause-verdict g c = λ here there.
    subst (TellsWhy c.args.keep_top (g.P.Judged.node c.args.before.now) (g.P.Judged.node c.args.after.now)) (ap word_in c.in-Some.is ∙ ap (λ w. Some w) (sym c.in_ok-place-in-Some.ensures.why))
    (copies_told c.args.keep_top (g.P.Judged.node c.args.before.now) (g.P.Judged.node c.args.after.now) c.in_ok-first.first c.in_ok-second.second (word_in c.in_ok-why_different.field-0) c.in_ok-first.ensures.value c.in_ok-second.ensures.value
    (c.in_ok-why_different.ensures.why (c.in_ok-first.ensures.program (subst IsClean (sym c.in_ok-first.ensures.value) here)) (c.in_ok-second.ensures.program (subst IsClean (sym c.in_ok-second.ensures.value) there))))
