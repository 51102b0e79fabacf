use Rattle.std.proofs.Common.{sym, ◌∙◌}
use Rattle.swc_base_alpha.specs.Verdict.{word_in}
use Rattle.swc_base_alpha.proofs.Judged.{word_told}
use Rattle.swc_base_alpha.proofs.judging.why_different.Goals as goal

pub returns-clause-why : goal.returns-clause-why
returns-clause-why c = λ here there.
    word_told c.args.keep_top c.args.before c.args.after (word_in c.in_ok-cause.cause) (c.in_ok-cause.ensures.decides (sym c.have_types.ensures ∙ c.if-have_types.false) here there)

pub returns-clause-shows : goal.returns-clause-shows
returns-clause-shows c = λ here there. c.in_ok-cause.ensures.shows (sym c.have_types.ensures ∙ c.if-have_types.false) here there
