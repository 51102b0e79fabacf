use Rattle.std.proofs.Common.{subst, sym}
use Rattle.swc_base_alpha.specs.Verdict.{TellsWhy}
use Rattle.mucwathi_commands.proofs.judge.judge_compared.Goals as goal

pub returns-in-Ok : goal.returns-in-Ok
returns-in-Ok c = record {
  tells = subst (TellsWhy c.args.keep_top c.args.first c.args.second) (sym c.difference_of.ensures.why) (c.in-Ok.ensures.why c.requires.before c.requires.after);
  places = c.difference_of.ensures.places c.args.first c.args.second (c.in-Ok.ensures.shows c.requires.before c.requires.after);
}

pub returns-in-Err : goal.returns-in-Err
returns-in-Err c = c.in-Err.ensures.refusal
