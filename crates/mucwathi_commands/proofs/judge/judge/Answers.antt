use Rattle.std.proofs.Common.{inl, refl}
use Rattle.std.proofs.lemmas.Result.{err_from_is_err_and}
use Rattle.mucwathi_commands.proofs.Judged.{clean_compared, compared_said}
use Rattle.mucwathi_commands.proofs.judge.judge.Goals as goal

pub returns-in_err-one : goal.returns-in_err-one
returns-in_err-one c =
    let refused = err_from_is_err_and c.from_residual.result c.from_residual.ensures.1 in
    rw (refused.1, refused.2) (inl refl)

pub returns-in_err-other : goal.returns-in_err-other
returns-in_err-other c =
    let refused = err_from_is_err_and c.from_residual-in_err-other.result c.from_residual-in_err-other.ensures.1 in
    rw (refused.1, refused.2) (inl refl)

pub judge_compared-requires-clause-before : goal.judge_compared-requires-clause-before
judge_compared-requires-clause-before c = clean_compared c.args.rules.now.spelling c.args.first c.in_ok-one.one c.in_ok-one.ensures c.requires.before

pub judge_compared-requires-clause-after : goal.judge_compared-requires-clause-after
judge_compared-requires-clause-after c = clean_compared c.args.rules.now.spelling c.args.second c.in_ok-other.other c.in_ok-other.ensures c.requires.after

pub returns : goal.returns
returns c =
    compared_said c.args.rules.now.keep_top c.args.rules.now.spelling c.args.first c.args.second c.in_ok-one.one c.in_ok-other.other c.judge_compared.result c.in_ok-one.ensures c.in_ok-other.ensures
    c.judge_compared.ensures
