use Rattle.std.proofs.lemmas.Result.{err_from_is_err_and}
use Rattle.mucwathi_looks.proofs.given.give_cut.Goals as goal

pub returns-in_err-program-in-Ok : goal.returns-in_err-program-in-Ok
returns-in_err-program-in-Ok c =
    let refused = err_from_is_err_and c.from_residual.result c.from_residual.ensures.1 in
    rw (refused.1, refused.2) (c.in_err-program-in-Ok.ensures.fault c.args.text.now)
