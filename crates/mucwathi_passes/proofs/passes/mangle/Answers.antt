use Rattle.std.proofs.lemmas.Result.{err_from_is_err_and}
use Rattle.mucwathi_passes.proofs.Made.{mangle_made}
use Rattle.mucwathi_passes.proofs.Refusals.{mangle_refused_first}
use Rattle.mucwathi_passes.proofs.passes.mangle.Goals as goal

pub returns-in_err-renamed : goal.returns-in_err-renamed
returns-in_err-renamed c =
    let refused = err_from_is_err_and c.from_residual.result c.from_residual.ensures.1 in
    rw (refused.1, refused.2) (mangle_refused_first c.args.settings.now c.args.program c.in_err-renamed.field-0.0 c.in_err-renamed.ensures)

pub returns : goal.returns
returns c = mangle_made c.args.settings.now c.args.program c.in_ok-renamed.renamed c.pair.result c.in_ok-renamed.ensures c.pair.ensures
