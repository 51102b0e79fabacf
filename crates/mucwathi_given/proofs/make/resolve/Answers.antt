use Rattle.std.proofs.Common.{Err, ap}
use Rattle.std.proofs.lemmas.Result.{err_from_is_err_and}
use Rattle.mucwathi_given.proofs.Refused.{unresolved}
use Rattle.mucwathi_given.proofs.make.resolve.Goals as goal

pub returns-in_err-tree-clause-refused : goal.returns-in_err-tree-clause-refused
returns-in_err-tree-clause-refused c =
    let refused = err_from_is_err_and c.from_residual.result c.from_residual.ensures.1 in
    rw (refused.1, refused.2) (unresolved c.args.given c.in_err-tree.field-0.0 c.in_err-tree.ensures.refusal (λ is. c.in_err-tree.ensures.spent (ap (λ e. Err e) is)))
