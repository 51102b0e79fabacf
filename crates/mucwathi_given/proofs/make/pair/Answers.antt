use Rattle.std.proofs.lemmas.Result.{err_from_is_err_and}
use Rattle.mucwathi_given.proofs.Refused.{unpaired}
use Rattle.mucwathi_given.proofs.make.pair.Goals as goal

pub returns-in_err-tree-clause-refused : goal.returns-in_err-tree-clause-refused
returns-in_err-tree-clause-refused c =
    let refused = err_from_is_err_and c.from_residual.result c.from_residual.ensures.1 in
    rw (refused.1, refused.2) (unpaired c.args.given c.in_err-tree.field-0.0 c.in_err-tree.ensures.not_assignable.0 c.in_err-tree.ensures.no_memory)
