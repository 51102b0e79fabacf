use Rattle.std.proofs.Common.{inl, refl}
use Rattle.mucwathi_looks.proofs.changes.changes_in.Goals as goal

pub changes_of_copy-requires-clause-same : goal.changes_of_copy-requires-clause-same
changes_of_copy-requires-clause-same c = c.in-Ok.ensures.cases

pub returns-in-Err : goal.returns-in-Err
returns-in-Err c = inl refl
