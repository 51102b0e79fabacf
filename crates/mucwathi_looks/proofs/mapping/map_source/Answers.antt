use Rattle.std.proofs.Common.{inl, refl}
use Rattle.mucwathi_looks.proofs.mapping.map_source.Goals as goal

pub map_copy-requires-clause-same : goal.map_copy-requires-clause-same
map_copy-requires-clause-same c = c.in-Ok.ensures.cases

pub returns-in-Err : goal.returns-in-Err
returns-in-Err c = inl refl
