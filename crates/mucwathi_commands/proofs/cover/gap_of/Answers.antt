use Rattle.std.proofs.Common.{subst}
use Rattle.swc_base_covers.specs.Covered.{HasPath}
use Rattle.mucwathi_commands.proofs.cover.gap_of.Goals as goal

pub returns-in-Some-clause-place : goal.returns-in-Some-clause-place
returns-in-Some-clause-place c = λ has. c.place_of.ensures c.in-Some.gap.cause (subst (HasPath c.args.source.now) c.in-Some.is has)
