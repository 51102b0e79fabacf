use Rattle.std.proofs.Common.{◌≡◌}
use Rattle.mucwathi_mappings.specs.Mappings.{GoesToLine}
use Rattle.mucwathi_mappings.proofs.encode.go_to_line.Given as goal

abbrev pub invariant-loop-at : goal.invariant-loop-at
invariant-loop-at l = GoesToLine l.fn.told l.initial.out.items l.out.items l.here × (l.here.line ≡ l.at)
