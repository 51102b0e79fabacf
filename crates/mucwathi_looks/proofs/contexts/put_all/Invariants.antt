use Rattle.std.proofs.Common.{◌≡◌, ◌++◌, take}
use Rattle.mucwathi_looks.proofs.contexts.put_all.Given as goal

abbrev pub invariant-marks : goal.invariant-marks
invariant-marks l = l.ctxt ≡ l.initial.ctxt ++ take l.i l.marks
