use Rattle.std.proofs.Common.{◌≡◌, ◌++◌, drop}
use Rattle.mucwathi_looks.specs.Excerpts.{blanks}
use Rattle.mucwathi_looks.proofs.excerpt.indent.Given as goal

abbrev pub invariant-bytes : goal.invariant-bytes
invariant-bytes l = l.out.items ++ blanks (drop l.i l.part) ≡ l.initial.out.items ++ blanks l.part
