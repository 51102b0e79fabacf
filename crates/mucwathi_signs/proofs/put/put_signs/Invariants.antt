use Rattle.std.proofs.Common.{◌≤◌, length}
use Rattle.mucwathi_signs.proofs.Signing.{Begins}
use Rattle.mucwathi_signs.proofs.put.put_signs.Given as goal

abbrev pub invariant-loop-sign : goal.invariant-loop-sign
invariant-loop-sign l = record {
  within : l.from ≤ length l.text;
  begins : Begins l.signs l.text l.sign-index l.from l.out.items;
}
