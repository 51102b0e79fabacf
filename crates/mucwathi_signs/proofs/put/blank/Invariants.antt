use Rattle.std.proofs.Common.{◌≡◌, ◌⊎◌, ◌≤◌, length}
use Rattle.mucwathi_signs.specs.Blanked.{IsBlanked, is_between}
use Rattle.mucwathi_signs.proofs.put.blank.Given as goal

abbrev pub invariant-bytes : goal.invariant-bytes
invariant-bytes l = record {
  within : l.end ≤ length l.text;
  begun : l.from ≤ l.i;
  ended : (l.i ≡ l.from) ⊎ (l.i ≤ l.end);
  blanked : IsBlanked (is_between l.from l.i) l.initial.text l.text;
}
