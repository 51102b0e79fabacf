use Rattle.std.proofs.Common.{◌≢◌, ◌≤◌, ◌<◌, ◌+◌, ℕ, get_or}
use Rattle.mucwathi_looks.proofs.excerpt.shown_from.Given as goal

abbrev pub invariant-bytes : goal.invariant-bytes
invariant-bytes l = record {
  low : l.from ≤ l.at;
  near : l.at ≤ l.from + l.k;
  some : l.k ≤ 72;
  line : (i : ℕ) → l.at ≤ i + l.k → i < l.at → get_or l.text i 0 ≢ 10;
}
