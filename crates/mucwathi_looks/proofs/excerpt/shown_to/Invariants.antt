use Rattle.std.proofs.Common.{◌≢◌, ◌≤◌, ◌<◌, ◌+◌, ℕ, get_or, length}
use Rattle.mucwathi_looks.proofs.excerpt.shown_to.Given as goal

abbrev pub invariant-bytes : goal.invariant-bytes
invariant-bytes l = record {
  low : l.at ≤ l.to;
  high : l.to ≤ l.i;
  within : l.end ≤ length l.text;
  near : l.end ≤ l.at + 72;
  line : (j : ℕ) → l.at ≤ j → j < l.i → get_or l.text j 0 ≢ 10;
}
