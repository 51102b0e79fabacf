use Rattle.std.proofs.Common.{◌<◌, ◌≤◌, ◌≢◌, ℕ, List, get_or}
use Rattle.std.specs.Borrow.{Bor}
use Rattle.mucwathi_arguments.specs.Misused.{name_in_folder}
use Rattle.mucwathi_arguments.proofs.misuse.is_met.Given as goal

abbrev pub invariant-files : goal.invariant-files
invariant-files l = record {
  begun : l.from ≤ l.j;
  unmet : (k : ℕ) (d : Bor (List ℕ)) → l.from ≤ k → k < l.j → name_in_folder (get_or l.files k d).now ≢ l.name;
}
