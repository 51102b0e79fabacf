use Rattle.std.proofs.Common.{◌<◌, ◌≢◌, ℕ, List, get_or, length}
use Rattle.std.specs.Borrow.{Bor}
use Rattle.mucwathi_arguments.specs.Misused.{name_in_folder}
use Rattle.mucwathi_arguments.proofs.misuse.shared_name.Given as goal

abbrev pub invariant-files : goal.invariant-files
invariant-files l = (a b : ℕ) (d : Bor (List ℕ)) → a < l.i → a < b → b < length l.files → name_in_folder (get_or l.files a d).now ≢ name_in_folder (get_or l.files b d).now
