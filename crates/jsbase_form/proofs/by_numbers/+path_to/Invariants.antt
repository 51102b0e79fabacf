use Rattle.std.proofs.Common.{◌+◌, ◌*◌, length}
use Rattle.jsbase_form.proofs.by_numbers.+path_to.Given as goal

abbrev pub decreases-path_to : goal.decreases-path_to
decreases-path_to l = 2 * length l.numbers.now

abbrev pub decreases-path_below : goal.decreases-path_below
decreases-path_below l = 2 * length l.numbers.now + 1
