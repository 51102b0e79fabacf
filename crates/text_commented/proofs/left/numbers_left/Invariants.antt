use Rattle.std.proofs.Common.{◌≡◌, ◌++◌, drop}
use Rattle.text_commented.specs.Commented.{not_put}
use Rattle.text_commented.proofs.left.numbers_left.Given as goal

abbrev pub invariant-used : goal.invariant-used
invariant-used l = l.numbers.items ++ not_put l.number (drop l.number l.used) ≡ not_put 0 l.used
