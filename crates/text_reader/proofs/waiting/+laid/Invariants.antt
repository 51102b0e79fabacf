use Rattle.std.proofs.Common.{◌<◌}
use Rattle.text_reader.proofs.waiting.+laid.Given as goal

abbrev pub decreases-laid : goal.decreases-laid
decreases-laid l = l.depth

abbrev pub invariant-loop-i : goal.invariant-loop-i
invariant-loop-i l = 0 < l.depth
