use Rattle.std.proofs.Common.{◌≡◌, map, take}
use Rattle.mucwathi_commands.specs.Comments.{bytes_before_left}
use Rattle.mucwathi_commands.proofs.write.lost_among.Given as goal

abbrev pub invariant-loop-each : goal.invariant-loop-each
invariant-loop-each l = l.lost.items ≡ map (bytes_before_left l.comments) (take l.each-index l.left)
