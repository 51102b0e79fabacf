use Rattle.std.proofs.Common.{◌≤◌, ◌-◌, length, take}
use Rattle.jsbase_writer.specs.Members.{AllBelow}
use Rattle.jsbase_writer.proofs.members.place_of.Given as goal

abbrev pub invariant-loop-place : goal.invariant-loop-place
invariant-loop-place l = (l.place ≤ length l.members) × AllBelow l.key (take l.place l.members)

abbrev pub decreases-loop-place : goal.decreases-loop-place
decreases-loop-place l = length l.members - l.place
