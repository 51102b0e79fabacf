use Rattle.std.proofs.Common.{◌≤◌, ℕ, length}
use Rattle.json.specs.Value.{members_view}
use Rattle.jsbase_reader.proofs.OneByOne.{Reading}
use Rattle.jsbase_reader.proofs.streamed.members_until.Given as goal

abbrev pub invariant-loop-before : goal.invariant-loop-before
invariant-loop-before l = (n : ℕ) → length l.initial.reader ≤ n → Reading l.depth n l.initial.reader (members_view l.before.items) l.reader

abbrev pub decreases-loop-before : goal.decreases-loop-before
decreases-loop-before l = length l.reader
