use Rattle.std.proofs.Common.{◌≤◌, ℕ, length}
use Rattle.json.specs.Json.{Members}
use Rattle.jsbase_reader.specs.Gathered.{AreOf}
use Rattle.jsbase_reader.proofs.OneByOne.{Reading}
use Rattle.jsbase_reader.proofs.gathered.gather.Given as goal

abbrev pub invariant-loop-gathered : goal.invariant-loop-gathered
invariant-loop-gathered l = (ms : Members) × ((n : ℕ) → length l.initial.reader ≤ n → Reading 126 n l.initial.reader ms l.reader) × AreOf l.globals l.class ms l.gathered

abbrev pub decreases-loop-gathered : goal.decreases-loop-gathered
decreases-loop-gathered l = length l.reader
