use Rattle.std.proofs.Common.{subst, sym}
use Rattle.mucwathi_signs.specs.Cut.{AreWritten}
use Rattle.mucwathi_looks.proofs.given.signs_in.Goals as goal

pub read_blank-requires-then-len-count : goal.read_blank-requires-then-len-count
read_blank-requires-then-len-count c = subst (AreWritten c.args.text.now) (sym c.as_slice-then-len-count.ensures.value) (c.behind_names-signs.ensures c.args.text.now c.in_ok-found.ensures)
