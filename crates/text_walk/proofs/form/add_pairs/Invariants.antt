use Rattle.std.proofs.Common.{false, drop}
use Rattle.text_pieces.specs.Forms.{pairs}
use Rattle.text_walk.proofs.Gained.{Owes}
use Rattle.text_walk.proofs.form.add_pairs.Given as goal

abbrev pub invariant-loop-i : goal.invariant-loop-i
invariant-loop-i l = Owes l.initial.found (pairs false l.pairs) l.found (pairs l.some (drop l.i l.pairs))
