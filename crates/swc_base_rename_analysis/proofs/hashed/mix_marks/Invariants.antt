use Rattle.std.proofs.Common.{◌≡◌, drop}
use Rattle.swc_base_rename_analysis.specs.Hashed.{mixed_all}
use Rattle.swc_base_rename_analysis.proofs.hashed.mix_marks.Given as goal

abbrev pub invariant-loop-mark : goal.invariant-loop-mark
invariant-loop-mark l = mixed_all l.fn.start l.marks ≡ mixed_all l.hash (drop l.mark-index l.marks)
