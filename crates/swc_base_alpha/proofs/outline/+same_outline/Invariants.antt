use Rattle.std.proofs.Common.{◌≡◌, map, take}
use Rattle.swc_base_rename_laws.specs.NewNames.{outline}
use Rattle.swc_base_alpha.proofs.outline.+same_outline.Given as goal

abbrev pub invariant-same_outlines-loop-i : goal.invariant-same_outlines-loop-i
invariant-same_outlines-loop-i l = map outline (take l.i l.ones) ≡ map outline (take l.i l.others)
