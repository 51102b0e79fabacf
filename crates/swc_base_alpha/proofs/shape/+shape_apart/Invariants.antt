use Rattle.swc_base_alpha.specs.Among.{AlikeBefore}
use Rattle.swc_base_alpha.proofs.shape.+shape_apart.Given as goal

abbrev pub invariant-shapes_apart-loop-i : goal.invariant-shapes_apart-loop-i
invariant-shapes_apart-loop-i l = AlikeBefore l.ones l.others l.i
