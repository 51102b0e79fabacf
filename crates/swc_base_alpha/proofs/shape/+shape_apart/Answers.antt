use Rattle.std.proofs.Common.{refl}
use Rattle.std.proofs.lemmas.Option.{slice_get_past, slice_get_read}
use Rattle.swc_base_alpha.proofs.Shapes.{at_child, here, in_first, one_alike, told_below}
use Rattle.swc_base_alpha.proofs.shape.+shape_apart.Goals as goal

pub shape_apart-returns-then-not-are_alike : goal.shape_apart-returns-then-not-are_alike
shape_apart-returns-then-not-are_alike t c =
    here c.args.unplaced c.args.round.before c.args.round.after c.args.one.now c.args.other.now _ _ c.span_of.ensures c.span_of-2.ensures (λ alike. let wrong = c.are_alike.ensures.1 alike in absurd (cc))

pub shape_apart-returns : goal.shape_apart-returns
shape_apart-returns t c =
    told_below c.args.unplaced c.args.round.before c.args.round.after c.span_of.result c.span_of-2.result c.args.one.now c.args.other.now c.children.result.now c.children-2.result.now c.shapes_apart.result c.span_of.ensures c.span_of-2.ensures
    (c.are_alike.ensures.0 c.if-not-are_alike.false) c.children.ensures c.children-2.ensures c.shapes_apart.ensures

pub shapes_apart-returns-in_default : goal.shapes_apart-returns-in_default
shapes_apart-returns-in_default t c =
    in_first c.args.unplaced c.args.near.before c.args.near.after c.args.ones.now c.args.others.now c.loop-i.i c.loop-i.invariant c.index-ones-i.result _ _
    (slice_get_read c.args.ones.now _ c.loop-i.i c.index-ones-i.result refl c.loop-i-test.true c.index-ones-i.is) (slice_get_past c.args.others.now c.loop-i.i c.in_default.ensures.lookup.3) c.span_of.ensures refl

pub shapes_apart-returns-in-Some-shape_apart : goal.shapes_apart-returns-in-Some-shape_apart
shapes_apart-returns-in-Some-shape_apart t c =
    at_child c.args.unplaced c.args.near.before c.args.near.after c.args.ones.now c.args.others.now c.loop-i.i c.index-ones-i.result c.in-Some.other.now _ _
    (slice_get_read c.args.ones.now _ c.loop-i.i c.index-ones-i.result refl c.loop-i-test.true c.index-ones-i.is)
    (slice_get_read c.args.others.now _ c.loop-i.i c.in-Some.other.now refl c.in-Some.ensures.lookup.3.0 c.in-Some.ensures.lookup.1) c.loop-i.invariant c.in-Some-shape_apart.ensures

pub shapes_apart-loop-i-preserved : goal.shapes_apart-loop-i-preserved
shapes_apart-loop-i-preserved t c =
    one_alike c.args.ones.now c.args.others.now c.loop-i.i c.index-ones-i.result c.in-Some.other.now
    (slice_get_read c.args.ones.now _ c.loop-i.i c.index-ones-i.result refl c.loop-i-test.true c.index-ones-i.is)
    (slice_get_read c.args.others.now _ c.loop-i.i c.in-Some.other.now refl c.in-Some.ensures.lookup.3.0 c.in-Some.ensures.lookup.1) c.in_default-shape_apart.ensures c.loop-i.invariant
