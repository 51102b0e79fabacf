use Rattle.std.proofs.Common.{length, refl}
use Rattle.std.proofs.lemmas.Option.{slice_get_past, slice_get_read}
use Rattle.swc_base_alpha.proofs.Shapes.{all_alike, in_second, none_past}
use Rattle.swc_base_alpha.proofs.shape.one_more.Goals as goal

pub returns-in-Some : goal.returns-in-Some
returns-in-Some c =
    in_second c.args.unplaced c.args.near.before c.args.near.after c.args.ones.now c.args.others.now (length c.args.ones.now) c.requires c.in-Some.other.now _ _ (none_past c.args.ones.now)
    (slice_get_read c.args.others.now _ (length c.args.ones.now) c.in-Some.other.now refl c.in-Some.ensures.lookup.3.0 c.in-Some.ensures.lookup.1) refl c.span_of.ensures

pub returns-in-None : goal.returns-in-None
returns-in-None c = all_alike c.args.ones.now c.args.others.now c.requires (slice_get_past c.args.others.now (length c.args.ones.now) c.in-None.ensures.lookup.3)
