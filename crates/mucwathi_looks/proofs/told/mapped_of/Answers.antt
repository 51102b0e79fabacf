use Rattle.std.proofs.Common.{◌<◌, get_or, length, map, refl, arith, ap}
use Rattle.mucwathi_looks.specs.Spots.{names_in, told}
use Rattle.mucwathi_looks.proofs.MappedNaming.{no_spot}
use Rattle.mucwathi_looks.proofs.Telling.{told_all, told_step}
use Rattle.mucwathi_looks.proofs.told.mapped_of.Goals as goal

pub loop-i-init : goal.loop-i-init
loop-i-init c = ap (map told) c.new-mapped.ensures.items

pub loop-i-preserved : goal.loop-i-preserved
loop-i-preserved c =
    let within : c.loop-i.i < length c.args.outs.now = omega arith in
    told_step (names_in c.args.olds.now) c.args.news.now c.args.outs.now c.loop-i.i no_spot (get_or c.args.news.now c.loop-i.i no_spot) (get_or c.args.outs.now c.loop-i.i no_spot) (map told c.loop-i.mapped.items)
    (map told c.add_node.new.mapped.items) c.requires c.loop-i-test.true within refl refl c.loop-i.invariant c.in_ok-add_node.ensures

pub returns : goal.returns
returns c = told_all (names_in c.args.olds.now) c.args.news.now c.args.outs.now c.loop-i.i (map told c.loop-i.mapped.items) c.requires (omega arith) c.loop-i.invariant
