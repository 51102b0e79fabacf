use Rattle.std.proofs.Common.{get_or, map, refl, ap, ◌∙◌, arith}
use Rattle.std.proofs.lemmas.List.{take_all}
use Rattle.mucwathi_commands.specs.Comments.{bytes_before_left}
use Rattle.mucwathi_commands.proofs.More.{lost_step}
use Rattle.mucwathi_commands.proofs.write.lost_among.Goals as goal

pub loop-each-preserved : goal.loop-each-preserved
loop-each-preserved c =
    lost_step c.args.comments.now c.args.left.now c.loop-each.each-index _ _ c.loop-each.lost.items c.add.new.lost.items c.bytes_before.result c.loop-each-test.true refl c.bytes_before.ensures c.in_ok-add.ensures c.loop-each.invariant

pub returns : goal.returns
returns c = c.loop-each.invariant ∙ ap (λ l. map (bytes_before_left c.args.comments.now) l) (take_all c.loop-each.each-index c.args.left.now (omega arith))
