use Rattle.std.proofs.Common.{inr}
use Rattle.mucwathi_order.proofs.Programs.{opens}
use Rattle.mucwathi_looks.proofs.show.draw_source.Goals as goal

pub draw-requires : goal.draw-requires
draw-requires c = opens c.args.goal c.args.program c.requires.read.fits

pub returns-in-Ok : goal.returns-in-Ok
returns-in-Ok c = record { source = c.args.program; read = c.requires.read; stands = c.requires.stands; names = c.in-Ok.ensures }

pub returns-in-Err : goal.returns-in-Err
returns-in-Err c = inr (c.args.program, c.requires.read, c.in-Err.ensures)
