use Rattle.std.proofs.Common.{inr}
use Rattle.mucwathi_order.proofs.Programs.{opens}
use Rattle.mucwathi_looks.proofs.marked.mark_source.Goals as goal

pub mark-requires : goal.mark-requires
mark-requires c = opens c.args.goal c.args.source c.requires.read.fits

pub returns-in-Ok : goal.returns-in-Ok
returns-in-Ok c = record { source = c.args.source; read = c.requires.read; stands = c.requires.stands; marks = c.in-Ok.ensures }

pub returns-in-Err : goal.returns-in-Err
returns-in-Err c = inr (c.args.source, c.requires.read, c.in-Err.ensures)
