use Rattle.std.proofs.Common.{inr}
use Rattle.mucwathi_order.proofs.Programs.{opens}
use Rattle.mucwathi_looks.proofs.trees.tree_in.Goals as goal

pub envelope_of-requires : goal.envelope_of-requires
envelope_of-requires c = opens c.args.goal c.args.source c.requires.fits

pub returns-in-Ok : goal.returns-in-Ok
returns-in-Ok c = record { source = c.args.source; read = c.requires; envelope = c.in-Ok.ensures }

pub returns-in-Err : goal.returns-in-Err
returns-in-Err c = inr (c.args.source, c.requires, c.in-Err.ensures)
