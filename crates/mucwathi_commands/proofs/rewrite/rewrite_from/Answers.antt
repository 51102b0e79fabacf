use Rattle.mucwathi_order.proofs.Programs.{opens}
use Rattle.mucwathi_commands.proofs.Rewritten.{edited, refused}
use Rattle.mucwathi_commands.proofs.rewrite.rewrite_from.Goals as goal

pub make-requires : goal.make-requires
make-requires c = opens c.args.order.now.goal c.args.source c.requires.read.0.fits

pub returns-in-Ok : goal.returns-in-Ok
returns-in-Ok c =
    edited c.args.order.now c.args.text.now c.args.source c.requires.read c.in-Ok.answer c.in-Ok.ensures c.requires.kept c.edit_by-written.result
    (c.edit_by-written.ensures.kept c.args.source c.requires.pieces) c.edit_by-written.ensures.fault

pub returns-in-Err : goal.returns-in-Err
returns-in-Err c = refused c.args.order.now c.args.text.now c.args.source c.requires.read c.in-Err.error c.in-Err.ensures
