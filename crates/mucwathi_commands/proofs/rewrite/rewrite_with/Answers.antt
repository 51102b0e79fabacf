use Rattle.text_printer.specs.declared.lay_out.Layout.TheVariants as layout
use Rattle.mucwathi_order.proofs.Programs.{opens}
use Rattle.mucwathi_commands.proofs.Rewritten.{printed, refused}
use Rattle.mucwathi_commands.proofs.rewrite.rewrite_with.Goals as goal

pub make-requires : goal.make-requires
make-requires c = opens c.args.order.now.goal c.args.source c.requires.read.0.fits

pub returns-in-Ok : goal.returns-in-Ok
returns-in-Ok c =
    printed c.args.order.now c.args.text.now c.args.source c.requires.read c.in-Ok.answer c.in-Ok.ensures layout.Lines c.requires.anew c.print_with-written.result
    c.print_with-written.ensures.written (c.print_with-written.ensures.again c.args.source c.requires.found) c.print_with-written.ensures.fault

pub returns-in-Err : goal.returns-in-Err
returns-in-Err c = refused c.args.order.now c.args.text.now c.args.source c.requires.read c.in-Err.error c.in-Err.ensures
