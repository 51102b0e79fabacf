use Rattle.text_printer.specs.declared.lay_out.Layout.TheVariants as layout
use Rattle.mucwathi_order.proofs.Programs.{opens}
use Rattle.mucwathi_commands.proofs.Rewritten.{printed, refused}
use Rattle.mucwathi_commands.proofs.rewrite.rewrite_compact.Goals as goal

pub make-requires : goal.make-requires
make-requires c = opens c.args.order.now.goal c.args.source c.requires.read.0.fits

pub returns-in-Ok : goal.returns-in-Ok
returns-in-Ok c =
    printed c.args.order.now c.args.text.now c.args.source c.requires.read c.in-Ok.answer c.in-Ok.ensures layout.Compact c.requires.anew c.print_compact-written.result
    c.print_compact-written.ensures.written c.print_compact-written.ensures.none c.print_compact-written.ensures.fault

pub returns-in-Err : goal.returns-in-Err
returns-in-Err c = refused c.args.order.now c.args.text.now c.args.source c.requires.read c.in-Err.error c.in-Err.ensures
