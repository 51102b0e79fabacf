use Rattle.std.proofs.Common.{arith}
use Rattle.mucwathi_page.proofs.Drawing.{html_all, html_none, html_step}
use Rattle.mucwathi_page.proofs.drawn.add_text.Goals as goal

pub loop-byte-init : goal.loop-byte-init
loop-byte-init c = html_none c.args.out.now.items

pub loop-byte-preserved : goal.loop-byte-preserved
loop-byte-preserved c =
    html_step c.args.part.now c.loop-byte.byte-index c.args.out.now.items c.loop-byte.out.items c.add_byte.new.out.items c.loop-byte-test.true c.loop-byte.invariant c.in_ok-add_byte.ensures

pub returns : goal.returns
returns c = html_all c.args.part.now c.loop-byte.byte-index c.args.out.now.items c.loop-byte.out.items (omega arith) c.loop-byte.invariant
