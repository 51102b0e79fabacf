use Rattle.std.proofs.Common.{arith}
use Rattle.mucwathi_looks.proofs.Blanks.{blanks_done, blanks_more}
use Rattle.mucwathi_looks.proofs.excerpt.indent.Goals as goal

pub bytes-preserved : goal.bytes-preserved
bytes-preserved c =
    let l = c.bytes in
    blanks_more c.args.part.now _ l.out.items c.add_blank.new.out.items l.i _ (omega arith) c.in_ok-add_blank.ensures l.invariant

pub returns : goal.returns
returns c = blanks_done c.args.part.now _ c.bytes.out.items c.bytes.i (omega arith) c.bytes.invariant
