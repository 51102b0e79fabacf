use Rattle.jsbase_stream.proofs.Bytes.{appends_more, within_more}
use Rattle.jsbase_stream.proofs.output.write_counted.Goals as goal

pub loop-written-preserved : goal.loop-written-preserved
loop-written-preserved g c =
    let more = appends_more (g.W.Write.contents c.args.writer.now) (g.W.Write.contents c.loop-written.writer) (g.W.Write.contents c.write_once-count.new.writer) c.args.bytes.now c.loop-written.written c.write_once-count.result
    c.loop-written.invariant.1 c.write_once-count.ensures.taken in
    (within_more c.args.bytes.now c.loop-written.written c.write_once-count.result c.loop-written.invariant.0 c.write_once-count.ensures.within, more)
