use Rattle.jsbase_stream.proofs.Bytes.{consumes_more}
use Rattle.jsbase_stream.proofs.input.read_all.Goals as goal

pub loop-preserved : goal.loop-preserved
loop-preserved g c =
    let more = consumes_more (g.R.Read.remaining c.args.reader.now) (g.R.Read.remaining c.loop.reader) (g.R.Read.remaining c.read_more.new.reader) c.loop.input.items c.read_more.new.input.items c.loop.filled c.in_ok-count.count
    c.loop.invariant.1 c.in_ok-count.ensures.front c.in_ok-count.ensures.bytes in
    (c.in_ok-count.ensures.fits, more)
