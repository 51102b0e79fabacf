use Rattle.std.proofs.Common.{refl}
use Rattle.text_pieces.specs.Pieces.{framed_pieces}
use Rattle.text_walk.specs.declared.sink.Sink.TheVariants as sink
use Rattle.text_walk.proofs.Sinks.{held}
use Rattle.text_walk.proofs.tokens.stands.Goals as goal

pub returns-in-Ok : goal.returns-in-Ok
returns-in-Ok c over =
    held c.args.comments c.args.soft c.args.text.now c.new.result (sink.Text c.new.result) c.add.new.found (framed_pieces c.args.tree.now) refl c.new.ensures c.in-Ok.ensures (c.is_over.ensures over)
