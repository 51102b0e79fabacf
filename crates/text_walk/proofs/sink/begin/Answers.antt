use Rattle.text_pieces.specs.Tokens.{begins, frame}
use Rattle.std.proofs.Common.{[], ◌∷◌}
use Rattle.text_walk.proofs.Sinks.{kept_more, read_more, then}
use Rattle.text_walk.proofs.sink.begin.Goals as goal

pub returns-in-List : goal.returns-in-List
returns-in-List c = then c.keep.result (λ kept. kept_more c.args.found.now c.in-List.list c.keep.new.list (frame (begins c.args.at) ∷ []) c.in-List.is kept) c.keep.ensures

pub returns-in-Text : goal.returns-in-Text
returns-in-Text c = then c.held.result (λ is. read_more c.args.found.now c.in-Text.reader c.begins_at.new.self (frame (begins c.args.at) ∷ []) c.in-Text.is (c.begins_at.ensures is)) c.held.ensures
