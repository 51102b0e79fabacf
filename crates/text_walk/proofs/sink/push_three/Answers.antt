use Rattle.std.proofs.Common.{[], ◌∷◌}
use Rattle.text_pieces.specs.Tokens.{piece_view}
use Rattle.text_walk.proofs.Sinks.{then, three}
use Rattle.text_walk.proofs.sink.push_three.Goals as goal

pub returns : goal.returns
returns c =
    then c.push-3.result
    (λ last. three c.args.found.now c.push.new.found c.push-2.new.found c.push-3.new.found (piece_view c.args.one ∷ []) (piece_view c.args.two ∷ []) (piece_view c.args.three ∷ [])
    c.in_ok-push.ensures c.in_ok-push-2.ensures last)
    c.push-3.ensures
