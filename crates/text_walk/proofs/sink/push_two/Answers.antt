use Rattle.std.proofs.Common.{[], ◌∷◌}
use Rattle.text_pieces.specs.Tokens.{piece_view}
use Rattle.text_walk.proofs.Sinks.{goes_on, then}
use Rattle.text_walk.proofs.sink.push_two.Goals as goal

pub returns : goal.returns
returns c =
    then c.push-2.result
    (λ two. goes_on c.args.found.now c.push.new.found c.push-2.new.found (piece_view c.args.one ∷ []) (piece_view c.args.two ∷ []) c.in_ok-push.ensures two)
    c.push-2.ensures
