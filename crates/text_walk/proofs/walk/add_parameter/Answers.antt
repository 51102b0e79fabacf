use Rattle.std.proofs.Common.{[], ◌∷◌}
use Rattle.swc_tree_node.specs.declared.node.Node.{out-Node}
use Rattle.text_pieces.specs.Frames.{framed_name}
use Rattle.text_pieces.specs.Leaves.{lone_span}
use Rattle.text_pieces.specs.Tokens.{parameter}
use Rattle.text_walk.proofs.Sinks.{goes_on, then}
use Rattle.text_walk.specs.Sinks.{Gains}
use Rattle.std.proofs.Common.{subst}
use Rattle.text_walk.proofs.walk.add_parameter.Goals as goal

pub returns : goal.returns
returns c =
    then c.push.result
    (λ last. goes_on c.args.found.now c.push_named.new.found c.push.new.found (framed_name c.args.framed (lone_span (out-Node c.args.node.now)) c.args.name.now) (parameter c.args.name.now ∷ [])
    (subst (λ s. Gains c.args.found.now (framed_name c.args.framed s c.args.name.now) c.push_named.new.found) c.lone_span.ensures c.in_ok-push_named.ensures) last)
    c.push.ensures
