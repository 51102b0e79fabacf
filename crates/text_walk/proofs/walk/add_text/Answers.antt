use Rattle.swc_tree_node.specs.declared.node.Node.{out-Node}
use Rattle.text_pieces.specs.Frames.{first_span}
use Rattle.text_pieces.specs.Pieces.{template_piece}
use Rattle.text_pieces.specs.Tokens.{piece_view}
use Rattle.text_walk.proofs.Gained.{text_framed}
use Rattle.text_walk.proofs.Sinks.{then}
use Rattle.text_walk.proofs.walk.add_text.Goals as goal

pub returns : goal.returns
returns c =
    then c.push_text_stopped.result
    (λ last. text_framed c.args.framed c.args.part (first_span (out-Node c.args.node.now)) c.first_span.result c.first_span-2.result (piece_view c.template_piece-2.result) (template_piece c.args.part (out-Node c.args.node.now))
    c.args.found.now c.push_text_begun.new.found c.push-2.new.found c.push_text_stopped.new.found
    c.if-not-framed.false c.first_span.ensures c.first_span-2.ensures c.template_piece-2.ensures c.in_ok-push_text_begun.ensures c.in_ok-push.ensures last)
    c.push_text_stopped.ensures
