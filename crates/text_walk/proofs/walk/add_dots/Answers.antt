use Rattle.std.proofs.Common.{[], ◌∷◌, sym, ◌∙◌}
use Rattle.text_lexer.specs.declared.mark.Mark.TheVariants as mark
use Rattle.text_pieces.specs.Frames.{span_at}
use Rattle.text_pieces.specs.Leaves.{is_set_at}
use Rattle.text_pieces.specs.Tokens.{punctuator}
use Rattle.text_walk.proofs.Gained.{dots_in_frame}
use Rattle.text_walk.proofs.Sinks.{then}
use Rattle.text_walk.proofs.walk.add_dots.Goals as goal

pub returns : goal.returns
returns c =
    then c.push_stopped.result
    (λ last. dots_in_frame (is_set_at c.args.fields.now c.args.n) c.args.framed (span_at c.args.fields.now c.args.n) c.span_at.result c.span_at-2.result (punctuator mark.Dots ∷ []) c.args.found.now c.push_begun.new.found c.push-2.new.found c.push_stopped.new.found
    (sym c.is_set_at.ensures ∙ c.if-not-is_set_at.false) c.if-not-framed.false c.span_at.ensures c.span_at-2.ensures c.in_ok-push_begun.ensures c.in_ok-push.ensures last)
    c.push_stopped.ensures
