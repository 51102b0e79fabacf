use Rattle.std.proofs.Common.{false, [], ◌∷◌}
use Rattle.std.specs.Prelude.{codes}
use Rattle.text_lexer.specs.declared.mark.Mark.TheVariants as mark
use Rattle.text_pieces.specs.Forms.{pairs}
use Rattle.text_pieces.specs.Tokens.{punctuator, word}
use Rattle.text_walk.proofs.Sinks.{then, three}
use Rattle.text_walk.proofs.form.add_attribute_list.Goals as goal

pub returns : goal.returns
returns c =
    then c.push.result
    (λ last. three c.args.found.now c.push_two.new.found c.add_pairs.new.found c.push.new.found (word (codes "with") ∷ punctuator mark.LeftBrace ∷ []) (pairs false c.args.pairs.now) (punctuator mark.RightBrace ∷ [])
    c.in_ok-push_two.ensures c.in_ok-add_pairs.ensures last)
    c.push.ensures
