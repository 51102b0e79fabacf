use Rattle.std.proofs.Common.{◌<◌, length, arith}
use Rattle.std.proofs.lemmas.Grind.{common_steps}
use Rattle.text_lexer.specs.declared.mark.Mark.TheVariants.{LeftParen}
use Rattle.text_lexer.proofs.Bytes.{mark_among_drop, mark_among_end}
use Rattle.text_lexer.proofs.sign.mark_among.Goals as goal

pub returns-then-begins_mark-clause-value : goal.returns-then-begins_mark-clause-value
returns-then-begins_mark-clause-value c =
    let within : c.loop-mark.mark-index < length c.args.marks.now = omega (arith) in
    let step = mark_among_drop c.args.marks.now c.args.text.now c.loop-mark.mark-index LeftParen within in
    grind (arith, common_steps)

pub loop-mark-preserved : goal.loop-mark-preserved
loop-mark-preserved c =
    let within : c.loop-mark.mark-index < length c.args.marks.now = omega (arith) in
    let step = mark_among_drop c.args.marks.now c.args.text.now c.loop-mark.mark-index LeftParen within in
    grind (arith, common_steps)

pub returns-clause-value : goal.returns-clause-value
returns-clause-value c = grind (arith, common_steps, mark_among_end)
