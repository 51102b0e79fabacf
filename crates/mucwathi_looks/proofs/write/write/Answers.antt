use Rattle.std.proofs.Common.{sym, ◌∙◌}
use Rattle.std.proofs.lemmas.Result.{MatchResult-weaker}
use Rattle.mucwathi_looks.proofs.Writing.{edited_for, printed_for}
use Rattle.mucwathi_looks.proofs.write.write.Goals as goal

pub returns-in-Some : goal.returns-in-Some
returns-in-Some c =
    MatchResult-weaker c.print_given.result c.print_given.ensures (λ out h. printed_for c.args.order.now c.in-Some.layout c.args.source.now c.args.answer.now c.args.text.now out.items (sym c.layout.ensures ∙ c.in-Some.is) h) (λ f h. h)

pub returns-in-None : goal.returns-in-None
returns-in-None c =
    MatchResult-weaker c.edit_given.result c.edit_given.ensures (λ out h. edited_for c.args.order.now c.args.source.now c.args.answer.now c.args.text.now out.items (sym c.layout.ensures ∙ c.in-None.is) h) (λ f h. h)
