use Rattle.std.proofs.Common.{◌≡◌, [], ◌∷◌, IfOk, subst}
use Rattle.std.specs.Prelude.{codes}
use Rattle.mucwathi_looks.specs.Reports.{line_of}
use Rattle.mucwathi_looks.proofs.reports.tell_refusal.Goals as goal

pub returns : goal.returns
returns c = subst (λ l. IfOk c.tell_refused.result (λ out. out.items ≡ line_of (c.args.name.now ∷ codes ": refused: " ∷ l ∷ []))) c.refusal_sentence.ensures c.tell_refused.ensures
