use Rattle.std.proofs.Common.{false, ap, ◌∙◌}
use Rattle.swc_base_writable.proofs.Law.{agrees}
use Rattle.swc_base_writable.proofs.writable.is_writable.Goals as goal

pub returns : goal.returns
returns c = λ s f. c.keeps_rules.ensures ∙ ap (λ g. g false (record { strict = false; assigned = false })) (agrees c.args.program.now s f)
