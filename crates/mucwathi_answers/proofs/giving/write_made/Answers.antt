use Rattle.std.proofs.Common.{ap, ◌∙◌}
use Rattle.mucwathi_answers.proofs.giving.write_made.Goals as goal

pub returns : goal.returns
returns c = record { made = c.in_ok-made.made; is_made = c.in_ok-made.ensures; written = ap (λ v. v.items) c.into_bytes.ensures.value ∙ c.in_ok-json.ensures }
