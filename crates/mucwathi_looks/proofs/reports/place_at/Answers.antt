use Rattle.std.proofs.Common.{◌∷◌, ◌++◌, ap₂, ◌∙◌, decimal}
use Rattle.std.specs.Prelude.{codes}
use Rattle.mucwathi_looks.proofs.reports.place_at.Goals as goal

pub returns : goal.returns
returns c = c.in_ok-numbers.ensures.ok ∙ ap₂ (λ l k. 58 ∷ (decimal l ++ 58 ∷ (decimal k ++ codes ": "))) c.line_and_column-place.ensures.line c.line_and_column-place.ensures.column
