use Rattle.text_kept_laws.proofs.units_laws.any_renaming_keeps_texts.Goals as goal
use Rattle.text_kept_laws.proofs.UnitsWhole.{any_renaming}

-- src/units_laws.rt
pub returns : goal.returns
returns c = any_renaming
