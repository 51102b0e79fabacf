use Rattle.swc_base_rename_laws.proofs.outer_texts_stay.Goals as goal
use Rattle.swc_base_rename_laws.proofs.OuterTextsStay.{outer_texts_stay}

-- src/lib.rt
pub returns : goal.returns
returns c = outer_texts_stay
