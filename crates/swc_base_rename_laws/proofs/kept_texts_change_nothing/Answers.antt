use Rattle.swc_base_rename_laws.proofs.kept_texts_change_nothing.Goals as goal
use Rattle.swc_base_rename_laws.proofs.Unchanged.{kept_texts_change_nothing}

-- src/lib.rt
pub returns : goal.returns
returns c = kept_texts_change_nothing
