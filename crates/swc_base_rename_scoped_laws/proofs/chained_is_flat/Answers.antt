use Rattle.swc_base_rename_scoped_laws.proofs.chained_is_flat.Goals as goal
use Rattle.swc_base_rename_analysis.specs.Preserved.{IsPreserved}
use Rattle.swc_base_rename_scoped_laws.proofs.Chained.{chained_is_flat}

-- src/lib.rt
pub returns : goal.returns
returns c = λ t s r new_texts fit scoped. chained_is_flat t s fit scoped r (IsPreserved t r.preserves) new_texts
