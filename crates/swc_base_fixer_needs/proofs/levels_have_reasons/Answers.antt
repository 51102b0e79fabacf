use Rattle.swc_base_fixer_needs.proofs.levels_have_reasons.Goals as goal
use Rattle.swc_base_fixer_needs.proofs.LevelParts.{levels_have_reasons}

-- src/lib.rt
pub returns : goal.returns
returns c = levels_have_reasons
