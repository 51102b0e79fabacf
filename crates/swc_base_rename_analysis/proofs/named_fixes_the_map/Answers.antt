use Rattle.swc_base_rename_analysis.proofs.named_fixes_the_map.Goals as goal
use Rattle.swc_base_rename_analysis.proofs.OneMap.{named_fixes_the_map}

-- src/lib.rt
pub returns : goal.returns
returns c = named_fixes_the_map
