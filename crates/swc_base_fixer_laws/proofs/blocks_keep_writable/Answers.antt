use Rattle.swc_base_fixer_laws.proofs.blocks_keep_writable.Goals as goal
use Rattle.swc_base_fixer_laws.proofs.Blocking.{blocks_keep_writable}

-- src/lib.rt
pub returns : goal.returns
returns c = blocks_keep_writable
