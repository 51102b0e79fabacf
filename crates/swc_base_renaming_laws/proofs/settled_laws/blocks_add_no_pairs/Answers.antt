use Rattle.swc_base_renaming_laws.proofs.settled_laws.blocks_add_no_pairs.Goals as goal
use Rattle.swc_base_renaming_laws.proofs.Blocked.{blocks_add_no_pairs}

-- src/settled_laws.rt
pub returns : goal.returns
returns c = blocks_add_no_pairs
