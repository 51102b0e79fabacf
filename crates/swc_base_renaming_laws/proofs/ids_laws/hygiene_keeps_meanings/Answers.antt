use Rattle.swc_base_renaming_laws.proofs.ids_laws.hygiene_keeps_meanings.Goals as goal
use Rattle.swc_base_renaming_laws.proofs.Join.{hygiene_keeps_meanings}

-- src/ids_laws.rt
pub returns : goal.returns
returns c = hygiene_keeps_meanings c.renamers_keep_meanings.ensures
