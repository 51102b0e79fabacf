use Rattle.swc_base_renaming_laws.proofs.ids_laws.hygiene_keeps_ids.Goals as goal
use Rattle.swc_base_renaming_laws.proofs.Join.{hygiene_keeps_ids}

-- src/ids_laws.rt
pub returns : goal.returns
returns c = hygiene_keeps_ids c.renamers_keep_ids.ensures c.hygiene_spares_global_values.ensures
