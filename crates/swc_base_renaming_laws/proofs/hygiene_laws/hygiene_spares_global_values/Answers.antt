use Rattle.swc_base_renaming_laws.proofs.hygiene_laws.hygiene_spares_global_values.Goals as goal
use Rattle.swc_base_renaming_laws.proofs.Hygienic.{hygiene_spares_global_values}

-- src/hygiene_laws.rt
pub returns : goal.returns
returns c = hygiene_spares_global_values
