use Rattle.swc_base_rename_analysis_laws.proofs.readings_mean.Goals as goal
use Rattle.swc_base_rename_analysis_laws.proofs.Readings.{reading_means}

-- src/lib.rt
pub returns : goal.returns
returns c = reading_means
