use Rattle.swc_base_tables_settings.specs.Assumptions.{keys}
use Rattle.swc_base_tables_settings.proofs.Search.{text_at}
use Rattle.swc_base_tables_settings.proofs.assumptions.key_at.Goals as goal

pub returns : goal.returns
unfolding keys
returns c = rw text_at
