use Rattle.swc_base_tables_settings.specs.Natives.{from_i}
use Rattle.swc_base_tables_settings.proofs.native.is_from_i.Goals as goal

pub returns : goal.returns
unfolding from_i
returns c = c.is_among.ensures
