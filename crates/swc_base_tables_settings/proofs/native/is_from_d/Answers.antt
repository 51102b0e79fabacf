use Rattle.swc_base_tables_settings.specs.Natives.{from_d}
use Rattle.swc_base_tables_settings.proofs.native.is_from_d.Goals as goal

pub returns : goal.returns
unfolding from_d
returns c = c.is_among.ensures
