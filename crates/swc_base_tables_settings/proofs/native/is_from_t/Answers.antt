use Rattle.swc_base_tables_settings.specs.Natives.{from_t}
use Rattle.swc_base_tables_settings.proofs.native.is_from_t.Goals as goal

pub returns : goal.returns
unfolding from_t
returns c = c.is_among.ensures
