use Rattle.swc_base_tables_settings.specs.Natives.{from_n}
use Rattle.swc_base_tables_settings.proofs.native.is_from_n.Goals as goal

pub returns : goal.returns
unfolding from_n
returns c = c.is_among.ensures
