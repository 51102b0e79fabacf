use Rattle.swc_base_tables_settings.specs.Natives.{from_a}
use Rattle.swc_base_tables_settings.proofs.native.is_from_a.Goals as goal

pub returns : goal.returns
unfolding from_a
returns c = c.is_among.ensures
