use Rattle.swc_base_tables_settings.specs.Natives.{from_h}
use Rattle.swc_base_tables_settings.proofs.native.is_from_h.Goals as goal

pub returns : goal.returns
unfolding from_h
returns c = c.is_among.ensures
