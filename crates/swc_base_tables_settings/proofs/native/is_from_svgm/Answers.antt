use Rattle.swc_base_tables_settings.specs.Natives.{from_svgm}
use Rattle.swc_base_tables_settings.proofs.native.is_from_svgm.Goals as goal

pub returns : goal.returns
unfolding from_svgm
returns c = c.is_among.ensures
