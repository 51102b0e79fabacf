use Rattle.swc_base_tables_settings.specs.Natives.{from_svg}
use Rattle.swc_base_tables_settings.proofs.native.is_from_svg.Goals as goal

pub returns : goal.returns
unfolding from_svg
returns c = c.is_among.ensures
