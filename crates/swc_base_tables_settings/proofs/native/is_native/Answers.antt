use Rattle.swc_base_tables_settings.specs.Natives.{from_a, from_d, from_h, from_i, from_n, from_svg, from_svgm, from_t}
use Rattle.swc_base_tables_settings.proofs.Parts.{along, four, both}
use Rattle.swc_base_tables_settings.proofs.native.is_native.Goals as goal

pub returns : goal.returns
returns c = along c.is_in_a_part.ensures (both _ _ _ (four from_a from_d from_h from_i _) (four from_n from_svg from_svgm from_t _))
