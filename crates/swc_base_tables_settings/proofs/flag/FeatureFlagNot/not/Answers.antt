use Rattle.std.proofs.Common.{refl}
use Rattle.bitflags.specs.Sets.{known_from}
use Rattle.swc_base_tables_settings.specs.Features.{names, numbered}
use Rattle.swc_base_tables_settings.proofs.flag.FeatureFlagNot.not.Goals as goal

pub returns : goal.returns
unfolding names numbered known_from
returns c = refl
