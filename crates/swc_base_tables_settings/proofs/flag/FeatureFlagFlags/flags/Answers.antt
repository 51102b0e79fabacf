use Rattle.std.proofs.Common.{refl}
use Rattle.swc_base_tables_settings.specs.Features.{names, numbered}
use Rattle.swc_base_tables_settings.proofs.flag.FeatureFlagFlags.flags.Goals as goal

pub returns : goal.returns
unfolding names numbered
returns c exact = refl
