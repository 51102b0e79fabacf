use Rattle.std.proofs.Common.{refl}
use Rattle.swc_base_tables_helpers.specs.Table.{table}
use Rattle.swc_base_tables_helpers.proofs.helper.Helper.all.Goals as goal

pub returns : goal.returns
unfolding table
returns c = refl
