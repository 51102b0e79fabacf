use Rattle.swc_base_tables_helpers.specs.Table.{table}
use Rattle.swc_base_tables_helpers.proofs.NameList.{text_at, name_at}
use Rattle.swc_base_tables_helpers.proofs.helper.Helper.name.Goals as goal

pub returns : goal.returns
unfolding table
returns c = rw (← c.self.view_is, text_at, name_at table)
