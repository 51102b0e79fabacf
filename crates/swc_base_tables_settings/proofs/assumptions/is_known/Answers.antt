use Rattle.swc_base_tables_settings.specs.Assumptions.{keys}
use Rattle.swc_base_tables_settings.proofs.Members.{is_key_from}
use Rattle.swc_base_tables_settings.proofs.assumptions.is_known.Goals as goal

pub returns : goal.returns
unfolding keys
returns c = is_key_from c.args.key.now c.is_among.result c.is_among.ensures
