use Rattle.swc_base_tables_settings.proofs.Search.{searched}
use Rattle.swc_base_tables_settings.proofs.native.is_among.Goals as goal

pub returns : goal.returns
returns c = let facts = c.binary_search.ensures in rw c.is_ok.ensures.value (searched c.args.names.now c.args.name c.requires c.binary_search.result facts.bound facts.position)
