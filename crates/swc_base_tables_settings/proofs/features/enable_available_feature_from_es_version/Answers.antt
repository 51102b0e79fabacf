use Rattle.swc_base_tables_settings.proofs.Versions.{has_later}
use Rattle.swc_base_tables_settings.proofs.features.enable_available_feature_from_es_version.Goals as goal

pub returns-clause-of_earlier : goal.returns-clause-of_earlier
returns-clause-of_earlier c earlier before feature has = (c.bits_of.ensures feature).1 (has_later earlier c.args.version feature before has)
