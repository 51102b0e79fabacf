use Rattle.swc_base_mangle_laws.proofs.Mangled.{keeps_sources}
use Rattle.swc_base_mangle_laws.proofs.mangled_sources_are_kept.Goals as goal

pub returns : goal.returns
returns c = keeps_sources c.resolved_sources_are_ready.ensures c.lawful_renamers_keep_sources.ensures c.renamers_that_preserve_top_names_suit.ensures
