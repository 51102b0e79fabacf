use Rattle.jsbase_engine.proofs.Kept.{promises_are_kept}
use Rattle.jsbase_engine.proofs.laws.promises_are_kept.Goals as goal

pub returns : goal.returns
returns c = promises_are_kept c.types_are_told.ensures c.resolved_alike_without_types.ensures c.chaining_keeps_forms.ensures c.chaining_keeps_sources.ensures c.a_chain_changes_nothing.ensures c.mangled_sources_keep_forms.ensures c.mangled_sources_are_kept.ensures c.answers_keep_promises.ensures
