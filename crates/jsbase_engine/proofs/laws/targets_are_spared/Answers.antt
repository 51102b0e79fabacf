use Rattle.jsbase_engine.proofs.Kept.{targets_are_spared}
use Rattle.jsbase_engine.proofs.laws.targets_are_spared.Goals as goal

pub returns : goal.returns
returns c = targets_are_spared c.types_are_told.ensures c.resolved_alike_without_types.ensures c.chaining_keeps_forms.ensures c.mangled_sources_keep_forms.ensures
